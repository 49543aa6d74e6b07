-- The earliest form is made: that of the parts. Assumes nothing.
use Rattle.earliest.proofs.Forming.{earliest_made}
use Rattle.earliest.proofs.earliest.EarliestFormKind.make.Goals as goal

pub returns : goal.returns
returns c = earliest_made c.form_of_parts.ensures c.requires.0
