-- `add_step` meets its contract. Assumes nothing.
use Rattle.witness.proofs.Wrapping.{added_leaves, added_above}
use Rattle.witness.proofs.shown.add_step.Goals as goal

pub returns-then-i-eq0 : goal.returns-then-i-eq0
returns-then-i-eq0 c = added_leaves c.requires c.if-i-eq0.true c.write_symbol.ensures

pub returns : goal.returns
returns c = added_above c.requires c.wrap.ensures
