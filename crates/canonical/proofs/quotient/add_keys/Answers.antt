-- `add_keys` meets its contract: what `copy_keys` asks and does, at the starts that are read. Assumes nothing.
use Rattle.canonical.proofs.Quotients.{can_copy, has_copied}
use Rattle.canonical.proofs.quotient.add_keys.Goals as goal

pub copy_keys-requires : goal.copy_keys-requires
copy_keys-requires c = can_copy c.requires c.from-at.ensures c.from-from.ensures c.from.ensures

pub returns : goal.returns
returns c = has_copied c.requires c.from-at.ensures c.from-from.ensures c.from.ensures c.copy_keys.ensures
