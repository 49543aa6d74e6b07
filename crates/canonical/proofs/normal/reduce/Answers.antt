-- `reduce` meets its contract: a byte for each state, and then `reduce_by`. Assumes nothing.
use mathlib.Core.Path.{refl}
use Rattle.canonical.proofs.Normalizing.{reducible_part, reduces_part}
use Rattle.canonical.proofs.normal.reduce.Goals as goal

pub reduce_by-requires : goal.reduce_by-requires
reduce_by-requires c = (reducible_part c.args.k c.requires.0, refl, c.requires.1, c.requires.2)

pub returns : goal.returns
returns c = reduces_part c.args.k c.requires.0 c.reduce_by.ensures
