-- `table` meets its contract: the definition is computed. Assumes nothing.
use mathlib.Core.Path.{refl}
use Rattle.codes.specs.Inner.Table.{coded}
use Rattle.codes.proofs.symbol.table.Goals as goal

pub returns : goal.returns
unfolding coded
returns c = refl
