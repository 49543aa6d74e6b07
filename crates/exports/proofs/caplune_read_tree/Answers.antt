-- `caplune_read_tree` meets its contract. Assumes nothing.
use mathlib.Core.Path.{refl, ap}
use Rattle.trees.specs.Refusal.{outcome_of}
use Rattle.exports.proofs.Telling.{tells_accepted, tells_refused}
use Rattle.exports.proofs.caplune_read_tree.Goals as goal

pub returns-in-Ok : goal.returns-in-Ok
returns-in-Ok c = tells_accepted c.read_tree.result c.read_tree.ensures (ap outcome_of c.in-Ok.is) refl refl

pub returns-in-Err : goal.returns-in-Err
returns-in-Err c = tells_refused c.read_tree.result c.read_tree.ensures (ap outcome_of c.in-Err.is) c.from.ensures refl
