-- `caplune_is_linear` meets its contract. Assumes nothing.
use Rattle.trees.specs.Refusal.{outcome_of}
use mathlib.Core.Path.{refl, ap}
use Rattle.exports.proofs.Telling.{tells_accepted, tells_refused}
use Rattle.exports.proofs.caplune_is_linear.Goals as goal

pub returns-in-Ok : goal.returns-in-Ok
returns-in-Ok c = tells_accepted c.is_linear.result c.is_linear.ensures (ap outcome_of c.in-Ok.is) refl c.from.ensures

pub returns-in-Err : goal.returns-in-Err
returns-in-Err c = tells_refused c.is_linear.result c.is_linear.ensures (ap outcome_of c.in-Err.is) c.from-in-Err.ensures refl
