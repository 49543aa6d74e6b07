-- `tell_number` meets its contract. Assumes nothing.
use Rattle.trees.specs.Refusal.{outcome_of}
use mathlib.Core.Path.{refl, ap}
use Rattle.exports.proofs.Telling.{tells_accepted, tells_refused}
use Rattle.exports.proofs.answer.tell_number.Goals as goal

pub returns-in-Ok : goal.returns-in-Ok
returns-in-Ok c = tells_accepted c.args.answer refl (ap outcome_of c.in-Ok.is) refl refl

pub returns-in-Err : goal.returns-in-Err
returns-in-Err c = tells_refused c.args.answer refl (ap outcome_of c.in-Err.is) c.from.ensures refl
