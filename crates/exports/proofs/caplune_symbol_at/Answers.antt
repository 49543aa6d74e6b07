-- `caplune_symbol_at` meets its contract. Assumes nothing.
use Rattle.trees.specs.Refusal.{outcome_of}
use mathlib.Core.Path.{refl, ap}
use Rattle.exports.proofs.Telling.{tells_accepted, tells_refused}
use Rattle.exports.proofs.caplune_symbol_at.Goals as goal

pub returns-in-Ok-Some : goal.returns-in-Ok-Some
returns-in-Ok-Some c = tells_accepted c.symbol_at.result c.symbol_at.ensures (ap outcome_of (rw c.in-Ok-Some.field-0-is at c.in-Ok-Some.is)) refl refl

pub returns-in-Ok-None : goal.returns-in-Ok-None
returns-in-Ok-None c = tells_accepted c.symbol_at.result c.symbol_at.ensures (ap outcome_of (rw c.in-Ok-None.field-0-is at c.in-Ok-None.is)) refl refl

pub returns-in-Err : goal.returns-in-Err
returns-in-Err c = tells_refused c.symbol_at.result c.symbol_at.ensures (ap outcome_of c.in-Err.is) c.from.ensures refl
