-- `set_distance` meets its contract. Assumes nothing.
use native.Mathlib.Omega.{arith}
use mathlib.Core.Path.{refl}
use Rattle.witness.proofs.Distances.{found_low, set_kept, set_none, set_new}
use Rattle.witness.proofs.other.set_distance.Goals as goal

pub returns-then-dist-q-gt0 : goal.returns-then-dist-q-gt0
returns-then-dist-q-gt0 c = set_kept c.if-dist-q-gt0.true

pub returns-in-None : goal.returns-in-None
returns-in-None c = set_none c.find_distance.ensures c.in-None.is

pub overflow_cast-dist : goal.overflow_cast-dist
overflow_cast-dist c = omega (arith, found_low c.requires c.in-Some.d c.find_distance.ensures c.in-Some.is)

pub returns-in-Some : goal.returns-in-Some
returns-in-Some c = set_new c.in-Some.d c.if-dist-q-gt0.false c.find_distance.ensures c.in-Some.is refl
