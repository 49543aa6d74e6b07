-- `find_bottom` meets its contract. Assumes nothing.
use native.Mathlib.Omega.{arith}
use Rattle.witness.specs.Inner.Bottoms.{no_path, second_path, first_path}
use Rattle.witness.proofs.witness.find_bottom.Goals as goal

pub returns-then-first-gt0 : goal.returns-then-first-gt0
returns-then-first-gt0 c = first_path c.if-first-gt0.true c.root_on_leaf-b.ensures c.path_from-f.ensures

pub returns-then-second-gt0 : goal.returns-then-second-gt0
returns-then-second-gt0 c = second_path (omega (arith, c.if-first-gt0.false)) c.if-second-gt0.true c.path_from-f-then-second-gt0.ensures

pub returns : goal.returns
returns c = no_path (omega (arith, c.if-first-gt0.false)) (omega (arith, c.if-second-gt0.false))
