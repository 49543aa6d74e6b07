-- `shorter` meets its contract: the comparison, and the marks of the two files. Assumes nothing.
use Prim.Native.Nat.{ℕ}
use native.Mathlib.Omega.{arith}
use lib.ListN.{length-replicate}
use Rattle.comparison.proofs.Comparing.{shorter_left, shorter_right, shorter_differ, shorter_refused}
use Rattle.comparison.proofs.shorter.shorter.Goals as goal

pub returns-then-right-left : goal.returns-then-right-left
returns-then-right-left c = shorter_right c.compare.ensures (rw c.in-Ok-None.field-0-is at c.in-Ok-None.is) c.transducer_marks-left.ensures c.transducer_marks-right.ensures (omega (arith, c.if-right-left.true))

pub returns-else-right-left : goal.returns-else-right-left
returns-else-right-left c = shorter_left c.compare.ensures (rw c.in-Ok-None.field-0-is at c.in-Ok-None.is) c.transducer_marks-left.ensures c.transducer_marks-right.ensures (omega (arith, c.if-right-left.false))

pub returns-in-Ok-Some : goal.returns-in-Ok-Some
returns-in-Ok-Some c = shorter_differ c.compare.ensures (rw c.in-Ok-Some.field-0-is at c.in-Ok-Some.is)

pub returns-in-Err : goal.returns-in-Err
returns-in-Err c = shorter_refused c.compare.ensures (omega (arith, length-replicate {A = ℕ} 1536 0)) (omega (arith, length-replicate {A = ℕ} 16128 0)) c.in-Err.is
