-- `counts_right` meets its contract. The invariant: the counts passed are right, and the sum is the offset. Assumes nothing.
use Rattle.formats.proofs.Counts.{Counting}
use Rattle.formats.proofs.bodies.counts_right.Given as goal

abbrev pub invariant-loop-j : goal.invariant-loop-j
invariant-loop-j l = Counting l.counts l.j l.sum
