-- `same_marks` meets its contract. The invariant: the marks passed have the same keys. Assumes nothing.
use Prim.Native.Nat.{◌≤◌}
use Rattle.classes.proofs.Keys.{SameBefore}
use Rattle.classes.proofs.classes.same_marks.Given as goal

abbrev pub invariant-loop-k : goal.invariant-loop-k
invariant-loop-k l = (l.k ≤ l.n) × SameBefore l.classes l.marks l.i l.j l.k
