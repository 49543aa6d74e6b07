-- `first_clash` meets its contract. The invariant: the marks passed go in step. Assumes nothing.
use Prim.Native.Nat.{ℕ, ◌+◌, ◌<◌}
use Rattle.pairs.specs.Inner.Pairs.{InStep}
use Rattle.pairs.proofs.pairs.first_clash.Given as goal

abbrev pub invariant-loop-k : goal.invariant-loop-k
invariant-loop-k l = (h : ℕ) → h < l.k → InStep l.marks1 l.marks2 (l.i + h) (l.j + h)
