-- `Placing::find_class` meets its contract. The invariant: the classes passed do not take the state. Assumes nothing.
use Prim.Native.Nat.{ℕ, ◌≤◌, ◌<◌}
use Rattle.merging.specs.Inner.Refining.{Takes}
use Rattle.merging.proofs.refining.Placing.find_class.Given as goal

abbrev pub invariant-loop-k : goal.invariant-loop-k
invariant-loop-k l = (j : ℕ) → l.base ≤ j → j < l.k → Takes l.bodies.ins.now l.bodies.starts.now l.bodies.marks.now l.old l.self.reps l.p j → ⊥
