-- `same_states` meets its contract. The invariant: the right-hand sides of the symbols passed are the same up to classes. Assumes nothing.
use Prim.Native.Nat.{ℕ, ◌<◌}
use Rattle.formats.specs.Inner.Layout.{body_number}
use Rattle.classes.specs.Inner.Classes.{SameBodies}
use Rattle.classes.proofs.classes.same_states.Given as goal

abbrev pub invariant-loop-a : goal.invariant-loop-a
invariant-loop-a l = (b : ℕ) → b < l.a → SameBodies l.starts l.marks l.classes (body_number l.ins l.p b) (body_number l.ins l.q b)
