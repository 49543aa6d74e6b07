-- `find_step` meets its contract. The invariant: a right-hand side as far as q is for a or a later symbol. Assumes nothing.
use Prim.Native.Nat.{◌-◌}
use lib.ListN.{length, get_or}
use Rattle.witness.proofs.Distances.{Ahead}
use Rattle.witness.proofs.other.find_step.Given as goal

abbrev pub invariant-loop-d : goal.invariant-loop-d
invariant-loop-d l = Ahead l.ins l.form.starts.now l.form.marks.now l.dist l.q l.b (get_or l.dist l.q 0) l.a

abbrev pub decreases-loop-d : goal.decreases-loop-d
decreases-loop-d l = length l.ins - l.a
