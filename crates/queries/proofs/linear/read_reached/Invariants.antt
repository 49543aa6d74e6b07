-- `read_reached` meets its contract. The invariant: the bodies of the first p states met were read. Assumes nothing.
use Prim.Native.Nat.{◌-◌}
use lib.ListN.{get_or}
use Rattle.queries.proofs.Reading.{StatesPassed}
use Rattle.queries.proofs.linear.read_reached.Given as goal

abbrev pub invariant-loop-p : goal.invariant-loop-p
invariant-loop-p l = StatesPassed l.inputs (λ j. get_or l.starts j 0) l.marks l.queue.met l.p l.queue.list l.queue.place

abbrev pub decreases-loop-p : goal.decreases-loop-p
decreases-loop-p l = 128 - l.p
