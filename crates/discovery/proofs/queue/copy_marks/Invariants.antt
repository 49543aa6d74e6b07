-- `copy_marks` meets its contract. The invariant: the first j letters were copied. Assumes nothing.
use lib.ListN.{take}
use Rattle.discovery.specs.Inner.Queue.{Copied}
use Rattle.discovery.proofs.queue.copy_marks.Given as goal

abbrev pub invariant-loop-j : goal.invariant-loop-j
invariant-loop-j g l = Copied (take l.j l.s) l.initial.queue.list l.initial.queue.place l.initial.queue.met l.initial.out l.at l.queue.list l.queue.place l.queue.met l.out
