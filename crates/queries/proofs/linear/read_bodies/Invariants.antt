-- `read_bodies` meets its contract. The invariant: j of the bodies were read. Assumes nothing.
use lib.ListN.{get_or}
use Rattle.discovery.specs.Inner.Queue.{met_of}
use Rattle.queries.proofs.Reading.{BodiesPassed}
use Rattle.queries.proofs.linear.read_bodies.Given as goal

abbrev pub invariant-loop-j : goal.invariant-loop-j
invariant-loop-j l = BodiesPassed (λ j. get_or l.starts j 0) l.marks l.b (met_of l.initial.queue.list l.initial.queue.met) l.queue.met l.j l.queue.list l.queue.place
