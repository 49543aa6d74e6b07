-- `read_marks` meets its contract. The invariant: the marks passed call a child once where its flag is set, and the states they call are entered. Assumes nothing.
use Rattle.discovery.specs.Inner.Queue.{met_of}
use Rattle.queries.proofs.Uses.{Passed}
use Rattle.queries.proofs.linear.read_marks.Given as goal

abbrev pub invariant-loop-j : goal.invariant-loop-j
invariant-loop-j l = Passed l.marks l.from l.to (met_of l.initial.queue.list l.initial.queue.met) l.seen l.queue.met l.j l.queue.list l.queue.place
