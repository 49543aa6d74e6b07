-- `measure_body` meets its contract. The invariant: the marks from j on are the code of `behind` trees, whose levels the table has. Assumes nothing.
use Rattle.formats.proofs.Behind.{BodyStanding}
use Rattle.formats.proofs.bodies.measure_body.Given as goal

abbrev pub invariant-loop-j : goal.invariant-loop-j
invariant-loop-j l = BodyStanding l.outs l.n l.r l.marks l.from l.to l.levels l.j l.behind
