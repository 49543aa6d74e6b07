-- `trace_back` meets its contract. The invariant is `WayLoop`. Assumes nothing.
use Rattle.witness.proofs.WayBack.{WayLoop}
use Rattle.witness.proofs.witness.trace_back.Given as goal

abbrev pub invariant-loop-r : goal.invariant-loop-r
invariant-loop-r l = WayLoop l.ins l.outs l.left.starts.now l.left.marks.now l.pairs l.e l.q l.initial.buffer l.fn.span.from l.fn.span.to l.initial.place l.at l.buffer l.placed.span.from l.placed.span.to l.place l.placed.at l.r

abbrev pub decreases-loop-r : goal.decreases-loop-r
decreases-loop-r l = l.r
