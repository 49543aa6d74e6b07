-- `refine_more` meets its contract. The invariant is `RefineLoop`; each round but the last makes more classes. Assumes nothing.
use Rattle.merging.proofs.Stable.{RefineLoop, left}
use lib.ListN.{length}
use Rattle.merging.proofs.refining.refine_more.Given as goal

abbrev pub invariant-loop-moved : goal.invariant-loop-moved
invariant-loop-moved l = RefineLoop l.bodies.ins.now l.bodies.starts.now l.bodies.marks.now l.initial.old l.callers l.old l.new l.placing.pending l.placing.reps l.list.bytes l.moved.bytes l.base l.moved.len

abbrev pub decreases-loop-moved : goal.decreases-loop-moved
decreases-loop-moved l = left (length l.initial.old) l.base l.moved.len
