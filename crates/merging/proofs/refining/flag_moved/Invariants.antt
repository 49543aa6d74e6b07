-- `flag_moved` meets its contract. The invariant is `MovedLoop`. Assumes nothing.
use Rattle.merging.proofs.Worklist.{MovedLoop}
use Rattle.merging.proofs.refining.flag_moved.Given as goal

abbrev pub invariant-loop-j : goal.invariant-loop-j
invariant-loop-j l = MovedLoop l.callers l.initial.old l.new l.moved.bytes l.moved.len l.old l.pending l.list.bytes l.list.len l.j
