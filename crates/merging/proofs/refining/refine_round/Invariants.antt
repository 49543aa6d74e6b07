-- `refine_round` meets its contract. The invariant is `RoundLoop`. Assumes nothing.
use Rattle.merging.proofs.Rounds.{RoundLoop}
use Rattle.merging.proofs.refining.refine_round.Given as goal

abbrev pub invariant-loop-i : goal.invariant-loop-i
invariant-loop-i l = RoundLoop l.bodies.ins.now l.bodies.starts.now l.bodies.marks.now l.old l.list.bytes l.base l.list.len l.new l.placing.pending l.placing.reps l.moved.bytes l.count l.moved.len l.i
