-- `Placing::all_pending` meets its contract. The invariant is `AllLoop`. Assumes nothing.
use Rattle.merging.proofs.Worklist.{AllLoop}
use Rattle.merging.proofs.refining.Placing.all_pending.Given as goal

abbrev pub invariant-loop-q : goal.invariant-loop-q
invariant-loop-q l = AllLoop l.self.pending l.list.bytes l.list.len l.q
