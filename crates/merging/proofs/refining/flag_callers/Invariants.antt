-- `flag_callers` meets its contract. The invariant: the callers passed are pending. Assumes nothing.
use Rattle.merging.proofs.Worklist.{FlagLoop}
use Rattle.merging.proofs.refining.flag_callers.Given as goal

abbrev pub invariant-loop-q : goal.invariant-loop-q
invariant-loop-q l = FlagLoop l.callers l.r l.n l.initial.pending l.pending l.list.bytes l.list.len l.q
