-- `flag_calls` meets its contract. The invariant: the calls passed are flagged. Assumes nothing.
use Rattle.merging.proofs.Calling.{CallsLoop}
use Rattle.merging.proofs.refining.flag_calls.Given as goal

abbrev pub invariant-loop-j : goal.invariant-loop-j
invariant-loop-j l = CallsLoop l.marks l.from l.p l.initial.callers l.callers l.j
