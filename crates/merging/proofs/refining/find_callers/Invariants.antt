-- `find_callers` meets its contract. The invariant: the calls of the states passed are flagged. Assumes nothing.
use Rattle.merging.proofs.Calling.{StatesLoop}
use Rattle.merging.proofs.refining.find_callers.Given as goal

abbrev pub invariant-loop-p : goal.invariant-loop-p
invariant-loop-p l = StatesLoop l.bodies.ins.now l.bodies.starts.now l.bodies.marks.now l.initial.callers l.callers l.p
