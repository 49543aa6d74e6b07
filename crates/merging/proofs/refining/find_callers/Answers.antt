-- `find_callers` meets its contract. The invariant: the calls of the states passed are flagged. Assumes nothing.
use Rattle.merging.proofs.Calling.{next_state}
use Rattle.merging.proofs.refining.find_callers.Goals as goal

pub loop-p-preserved : goal.loop-p-preserved
loop-p-preserved c = next_state c.loop-p.invariant c.flag_calls.ensures c.from-from.ensures c.from-to.ensures
