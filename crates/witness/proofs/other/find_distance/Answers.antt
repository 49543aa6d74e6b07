-- `find_distance` meets its contract. The invariant: no right-hand side for a symbol before a has a distance. Assumes nothing.
use Rattle.witness.proofs.Distances.{pass_next, find_here, find_none}
use Rattle.witness.proofs.other.find_distance.Goals as goal

pub returns-in-Some : goal.returns-in-Some
returns-in-Some c = find_here c.loop-a-test.true c.step_distance.ensures _ c.in-Some.is

pub loop-a-preserved : goal.loop-a-preserved
loop-a-preserved c = pass_next c.loop-a.invariant c.loop-a-test.true c.step_distance.ensures c.in_default.is

pub returns : goal.returns
returns c = find_none c.loop-a.invariant c.loop-a-test.false
