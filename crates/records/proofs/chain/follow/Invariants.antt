-- The invariant of `follow`: the bodies that were passed follow one another. Assumes nothing.
use Rattle.std.proofs.Common.{◌≤◌}
use Rattle.records.specs.Inner.Steps.{Passed}
use Rattle.records.proofs.chain.follow.Given as goal

abbrev pub invariant-loop-record : goal.invariant-loop-record
invariant-loop-record l = Passed l.records l.record-index l.end × (l.end ≤ l.used)
