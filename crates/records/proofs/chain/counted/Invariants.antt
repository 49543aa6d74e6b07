-- The invariant of `counted`: what the records passed count. Assumes nothing.
use Rattle.std.proofs.Common.{◌≡◌, min}
use Rattle.records.specs.Book.{tally, too_many}
use Rattle.records.proofs.chain.counted.Given as goal

abbrev pub invariant-loop-record : goal.invariant-loop-record
invariant-loop-record l = l.sum ≡ min (tally l.records l.record-index) too_many
