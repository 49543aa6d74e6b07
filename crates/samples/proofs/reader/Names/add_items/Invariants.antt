-- The invariant of `add_items`: what stood in the store stays in use. Assumes nothing.
use Rattle.std.proofs.Common.{◌≤◌}
use Rattle.samples.proofs.reader.Names.add_items.Given as goal

abbrev pub invariant-loop-item : goal.invariant-loop-item
invariant-loop-item l = l.initial.self.used ≤ l.self.used
