-- The invariant of `add_file`: what stood in the store stays in use. Assumes nothing.
use Rattle.std.proofs.Common.{◌≤◌}
use Rattle.samples.proofs.reader.Names.add_file.Given as goal

abbrev pub invariant-loop-run : goal.invariant-loop-run
invariant-loop-run l = l.initial.self.used ≤ l.self.used
