-- `read_file` ends: what is left of the area falls with each read that gives something. Assumes nothing.
use Rattle.std.proofs.Common.{length, ◌≤◌, ◌-◌}
use Rattle.sheets.proofs.read_file.Given as goal

abbrev pub invariant-loop-done : goal.invariant-loop-done
invariant-loop-done l = l.done ≤ length l.area

abbrev pub decreases-loop-done : goal.decreases-loop-done
decreases-loop-done l = length l.area - l.done
