-- The invariant of `asked`: as many files are there as texts are read, which are at most four. Assumes nothing.
use Rattle.std.proofs.Common.{◌≡◌}
use Rattle.arrayvec.specs.ArrayVec.{array_vec_len}
use Rattle.samples.proofs.line.asked.Given as goal

abbrev pub invariant-loop-text : goal.invariant-loop-text
invariant-loop-text l = array_vec_len l.files ≡ l.text-index
