-- The invariant of `bytes_of`: the bytes of as many files are there as files are passed, which are at most four. Assumes nothing.
use Rattle.std.proofs.Common.{◌≡◌}
use Rattle.arrayvec.specs.ArrayVec.{array_vec_len}
use Rattle.samples.proofs.line.bytes_of.Given as goal

abbrev pub invariant-loop-file : goal.invariant-loop-file
invariant-loop-file l = array_vec_len l.bytes ≡ l.file-index
