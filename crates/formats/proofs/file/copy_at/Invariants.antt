-- `copy_at` meets its contract. The invariant: writing what is left from j on ends as writing all from the start. Assumes nothing.
use Prim.Native.Nat.{◌+◌}
use lib.ListN.{drop}
use Rattle.formats.proofs.Writing.{Writing}
use Rattle.formats.proofs.file.copy_at.Given as goal

abbrev pub invariant-loop-j : goal.invariant-loop-j
invariant-loop-j l = Writing l.from l.at l.initial.area (drop l.j l.from) (l.at + l.j) l.area
