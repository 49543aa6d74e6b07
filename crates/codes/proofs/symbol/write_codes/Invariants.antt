-- `write_codes` meets its contract. The invariant: the codes of the symbols before k are written. Assumes nothing.
use mathlib.Core.Path.{◌≡◌}
use lib.Seq.{sets}
use Rattle.codes.specs.Codes.{codes}
use Rattle.codes.proofs.symbol.write_codes.Given as goal

abbrev pub invariant-loop-k : goal.invariant-loop-k
invariant-loop-k l = l.area ≡ sets l.initial.area 0 (codes l.k)
