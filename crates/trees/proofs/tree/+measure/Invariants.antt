-- `measure` meets its contract. The loop's invariant is `Measuring`; with each call the bytes left fall. Assumes nothing.
use Prim.Native.Nat.{ℕ, ◌-◌}
use mathlib.Core.List.{List}
use lib.ListN.{length}
use Rattle.trees.specs.Inner.Symbols.{symbol_of}
use Rattle.trees.proofs.Extents.{Measuring}
use Rattle.trees.proofs.tree.+measure.Given as goal

-- of s, from position at on
abbrev pub bytes_left : List ℕ → ℕ → ℕ
bytes_left s at = length s - at

abbrev pub decreases-measure : goal.decreases-measure
decreases-measure l = bytes_left l.s.now l.at

abbrev pub invariant-loop : goal.invariant-loop
invariant-loop l = Measuring (symbol_of {A = ⊥} l.ranks) l.s l.at l.room (l.end - l.counter) l.end-2 l.levels
