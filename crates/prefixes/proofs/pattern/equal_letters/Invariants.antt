-- `equal_letters` meets its contract: the letters passed are equal. Assumes nothing.
use Prim.Native.Nat.{◌+◌, ◌-◌, ◌≤◌}
use mathlib.Core.Path.{◌≡◌}
use lib.Dec.{eqb}
use lib.ListN.{drop}
use Rattle.std.specs.List.{common_prefix_len}
use Rattle.prefixes.proofs.pattern.equal_letters.Given as goal

abbrev pub invariant-loop-n : goal.invariant-loop-n
invariant-loop-n l = (l.n ≤ l.len) × (l.n + common_prefix_len eqb (drop l.n l.x) (drop l.n l.y) ≡ common_prefix_len eqb l.x l.y)

abbrev pub decreases-loop-n : goal.decreases-loop-n
decreases-loop-n l = l.len - l.n

abbrev pub invariant-loop-n-2 : goal.invariant-loop-n-2
invariant-loop-n-2 l = (l.n ≤ l.len) × (l.n + common_prefix_len eqb (drop l.n l.x) (drop l.n l.y) ≡ common_prefix_len eqb l.x l.y)

abbrev pub decreases-loop-n-2 : goal.decreases-loop-n-2
decreases-loop-n-2 l = l.len - l.n
