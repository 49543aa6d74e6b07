-- `most_levels` meets its contract. The invariant: the largest of those passed. Assumes nothing.
use Prim.Native.Nat.{◌+◌, ◌-◌}
use mathlib.Core.Path.{◌≡◌}
use Rattle.trees.specs.Inner.Measured.{noted, most}
use Rattle.trees.proofs.levels.most_levels.Given as goal

abbrev pub invariant-loop-level : goal.invariant-loop-level
invariant-loop-level l = l.deep ≡ most l.level-index (noted l.levels (l.behind - l.n + l.level-index))
