-- `measure_all` meets its contract. Assumes nothing.
use native.Mathlib.Omega.{arith}
use Rattle.trees.proofs.Extents.{too_long, no_tree, not_all, all_measured}
use Rattle.trees.proofs.tree.measure_all.Goals as goal

pub returns-then-s-gt4096 : goal.returns-then-s-gt4096
returns-then-s-gt4096 c = too_long c.if-s-gt4096.true

pub returns-in_err-tree : goal.returns-in_err-tree
returns-in_err-tree c = rw c.from_residual.ensures (no_tree c.measure.ensures c.in_err-tree.was)

pub returns-then-tree-s : goal.returns-then-tree-s
returns-then-tree-s c = not_all c.measure.ensures c.in_ok-tree.was (λ x. omega (arith, x, c.if-tree-s.true))

pub returns : goal.returns
returns c = all_measured c.measure.ensures c.in_ok-tree.was c.if-tree-s.false c.if-s-gt4096.false
