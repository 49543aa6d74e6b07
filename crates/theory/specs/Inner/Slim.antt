-- Slim trees, by which the size of a counterexample is bounded.
use Rattle.std.specs.Prelude.{ℕ}
use Rattle.theory.specs.Inner.Leaves.{Leaves}
use Rattle.theory.specs.Term.{node, Terms, none, more, Tree}

-- a slim tree: of the children of each node at most one is no leaf
mutual
  pub data Slim : Tree → Type 0 where
    slim : {a : ℕ} {ds : Terms ⊥} → SlimBelow ds → Slim (node a ds)

  pub data SlimBelow : Terms ⊥ → Type 0 where
    all_leaves : {ds : Terms ⊥} → Leaves ds → SlimBelow ds
    one_deep : {d : Tree} {ds : Terms ⊥} → Slim d → Leaves ds → SlimBelow (more d ds)
    leaf_first : {k : ℕ} {ds : Terms ⊥} → SlimBelow ds → SlimBelow (more (node k none) ds)
