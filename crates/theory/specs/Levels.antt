-- The number of levels of an output tree, found without the tree (02, F-1).
use Rattle.std.specs.Prelude.{ℕ, suc, ◌+◌, max}
use Rattle.theory.specs.Term.{Term, var, node, Terms, none, more}

-- the levels of t where a tree of w a levels stands for each variable a
unfoldable mutual
  pub levels_with : {A : Type 0} → (A → ℕ) → Term A → ℕ
  levels_with w (var a) = w a
  levels_with w (node k ts) = suc (deepest_with w ts)

  pub deepest_with : {A : Type 0} → (A → ℕ) → Terms A → ℕ
  deepest_with w none = 0
  deepest_with w (more t ts) = max (levels_with w t) (deepest_with w ts)

-- the deepest level that is met, reading t from left to right with j nodes above it: a node below j nodes is at level j + 1, a variable a there goes down to level j + w a
unfoldable mutual
  pub levels_from : {A : Type 0} → (A → ℕ) → ℕ → Term A → ℕ
  levels_from w j (var a) = j + w a
  levels_from w j (node k ts) = max (suc j) (deepest_from w (suc j) ts)

  pub deepest_from : {A : Type 0} → (A → ℕ) → ℕ → Terms A → ℕ
  deepest_from w j none = 0
  deepest_from w j (more t ts) = max (levels_from w j t) (deepest_from w j ts)
