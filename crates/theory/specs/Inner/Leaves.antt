-- Leaves: the leaf of a sort, and children that are leaves, all but perhaps one.
use Rattle.std.specs.Prelude.{ℕ, suc, List, [], ◌∷◌}
use Rattle.theory.specs.Grammar.{Grammar}
use Rattle.theory.specs.Term.{Tree, node, Terms, none, more}

-- the tree that is the leaf of sort s alone
unfoldable pub leaf_of : Grammar → ℕ → Tree
leaf_of G s = node (G.leaf s) none

-- all children are leaves
pub data Leaves : Terms ⊥ → Type 0 where
  no_leaf : Leaves none
  one_leaf : {k : ℕ} {ds : Terms ⊥} → Leaves ds → Leaves (more (node k none) ds)

-- children of these sorts: d is the i-th, from 1, and all others are leaves (so all, if i is 0)
unfoldable pub put : Grammar → List ℕ → ℕ → Tree → Terms ⊥
put G [] i d = none
put G (s ∷ ss) ℕ.zero d = more (leaf_of G s) (put G ss 0 d)
put G (s ∷ ss) (suc ℕ.zero) d = more d (put G ss 0 d)
put G (s ∷ ss) (suc (suc i)) d = more (leaf_of G s) (put G ss (suc i) d)
