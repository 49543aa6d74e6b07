-- The letters of a term by number, in preorder from 0: the address at which each stands.
use Rattle.std.specs.Prelude.{ℕ, suc, ◌-◌, Bool, true, false, List, [], ◌∷◌, ltb}
use Rattle.theory.specs.Term.{Term, var, node, Terms, none, more}
use Rattle.theory.specs.Inner.Forests.{letters}

abbrev pub place_if : Bool → ℕ × List ℕ → ℕ × List ℕ → ℕ × List ℕ
place_if true p r = p
place_if false p r = r

-- the same address in the tree behind
abbrev pub behind : ℕ × List ℕ → ℕ × List ℕ
behind r = (suc r.0, r.1)

-- the address of letter m; among several trees, the number of the tree from 0 and the address in it
unfoldable mutual
  pub place : {A : Type 0} → Term A → ℕ → List ℕ
  place (var a) m = []
  place (node k ts) ℕ.zero = []
  place (node k ts) (suc m) = suc (place_among ts m).0 ∷ (place_among ts m).1

  pub place_among : {A : Type 0} → Terms A → ℕ → ℕ × List ℕ
  place_among none m = (0, [])
  place_among (more t ts) m = place_if (ltb m (letters t)) (0, place t m) (behind (place_among ts (m - letters t)))
