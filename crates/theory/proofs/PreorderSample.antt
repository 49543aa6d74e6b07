-- A worked example: three states, of which rule 2 lists 0, 2, 1, since the right-hand sides of state 0, which call state 2, are read before the second call of the initial term.
use Prim.Native.Nat.{ℕ, suc, ◌<◌, ◌≤◌}
use native.Mathlib.Omega.{arith}
use mathlib.Core.Path.{◌≡◌, refl}
use mathlib.Core.List.{List, [], ◌∷◌}
use mathlib.Core.Option.{Option, some, none as nothing, some-injective}
use lib.ListN.{get_elem?}
use Rattle.theory.specs.Grammar.{Grammar}
use Rattle.theory.specs.Preorder.{visit_node, visit_new, visit_more, visit_none, visit_symbol, no_symbol, VisitRhs, Preordered}
use Rattle.theory.specs.Rule.{Stands}
use Rattle.theory.specs.Term.{Term, var, node, none, more}
use Rattle.theory.specs.Transducer.{Transducer}
use Rattle.theory.proofs.Terms.{conflict}

-- the input symbols: 0 is a leaf, and 1 has one child
places : ℕ → Option (List ℕ)
places ℕ.zero = some []
places (suc ℕ.zero) = some (0 ∷ [])
places (suc (suc a)) = nothing

few : (a : ℕ) {sorts : List ℕ} → places a ≡ some sorts → a < 2
unfolding places
few ℕ.zero e = omega arith
few (suc ℕ.zero) e = omega arith
few (suc (suc a)) e = conflict (cc)

abbrev two_symbols : Grammar
unfolding places
two_symbols = record { children = λ s a. places a; symbols = 2; bounded = λ s a e. few a e; leaf = λ s. 0; leaf_children = λ s. refl }

-- state 0 calls state 2; the others give a leaf
lines : ℕ → ℕ → Term (ℕ × ℕ)
lines ℕ.zero ℕ.zero = node 0 none
lines ℕ.zero (suc a) = var (1, 2)
lines (suc q) a = node 0 none

-- the initial term calls state 0 and then state 1
abbrev three_states : Transducer ℕ
three_states = record { sort = λ q. 0; initial = node 1 (more (var (1, 0)) (more (var (1, 1)) none)); rhs = lines }

missing : {q : ℕ} → ¬ Stands [] q
missing s = conflict (cc s.there)

miss_two : ¬ Stands {Q = ℕ} (0 ∷ []) 2
miss_two s = go s.number s.there
  where
    go : (n : ℕ) → get_elem? {A = ℕ} (0 ∷ []) n ≡ some 2 → ⊥
    go ℕ.zero e = let z : ◌≡◌ {A = ℕ} 0 2 = some-injective _ _ e in omega arith
    go (suc n) e = conflict (cc)

miss_one : ¬ Stands {Q = ℕ} (0 ∷ 2 ∷ []) 1
miss_one s = go s.number s.there
  where
    go : (n : ℕ) → get_elem? {A = ℕ} (0 ∷ 2 ∷ []) n ≡ some 1 → ⊥
    go ℕ.zero e = let z : ◌≡◌ {A = ℕ} 0 1 = some-injective _ _ e in omega arith
    go (suc ℕ.zero) e = let z : ◌≡◌ {A = ℕ} 2 1 = some-injective _ _ e in omega arith
    go (suc (suc n)) e = conflict (cc)

-- a state whose right-hand sides call nothing adds nothing
still : (q : ℕ) (L : List ℕ) → VisitRhs two_symbols three_states (suc q) 0 L L
unfolding places lines
still q L = visit_symbol refl (visit_node visit_none) (visit_symbol refl (visit_node visit_none) (no_symbol lit))
  where
    lit : 2 ≤ 2
    lit = omega arith

-- Rule 2 lists 0, 2, 1.
sample_preordered : Preordered two_symbols three_states (0 ∷ 2 ∷ 1 ∷ [])
unfolding places lines
sample_preordered = visit_node (visit_more
    (visit_new {e = (1, 0)} missing (visit_symbol refl (visit_node visit_none) (visit_symbol refl (visit_new {e = (1, 2)} miss_two (still 1 (0 ∷ 2 ∷ []))) (no_symbol lit))))
    (visit_more (visit_new {e = (1, 1)} miss_one (still 0 (0 ∷ 2 ∷ 1 ∷ []))) visit_none))
  where
    lit : 2 ≤ 2
    lit = omega arith
