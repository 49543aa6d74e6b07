-- Matching term and tree letter by letter: what is left to match is some terms against some trees, and a letter changes both.
use Prim.Native.Nat.{ℕ, suc, ◌+◌, ◌-◌, ◌≤◌, ◌<◌}
use native.Mathlib.Decide.{dec_lt}
use native.Mathlib.Omega.{arith}
use mathlib.Core.Path.{◌≡◌, refl, ap}
use mathlib.Core.Logic.{◌↔◌, by_cases}
use mathlib.Core.List.{List, [], ◌∷◌, ◌++◌}
use lib.ListN.{length}
use Rattle.theory.specs.Inner.Forests.{joined}
use Rattle.theory.specs.Grammar.{Grammar}
use Rattle.theory.specs.Matched.{At, here, below, Ats, first, later, Matched, demand, symbol, MatchedAll, matched_none, matched_more, inside, Demands, at_head, at_tail, Child, Children, no_child, one_child}
use Rattle.theory.specs.Multiplicity.{over_children}
use Rattle.theory.specs.Size.{size, sizes}
use Rattle.theory.specs.Term.{Term, var, node, Terms, none, more, Tree, count}
use Rattle.theory.proofs.Demands.{at_inside}

module _ {Q : Type 0} {D : ℕ × Q → ℕ → Tree → Type 0} where
  -- terms that match, and others behind them
  pub matched_join : {ts ts' : Terms (ℕ × Q)} {us us' : Terms ⊥} {p : ℕ} → MatchedAll D ts p us → MatchedAll D ts' (p + sizes us) us' → MatchedAll D (joined ts ts') p (joined us us')
  unfolding size
  matched_join {ts' = ts'} {us' = us'} (matched_none {p}) n = let e : p + 0 ≡ p = omega arith in rw e at n
  matched_join {ts' = ts'} {us' = us'} (matched_more {p} {u} {us} m ms) n = let e : p + (size u + sizes us) ≡ p + size u + sizes us = omega arith in matched_more m (matched_join ms (rw e at n))

  -- the first matches, and the others behind it
  pub matched_head : {t : Term (ℕ × Q)} {u : Tree} {ts : Terms (ℕ × Q)} {us : Terms ⊥} {p : ℕ} → MatchedAll D (more t ts) p (more u us) → Matched D t p u × MatchedAll D ts (p + size u) us
  matched_head (matched_more m ms) = (m, ms)

  -- if as many terms as trees stand in front, these match and the others do
  pub matched_split : (ts ts' : Terms (ℕ × Q)) (us us' : Terms ⊥) (p : ℕ) → count ts ≡ count us → MatchedAll D (joined ts ts') p (joined us us') → MatchedAll D ts p us × MatchedAll D ts' (p + sizes us) us'
  unfolding size count
  matched_split none ts' none us' p c m = let e : p ≡ p + 0 = omega arith in (matched_none, rw e at m)
  matched_split none ts' (more u us) us' p c m = absurd (omega arith)
  matched_split (more t ts) ts' none us' p c m = absurd (omega arith)
  matched_split (more t ts) ts' (more u us) us' p c m =
      let h = matched_head m in
      let r = matched_split ts ts' us us' (p + size u) (omega arith) h.1 in
      let e : p + size u + sizes us ≡ p + (size u + sizes us) = omega arith in
      (matched_more h.0 r.0, rw e at r.1)

  -- a term matches a tree
  pub match_one : {X : Term (ℕ × Q)} {p : ℕ} {u : Tree} → Matched D X p u ↔ MatchedAll D (more X none) p (more u none)
  match_one = (λ m. matched_more m matched_none, λ m. (matched_head m).0)

  -- a call that matches has its demand
  pub matched_var : {e : ℕ × Q} {u : Tree} {p : ℕ} → Matched D (var e) p u → D e p u
  matched_var (demand d) = d

  -- a node that matches has the same symbol, and children that match
  pub matched_node : {j k p : ℕ} {ts : Terms (ℕ × Q)} {us : Terms ⊥} → Matched D (node k ts) p (node j us) → (k ≡ j) × MatchedAll D ts (suc p) us
  matched_node (symbol m) = (refl, m)

  -- a call demands the next tree, which is passed over whole
  pub match_call : {e : ℕ × Q} {u : Tree} {ts : Terms (ℕ × Q)} {us : Terms ⊥} {p : ℕ} → MatchedAll D (more (var e) ts) p (more u us) ↔ (D e p u × MatchedAll D ts (p + size u) us)
  match_call = (λ m. let h = matched_head m in (matched_var h.0, h.1), λ h. matched_more (demand h.0) h.1)

  -- the same symbol, with as many children: then the children are matched before what is left
  pub match_symbol : {k : ℕ} {ts₁ ts : Terms (ℕ × Q)} {us₁ us : Terms ⊥} {p : ℕ} → count ts₁ ≡ count us₁ → MatchedAll D (more (node k ts₁) ts) p (more (node k us₁) us) ↔ MatchedAll D (joined ts₁ ts) (suc p) (joined us₁ us)
  unfolding size
  match_symbol {k} {ts₁} {ts} {us₁} {us} {p} c =
      let e : p + suc (sizes us₁) ≡ suc p + sizes us₁ = omega arith in
      (λ m. let h = matched_head m in matched_join (matched_node h.0).1 (rw e at h.1), λ m. let h = matched_split ts₁ ts us₁ us (suc p) c m in matched_more (symbol h.0) (rw (← e) at h.1))

  -- another symbol matches nothing
  pub match_clash : {j k p : ℕ} {ts₁ ts : Terms (ℕ × Q)} {us₁ us : Terms ⊥} → MatchedAll D (more (node k ts₁) ts) p (more (node j us₁) us) → k ≡ j
  match_clash m = (matched_node (matched_head m).0).0

module _ {Q : Type 0} {e : ℕ × Q} {p' : ℕ} {u' : Tree} where
  -- a demand of the terms in front, or of those behind
  demands_split : (R : Type 0) (ts ts' : Terms (ℕ × Q)) (us us' : Terms ⊥) (p : ℕ) → count ts ≡ count us → Demands (joined ts ts') p (joined us us') e p' u' → (Demands ts p us e p' u' → R) → (Demands ts' (p + sizes us) us' e p' u' → R) → R
  unfolding size count
  demands_split R none ts' none us' p c x f g = let z : p ≡ p + 0 = omega arith in g (rw z at x)
  demands_split R none ts' (more u us) us' p c x f g = absurd (omega arith)
  demands_split R (more t ts) ts' none us' p c x f g = absurd (omega arith)
  demands_split R (more t ts) ts' (more u us) us' p c (at_head x) f g = f (at_head x)
  demands_split R (more t ts) ts' (more u us) us' p c (at_tail x) f g =
      let z : p + size u + sizes us ≡ p + (size u + sizes us) = omega arith in
      demands_split R ts ts' us us' (p + size u) (omega arith) x (λ y. f (at_tail y)) (λ y. g (rw z at y))

  -- a demand that is met when a symbol has been passed is a demand
  pub demand_symbol : {k : ℕ} {ts₁ ts : Terms (ℕ × Q)} {us₁ us : Terms ⊥} {p : ℕ} → count ts₁ ≡ count us₁ → Demands (joined ts₁ ts) (suc p) (joined us₁ us) e p' u' → Demands (more (node k ts₁) ts) p (more (node k us₁) us) e p' u'
  unfolding size
  demand_symbol {k} {ts₁} {ts} {us₁} {us} {p} c x =
      let z : suc p + sizes us₁ ≡ p + suc (sizes us₁) = omega arith in
      demands_split _ ts₁ ts us₁ us (suc p) c x (λ y. at_head (inside y)) (λ y. at_tail (rw z at y))

-- a ground tree has a node
pub one_node : (u : Tree) → 1 ≤ size u
unfolding size
one_node (var x) = absurd x
one_node (node k ts) = omega arith

mutual
  -- one subtree stands at p
  pub at_unique : {t u v : Tree} {p : ℕ} → At t p u → At t p v → u ≡ v
  at_unique here here = refl
  at_unique (below a) (below b) = ats_unique a b

  ats_unique : {ts : Terms ⊥} {u v : Tree} {p : ℕ} → Ats ts p u → Ats ts p v → u ≡ v
  ats_unique (first a) (first b) = at_unique a b
  ats_unique {v = v} (first {t} {u} a) (later b e) = absurd (omega (arith, at_inside a, one_node u))
  ats_unique (later a e) (first {u} b) = absurd (omega (arith, at_inside b, one_node u))
  ats_unique (later {x} a e) (later {x = y} b f) = let z : y ≡ x = omega arith in ats_unique a (rw z at b)

mutual
  unfolding size

  -- a subtree stands at each number below the size
  pub at_exists : (t : Tree) (p : ℕ) → p < size t → (u : Tree) × At t p u
  at_exists (var x) p l = absurd x
  at_exists (node k ts) ℕ.zero l = (node k ts, here)
  at_exists (node k ts) (suc p) l = let r = ats_exist ts p (omega arith) in (r.0, below r.1)

  ats_exist : (ts : Terms ⊥) (p : ℕ) → p < sizes ts → (u : Tree) × Ats ts p u
  ats_exist none p l = absurd (omega arith)
  ats_exist (more t ts) p l = by_cases (dec_lt p (size t))
      (λ h. let r = at_exists t p h in (r.0, first r.1))
      (λ h. let z : p ≡ size t + (p - size t) = omega arith in let r = ats_exist ts (p - size t) (omega arith) in (r.0, later r.1 z))

-- one child more, at the end
pub children_snoc : {Q : Type 0} {G : Grammar} {B : Q → ℕ → Tree → Tree → Type 0} {X : Term (ℕ × Q)} {p : ℕ} {u : Tree} {i s : ℕ} {d : Tree} {sorts : List ℕ} {ds : Terms ⊥}
    → Children G B X p u i sorts ds → Child G B X p u (i + length sorts) s d → Children G B X p u i (sorts ++ s ∷ []) (joined ds (more d none))
children_snoc (no_child {i}) c = let e : i + 0 ≡ i = omega arith in one_child (rw e at c) no_child
children_snoc (one_child {i} {sorts} x xs) c = let e : i + suc (length sorts) ≡ suc i + length sorts = omega arith in one_child x (children_snoc xs (rw e at c))

-- the sum over children with one more at the end
pub over_snoc : (f : ℕ → Tree → ℕ) (i : ℕ) (ds : Terms ⊥) (d : Tree) → over_children f i (joined ds (more d none)) ≡ over_children f i ds + f (i + count ds) d
unfolding over_children count
over_snoc f i none d = let e : i + 0 ≡ i = omega arith in omega (arith, ap (λ j. f j d) e)
over_snoc f i (more x ds) d = let e : suc i + count ds ≡ i + suc (count ds) = omega arith in omega (arith, over_snoc f (suc i) ds d, ap (λ j. f j d) e)
