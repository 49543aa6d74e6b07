-- Matching a term against a tree: the demands of its calls, and the subtrees that they are for.
use Prim.Native.Nat.{ℕ, suc, ◌+◌, ◌≤◌}
use native.Mathlib.Decide.{ℕ_discrete}
use native.Mathlib.Omega.{arith}
use mathlib.Core.Path.{◌≡◌, refl, ap, ap₂}
use mathlib.Core.Logic.{◌⊎◌, inl, inr, ⊎_elim, by_cases}
use mathlib.Core.List.{List, [], ◌∷◌}
use mathlib.Core.Option.{some}
use Rattle.theory.specs.Matched.{At, here, below, Ats, first, later, Matched, demand, symbol, MatchedAll, matched_none, matched_more, Demand, this, inside, Demands, at_head, at_tail}
use Rattle.theory.specs.Size.{size, sizes}
use Rattle.theory.specs.Term.{Term, var, node, Terms, none, more, Tree, bind, binds, sub, subs}
use Rattle.theory.specs.Vars.{AllVars, one, each, EachVars, done, both}
use Rattle.theory.specs.Weight.{weight, weights, calls, on_child}
use Rattle.theory.proofs.Terms.{conflict}
use Rattle.theory.proofs.Weights.{one_if_eq, one_if_ne}

module _ {Q : Type 0} {D E : ℕ × Q → ℕ → Tree → Type 0} where
  mutual
    -- what follows from D of each demand
    pub matched_map : {X : Term (ℕ × Q)} {p : ℕ} {u : Tree} → ((e : ℕ × Q) (p : ℕ) (u : Tree) → D e p u → E e p u) → Matched D X p u → Matched E X p u
    matched_map f (demand d) = demand (f _ _ _ d)
    matched_map f (symbol m) = symbol (matched_all_map f m)

    pub matched_all_map : {X : Terms (ℕ × Q)} {p : ℕ} {u : Terms ⊥} → ((e : ℕ × Q) (p : ℕ) (u : Tree) → D e p u → E e p u) → MatchedAll D X p u → MatchedAll E X p u
    matched_all_map f matched_none = matched_none
    matched_all_map f (matched_more m ms) = matched_more (matched_map f m) (matched_all_map f ms)

  mutual
    -- what holds of each demand by itself
    pub matched_by : {X : Term (ℕ × Q)} {p : ℕ} {u : Tree} → Matched D X p u → ((e : ℕ × Q) (p' : ℕ) (u' : Tree) → Demand X p u e p' u' → E e p' u') → Matched E X p u
    matched_by (demand d) f = demand (f _ _ _ this)
    matched_by (symbol m) f = symbol (matched_all_by m (λ e p u x. f e p u (inside x)))

    matched_all_by : {X : Terms (ℕ × Q)} {p : ℕ} {u : Terms ⊥} → MatchedAll D X p u → ((e : ℕ × Q) (p' : ℕ) (u' : Tree) → Demands X p u e p' u' → E e p' u') → MatchedAll E X p u
    matched_all_by matched_none f = matched_none
    matched_all_by (matched_more m ms) f = matched_more (matched_by m (λ e p u x. f e p u (at_head x))) (matched_all_by ms (λ e p u x. f e p u (at_tail x)))

-- a demand at a node stands inside it
inside_back : {Q : Type 0} {e : ℕ × Q} {j k p p' : ℕ} {u' : Tree} {ts : Terms (ℕ × Q)} {us : Terms ⊥} → Demand (node j ts) p (node k us) e p' u' → Demands ts (suc p) us e p' u'
inside_back (inside x) = x

module _ {Q : Type 0} {D : ℕ × Q → ℕ → Tree → Type 0} where
  mutual
    -- D holds of any demand
    pub matched_at : {X : Term (ℕ × Q)} {p p' : ℕ} {u u' : Tree} {e : ℕ × Q} → Matched D X p u → Demand X p u e p' u' → D e p' u'
    matched_at (demand d) this = d
    matched_at (symbol m) x = matched_all_at m (inside_back x)

    matched_all_at : {X : Terms (ℕ × Q)} {p p' : ℕ} {u : Terms ⊥} {u' : Tree} {e : ℕ × Q} → MatchedAll D X p u → Demands X p u e p' u' → D e p' u'
    matched_all_at matched_none x = elim x [ ]
    matched_all_at (matched_more m ms) (at_head x) = matched_at m x
    matched_all_at (matched_more m ms) (at_tail x) = matched_all_at ms x

  mutual
    -- what holds of every call of the term holds with D of each demand
    pub matched_vars : {P : ℕ × Q → Type 0} {X : Term (ℕ × Q)} {p : ℕ} {u : Tree} → AllVars P X → Matched D X p u → Matched (λ e p u. D e p u × P e) X p u
    matched_vars (one h) (demand d) = demand (d, h)
    matched_vars (each hs) (symbol m) = symbol (matched_all_vars hs m)

    matched_all_vars : {P : ℕ × Q → Type 0} {X : Terms (ℕ × Q)} {p : ℕ} {u : Terms ⊥} → EachVars P X → MatchedAll D X p u → MatchedAll (λ e p u. D e p u × P e) X p u
    matched_all_vars done matched_none = matched_none
    matched_all_vars (both h hs) (matched_more m ms) = matched_more (matched_vars h m) (matched_all_vars hs ms)

module _ {Q : Type 0} (f : ℕ × Q → Tree) where
  mutual
    unfolding bind binds

    -- a term matches what it becomes with trees for its calls, and each call demands its tree
    pub bind_matched : (X : Term (ℕ × Q)) (p : ℕ) → Matched (λ e p u. f e ≡ u) X p (bind X f)
    bind_matched (var e) p = demand refl
    bind_matched (node k ts) p = symbol (binds_matched ts (suc p))

    binds_matched : (X : Terms (ℕ × Q)) (p : ℕ) → MatchedAll (λ e p u. f e ≡ u) X p (binds X f)
    binds_matched none p = matched_none
    binds_matched (more t ts) p = matched_more (bind_matched t p) (binds_matched ts (p + size (bind t f)))

  mutual
    unfolding bind binds

    -- if each call becomes the tree that it demands, the term becomes the tree that it matches
    pub matched_bind : {X : Term (ℕ × Q)} {p : ℕ} {u : Tree} → Matched (λ e p u. f e ≡ u) X p u → bind X f ≡ u
    matched_bind (demand e) = e
    matched_bind (symbol {k} m) = ap (node k) (matched_binds m)

    matched_binds : {X : Terms (ℕ × Q)} {p : ℕ} {u : Terms ⊥} → MatchedAll (λ e p u. f e ≡ u) X p u → binds X f ≡ u
    matched_binds matched_none = refl
    matched_binds (matched_more m ms) = ap₂ more (matched_bind m) (matched_binds ms)

module _ {Q : Type 0} where
  mutual
    unfolding weight weights

    -- a demand is that of a call
    pub demand_calls : {X : Term (ℕ × Q)} {p p' : ℕ} {u u' : Tree} {e : ℕ × Q} → Demand X p u e p' u' → 1 ≤ calls e.0 X
    demand_calls {e} this = omega (arith, one_if_eq e.0 e.0 refl)
    demand_calls (inside x) = demands_call x

    demands_call : {X : Terms (ℕ × Q)} {p p' : ℕ} {u : Terms ⊥} {u' : Tree} {e : ℕ × Q} → Demands X p u e p' u' → 1 ≤ weights (on_child e.0) X
    demands_call (at_head x) = omega (arith, demand_calls x)
    demands_call (at_tail x) = omega (arith, demands_call x)

  mutual
    unfolding weight weights sub

    -- a call that stands in a term is counted
    pub calls_at : {e : ℕ × Q} (X : Term (ℕ × Q)) (v : List ℕ) → sub X v ≡ some (var e) → 1 ≤ calls e.0 X
    calls_at {e} (var x) [] s = let h : x ≡ e = cc in omega (arith, one_if_eq x.0 e.0 (ap (λ y. y.0) h))
    calls_at (var x) (i ∷ v) s = conflict (cc)
    calls_at (node k ts) [] s = conflict (cc)
    calls_at (node k ts) (i ∷ v) s = calls_in_lem ts i v s

    calls_in_lem : {e : ℕ × Q} (X : Terms (ℕ × Q)) (i : ℕ) (v : List ℕ) → subs X i v ≡ some (var e) → 1 ≤ weights (on_child e.0) X
    calls_in_lem none i v s = conflict (cc)
    calls_in_lem (more t ts) ℕ.zero v s = conflict (cc)
    calls_in_lem (more t ts) (suc ℕ.zero) v s = omega (arith, calls_at t v s)
    calls_in_lem (more t ts) (suc (suc i)) v s = omega (arith, calls_in_lem ts (suc i) v s)

  -- two demands are one
  pub record Same (e e₂ : ℕ × Q) (p p₂ : ℕ) (u u₂ : Tree) : Type 0 where
    pub state : e.1 ≡ e₂.1
    pub place : p ≡ p₂
    pub tree : u ≡ u₂

  mutual
    unfolding weight weights

    -- where child i is called once, two demands on it are one
    pub demand_once : {X : Term (ℕ × Q)} {p p' p₂ : ℕ} {u u' u₂ : Tree} {e e₂ : ℕ × Q} (i : ℕ) → calls i X ≤ 1 → Demand X p u e p' u' → Demand X p u e₂ p₂ u₂ → e.0 ≡ i → e₂.0 ≡ i → Same e e₂ p' p₂ u' u₂
    demand_once i l this this h k = record { state = refl; place = refl; tree = refl }
    demand_once i l (inside x) y h k = demands_once i l x (inside_back y) h k

    demands_once : {X : Terms (ℕ × Q)} {p p' p₂ : ℕ} {u : Terms ⊥} {u' u₂ : Tree} {e e₂ : ℕ × Q} (i : ℕ) → weights (on_child i) X ≤ 1 → Demands X p u e p' u' → Demands X p u e₂ p₂ u₂ → e.0 ≡ i → e₂.0 ≡ i → Same e e₂ p' p₂ u' u₂
    demands_once i l (at_head x) (at_head y) h k = demand_once i (omega arith) x y h k
    demands_once i l (at_tail x) (at_tail y) h k = demands_once i (omega arith) x y h k
    demands_once i l (at_head x) (at_tail y) h k = absurd (omega (arith, rw h at (demand_calls x), rw k at (demands_call y)))
    demands_once i l (at_tail x) (at_head y) h k = absurd (omega (arith, rw h at (demands_call x), rw k at (demand_calls y)))

  mutual
    unfolding weight weights

    -- child i is not called, or it has a demand
    pub find_demand : {D : ℕ × Q → ℕ → Tree → Type 0} {X : Term (ℕ × Q)} {p : ℕ} {u : Tree} (i : ℕ) → Matched D X p u → (calls i X ≡ 0) ⊎ ((r : Q) × (p' : ℕ) × (u' : Tree) × Demand X p u (i, r) p' u')
    find_demand i (demand {e} {p} {u} d) = by_cases (ℕ_discrete e.0 i) (λ z. inr (e.1, p, u, rw (← z) this)) (λ z. inl (one_if_ne e.0 i z))
    find_demand i (symbol m) = ⊎_elim inl (λ x. inr (x.0, x.1, x.2, inside x.3)) (find_demands i m)

    find_demands : {D : ℕ × Q → ℕ → Tree → Type 0} {X : Terms (ℕ × Q)} {p : ℕ} {u : Terms ⊥} (i : ℕ) → MatchedAll D X p u → (weights (on_child i) X ≡ 0) ⊎ ((r : Q) × (p' : ℕ) × (u' : Tree) × Demands X p u (i, r) p' u')
    find_demands i matched_none = inl refl
    find_demands i (matched_more m ms) = ⊎_elim
        (λ z. ⊎_elim (λ y. inl (omega arith)) (λ x. inr (x.0, x.1, x.2, at_tail x.3)) (find_demands i ms))
        (λ x. inr (x.0, x.1, x.2, at_head x.3))
        (find_demand i m)

mutual
  below_child : {t u v : Tree} {us : Terms ⊥} {k p x : ℕ} → At t p u → u ≡ node k us → Ats us x v → At t (suc p + x) v
  below_child {v} {x} here z b = let e : 1 + x ≡ suc x = omega arith in rw (z, e) (below b)
  below_child {x} (below {p} a) z b = let e : suc (suc p) + x ≡ suc (suc p + x) = omega arith in rw e (below (ats_child a z b))

  ats_child : {ts : Terms ⊥} {u v : Tree} {us : Terms ⊥} {k p x : ℕ} → Ats ts p u → u ≡ node k us → Ats us x v → Ats ts (suc p + x) v
  ats_child (first a) z b = first (below_child a z b)
  ats_child {x} (later {t} {p} {x = y} a e) z b = let h : suc p + x ≡ size t + (suc y + x) = omega arith in later (ats_child a z b) h

-- the subtrees of the children of a subtree are subtrees
pub at_child : {t v : Tree} {us : Terms ⊥} {k p x : ℕ} → At t p (node k us) → Ats us x v → At t (suc p + x) v
at_child a b = below_child a refl b

module _ {Q : Type 0} {D : ℕ × Q → ℕ → Tree → Type 0} (t : Tree) where
  mutual
    -- what is demanded of a subtree of t is a subtree of t
    pub matched_subtrees : {X : Term (ℕ × Q)} {p : ℕ} {u : Tree} → At t p u → Matched D X p u → Matched (λ e p u. D e p u × At t p u) X p u
    matched_subtrees a (demand d) = demand (d, a)
    matched_subtrees a (symbol m) = symbol (matched_all_subtrees (λ x v b. at_child a b) m)

    matched_all_subtrees : {X : Terms (ℕ × Q)} {p : ℕ} {us : Terms ⊥} → ((x : ℕ) (v : Tree) → Ats us x v → At t (p + x) v) → MatchedAll D X p us → MatchedAll (λ e p u. D e p u × At t p u) X p us
    matched_all_subtrees f matched_none = matched_none
    matched_all_subtrees f (matched_more {p} {u} m ms) =
        let e : p + 0 ≡ p = omega arith in
        matched_more (matched_subtrees (rw e at (f 0 u (first here))) m)
        (matched_all_subtrees (λ x v b. let z : p + size u + x ≡ p + (size u + x) = omega arith in rw z (f (size u + x) v (later b refl))) ms)

mutual
  unfolding size

  -- a subtree ends within the tree
  pub at_inside : {t u : Tree} {p : ℕ} → At t p u → p + size u ≤ size t
  at_inside here = omega arith
  at_inside (below a) = omega (arith, ats_inside a)

  pub ats_inside : {ts : Terms ⊥} {u : Tree} {p : ℕ} → Ats ts p u → p + size u ≤ sizes ts
  ats_inside (first a) = omega (arith, at_inside a)
  ats_inside (later a e) = omega (arith, ats_inside a)
