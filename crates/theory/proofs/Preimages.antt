-- Which pairs of a state and a tree are made: by a right-hand side that matches, whose demands are made; a table of marked pairs that is justified and saturated has just these.
use Prim.Native.Nat.{ℕ, suc, ◌+◌, ◌≤◌, ◌<◌}
use native.Mathlib.Omega.{arith}
use mathlib.Core.Path.{◌≡◌, refl, ap, sym, ◌∙◌}
use mathlib.Core.Logic.{◌⊎◌, ⊎_elim, ◌↔◌}
use mathlib.Core.List.{List, [], ◌∷◌}
use mathlib.Core.Option.{some}
use Rattle.theory.specs.Grammar.{Grammar, Allowed, rule, AllAllowed, end, next}
use Rattle.theory.specs.Inner.Leaves.{leaf_of}
use Rattle.theory.specs.Inner.Nodes.{child_at}
use Rattle.theory.specs.Linear.{Once}
use Rattle.theory.specs.Matched.{At, here, Matched, Demand, Child, called, idle, Children, no_child, one_child, Chosen, Justified, Saturated}
use Rattle.theory.specs.Preimage.{Preimage, Makes, Made}
use Rattle.theory.specs.Size.{size, sizes}
use Rattle.theory.specs.Term.{Term, node, Terms, none, more, Tree}
use Rattle.theory.specs.Transducer.{Transducer, output, translate}
use Rattle.theory.specs.Vars.{AllVars}
use Rattle.theory.specs.Weight.{calls}
use Rattle.theory.specs.Wf.{Wf, nth}
use Rattle.theory.proofs.Demands.{matched_map, matched_by, matched_at, matched_vars, bind_matched, matched_bind, demand_calls, demand_once, find_demand, matched_subtrees, calls_at}
use Rattle.theory.proofs.Leaves.{leaf_allowed}
use Rattle.theory.proofs.Runs.{call, fill, output_node, call_at, by_tree, translate_fill, initial_sort}
use Rattle.theory.proofs.Terms.{conflict}
use Rattle.theory.proofs.Vars.{all_map, all_at, at_all, bind_ext}

module _ {Q : Type 0} {G : Grammar} {X : Term (ℕ × Q)} {p : ℕ} {u : Tree} where
  module _ {B C : Q → ℕ → Tree → Tree → Type 0} (f : (r : Q) (p : ℕ) (u d : Tree) → B r p u d → C r p u d) where
    pub child_map : {i s : ℕ} {d : Tree} → Child G B X p u i s d → Child G C X p u i s d
    child_map (called x b) = called x (f _ _ _ _ b)
    child_map (idle z e) = idle z e

    -- what follows from B of each child
    pub children_map : {i : ℕ} {sorts : List ℕ} {ds : Terms ⊥} → Children G B X p u i sorts ds → Children G C X p u i sorts ds
    children_map no_child = no_child
    children_map (one_child c cs) = one_child (child_map c) (children_map cs)

  module _ {B : Q → ℕ → Tree → Tree → Type 0} where
    -- child k is there
    pub children_at : {i s : ℕ} {sorts : List ℕ} {ds : Terms ⊥} → Children G B X p u i sorts ds → (j k : ℕ) → suc k ≡ i + j → nth sorts j ≡ some s → (d : Tree) × (child_at ds j ≡ some d) × Child G B X p u k s d
    unfolding nth child_at
    children_at no_child j k n e = conflict (cc)
    children_at (one_child c cs) ℕ.zero k n e = conflict (cc)
    children_at {s} (one_child {i} {s = s'} {d} c cs) (suc ℕ.zero) k n e = let h : s ≡ s' = cc in let z : k ≡ i = omega arith in (d, refl, rw (h, z) c)
    children_at (one_child c cs) (suc (suc j)) k n e = children_at cs (suc j) k (omega arith) e

    -- where every demand has a tree, there are children
    pub children_exist : Matched (λ e p u. (d : Tree) × B e.1 p u d) X p u → (i : ℕ) (sorts : List ℕ) → (ds : Terms ⊥) × Children G B X p u i sorts ds
    children_exist m i [] = (none, no_child)
    children_exist m i (s ∷ sorts) =
        let rest = children_exist m (suc i) sorts in
        let c : (d : Tree) × Child G B X p u i s d = ⊎_elim (λ z. (leaf_of G s, idle z refl)) (λ x. let b = matched_at m x.3 in (b.0, called x.3 b.1)) (find_demand i m) in
        (more c.0 rest.0, one_child c.1 rest.1)

module _ {Q : Type 0} {G : Grammar} (M : Transducer Q) {X : Term (ℕ × Q)} {p : ℕ} {u : Tree} where
  child_gives : {p' s : ℕ} {u' d : Tree} {e : ℕ × Q} → Once X → Demand X p u e p' u' → Child G (λ r p u d. Makes G M r u d) X p u e.0 s d → output M d e.1 ≡ u'
  child_gives {d} {e} once x (called y b) = let s = demand_once e.0 (once e.0) x y refl refl in ap (output M d) s.state ∙ (b.gives ∙ sym s.tree)
  child_gives once x (idle z h) = absurd (omega (arith, demand_calls x))

  -- with children for its demands, a linear term becomes the tree that it matches
  pub children_fill : {D : ℕ × Q → ℕ → Tree → Type 0} {sorts : List ℕ} {ds : Terms ⊥} → Once X → AllVars (λ e. nth sorts e.0 ≡ some (M.sort e.1)) X → Matched D X p u → Children G (λ r p u d. Makes G M r u d) X p u 1 sorts ds → fill M ds X ≡ u
  children_fill {ds} once fits m cs = matched_bind (call M ds) (matched_by m (λ e p' u' x.
      let c = children_at cs e.0 e.0 (omega arith) (matched_at (matched_vars fits m) x).1 in
      call_at M ds e.0 e.1 c.1 ∙ child_gives once x c.2))

  child_allowed : {i s : ℕ} {d : Tree} → ((r : Q) (p' : ℕ) (u' : Tree) → Demand X p u (i, r) p' u' → M.sort r ≡ s) → Child G (λ r p u d. Makes G M r u d) X p u i s d → Allowed G s d
  child_allowed f (called {r} {p'} {u'} x b) = rw (f r p' u' x) at b.allowed
  child_allowed {s} f (idle z h) = rw h (leaf_allowed G s)

  children_allowed_from : {i : ℕ} {sorts : List ℕ} {ds : Terms ⊥} → Children G (λ r p u d. Makes G M r u d) X p u i sorts ds
      → ((j s : ℕ) → nth sorts (suc j) ≡ some s → (r : Q) (p' : ℕ) (u' : Tree) → Demand X p u (i + j, r) p' u' → M.sort r ≡ s) → AllAllowed G sorts ds
  unfolding nth
  children_allowed_from no_child f = end
  children_allowed_from (one_child {i} {s} c cs) f = next
      (child_allowed (λ r p' u' x. let z : i ≡ i + 0 = omega arith in f 0 s refl r p' u' (rw z at x)) c)
      (children_allowed_from cs (λ j t e r p' u' x. let z : suc i + j ≡ i + suc j = omega arith in f (suc j) t e r p' u' (rw z at x)))

  -- children for the demands of calls that fit are allowed
  pub children_allowed : {D : ℕ × Q → ℕ → Tree → Type 0} {sorts : List ℕ} {ds : Terms ⊥} → AllVars (λ e. nth sorts e.0 ≡ some (M.sort e.1)) X → Matched D X p u → Children G (λ r p u d. Makes G M r u d) X p u 1 sorts ds → AllAllowed G sorts ds
  children_allowed {sorts} fits m cs = children_allowed_from cs (λ j s e r p' u' x.
      let z : 1 + j ≡ suc j = omega arith in
      let h : nth sorts (1 + j) ≡ some (M.sort r) = (matched_at (matched_vars fits m) x).1 in
      let g : nth sorts (1 + j) ≡ some s = ap (nth sorts) z ∙ e in
      cc)

-- a child of the sort that its symbol gives it
allowed_at : {G : Grammar} {sorts : List ℕ} {s : ℕ} {ds : Terms ⊥} → AllAllowed G sorts ds → (i : ℕ) → nth sorts i ≡ some s → (d : Tree) × (child_at ds i ≡ some d) × Allowed G s d
unfolding nth child_at
allowed_at end i e = conflict (cc)
allowed_at (next ok oks) ℕ.zero e = conflict (cc)
allowed_at {s} (next {s = r} {d} ok oks) (suc ℕ.zero) e = let h : r ≡ s = cc in (d, refl, rw h at ok)
allowed_at (next ok oks) (suc (suc i)) e = allowed_at oks (suc i) e

only_child : {y : ℕ} (i : ℕ) → nth (0 ∷ []) i ≡ some y → i ≡ 1
unfolding nth
only_child ℕ.zero e = conflict (cc)
only_child (suc ℕ.zero) e = refl
only_child (suc (suc i)) e = conflict (cc)

child_smaller : {d : Tree} (ds : Terms ⊥) (i : ℕ) → child_at ds i ≡ some d → size d ≤ sizes ds
unfolding child_at size
child_smaller none i e = conflict (cc)
child_smaller (more d ds) ℕ.zero e = conflict (cc)
child_smaller {d} (more d' ds) (suc ℕ.zero) e = let h : d' ≡ d = cc in omega (arith, ap size h)
child_smaller (more d ds) (suc (suc i)) e = omega (arith, child_smaller ds (suc i) e)

module _ {Q : Type 0} {G : Grammar} {M : Transducer Q} {Valid : Q → Type 0} (W : Wf G M Valid) where
  rhs_fits : (q : Q) (a : ℕ) {sorts : List ℕ} → Valid q → G.children (M.sort q) a ≡ some sorts → AllVars (λ e. nth sorts e.0 ≡ some (M.sort e.1)) (M.rhs q a)
  rhs_fits q a v k = all_map (λ e f. f.sort) (W.rhs q a v k)

  -- Soundness, the step of a program that builds the input tree: with children for the demands of a right-hand side that matches u, q makes u.
  pub makes_step : {D : ℕ × Q → ℕ → Tree → Type 0} {q : Q} {a p : ℕ} {u : Tree} {sorts : List ℕ} {ds : Terms ⊥} → Valid q → G.children (M.sort q) a ≡ some sorts → Once (M.rhs q a) → Matched D (M.rhs q a) p u
      → Children G (λ r p u d. Makes G M r u d) (M.rhs q a) p u 1 sorts ds → Makes G M q u (node a ds)
  makes_step {q} {a} {ds} v k once m cs = record { allowed = rule k (children_allowed M (rhs_fits q a v k) m cs); gives = output_node M q a ds ∙ children_fill M once (rhs_fits q a v k) m cs }

  -- Soundness: if a right-hand side matches u, and every pair demanded is made, so is the pair.
  pub made_sound : {q : Q} {a p : ℕ} {u : Tree} {sorts : List ℕ} → Valid q → G.children (M.sort q) a ≡ some sorts → Once (M.rhs q a) → Matched (λ e p u. Made G M e.1 u) (M.rhs q a) p u → Made G M q u
  made_sound {a} {sorts} v k once m = let c = children_exist {B = λ r p u d. Makes G M r u d} m 1 sorts in (node a c.0, makes_step v k once m c.1)

  -- Completeness: of a(ds) q makes what its right-hand side for a matches; the pairs demanded are made of the children.
  pub made_complete : {q : Q} {a : ℕ} {sorts : List ℕ} {ds : Terms ⊥} {u : Tree} (p : ℕ) → Valid q → G.children (M.sort q) a ≡ some sorts → AllAllowed G sorts ds → output M (node a ds) q ≡ u
      → Matched (λ e p' u'. (d : Tree) × (child_at ds e.0 ≡ some d) × (size d < size (node a ds)) × Makes G M e.1 u' d) (M.rhs q a) p u
  unfolding size
  made_complete {q} {a} {ds} p v k oks h = rw (← h, output_node M q a ds) (matched_map (λ e p' u' x.
      let c = allowed_at oks e.0 x.1 in
      (c.0, c.1, omega (arith, child_smaller ds e.0 c.1), record { allowed = c.2; gives = sym (call_at M ds e.0 e.1 c.1) ∙ x.0 }))
      (matched_vars (rhs_fits q a v k) (bind_matched (call M ds) (M.rhs q a) p)))

  -- A saturated table has every pair that is made.
  pub saturated_made : {t : Tree} {Marked : Q → ℕ → Type 0} → Saturated G M Valid t Marked → {q : Q} {p : ℕ} {u : Tree} → Valid q → At t p u → Made G M q u → Marked q p
  saturated_made {t} {Marked} S {q} {p} {u} v a (d, m) = by_tree W (λ q d. (p : ℕ) (u : Tree) → At t p u → output M d q ≡ u → Marked q p) (λ q a sorts ds v k h p u at e.
      S q p u a sorts v at k (matched_map (λ x p' u' y. y.1.holds p' u' y.0.1 (sym (call_at M ds x.0 x.1 y.1.found) ∙ y.0.0)) (matched_vars h (matched_subtrees t at (rw (← e, output_node M q a ds) (bind_matched (call M ds) (M.rhs q a) p))))))
      q v m.allowed p u a m.gives

  module _ (linear : (q : Q) (a : ℕ) (sorts : List ℕ) → Valid q → G.children (M.sort q) a ≡ some sorts → Once (M.rhs q a)) where
    justified_below : {t : Tree} {Marked : Q → ℕ → Type 0} {symbol_of rank : Q → ℕ → ℕ} → Justified G M Valid t Marked symbol_of rank
        → (k : ℕ) (q : Q) (p : ℕ) (u : Tree) → rank q p < k → Valid q → At t p u → Marked q p → Made G M q u
    justified_below J ℕ.zero q p u l v a m = absurd (omega arith)
    justified_below {t} J (suc k) q p u l v a m =
        let c = J q p u v a m in
        made_sound v c.allowed (linear q _ _ v c.allowed)
        (matched_map (λ e p' u' x. justified_below J k e.1 p' u' (omega (arith, x.0.0.1)) x.1.valid x.0.1 x.0.0.0) (matched_vars (W.rhs q _ v c.allowed) (matched_subtrees t a c.matched)))

    -- A justified table has only pairs that are made.
    pub justified_made : {t : Tree} {Marked : Q → ℕ → Type 0} {symbol_of rank : Q → ℕ → ℕ} → Justified G M Valid t Marked symbol_of rank → {q : Q} {p : ℕ} {u : Tree} → Valid q → At t p u → Marked q p → Made G M q u
    justified_made {rank = rank} J {q} {p} {u} v a m = justified_below J (suc (rank q p)) q p u (omega arith) v a m

    -- A table that is justified and saturated has just the pairs that are made.
    pub table_exact : {t : Tree} {Marked : Q → ℕ → Type 0} {symbol_of rank : Q → ℕ → ℕ} → Justified G M Valid t Marked symbol_of rank → Saturated G M Valid t Marked → {q : Q} {p : ℕ} {u : Tree} → Valid q → At t p u → Marked q p ↔ Made G M q u
    table_exact J S v a = (λ m. justified_made J v a m, λ m. saturated_made S v a m)

  initial_fits : AllVars (λ e. nth (0 ∷ []) e.0 ≡ some (M.sort e.1)) M.initial
  initial_fits = all_map (λ e f. f.sort) W.initial

  -- the input tree, where the initial term matches: it is the tree for the demand of the one call, or a leaf
  pub preimage_step : {D : ℕ × Q → ℕ → Tree → Type 0} {t d : Tree} → Once M.initial → Matched D M.initial 0 t → Child G (λ r p u d. Makes G M r u d) M.initial 0 t 1 0 d → Preimage G M t d
  preimage_step {t} {d} once m c =
      let cs : Children G (λ r p u d. Makes G M r u d) M.initial 0 t 1 (0 ∷ []) (more d none) = one_child c no_child in
      record { allowed = only (children_allowed M initial_fits m cs); gives = translate_fill M W d ∙ children_fill M once initial_fits m cs }
    where
      only : {s : ℕ} {d : Tree} → AllAllowed G (s ∷ []) (more d none) → Allowed G s d
      only (next ok oks) = ok

  -- A saturated table has the demands of the initial term, if t has an input tree.
  pub preimage_marked : {t d : Tree} {Marked : Q → ℕ → Type 0} → Saturated G M Valid t Marked → Preimage G M t d → Matched (λ e p u. Marked e.1 p) M.initial 0 t
  unfolding translate
  preimage_marked {t} {d} S i = matched_map (λ e p u x. saturated_made S x.1.0 x.0.1 (d, record { allowed = rw x.1.1 at i.allowed; gives = x.0.0 }))
      (matched_vars (initial_sort M W) (matched_subtrees t here (rw (← i.gives) (bind_matched (λ e. output M d e.1) M.initial 0))))

  -- The verdict: t has an input tree exactly if the initial term matches it and its demands are marked.
  pub preimage_exact : {t : Tree} {Marked : Q → ℕ → Type 0} {symbol_of rank : Q → ℕ → ℕ} → ((q : Q) (a : ℕ) (sorts : List ℕ) → Valid q → G.children (M.sort q) a ≡ some sorts → Once (M.rhs q a)) → Once M.initial
      → Justified G M Valid t Marked symbol_of rank → Saturated G M Valid t Marked → ((d : Tree) × Preimage G M t d) ↔ Matched (λ e p u. Marked e.1 p) M.initial 0 t
  preimage_exact {t} linear once J S = (
    λ i. preimage_marked S i.1,
    λ m.
        let m' = matched_map (λ e p u x. justified_made linear J x.1.valid x.0.1 x.0.0) (matched_vars W.initial (matched_subtrees t here m)) in
        sole (children_exist {B = λ r p u d. Makes G M r u d} m' 1 (0 ∷ [])) (λ d c. (d, preimage_step once m c)),
  )
    where
      sole : {R : Type 0} → (ds : Terms ⊥) × Children G (λ r p u d. Makes G M r u d) M.initial 0 t 1 (0 ∷ []) ds → ((d : Tree) → Child G (λ r p u d. Makes G M r u d) M.initial 0 t 1 0 d → R) → R
      sole (ds, one_child c no_child) f = f _ c

  -- if the initial term calls nothing, every input tree has the same output
  pub no_call_same : (d d' : Tree) → calls 1 M.initial ≡ 0 → translate M d ≡ translate M d'
  unfolding translate
  no_call_same d d' z = bind_ext (at_all M.initial (λ v e s. let l = calls_at M.initial v s in let h = only_child e.0 (all_at initial_fits v s) in let l' = rw h at l in absurd (omega arith)))

-- To mark one more pair keeps a table justified: q at p with symbol a, whose demands were marked and have lower ranks.
pub justified_mark : {Q : Type 0} {G : Grammar} {M : Transducer Q} {Valid : Q → Type 0} {t : Tree} {Marked Marked' : Q → ℕ → Type 0} {symbol_of symbolOf' rank rank' : Q → ℕ → ℕ} {sorts : List ℕ} (q : Q) (p a : ℕ)
    → Justified G M Valid t Marked symbol_of rank → ((r : Q) (x : ℕ) → Marked r x → Marked' r x × (rank' r x ≡ rank r x))
    → ((r : Q) (x : ℕ) → Marked' r x → (Marked r x × (symbolOf' r x ≡ symbol_of r x)) ⊎ ((r ≡ q) × (x ≡ p))) → symbolOf' q p ≡ a → G.children (M.sort q) a ≡ some sorts
    → ((u : Tree) → At t p u → Matched (λ e p' u'. Marked e.1 p' × (rank e.1 p' < rank' q p)) (M.rhs q a) p u) → Justified G M Valid t Marked' symbolOf' rank'
justified_mark {G = G} {M} {Marked = Marked} {Marked'} {symbol_of} {symbolOf'} {rank} {rank'} {sorts} q p a J keep only is-a k m r x u v at mk = ⊎_elim
    (λ old.
    let c = J r x u v at old.0 in
    record { sorts = c.sorts; allowed = rw old.1 c.allowed; matched = rw old.1 (matched_map (λ e p' u' y. let h = keep e.1 p' y.0 in (h.0, omega (arith, y.1, h.1, (keep r x old.0).1))) c.matched) })
    (λ new.
    let c : Chosen G M Marked' symbolOf' rank' q p u = record { sorts = sorts; allowed = rw is-a k; matched = rw is-a (matched_map (λ e p' u' y. let h = keep e.1 p' y.0 in (h.0, omega (arith, y.1, h.1))) (m u (rw new.1 at at))) } in
    rw (new.0, new.1) c)
    (only r x mk)
