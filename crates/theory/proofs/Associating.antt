-- Joining three transducers either way gives identical transducers: both are the accessible part of one composition, whose states are the triples.
-- Assumes nothing.
use Prim.Native.Nat.{ℕ, suc, ◌<◌}
use native.Mathlib.Decide.{ℕ_discrete}
use native.Mathlib.Omega.{arith}
use mathlib.Core.HLevel.{×_discrete}
use mathlib.Core.List.{List, map}
use mathlib.Core.Option.{some, Option-elim}
use mathlib.Core.Path.{◌≡◌, refl, ap, sym, ◌∙◌}
use lib.ListN.{get_elem?}
use Rattle.theory.specs.Accessible.{Accessible}
use Rattle.theory.specs.Compose.{assoc, compose}
use Rattle.theory.specs.Grammar.{Grammar}
use Rattle.theory.specs.Inner.Closed.{Listed, Closed}
use Rattle.theory.specs.Joined.{OutputsIn, Joined}
use Rattle.theory.specs.NormalForm.{Identical}
use Rattle.theory.specs.OpenTrees.{AllowedOpen, blank, rule_open, AllAllowedOpen, end_open, next_open}
use Rattle.theory.specs.Term.{Term, Terms, var, bind, mapT}
use Rattle.theory.specs.Transducer.{Transducer, run, runs, pick, renamed}
use Rattle.theory.specs.Vars.{AllVars}
use Rattle.theory.specs.Wf.{Wf, nth}
use Rattle.theory.proofs.Accessibility.{accessible_initial, accessible_sort, accessible_rhs, accessible_unique}
use Rattle.theory.proofs.Composition.{compose_wf}
use Rattle.theory.proofs.Discovery.{states_distinct, discovered_closed, distinct_indexes, index_of}
use Rattle.theory.proofs.Identity.{identical_trans}
use Rattle.theory.proofs.Joining.{Pairs, pairs_wf, joined_wf}
use Rattle.theory.proofs.Lists.{get_some}
use Rattle.theory.proofs.Morphism.{Maps, bind_renamed, renamed_id}
use Rattle.theory.proofs.OpenRuns.{run_bind, run_vars}
use Rattle.theory.proofs.Readings.{renamed_twice, renamed_ext, discovered_mapped, listed_identical}
use Rattle.theory.proofs.Runs.{initial_sort}
use Rattle.theory.proofs.Terms.{conflict, bind_bind, bind_cong, bind_map}
use Rattle.theory.proofs.Vars.{bind_ext, all_map}

-- ---- the accessible part, under maps of states
-- A map of states that keeps right-hand sides and sorts, and takes no two valid states to one, keeps the accessible part.
module _ {Q Q' : Type 0} {G : Grammar} {M : Transducer Q} {M' : Transducer Q'} {Valid : Q → Type 0} {f : Q → Q'} (W : Wf G M Valid) (F : Maps G M M' Valid f)
    (same-sort : (q : Q) → Valid q → M'.sort (f q) ≡ M.sort q) (inj : (q r : Q) → Valid q → Valid r → f q ≡ f r → q ≡ r) where
  pub accessible_along : Discrete Q' → {N : Transducer ℕ} {k : ℕ} → Accessible G M N k → Accessible G M' N k
  accessible_along same_state A =
      let d = discovered_mapped W F same-sort inj A.met in
      let I = distinct_indexes same_state (states_distinct d) in
      record { states = map f A.states; number = index_of same_state (map f A.states); numbers = I; met = d; form = identical_trans A.form (listed_identical W F same-sort inj A.met A.numbers d I) }

-- The accessible part N of M maps into M: each of its states is a state of M that is met.
module _ {Q : Type 0} {G : Grammar} {M : Transducer Q} {N : Transducer ℕ} {k : ℕ} (A : Accessible G M N k) (z : Q) where
  -- the p-th state met
  abbrev pub met_at : ℕ → Q
  met_at p = Option-elim (get_elem? A.states p) z (λ q. q)

  met_there : (p : ℕ) → p < k → get_elem? A.states p ≡ some (met_at p)
  unfolding Option-elim
  met_there p h = let x = get_some A.states p (omega (arith, A.form.number)) in x.1 ∙ ap (λ q. some q) (sym (ap (λ o. Option-elim o z (λ q. q)) x.1))

  met_back : {t : Term (ℕ × Q)} → AllVars (λ e. Listed A.states A.number e.1) t → t ≡ renamed met_at (renamed A.number t)
  unfolding Option-elim
  met_back {t} p = sym (renamed_twice A.number met_at t ∙ (renamed_ext (λ q. met_at (A.number q)) (λ q. q) (all_map (λ e x. ap (λ o. Option-elim o z (λ q. q)) x) p) ∙ renamed_id t))

  met_closed : Closed G M A.states A.number
  met_closed = discovered_closed A.numbers A.met

  met_number : (p : ℕ) → p < k → A.number (met_at p) ≡ p
  met_number p h = A.numbers.index p (met_at p) (met_there p h)

  pub met_sort : (p : ℕ) → p < k → M.sort (met_at p) ≡ N.sort p
  met_sort p h = sym (accessible_sort A p (met_there p h))

  pub met_inj : (p q : ℕ) → p < k → q < k → met_at p ≡ met_at q → p ≡ q
  met_inj p q h g e = sym (met_number p h) ∙ (ap A.number e ∙ met_number q g)

  met_rhs : (p a : ℕ) {sorts : List ℕ} → p < k → G.children (N.sort p) a ≡ some sorts → M.rhs (met_at p) a ≡ renamed met_at (N.rhs p a)
  met_rhs p a {sorts} h c =
      let e = met_there p h in
      let c' : G.children (M.sort (met_at p)) a ≡ some sorts = ap (λ s. G.children s a) (met_sort p h) ∙ c in
      met_back (met_closed.rhs (met_at p) a (ap (get_elem? A.states) (met_number p h) ∙ e) c') ∙ ap (renamed met_at) (sym (accessible_rhs A p a e c'))

  pub met_maps : Maps G N M (λ p. p < k) met_at
  met_maps = record { initial = met_back met_closed.initial ∙ ap (renamed met_at) (sym (accessible_initial A)); rhs = λ p a h c. met_rhs p a h c }

-- ---- a map of the first transducer's states
module _ {Q Q' R : Type 0} {G : Grammar} {M : Transducer Q} {M' : Transducer Q'} {Valid : Q → Type 0} {f : Q → Q'} (F : Maps G M M' Valid f) (K : Transducer R) where
  abbrev pub on_first : Q × R → Q' × R
  on_first s = (f s.0, s.1)

  run_first : (t : Term (ℕ × Q)) (r : R) → mapT assoc (run K (renamed f t) r) ≡ renamed on_first (mapT assoc (run K t r))
  unfolding renamed mapT assoc run bind
  run_first t r = ap (mapT assoc) (run_bind K (λ e. var (e.0, f e.1)) t r) ∙ (bind_bind (run K t r) _ _ ∙ sym (bind_bind (run K t r) _ _))

  -- maps the pairs
  pub first_maps : Maps G (compose M K) (compose M' K) (λ s. Valid s.0) on_first
  unfolding compose renamed mapT
  first_maps = record {
    initial = bind_cong K.initial (λ e. ap (λ t. mapT assoc (run K t e.1)) F.initial ∙ run_first M.initial e.1) ∙ sym (bind_bind K.initial _ _);
    rhs = λ s a v c. ap (λ t. mapT assoc (run K t s.1)) (F.rhs s.0 a v c) ∙ run_first (M.rhs s.0 a) s.1;
  }

-- ---- a map of the second transducer's states
module _ {A P P' : Type 0} {H : Grammar} {N : Transducer P} {N' : Transducer P'} {Valid' : P → Type 0} {g : P → P'} {sort_of : A → ℕ} (W' : Wf H N Valid') (F : Maps H N N' Valid' g) where
  mutual
    unfolding run runs pick nth mapT bind

    -- keeps the runs on allowed trees with variables
    run_mapped : {s : ℕ} {t : Term A} → AllowedOpen H sort_of s t → (p : P) → Valid' p → N.sort p ≡ s → run N' t (g p) ≡ mapT (λ e. (e.0, g e.1)) (run N t p)
    run_mapped (blank e) p v z = refl
    run_mapped (rule_open {a} {ds} c oks) p v z =
        let c' = rw (← z) at c in
        ap (λ t. bind t (λ e. pick (runs N' ds) e.0 e.1)) (F.rhs p a v c')
        ∙ (bind_renamed g (N.rhs p a) _ ∙ (bind_ext (all_map (λ e f. picks_mapped oks e.0 e.1 f.valid f.sort) (W'.rhs p a v c')) ∙ sym (bind_bind (N.rhs p a) _ _)))

    picks_mapped : {sorts : List ℕ} {ts : Terms A} → AllAllowedOpen H sort_of sorts ts → (j : ℕ) (p : P) → Valid' p → nth sorts j ≡ some (N.sort p) → pick (runs N' ts) j (g p) ≡ mapT (λ e. (e.0, g e.1)) (pick (runs N ts) j p)
    picks_mapped end_open j p v z = refl
    picks_mapped (next_open ok oks) ℕ.zero p v z = refl
    picks_mapped (next_open {s} ok oks) (suc ℕ.zero) p v z = let e : N.sort p ≡ s = cc in run_mapped ok p v e
    picks_mapped (next_open ok oks) (suc (suc j)) p v z = picks_mapped oks (suc j) p v z

module _ {Q P P' : Type 0} {G H : Grammar} {M : Transducer Q} {N : Transducer P} {N' : Transducer P'} {Valid : Q → Type 0} {Valid' : P → Type 0} {out : Q → ℕ} {g : P → P'}
    (W : Wf G M Valid) (W' : Wf H N Valid') (O : OutputsIn G H M Valid out) (F : Maps H N N' Valid' g) where
  abbrev pub on_second : Q × P → Q × P'
  on_second s = (s.0, g s.1)

  run_second : {s : ℕ} {t : Term (ℕ × Q)} → AllowedOpen H (λ e. out e.1) s t → (p : P) → Valid' p → N.sort p ≡ s → mapT assoc (run N' t (g p)) ≡ renamed on_second (mapT assoc (run N t p))
  unfolding renamed mapT assoc bind
  run_second {t = t} ok p v z = ap (mapT assoc) (run_mapped W' F ok p v z) ∙ (bind_bind (run N t p) _ _ ∙ sym (bind_bind (run N t p) _ _))

  -- and maps the pairs
  pub second_maps : Maps G (compose M N) (compose M N') (Pairs W O W') on_second
  unfolding compose renamed mapT
  second_maps = record {
    initial = ap (λ t. bind t (λ e. mapT assoc (run N' M.initial e.1))) F.initial
        ∙ (bind_renamed g N.initial _ ∙ (bind_ext (all_map (λ e y. run_second O.initial e.1 y.0 (sym y.1)) (initial_sort N W')) ∙ sym (bind_bind N.initial _ _)));
    rhs = λ s a v c. run_second (O.rhs s.0 a v.0 c) s.1 v.1 (sym v.2);
  }

-- ---- three transducers
-- the call of q on x, met by state r, is the call of (q, r) on x; and a triple, grouped the other way
abbrev inward : {X P R : Type 0} → (X × P) × R → X × (P × R)
inward e = (e.0.0, (e.0.1, e.1))

module _ {A P R : Type 0} {H : Grammar} {N : Transducer P} {Valid' : P → Type 0} {sort_of : A → ℕ} (W' : Wf H N Valid') (K : Transducer R) where
  mutual
    unfolding run runs pick nth mapT bind compose assoc

    -- a pair runs, on an allowed tree with variables, as the second state after the first
    run_after : {s : ℕ} {t : Term A} → AllowedOpen H sort_of s t → (p : P) → Valid' p → N.sort p ≡ s → (r : R) → run (compose N K) t (p, r) ≡ mapT inward (run K (run N t p) r)
    run_after (blank e) p v z r = refl
    run_after (rule_open {a} {ds} c oks) p v z r =
        let c' = rw (← z) at c in
        bind_map assoc (run K (N.rhs p a) r) (λ e. pick (runs (compose N K) ds) e.0 e.1)
        ∙ (bind_ext (all_map (λ e f. picks_after oks e.0.0 e.0.1 f.valid f.sort e.1) (run_vars K (W'.rhs p a v c') r))
        ∙ (sym (bind_bind (run K (N.rhs p a) r) _ _) ∙ ap (mapT inward) (sym (run_bind K (λ e. pick (runs N ds) e.0 e.1) (N.rhs p a) r))))

    picks_after : {sorts : List ℕ} {ts : Terms A} → AllAllowedOpen H sort_of sorts ts → (j : ℕ) (p : P) → Valid' p → nth sorts j ≡ some (N.sort p) → (r : R) → pick (runs (compose N K) ts) j (p, r) ≡ mapT inward (run K (pick (runs N ts) j p) r)
    picks_after end_open j p v z r = conflict (cc)
    picks_after (next_open ok oks) ℕ.zero p v z r = conflict (cc)
    picks_after (next_open {s} ok oks) (suc ℕ.zero) p v z r = let e : N.sort p ≡ s = cc in run_after ok p v e r
    picks_after (next_open ok oks) (suc (suc j)) p v z r = picks_after oks (suc j) p v z r

module _ {Q P R : Type 0} {G H : Grammar} {M : Transducer Q} {N : Transducer P} {Valid : Q → Type 0} {Valid' : P → Type 0} {out : Q → ℕ} (W : Wf G M Valid) (W' : Wf H N Valid') (O : OutputsIn G H M Valid out) (K : Transducer R) where
  run_triple : {s : ℕ} {t : Term (ℕ × Q)} → AllowedOpen H (λ e. out e.1) s t → (p : P) → Valid' p → N.sort p ≡ s → (r : R) → mapT assoc (run (compose N K) t (p, r)) ≡ renamed inward (mapT assoc (run K (mapT assoc (run N t p)) r))
  unfolding renamed mapT assoc run bind
  run_triple {t = t} ok p v z r =
      let u = run K (run N t p) r in
      ap (mapT assoc) (run_after W' K ok p v z r) ∙ (bind_bind u _ _
      ∙ sym (ap (λ x. renamed inward (mapT assoc x)) (run_bind K (λ e. var (assoc e)) (run N t p) r) ∙ (ap (renamed inward) (bind_bind u _ _) ∙ bind_bind u _ _)))

  -- the triples, grouped either way
  pub triple_maps : Maps G (compose (compose M N) K) (compose M (compose N K)) (λ s. Pairs W O W' s.0) inward
  unfolding compose renamed mapT assoc
  triple_maps = record {
    initial = bind_bind K.initial _ _ ∙ (bind_cong K.initial (λ e.
        bind_map assoc (run K N.initial e.1) (λ x. mapT assoc (run (compose N K) M.initial x.1))
        ∙ (bind_ext (all_map (λ x y. run_triple O.initial x.0.1 y.0 (sym y.1) x.1) (run_vars K (initial_sort N W') e.1))
        ∙ sym (ap (λ x. renamed inward (mapT assoc x)) (run_bind K (λ x. mapT assoc (run N M.initial x.1)) N.initial e.1) ∙ (ap (renamed inward) (bind_bind (run K N.initial e.1) _ _) ∙ bind_bind (run K N.initial e.1) _ _))))
        ∙ sym (bind_bind K.initial _ _));
    rhs = λ s a v c. run_triple (O.rhs s.0.0 a v.0 c) s.0.1 v.1 (sym v.2) s.1;
  }

triples : Discrete (ℕ × (ℕ × ℕ))
triples = ×_discrete ℕ_discrete (×_discrete ℕ_discrete ℕ_discrete)

-- Joining three transducers either way gives identical transducers.
module _ {G H : Grammar} {M N : Transducer ℕ} {n m : ℕ} {out : ℕ → ℕ} (W : Wf G M (λ q. q < n)) (W' : Wf H N (λ p. p < m)) (O : OutputsIn G H M (λ q. q < n) out) (K : Transducer ℕ)
    {MN MN-K NK M-NK : Transducer ℕ} {i j k l : ℕ} (A : Joined G M N MN i) (B : Joined G MN K MN-K j) (C : Joined H N K NK k) (D : Joined G M NK M-NK l) where
  left_pairs : Joined G (compose M N) K MN-K j
  unfolding compose
  left_pairs = accessible_along (compose_wf (joined_wf W N A) K) (first_maps (met_maps A (0, 0)) K) (λ s v. met_sort A (0, 0) s.0 v)
      (λ s s' v v' e. let x : s.0 ≡ s'.0 = met_inj A (0, 0) s.0 s'.0 v v' (ap (λ y. y.0) e) in let y : s.1 ≡ s'.1 = ap (λ y. y.1) e in λ ι. (x ι, y ι)) (×_discrete (×_discrete ℕ_discrete ℕ_discrete) ℕ_discrete) B

  left : Joined G M (compose N K) MN-K j
  unfolding compose
  left = accessible_along (compose_wf (pairs_wf W O W') K) (triple_maps W W' O K) (λ s v. refl) (λ s s' v v' e. ap (λ y. ((y.0, y.1.0), y.1.1)) e) triples left_pairs

  right : Joined G M (compose N K) M-NK l
  unfolding compose
  right =
      let U = joined_wf W' K C in
      accessible_along (pairs_wf W O U) (second_maps W U O (met_maps C (0, 0))) (λ s v. refl)
      (λ s s' v v' e. let x : s.0 ≡ s'.0 = ap (λ y. y.0) e in let y : s.1 ≡ s'.1 = met_inj C (0, 0) s.1 s'.1 v.1 v'.1 (ap (λ y. y.1) e) in λ ι. (x ι, y ι)) triples D

  pub joined_assoc_one : Identical G MN-K M-NK j l
  joined_assoc_one = accessible_unique (compose_wf W (compose N K)) left right
