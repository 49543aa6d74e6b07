-- Joined transducers: what the first gives is allowed for the second; the pairs that are met; joining three either way.
use Prim.Native.Nat.{ℕ, suc, ◌<◌, ◌≤◌}
use native.Mathlib.Decide.{ℕ_discrete}
use native.Mathlib.Omega.{arith}
use mathlib.Core.Path.{◌≡◌, refl, ap, sym, ◌∙◌}
use mathlib.Core.HLevel.{×_discrete}
use mathlib.Core.List.{List}
use mathlib.Core.Option.{some}
use lib.ListN.{get_elem?, length}
use Rattle.theory.specs.Accessible.{coded}
use Rattle.theory.specs.Compose.{assoc, compose}
use Rattle.theory.specs.Discovered.{ReadRhs, ReadStates, Discovered}
use Rattle.theory.specs.Equivalent.{Equivalent}
use Rattle.theory.specs.Grammar.{Grammar, Allowed, rule, AllAllowed, end, next}
use Rattle.theory.specs.Inner.Follows.{Follows}
use Rattle.theory.specs.Inner.PairCodes.{pair_code, pair_name}
use Rattle.theory.specs.Joined.{OutputsIn, Joined}
use Rattle.theory.specs.Listing.{Indexes, listed}
use Rattle.theory.specs.NormalForm.{Identical}
use Rattle.theory.specs.OpenTrees.{AllowedOpen, blank, rule_open, AllAllowedOpen, end_open, next_open}
use Rattle.theory.specs.Term.{Term, Terms, Tree, bind, binds, mapT}
use Rattle.theory.specs.Transducer.{Transducer, output, translate, run, runs, pick, renamed}
use Rattle.theory.specs.Vars.{AllVars, one, each, EachVars, done, both}
use Rattle.theory.specs.Wf.{Wf, Fits, nth}
use Rattle.theory.proofs.Accessibility.{accessible_initial, accessible_rhs, accessible_equivalent, accessible_wf, accessible_same, coded_accessible, coded_follows_stage, coded_follows_states, pair_back}
use Rattle.theory.proofs.Composition.{compose_translate, compose_wf}
use Rattle.theory.proofs.Listings.{all_both}
use Rattle.theory.proofs.Morphism.{Maps, renamed_id}
use Rattle.theory.proofs.OpenRuns.{run_vars, run_fits, all_bind}
use Rattle.theory.proofs.Runs.{by_output, initial_sort}
use Rattle.theory.proofs.Vars.{all_map, bind_ext}

module _ {A : Type 0} {H : Grammar} {sort_of : A → ℕ} {f : A → Tree} where
  mutual
    unfolding bind binds

    -- t[f] is allowed if t is, and each f x is at the sort of x, for the variables x of t
    pub open_bind : {s : ℕ} {t : Term A} → AllowedOpen H sort_of s t → AllVars (λ x. Allowed H (sort_of x) (f x)) t → Allowed H s (bind t f)
    open_bind (blank e) (one ok) = rw e at ok
    open_bind (rule_open k oks) (each ps) = rule k (opens_bind oks ps)

    opens_bind : {sorts : List ℕ} {ts : Terms A} → AllAllowedOpen H sort_of sorts ts → EachVars (λ x. Allowed H (sort_of x) (f x)) ts → AllAllowed H sorts (binds ts f)
    opens_bind end_open done = end
    opens_bind (next_open ok oks) (both p ps) = next (open_bind ok p) (opens_bind oks ps)

module _ {Q : Type 0} {G H : Grammar} {M : Transducer Q} {Valid : Q → Type 0} {out : Q → ℕ} (W : Wf G M Valid) (O : OutputsIn G H M Valid out) where
  -- what q gives is a tree of H, of the sort out q
  pub output_allowed : {d : Tree} (q : Q) → Valid q → Allowed G (M.sort q) d → Allowed H (out q) (output M d q)
  output_allowed {d} = by_output W (λ q t. Allowed H (out q) t) (λ q a sorts f v c ps. open_bind (O.rhs q a v c) ps) d

  -- what M gives is a tree of H
  pub translate_allowed : {d : Tree} → Allowed G 0 d → Allowed H 0 (translate M d)
  unfolding translate
  translate_allowed ok = open_bind O.initial (all_map (λ e p. output_allowed e.1 p.0 (rw p.1 at ok)) (initial_sort M W))

  module _ {P : Type 0} {N : Transducer P} {Valid' : P → Type 0} (W' : Wf H N Valid') where
    -- the pairs of a valid state of M and a valid state of N that reads what the first gives
    abbrev pub Pairs : Q × P → Type 0
    Pairs s = Valid s.0 × Valid' s.1 × (out s.0 ≡ N.sort s.1)

    pair_fits : {sorts : List ℕ} {t : Term (ℕ × Q)} {p : P} → AllVars (Fits M Valid sorts) t → AllowedOpen H (λ e. out e.1) (N.sort p) t → Valid' p → AllVars (Fits (compose M N) Pairs sorts) (mapT assoc (run N t p))
    unfolding compose assoc mapT
    pair_fits {p} f ok v = all_bind (all_map (λ x y. one (record { valid = (y.0.valid, y.1.0, y.1.1); sort = y.0.sort })) (all_both (run_vars N f p) (run_fits W' ok p v refl)))

    -- The composition is well-formed on these pairs.
    pub pairs_wf : Wf G (compose M N) Pairs
    unfolding compose
    pairs_wf = record {
      initial = all_bind (all_map (λ e y. pair_fits W.initial (rw y.1 at O.initial) y.0) (initial_sort N W'));
      rhs = λ s a v c. pair_fits (W.rhs s.0 a v.0 c) (rw v.2 at (O.rhs s.0 a v.0 c)) v.1;
    }

module _ {Q P : Type 0} {G : Grammar} {M : Transducer Q} {Valid : Q → Type 0} (W : Wf G M Valid) (N : Transducer P) {J : Transducer ℕ} {k : ℕ} (A : Joined G M N J k) where
  -- The joined transducer translates as the second after the first.
  pub joined_translate : {d : Tree} → Allowed G 0 d → translate J d ≡ translate N (translate M d)
  joined_translate {d} ok = sym ((accessible_equivalent (compose_wf W N) A).translation d ok) ∙ compose_translate W N ok

  -- It is well-formed.
  pub joined_wf : Wf G J (λ p. p < k)
  joined_wf = accessible_wf (compose_wf W N) A

module _ {Q P : Type 0} {G : Grammar} (M : Transducer Q) (N : Transducer P) {J : Transducer ℕ} {k : ℕ} (A : Joined G M N J k) where
  -- the joined initial term: what the initial term of N gives on that of M
  pub joined_initial : J.initial ≡ renamed A.number (bind N.initial (λ e. mapT assoc (run N M.initial e.1)))
  unfolding compose
  joined_initial = accessible_initial A

  -- the right-hand side of a pair: what the state of N gives on the right-hand side of the state of M
  pub joined_rhs : {q : Q} {p : P} {sorts : List ℕ} (j a : ℕ) → get_elem? A.states j ≡ some (q, p) → G.children (M.sort q) a ≡ some sorts → J.rhs j a ≡ renamed A.number (mapT assoc (run N (M.rhs q a) p))
  unfolding compose
  joined_rhs j a e c = accessible_rhs A j a e c

module _ {Q P R : Type 0} {G H : Grammar} {M : Transducer Q} {N : Transducer P} {Valid : Q → Type 0} {Valid' : P → Type 0} {out : Q → ℕ} (W : Wf G M Valid) (W' : Wf H N Valid') (O : OutputsIn G H M Valid out) (K : Transducer R) where
  -- Composition is associative, up to equivalence.
  pub compose_assoc : Equivalent G (compose (compose M N) K) (compose M (compose N K))
  compose_assoc = record {
    translation = λ d ok.
        compose_translate (compose_wf W N) K ok ∙ (ap (translate K) (compose_translate W N ok)
        ∙ sym (compose_translate W (compose N K) ok ∙ compose_translate W' K (translate_allowed W O ok)));
  }

  -- Joining three either way gives equivalent transducers.
  pub joined_assoc : {MN MN-K NK M-NK : Transducer ℕ} {i j k l : ℕ} → Joined G M N MN i → Joined G MN K MN-K j → Joined H N K NK k → Joined G M NK M-NK l → Equivalent G MN-K M-NK
  joined_assoc {NK = NK} A B C D = record {
    translation = λ d ok.
        joined_translate (joined_wf W N A) K B ok ∙ (ap (translate K) (joined_translate W N A ok)
        ∙ sym (joined_translate W NK D ok ∙ joined_translate W' K C (translate_allowed W O ok)));
  }

-- N and N' are one transducer, as far as the states below m go: they run alike on allowed trees with variables.
module _ {A : Type 0} {H : Grammar} {N N' : Transducer ℕ} {m : ℕ} {sort_of : A → ℕ} (W : Wf H N (λ p. p < m)) (i : Identical H N N' m m) where
  mutual
    unfolding run runs pick nth

    run_same : {s : ℕ} {t : Term A} → AllowedOpen H sort_of s t → (p : ℕ) → p < m → N.sort p ≡ s → run N t p ≡ run N' t p
    run_same (blank e) p l z = refl
    run_same (rule_open {a} {ds} c oks) p l z =
        let c' = rw (← z) at c in
        bind_ext (all_map (λ e f. picks_same oks e.0 e.1 f.valid f.sort) (W.rhs p a l c')) ∙ ap (λ t. bind t (λ e. pick (runs N' ds) e.0 e.1)) (i.rhs p a _ l c')

    picks_same : {sorts : List ℕ} {ts : Terms A} → AllAllowedOpen H sort_of sorts ts → (j p : ℕ) → p < m → nth sorts j ≡ some (N.sort p) → pick (runs N ts) j p ≡ pick (runs N' ts) j p
    picks_same end_open j p l z = refl
    picks_same (next_open ok oks) ℕ.zero p l z = refl
    picks_same (next_open {s} ok oks) (suc ℕ.zero) p l z = let e : N.sort p ≡ s = cc in run_same ok p l e
    picks_same (next_open ok oks) (suc (suc j)) p l z = picks_same oks (suc j) p l z

-- Identical transducers have one joined transducer.
module _ {G H : Grammar} {M M' N N' : Transducer ℕ} {n m : ℕ} {out : ℕ → ℕ} (W : Wf G M (λ q. q < n)) (W' : Wf H N (λ p. p < m)) (O : OutputsIn G H M (λ q. q < n) out) (i : Identical G M M' n n) (i' : Identical H N N' m m) where
  same_maps : Maps G (compose M N) (compose M' N') (Pairs W O W') (λ s. s)
  unfolding compose
  same_maps = record {
    initial = sym (renamed_id _ ∙ (bind_ext (all_map (λ e y. ap (mapT assoc) (run_same W' i' O.initial e.1 y.0 (sym y.1) ∙ ap (λ t. run N' t e.1) i.initial)) (initial_sort N W'))
        ∙ ap (λ t. bind t (λ e. mapT assoc (run N' M'.initial e.1))) i'.initial));
    rhs = λ s a v c. sym (renamed_id _ ∙ ap (mapT assoc) (run_same W' i' (O.rhs s.0 a v.0 c) s.1 v.1 (sym v.2) ∙ ap (λ t. run N' t s.1) (i.rhs s.0 a _ v.0 c)));
  }

  -- what is joined from M and N is joined from M' and N'
  pub joined_same : {J : Transducer ℕ} {k : ℕ} → Joined G M N J k → Joined G M' N' J k
  unfolding compose
  joined_same A = accessible_same (pairs_wf W O W') same_maps (λ s v. sym (i.sort s.0 v.0)) A

-- What a program that lists the pairs makes: the pair of q and p has the number q·b + p while it is listed, where the second transducer has at most b states.
module _ {G H : Grammar} {M N : Transducer ℕ} {n m : ℕ} {out : ℕ → ℕ} (W : Wf G M (λ q. q < n)) (W' : Wf H N (λ p. p < m)) (O : OutputsIn G H M (λ q. q < n) out) {b : ℕ} (few : m ≤ b) where
  back : (s : ℕ × ℕ) → Pairs W O W' s → pair_name b (pair_code b s) ≡ s
  back s v = pair_back b s (omega (arith, v.1))

  -- It is the joined transducer.
  pub joined_by : {L : List ℕ} {idx : ℕ → ℕ} {J : Transducer ℕ} {k : ℕ} → Discovered G (coded (compose M N) (pair_code b) (pair_name b)) L → Indexes L idx → Identical G J (listed (coded (compose M N) (pair_code b) (pair_name b)) L idx) k (length L) → Joined G M N J k
  joined_by d I i = coded_accessible (pairs_wf W O W') (pair_code b) (pair_name b) back (×_discrete ℕ_discrete ℕ_discrete) d I i

  -- The joined transducer follows what has been listed so far.
  pub joined_follows_stage : {J : Transducer ℕ} {k p a c : ℕ} {L L' : List ℕ} → ReadStates G (coded (compose M N) (pair_code b) (pair_name b)) p L → get_elem? L p ≡ some c → ReadRhs G (coded (compose M N) (pair_code b) (pair_name b)) c L a L' → a ≤ G.symbols → Joined G M N J k → Follows G (coded (compose M N) (pair_code b) (pair_name b)) L' J k
  joined_follows_stage s e r l A = coded_follows_stage (pairs_wf W O W') (pair_code b) (pair_name b) back s e r l A

  pub joined_follows_states : {J : Transducer ℕ} {k p : ℕ} {L : List ℕ} → ReadStates G (coded (compose M N) (pair_code b) (pair_name b)) p L → p ≤ length L → Joined G M N J k → Follows G (coded (compose M N) (pair_code b) (pair_name b)) L J k
  joined_follows_states s l A = coded_follows_states (pairs_wf W O W') (pair_code b) (pair_name b) back s l A
