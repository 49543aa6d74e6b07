-- The accessible part of a transducer is equivalent to it, numbered, and one; what a transducer with numbers for its states lists is the accessible part, which follows it while it is read.
use Prim.Native.Nat.{ℕ, ◌+◌, ◌*◌, ◌/◌, ◌%◌, ◌<◌, ◌≤◌}
use native.Mathlib.Decide.{dec_lt}
use native.Mathlib.Nat.{mul-add-div_right, mul-add-mod_self_right, div-eq_of_lt, mod-eq_of_lt}
use native.Mathlib.Omega.{arith}
use mathlib.Core.Path.{◌≡◌, refl, ap, sym, ◌∙◌}
use mathlib.Core.Logic.{by_cases}
use mathlib.Core.List.{List, map, map-id}
use mathlib.Core.Option.{some}
use lib.ListN.{get_elem?, length, length-map}
use Rattle.theory.specs.Accessible.{Accessible, coded}
use Rattle.theory.specs.Discovered.{ReadRhs, ReadStates, Discovered}
use Rattle.theory.specs.Equivalent.{Equivalent}
use Rattle.theory.specs.Grammar.{Grammar}
use Rattle.theory.specs.Inner.Closed.{Listed, Closed}
use Rattle.theory.specs.Inner.Follows.{Follows}
use Rattle.theory.specs.Inner.PairCodes.{pair_code, pair_name}
use Rattle.theory.specs.Listing.{Indexes, listed}
use Rattle.theory.specs.NormalForm.{Identical}
use Rattle.theory.specs.Numbered.{Numbered}
use Rattle.theory.specs.Term.{Term}
use Rattle.theory.specs.Transducer.{Transducer, renamed}
use Rattle.theory.specs.Vars.{AllVars}
use Rattle.theory.specs.Wf.{Wf, Fits}
use Rattle.theory.proofs.Discovery.{Every, rhs_valid, states_valid, states_distinct, discovered_closed, distinct_indexes, index_of}
use Rattle.theory.proofs.DiscoveryExists.{Finite, discovered_exists}
use Rattle.theory.proofs.Equivalences.{equivalent_trans}
use Rattle.theory.proofs.Identity.{identical_refl, identical_sym, identical_trans, identical_wf, identical_equivalent}
use Rattle.theory.proofs.Listings.{all_renamed, listed_sort, listed_rhs, listed_wf, listed_equivalent}
use Rattle.theory.proofs.Lists.{Extends, get_lt, get_some}
use Rattle.theory.proofs.Morphism.{Maps, renamed_id}
use Rattle.theory.proofs.Numbers.{discovered_numbered, identical_numbered}
use Rattle.theory.proofs.Readings.{get_map, renamed_twice, renamed_ext, states_extend, stage_extends, rhs_mapped, states_mapped, discovered_mapped, listed_identical}
use Rattle.theory.proofs.Vars.{all_map}

module _ {Q : Type 0} {G : Grammar} {M : Transducer Q} {Valid : Q → Type 0} (W : Wf G M Valid) where
  module _ {N : Transducer ℕ} {k : ℕ} (A : Accessible G M N k) where
    met_closed : Closed G M A.states A.number
    met_closed = discovered_closed A.numbers A.met

    met_valid : (q : Q) → Listed A.states A.number q → Valid q
    met_valid q v = (states_valid W A.met).every (A.number q) q v

    accessible_listed : Wf G (listed M A.states A.number) (λ p. p < length A.states)
    accessible_listed = listed_wf W A.numbers met_closed met_valid

    -- The accessible part of M is equivalent to M.
    pub accessible_equivalent : Equivalent G M N
    accessible_equivalent = equivalent_trans (listed_equivalent W A.numbers met_closed met_valid) (identical_equivalent (identical_sym A.form) accessible_listed)

    -- It is well-formed.
    pub accessible_wf : Wf G N (λ p. p < k)
    accessible_wf = identical_wf (identical_sym A.form) accessible_listed

    -- Its states are numbered in the order of first meeting.
    pub accessible_numbered : Numbered G N k
    accessible_numbered = identical_numbered (identical_sym A.form) (discovered_numbered A.numbers A.met)

  -- Where the valid states are finitely many, and can be told apart, there is one.
  pub accessible_exists : Discrete Q → {F : List Q} → Finite Valid F → (N : Transducer ℕ) × (k : ℕ) × Accessible G M N k
  accessible_exists same_state fin =
      let x = discovered_exists same_state W fin in
      let I = distinct_indexes same_state (states_distinct x.1) in
      let N = listed M x.0 (index_of same_state x.0) in
      (N, length x.0, record { states = x.0; number = index_of same_state x.0; numbers = I; met = x.1; form = identical_refl N (length x.0) })

  -- each state of M is itself
  self_maps : Maps G M M Valid (λ q. q)
  self_maps = record { initial = sym (renamed_id M.initial); rhs = λ q a v c. sym (renamed_id (M.rhs q a)) }

  -- M has one accessible part.
  pub accessible_unique : {N N' : Transducer ℕ} {k k' : ℕ} → Accessible G M N k → Accessible G M N' k' → Identical G N N' k k'
  accessible_unique A B = identical_trans A.form (identical_trans (listed_identical W self_maps (λ q v. refl) (λ q r v w e. e) A.met A.numbers B.met B.numbers) (identical_sym B.form))

  -- A map of states that keeps right-hand sides and sorts, and takes each valid state to itself, keeps the accessible part.
  pub accessible_same : {M' : Transducer Q} {N : Transducer ℕ} {k : ℕ} → Maps G M M' Valid (λ q. q) → ((q : Q) → Valid q → M'.sort q ≡ M.sort q) → Accessible G M N k → Accessible G M' N k
  accessible_same F same A =
      let d = rw (map-id A.states) at (discovered_mapped W F same (λ q r v w e. e) A.met) in
      record { states = A.states; number = A.number; numbers = A.numbers; met = d; form = identical_trans A.form (listed_identical W F same (λ q r v w e. e) A.met A.numbers d A.numbers) }

module _ {Q : Type 0} {G : Grammar} {M : Transducer Q} {N : Transducer ℕ} {k : ℕ} (A : Accessible G M N k) where
  -- its initial term is that of M, with numbers for the states
  pub accessible_initial : N.initial ≡ renamed A.number M.initial
  unfolding listed
  accessible_initial = A.form.initial

  -- the sort of its state j is that of the j-th state met
  pub accessible_sort : {q : Q} (j : ℕ) → get_elem? A.states j ≡ some q → N.sort j ≡ M.sort q
  accessible_sort j e = A.form.sort j (omega (arith, get_lt A.states j e, A.form.number)) ∙ listed_sort M A.states A.number j e

  -- the right-hand sides of its state j are those of the j-th state met, with numbers for the states
  pub accessible_rhs : {q : Q} {sorts : List ℕ} (j a : ℕ) → get_elem? A.states j ≡ some q → G.children (M.sort q) a ≡ some sorts → N.rhs j a ≡ renamed A.number (M.rhs q a)
  accessible_rhs j a e c =
      A.form.rhs j a _ (omega (arith, get_lt A.states j e, A.form.number)) (ap (λ s. G.children s a) (accessible_sort j e) ∙ c) ∙ listed_rhs M A.states A.number j a e

-- What is identical to an accessible part of M is one.
pub accessible_form : {Q : Type 0} {G : Grammar} {M : Transducer Q} {N N' : Transducer ℕ} {k k' : ℕ} → Identical G N N' k k' → Accessible G M N k → Accessible G M N' k'
accessible_form i A = record { states = A.states; number = A.number; numbers = A.numbers; met = A.met; form = identical_trans (identical_sym i) A.form }

-- a list that goes on is no shorter
extends_length : {I : Type 0} {R R' : List I} → Extends R R' → length R ≤ length R'
extends_length {R} {R'} x = by_cases (dec_lt (length R') (length R)) (λ l. let y = get_some R (length R') l in omega (arith, get_lt R' (length R') (x.kept (length R') y.0 y.1))) (λ l. omega arith)

-- E is M with numbers, Code, for its states: the number c stands for the state name c.
module _ {Q : Type 0} {G : Grammar} {M : Transducer Q} {E : Transducer ℕ} {Code : ℕ → Type 0} (EW : Wf G E Code) (name : ℕ → Q) (P : Maps G E M Code name)
    (same-sort : (c : ℕ) → Code c → M.sort (name c) ≡ E.sort c) (inj : (c d : ℕ) → Code c → Code d → name c ≡ name d → c ≡ d) where
  -- What is identical to E, listed in the order of first meeting, is the accessible part of M.
  pub accessible_by : Discrete Q → {L : List ℕ} {idx : ℕ → ℕ} {N : Transducer ℕ} {k : ℕ} → Discovered G E L → Indexes L idx → Identical G N (listed E L idx) k (length L) → Accessible G M N k
  accessible_by same_state {L} d I i =
      let d' = discovered_mapped EW P same-sort inj d in
      let I' = distinct_indexes same_state (states_distinct d') in
      record { states = map name L; number = index_of same_state (map name L); numbers = I'; met = d'; form = identical_trans i (listed_identical EW P same-sort inj d I d' I') }

  module _ {N : Transducer ℕ} {k : ℕ} (A : Accessible G M N k) where
    module _ {L : List ℕ} (v : Every Code L) (x : Extends (map name L) A.states) where
      follows_few : length L ≤ k
      follows_few = omega (arith, extends_length x, length-map L name, A.form.number)

      follows_rhs : (j c b : ℕ) (sorts : List ℕ) → get_elem? L j ≡ some c → G.children (E.sort c) b ≡ some sorts → N.rhs j b ≡ renamed (λ c. A.number (name c)) (E.rhs c b)
      follows_rhs j c b sorts e a =
          let y = x.kept j (name c) (get_map name L j e) in
          let l : j < k = omega (arith, follows_few, get_lt L j e) in
          let s : N.sort j ≡ E.sort c = A.form.sort j l ∙ (listed_sort M A.states A.number j y ∙ same-sort c (v.every j c e)) in
          A.form.rhs j b sorts l (ap (λ z. G.children z b) s ∙ a)
          ∙ (listed_rhs M A.states A.number j b y ∙ (ap (renamed A.number) (P.rhs c b (v.every j c e) a) ∙ renamed_twice name A.number (E.rhs c b)))

      follows : Follows G E L N k
      unfolding listed
      follows = record {
        name = λ c. A.number (name c);
        few = follows_few;
        initial = A.form.initial ∙ (ap (renamed A.number) P.initial ∙ renamed_twice name A.number E.initial);
        rhs = follows_rhs;
      }

  -- The accessible part follows E after the first p states of the list and some right-hand sides of the next.
  pub follows_stage : {N : Transducer ℕ} {k p a c : ℕ} {L L' : List ℕ} → ReadStates G E p L → get_elem? L p ≡ some c → ReadRhs G E c L a L' → a ≤ G.symbols → Accessible G M N k → Follows G E L' N k
  follows_stage {p} {c} {L} s e r l A =
      let v = states_valid EW s in
      let u = v.every p c e in
      follows A (rhs_valid EW u r v) (stage_extends (states_mapped EW P same-sort inj s) (get_map name L p e) (rhs_mapped EW P same-sort inj u v r) l A.met).1

  -- The accessible part follows E after the first p states of the list.
  pub follows_states : {N : Transducer ℕ} {k p : ℕ} {L : List ℕ} → ReadStates G E p L → p ≤ length L → Accessible G M N k → Follows G E L N k
  follows_states {L} s l A = follows A (states_valid EW s) (states_extend (states_mapped EW P same-sort inj s) (rw (length-map L name) l) A.met)

-- M with numbers for its states: name undoes code on the valid states.
module _ {Q : Type 0} {G : Grammar} {M : Transducer Q} {Valid : Q → Type 0} (W : Wf G M Valid) (code : Q → ℕ) (name : ℕ → Q) (back : (q : Q) → Valid q → name (code q) ≡ q) where
  -- the numbers of valid states
  abbrev pub Coded : ℕ → Type 0
  Coded c = Valid (name c) × (code (name c) ≡ c)

  coded_code : (q : Q) → Valid q → Coded (code q)
  coded_code q v = (rw (back q v) v, ap code (back q v))

  coded_fits : {sorts : List ℕ} {t : Term (ℕ × Q)} → AllVars (Fits M Valid sorts) t → AllVars (Fits (coded M code name) Coded sorts) (renamed code t)
  unfolding coded
  coded_fits f = all_renamed code (all_map (λ e p. record { valid = coded_code e.1 p.valid; sort = p.sort ∙ ap (λ q. some (M.sort q)) (sym (back e.1 p.valid)) }) f)

  -- M with numbers is well-formed.
  pub coded_wf : Wf G (coded M code name) Coded
  unfolding coded
  coded_wf = record { initial = coded_fits W.initial; rhs = λ c a v k. coded_fits (W.rhs (name c) a v.0 k) }

  coded_back : {sorts : List ℕ} {t : Term (ℕ × Q)} → AllVars (Fits M Valid sorts) t → t ≡ renamed name (renamed code t)
  coded_back {t = t} f = sym (renamed_twice code name t ∙ (renamed_ext (λ q. name (code q)) (λ q. q) (all_map (λ e p. back e.1 p.valid) f) ∙ renamed_id t))

  -- Its numbers stand for the states of M.
  pub coded_maps : Maps G (coded M code name) M Coded name
  unfolding coded
  coded_maps = record { initial = coded_back W.initial; rhs = λ c a v k. coded_back (W.rhs (name c) a v.0 k) }

  coded_sort : (c : ℕ) → Coded c → M.sort (name c) ≡ (coded M code name).sort c
  unfolding coded
  coded_sort c v = refl

  coded_inj : (c d : ℕ) → Coded c → Coded d → name c ≡ name d → c ≡ d
  coded_inj c d v w e = sym v.1 ∙ (ap code e ∙ w.1)

  -- What is M with numbers, listed in the order of first meeting, is the accessible part of M.
  pub coded_accessible : Discrete Q → {L : List ℕ} {idx : ℕ → ℕ} {N : Transducer ℕ} {k : ℕ} → Discovered G (coded M code name) L → Indexes L idx → Identical G N (listed (coded M code name) L idx) k (length L) → Accessible G M N k
  coded_accessible = accessible_by coded_wf name coded_maps coded_sort coded_inj

  -- The accessible part follows what is read of M with numbers.
  pub coded_follows_stage : {N : Transducer ℕ} {k p a c : ℕ} {L L' : List ℕ} → ReadStates G (coded M code name) p L → get_elem? L p ≡ some c → ReadRhs G (coded M code name) c L a L' → a ≤ G.symbols → Accessible G M N k → Follows G (coded M code name) L' N k
  coded_follows_stage = follows_stage coded_wf name coded_maps coded_sort coded_inj

  pub coded_follows_states : {N : Transducer ℕ} {k p : ℕ} {L : List ℕ} → ReadStates G (coded M code name) p L → p ≤ length L → Accessible G M N k → Follows G (coded M code name) L N k
  coded_follows_states = follows_states coded_wf name coded_maps coded_sort coded_inj

-- the pair is found again
pub pair_back : (m : ℕ) (s : ℕ × ℕ) → s.1 < m → pair_name m (pair_code m s) ≡ s
unfolding pair_code pair_name
pair_back m s l =
    let z : 0 < m = omega arith in
    let d : (s.0 * m + s.1) / m ≡ s.0 = mul-add-div_right z s.0 s.1 ∙ (ap (λ x. s.0 + x) (div-eq_of_lt l) ∙ omega arith) in
    let r : (s.0 * m + s.1) % m ≡ s.1 = mul-add-mod_self_right s.0 m s.1 ∙ mod-eq_of_lt l in
    λ i. (d i, r i)
