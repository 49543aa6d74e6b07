-- Reading is deterministic, so the order of first meeting is one; and a map of states that is one_to_one carries it over.
use Prim.Native.Nat.{ℕ, suc, ◌<◌, ◌≤◌}
use native.Mathlib.Decide.{ℕ_discrete}
use native.Mathlib.Omega.{arith}
use mathlib.Core.Path.{◌≡◌, refl, ap, sym, ◌∙◌}
use mathlib.Core.Logic.{by_cases}
use mathlib.Core.List.{List, [], ◌∷◌, map, map-append}
use mathlib.Core.Option.{some}
use lib.ListN.{get_elem?, length, length-map}
use Rattle.theory.specs.Discovered.{Read, read_call, read_node, Reads, read_none, read_more, ReadRhs, no_rhs, skip_rhs, read_rhs, ReadStates, read_initial, read_state, Discovered}
use Rattle.theory.specs.Grammar.{Grammar}
use Rattle.theory.specs.Inner.Closed.{Listed, Closed}
use Rattle.theory.specs.Listing.{Indexes, listed}
use Rattle.theory.specs.NormalForm.{Identical}
use Rattle.theory.specs.Registry.{Enter, found, added}
use Rattle.theory.specs.Term.{Term, Terms, bind, binds, mapT, var}
use Rattle.theory.specs.Transducer.{Transducer, renamed}
use Rattle.theory.specs.Vars.{AllVars, one, each, EachVars, done, both}
use Rattle.theory.specs.Wf.{Wf}
use Rattle.theory.proofs.Discovery.{Every, read_every, rhs_valid, states_valid, read_extends, rhs_extends, discovered_closed}
use Rattle.theory.proofs.Listings.{listed_sort, listed_rhs}
use Rattle.theory.proofs.Lists.{Extends, extends_refl, extends_trans, get_lt, get_some}
use Rattle.theory.proofs.Morphism.{Maps, bind_renamed}
use Rattle.theory.proofs.Terms.{conflict}
use Rattle.theory.proofs.Vars.{all_map, bind_ext}

-- Reading is deterministic.
enter_same : {Q : Type 0} {q : Q} {m n : ℕ} {L L' L'' : List Q} → Enter L q m L' → Enter L q n L'' → L' ≡ L''
enter_same (found e) (found e') = refl
enter_same (found {n} e) (added f) = absurd (f n e)
enter_same (added f) (found {n} e) = absurd (f n e)
enter_same (added f) (added f') = refl

mutual
  -- reading a term from one list leads to one list
  read_same : {Q : Type 0} {t : Term (ℕ × Q)} {L L' L'' : List Q} → Read t L L' → Read t L L'' → L' ≡ L''
  read_same (read_call e) (read_call e') = enter_same e e'
  read_same (read_node r) (read_node r') = reads_same r r'

  reads_same : {Q : Type 0} {ts : Terms (ℕ × Q)} {L L' L'' : List Q} → Reads ts L L' → Reads ts L L'' → L' ≡ L''
  reads_same read_none read_none = refl
  reads_same (read_more r rs) (read_more r' rs') = reads_same rs (rw (← read_same r r') at rs')

-- lists of which one is the other extend each other
same_extends : {Q : Type 0} {L L' : List Q} → L ≡ L' → Extends L L'
same_extends e = rw e extends_refl

module _ {Q : Type 0} {G : Grammar} {M : Transducer Q} where
  -- reading the right-hand sides of a state leads to one list
  rhs_same : {q : Q} {L : List Q} {a : ℕ} {L' L'' : List Q} → ReadRhs G M q L a L' → ReadRhs G M q L a L'' → L' ≡ L''
  rhs_same no_rhs no_rhs = refl
  rhs_same (skip_rhs r k) (skip_rhs r' k') = rhs_same r r'
  rhs_same (skip_rhs r k) (read_rhs r' k' t) = conflict (cc)
  rhs_same (read_rhs r k t) (skip_rhs r' k') = conflict (cc)
  rhs_same (read_rhs r k t) (read_rhs r' k' t') = read_same t (rw (← rhs_same r r') at t')

  rhs_or : {q : Q} {a b : ℕ} {L L' L'' : List Q} → ReadRhs G M q L a L' → ReadRhs G M q L b L'' → a ≤ b → (a < b → Extends L' L'') → Extends L' L''
  rhs_or {a} {b} r r' l f = by_cases (ℕ_discrete a b) (λ e. same_extends (rhs_same (rw e at r) r')) (λ n. f (omega arith))

  -- what the right-hand sides for fewer symbols list, those for more list
  rhs_later : {q : Q} {a : ℕ} {L : List Q} {b : ℕ} {L' L'' : List Q} → ReadRhs G M q L a L' → ReadRhs G M q L b L'' → a ≤ b → Extends L' L''
  rhs_later r no_rhs l = rhs_or r no_rhs l (λ m. absurd (omega arith))
  rhs_later r (skip_rhs r' k) l = rhs_or r (skip_rhs r' k) l (λ m. rhs_later r r' (omega arith))
  rhs_later r (read_rhs r' k t) l = rhs_or r (read_rhs r' k t) l (λ m. extends_trans (rhs_later r r' (omega arith)) (read_extends t))

  -- the right-hand sides of the state at p of one list, read on
  rhs_at : (p : ℕ) {a b : ℕ} {q q' : Q} {L L₁ L' L₁' : List Q} → L ≡ L₁ → get_elem? L p ≡ some q → get_elem? L₁ p ≡ some q' → ReadRhs G M q L a L' → ReadRhs G M q' L₁ b L₁' → a ≤ b → Extends L' L₁'
  rhs_at p {q} {q'} z e e' r r' l =
      let y : q' ≡ q = cc in
      rhs_later r (rw (y, ← z) at r') l

  -- the list after p states is one
  states_same : {p : ℕ} {L L' : List Q} → ReadStates G M p L → ReadStates G M p L' → L ≡ L'
  states_same (read_initial r) (read_initial r') = read_same r r'
  states_same (read_state {p} {q} s e r) (read_state {q = q'} s' e' r') =
      let z = states_same s s' in
      let y : q' ≡ q = cc in
      rhs_same r (rw (y, ← z) at r')

  states_or : {p r : ℕ} {L F : List Q} → ReadStates G M p L → ReadStates G M r F → p ≤ r → (p < r → Extends L F) → Extends L F
  states_or {p} {r} s t l f = by_cases (ℕ_discrete p r) (λ e. same_extends (states_same (rw e at s) t)) (λ n. f (omega arith))

  -- what fewer states list, more list
  states_later : {p r : ℕ} {L F : List Q} → ReadStates G M p L → ReadStates G M r F → p ≤ r → Extends L F
  states_later s (read_initial t) l = states_or s (read_initial t) l (λ m. absurd (omega arith))
  states_later s (read_state t e x) l = states_or s (read_state t e x) l (λ m. extends_trans (states_later s t (omega arith)) (rhs_extends x))

  -- the next state of a list so far is one of the whole list
  next_within : {p : ℕ} {q : Q} {L F : List Q} → ReadStates G M p L → get_elem? L p ≡ some q → Discovered G M F → p ≤ length F → p < length F
  next_within {p} {L} {F} s e d l = by_cases (ℕ_discrete p (length F)) (λ z. get_lt F p (rw (states_same s (rw (← z) at d)) at e)) (λ n. omega arith)

  -- no more states are read than the whole list has
  states_within : {p : ℕ} {L F : List Q} → ReadStates G M p L → Discovered G M F → p ≤ length F
  states_within (read_initial r) d = omega arith
  states_within (read_state s e r) d = next_within s e d (states_within s d)

  -- The list after p states is the beginning of the whole list.
  pub states_extend : {p : ℕ} {L F : List Q} → ReadStates G M p L → p ≤ length L → Discovered G M F → Extends L F
  states_extend s l d = states_later s d (states_within s d)

  stage_later : {p a r : ℕ} {q : Q} {L L' F : List Q} → ReadStates G M p L → get_elem? L p ≡ some q → ReadRhs G M q L a L' → a ≤ G.symbols → ReadStates G M r F → p < r → Extends L' F
  stage_later s e r l (read_initial t) m = absurd (omega arith)
  stage_later {p} s e r l (read_state {p = j} t e' x) m = by_cases (ℕ_discrete p j)
      (λ z. rhs_at p (states_same (rw z at s) t) e (rw (← z) at e') r x l)
      (λ n. extends_trans (stage_later s e r l t (omega arith)) (rhs_extends x))

  -- The list after p states and some right-hand sides of the next is the beginning of the whole list.
  pub stage_extends : {p a : ℕ} {q : Q} {L L' F : List Q} → ReadStates G M p L → get_elem? L p ≡ some q → ReadRhs G M q L a L' → a ≤ G.symbols → Discovered G M F → (p < length F) × Extends L' F
  stage_extends s e r l d = let m = next_within s e d (states_within s d) in (m, stage_later s e r l d m)

  -- The states have one order of first meeting.
  pub discovered_unique : {F F' : List Q} → Discovered G M F → Discovered G M F' → F ≡ F'
  discovered_unique {F} {F'} d d' = let e : length F ≡ length F' = omega (arith, states_within d d', states_within d' d) in states_same (rw e at d) d'

module _ {Q Q' : Type 0} (f : Q → Q') where
  -- f q stands in the list under f where q stands in the list
  pub get_map : {q : Q} (L : List Q) (n : ℕ) → get_elem? L n ≡ some q → get_elem? (map f L) n ≡ some (f q)
  get_map [] n e = conflict (cc)
  get_map (r ∷ L) ℕ.zero e = cc
  get_map (r ∷ L) (suc n) e = get_map L n e

  -- what stands in the list under f is some f q, with q in the list
  pub map_get : {y : Q'} (L : List Q) (n : ℕ) → get_elem? (map f L) n ≡ some y → (q : Q) × (get_elem? L n ≡ some q) × (f q ≡ y)
  map_get [] n e = conflict (cc)
  map_get (r ∷ L) ℕ.zero e = (r, refl, cc)
  map_get (r ∷ L) (suc n) e = map_get L n e

-- renaming twice is renaming once
pub renamed_twice : {Q Q' Q'' : Type 0} (f : Q → Q') (g : Q' → Q'') (t : Term (ℕ × Q)) → renamed g (renamed f t) ≡ renamed (λ q. g (f q)) t
unfolding renamed mapT
renamed_twice f g t = bind_renamed f t (λ e. var (e.0, g e.1))

-- terms are renamed alike where the names of their calls agree
pub renamed_ext : {Q Q' : Type 0} (f g : Q → Q') {t : Term (ℕ × Q)} → AllVars (λ e. f e.1 ≡ g e.1) t → renamed f t ≡ renamed g t
unfolding renamed mapT
renamed_ext f g p = bind_ext (all_map (λ e z. ap (λ q. var (e.0, q)) z) p)

-- A map of states that keeps right-hand sides and sorts, and takes no two valid states to one, carries reading over.
module _ {Q Q' : Type 0} {G : Grammar} {M : Transducer Q} {M' : Transducer Q'} {Valid : Q → Type 0} {f : Q → Q'} (W : Wf G M Valid) (F : Maps G M M' Valid f) (same-sort : (q : Q) → Valid q → M'.sort (f q) ≡ M.sort q) (inj : (q r : Q) → Valid q → Valid r → f q ≡ f r → q ≡ r) where
  -- f q is entered as q is
  enter_mapped : {q : Q} {n : ℕ} {L L' : List Q} → Valid q → Every Valid L → Enter L q n L' → Enter (map f L) (f q) n (map f L')
  enter_mapped {L} v l (found {n} e) = found (get_map f L n e)
  enter_mapped {q} {L} v l (added g) = rw (map-append f L (q ∷ []), ← length-map L f) (added (λ n e.
      let x = map_get f L n e in
      g n (rw (inj x.0 q (l.every n x.0 x.1) v x.2) at x.1)))

  mutual
    unfolding renamed mapT bind

    -- a renamed term is read as the term is
    read_mapped : {t : Term (ℕ × Q)} {L L' : List Q} → AllVars (λ e. Valid e.1) t → Every Valid L → Read t L L' → Read (renamed f t) (map f L) (map f L')
    read_mapped (one v) l (read_call e) = read_call (enter_mapped v l e)
    read_mapped (each vs) l (read_node r) = read_node (reads_mapped vs l r)

    reads_mapped : {ts : Terms (ℕ × Q)} {L L' : List Q} → EachVars (λ e. Valid e.1) ts → Every Valid L → Reads ts L L' → Reads (binds ts (λ e. var (e.0, f e.1))) (map f L) (map f L')
    reads_mapped done l read_none = read_none
    reads_mapped (both v vs) l (read_more r rs) = read_more (read_mapped v l r) (reads_mapped vs (read_every r l v) rs)

  -- The right-hand sides of f q are read as those of q are.
  pub rhs_mapped : {q : Q} {L : List Q} {a : ℕ} {L' : List Q} → Valid q → Every Valid L → ReadRhs G M q L a L' → ReadRhs G M' (f q) (map f L) a (map f L')
  rhs_mapped v l no_rhs = no_rhs
  rhs_mapped {q} v l (skip_rhs {a} r k) = skip_rhs (rhs_mapped v l r) (ap (λ s. G.children s a) (same-sort q v) ∙ k)
  rhs_mapped {q} v l (read_rhs {a} r k t) = read_rhs (rhs_mapped v l r) (ap (λ s. G.children s a) (same-sort q v) ∙ k) (rw (← F.rhs q a v k) at
      (read_mapped (all_map (λ e p. p.valid) (W.rhs q a v k)) (rhs_valid W v r l) t))

  -- The states of M' are met as those of M are.
  pub states_mapped : {p : ℕ} {L : List Q} → ReadStates G M p L → ReadStates G M' p (map f L)
  states_mapped (read_initial r) = read_initial (rw (← F.initial) at (read_mapped (all_map (λ e p. p.valid) W.initial) (record { every = λ n q e. conflict (cc) }) r))
  states_mapped (read_state {p} {q} {L} s e r) = let l = states_valid W s in read_state (states_mapped s) (get_map f L p e) (rhs_mapped (l.every p q e) l r)

  -- the order of first meeting carries over
  pub discovered_mapped : {L : List Q} → Discovered G M L → Discovered G M' (map f L)
  discovered_mapped {L} d = rw (length-map L f) (states_mapped d)

  module _ {L : List Q} {idx : Q → ℕ} {idx' : Q' → ℕ} (C : Closed G M L idx) (E : Every Valid L) (I : Indexes L idx) (I' : Indexes (map f L) idx') where
    -- a term of listed states is renamed alike
    mapped_term : {t : Term (ℕ × Q)} → AllVars (λ e. Listed L idx e.1) t → renamed idx t ≡ renamed idx' (renamed f t)
    mapped_term {t} p = sym (renamed_twice f idx' t ∙ renamed_ext (λ q. idx' (f q)) idx (all_map (λ e z. I'.index (idx e.1) (f e.1) (get_map f L (idx e.1) z)) p))

    mapped_sort : (p : ℕ) → p < length L → (listed M L idx).sort p ≡ (listed M' (map f L) idx').sort p
    mapped_sort p l = let x = get_some L p l in
        listed_sort M L idx p x.1 ∙ (sym (same-sort x.0 (E.every p x.0 x.1)) ∙ sym (listed_sort M' (map f L) idx' p (get_map f L p x.1)))

    mapped_rhs : (p a : ℕ) (sorts : List ℕ) → p < length L → G.children ((listed M L idx).sort p) a ≡ some sorts → (listed M L idx).rhs p a ≡ (listed M' (map f L) idx').rhs p a
    mapped_rhs p a sorts l k =
        let x = get_some L p l in
        let v = E.every p x.0 x.1 in
        let k' : G.children (M.sort x.0) a ≡ some sorts = ap (λ s. G.children s a) (sym (listed_sort M L idx p x.1)) ∙ k in
        let here : Listed L idx x.0 = ap (get_elem? L) (I.index p x.0 x.1) ∙ x.1 in
        listed_rhs M L idx p a x.1 ∙ (mapped_term (C.rhs x.0 a here k')
        ∙ (ap (renamed idx') (sym (F.rhs x.0 a v k')) ∙ sym (listed_rhs M' (map f L) idx' p a (get_map f L p x.1))))

    -- Listed, and with the list carried over, M and M' are one transducer.
    pub mapped_identical : Identical G (listed M L idx) (listed M' (map f L) idx') (length L) (length (map f L))
    unfolding listed
    mapped_identical = record { number = sym (length-map L f); initial = mapped_term C.initial ∙ ap (renamed idx') (sym F.initial); sort = mapped_sort; rhs = mapped_rhs }

  -- Listed in the order of first meeting, M and M' are one transducer.
  pub listed_identical : {L : List Q} {L' : List Q'} {idx : Q → ℕ} {idx' : Q' → ℕ} → Discovered G M L → Indexes L idx → Discovered G M' L' → Indexes L' idx' → Identical G (listed M L idx) (listed M' L' idx') (length L) (length L')
  listed_identical d I d' I' = let e = discovered_unique (discovered_mapped d) d' in rw e at (mapped_identical (discovered_closed I d) (states_valid W d) I (rw (← e) at I'))
