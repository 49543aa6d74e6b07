-- The trimmed earliest form is equivalent, earliest and numbered, and it is one; an earliest form with numbers for its states, listed, is the trimmed one, and follows it while it is read.
use Prim.Native.Nat.{ℕ, ◌<◌, ◌≤◌}
use native.Mathlib.Decide.{ℕ_discrete}
use mathlib.Core.Path.{◌≡◌, refl, ap, sym, ◌∙◌}
use mathlib.Core.HLevel.{×_discrete}
use mathlib.Core.List.{List, List-discrete, map-id}
use mathlib.Core.Option.{some, get_or}
use lib.ListN.{get_elem?, length}
use Rattle.theory.specs.Accessible.{Accessible}
use Rattle.theory.specs.Discovered.{ReadRhs, ReadStates, Discovered}
use Rattle.theory.specs.Earliest.{Earliest}
use Rattle.theory.specs.EarliestForm.{earliest_form, expand, label, opened}
use Rattle.theory.specs.Equivalent.{Equivalent}
use Rattle.theory.specs.Grammar.{Grammar}
use Rattle.theory.specs.Listing.{Indexes, listed}
use Rattle.theory.specs.NormalForm.{Identical}
use Rattle.theory.specs.Numbered.{Numbered}
use Rattle.theory.specs.Pref.{Prefs}
use Rattle.theory.specs.Prefix.{Pattern, Open}
use Rattle.theory.specs.Term.{Term, node, none, sub}
use Rattle.theory.specs.Transducer.{Transducer}
use Rattle.theory.specs.Trimmed.{Trimmed}
use Rattle.theory.specs.Vars.{AllVars}
use Rattle.theory.specs.Wf.{Wf}
use Rattle.theory.proofs.Accessibility.{accessible_by, follows_stage, follows_states}
use Rattle.theory.specs.Inner.Follows.{Follows}
use Rattle.theory.proofs.EarlyForm.{early_wf}
use Rattle.theory.proofs.Equivalences.{equivalent_trans, equiv_splits}
use Rattle.theory.proofs.Identity.{identical_sym, identical_trans, identical_wf, identical_equiv, identical_equivalent, identical_earliest}
use Rattle.theory.proofs.Morphism.{Maps, renamed_id}
use Rattle.theory.proofs.NormalForms.{early_listed_equivalent, early_listed_wf, early_listed_earliest}
use Rattle.theory.proofs.Numbers.{discovered_numbered, identical_numbered}
use Rattle.theory.proofs.Prefs.{pref_unique}
use Rattle.theory.proofs.Readings.{discovered_mapped, listed_identical}
use Rattle.theory.proofs.Vars.{all_map, bind_ext}

module _ {Q : Type 0} {G : Grammar} {M : Transducer Q} {Valid : Q → Type 0} (W : Wf G M Valid) {N : Transducer ℕ} {k : ℕ} (T : Trimmed G M Valid N k) where
  trimmed_listed : Wf G (listed (earliest_form M T.prefix) T.states T.number) (λ p. p < length T.states)
  trimmed_listed = early_listed_wf W T.prefix T.prefs T.numbers T.met

  -- The trimmed form of M is equivalent to M.
  pub trimmed_equivalent : Equivalent G M N
  trimmed_equivalent = equivalent_trans (early_listed_equivalent W T.prefix T.prefs T.numbers T.met) (identical_equivalent (identical_sym T.form) trimmed_listed)

  -- It is well-formed.
  pub trimmed_wf : Wf G N (λ p. p < k)
  trimmed_wf = identical_wf (identical_sym T.form) trimmed_listed

  -- It is earliest.
  pub trimmed_earliest : Earliest G N (λ p. p < k)
  trimmed_earliest = identical_earliest (identical_sym T.form) trimmed_listed (early_listed_earliest W T.prefix T.prefs T.numbers T.met)

  -- Its states are numbered in the order of first meeting.
  pub trimmed_numbered : Numbered G N k
  trimmed_numbered = identical_numbered (identical_sym T.form) (discovered_numbered T.numbers T.met)

-- The earliest form is one: patterns that are the pref(q) agree on valid states.
module _ {Q : Type 0} {G : Grammar} {M : Transducer Q} {Valid : Q → Type 0} (W : Wf G M Valid) (h g : Q → Pattern) (H : Prefs G M Valid h) (K : Prefs G M Valid g) where
  expand_same : {t : Term (ℕ × Q)} → AllVars (λ e. Valid e.1) t → expand g t ≡ expand h t
  unfolding expand opened
  expand_same p = bind_ext (all_map (λ e v. ap (λ c. label c (λ w. (e.0, (e.1, w)))) (pref_unique (K e.1 v) (H e.1 v))) p)

  -- each state of the earliest form by h is the same by g
  early_maps : Maps G (earliest_form M h) (earliest_form M g) (λ s. Valid s.0 × Open (h s.0) s.1) (λ s. s)
  unfolding earliest_form
  early_maps = record {
    initial = expand_same (all_map (λ e f. f.valid) W.initial) ∙ sym (renamed_id _);
    rhs = λ s a v c. ap (λ t. get_or (sub t s.1) (node 0 none)) (expand_same (all_map (λ e f. f.valid) (W.rhs s.0 a v.0 c))) ∙ sym (renamed_id _);
  }

  module _ {L : List (Q × List ℕ)} (d : Discovered G (earliest_form M h) L) where
    -- its states are met in one order
    early_met : Discovered G (earliest_form M g) L
    unfolding earliest_form
    early_met = rw (map-id L) at (discovered_mapped (early_wf W h H) early_maps (λ s v. refl) (λ s t v w e. e) d)

    -- listed, it is one transducer
    early_identical : {L' : List (Q × List ℕ)} {idx idx' : Q × List ℕ → ℕ} → Indexes L idx → Discovered G (earliest_form M g) L' → Indexes L' idx' → Identical G (listed (earliest_form M h) L idx) (listed (earliest_form M g) L' idx') (length L) (length L')
    unfolding earliest_form
    early_identical I d' I' = listed_identical (early_wf W h H) early_maps (λ s v. refl) (λ s t v w e. e) d I d' I'

-- M has one trimmed form.
pub trimmed_unique : {Q : Type 0} {G : Grammar} {M : Transducer Q} {Valid : Q → Type 0} → Wf G M Valid → {N N' : Transducer ℕ} {k k' : ℕ} → Trimmed G M Valid N k → Trimmed G M Valid N' k' → Identical G N N' k k'
trimmed_unique W T T' = identical_trans T.form (identical_trans (early_identical W T.prefix T'.prefix T.prefs T'.prefs T.met T.numbers T'.met T'.numbers) (identical_sym T'.form))

-- E is the earliest form with numbers, Code, for its states: the number c stands for the state pair c.
module _ {G : Grammar} {M : Transducer ℕ} {Valid : ℕ → Type 0} (W : Wf G M Valid) (h : ℕ → Pattern) (H : Prefs G M Valid h)
    {E : Transducer ℕ} {Code : ℕ → Type 0} (EW : Wf G E Code) (pair : ℕ → ℕ × List ℕ) (P : Maps G E (earliest_form M h) Code pair)
    (same-sort : (c : ℕ) → Code c → (earliest_form M h).sort (pair c) ≡ E.sort c) (inj : (c d : ℕ) → Code c → Code d → pair c ≡ pair d → c ≡ d) where
  same_state : Discrete (ℕ × List ℕ)
  same_state = ×_discrete ℕ_discrete (List-discrete ℕ_discrete)

  -- What is identical to E, listed in the order of first meeting, is the trimmed form of M.
  pub trimmed_by : {L : List ℕ} {idx : ℕ → ℕ} {N : Transducer ℕ} {k : ℕ} → Discovered G E L → Indexes L idx → Identical G N (listed E L idx) k (length L) → Trimmed G M Valid N k
  trimmed_by d I i =
      let A = accessible_by EW pair P same-sort inj same_state d I i in
      record { prefix = h; prefs = H; states = A.states; number = A.number; numbers = A.numbers; met = A.met; form = A.form }

  -- the trimmed form is the accessible part of the earliest form by h
  trimmed_accessible : {N : Transducer ℕ} {k : ℕ} → Trimmed G M Valid N k → Accessible G (earliest_form M h) N k
  trimmed_accessible T =
      let d = early_met W T.prefix h T.prefs H T.met in
      record { states = T.states; number = T.number; numbers = T.numbers; met = d; form = identical_trans T.form (early_identical W T.prefix h T.prefs H T.met T.numbers d T.numbers) }

  -- The trimmed form follows E after the first p states of the list and some right-hand sides of the next.
  pub trimmed_follows_stage : {N : Transducer ℕ} {k p a c : ℕ} {L L' : List ℕ} → ReadStates G E p L → get_elem? L p ≡ some c → ReadRhs G E c L a L' → a ≤ G.symbols → Trimmed G M Valid N k → Follows G E L' N k
  trimmed_follows_stage s e r l T = follows_stage EW pair P same-sort inj s e r l (trimmed_accessible T)

  -- The trimmed form follows E after the first p states of the list.
  pub trimmed_follows_states : {N : Transducer ℕ} {k p : ℕ} {L : List ℕ} → ReadStates G E p L → p ≤ length L → Trimmed G M Valid N k → Follows G E L N k
  trimmed_follows_states s l T = follows_states EW pair P same-sort inj s l (trimmed_accessible T)

-- What is identical to a trimmed form of M is one.
pub trimmed_form : {Q : Type 0} {G : Grammar} {M : Transducer Q} {Valid : Q → Type 0} {N N' : Transducer ℕ} {k k' : ℕ} → Identical G N N' k k' → Trimmed G M Valid N k → Trimmed G M Valid N' k'
trimmed_form i T = record { prefix = T.prefix; prefs = T.prefs; states = T.states; number = T.number; numbers = T.numbers; met = T.met; form = identical_trans (identical_sym i) T.form }

-- M and M' are one transducer, as far as the states below n go: so are their earliest forms.
module _ {G : Grammar} {M M' : Transducer ℕ} {n : ℕ} (W : Wf G M (λ q. q < n)) (i : Identical G M M' n n) (h : ℕ → Pattern) (H : Prefs G M (λ q. q < n) h) where
  -- the pref(q) are the same
  same_prefs : Prefs G M' (λ q. q < n) h
  same_prefs q l = let s = identical_equiv i W q l in record {
    common = λ d ok. let ok' = rw (← s.sort) at ok in rw (s.output d ok') at ((H q l).common d ok');
    splits = λ v o. equiv_splits s ((H q l).splits v o);
  }

  same_maps : Maps G (earliest_form M h) (earliest_form M' h) (λ s. (s.0 < n) × Open (h s.0) s.1) (λ s. s)
  unfolding earliest_form
  same_maps = record {
    initial = ap (expand h) (sym i.initial) ∙ sym (renamed_id _);
    rhs = λ s a v c. ap (λ t. get_or (sub (expand h t) s.1) (node 0 none)) (sym (i.rhs s.0 a _ v.0 c)) ∙ sym (renamed_id _);
  }

  same_early : (s : ℕ × List ℕ) → (s.0 < n) × Open (h s.0) s.1 → (earliest_form M' h).sort s ≡ (earliest_form M h).sort s
  unfolding earliest_form
  same_early s v = sym (i.sort s.0 v.0)

  -- its states are met in one order
  same_met : {L : List (ℕ × List ℕ)} → Discovered G (earliest_form M h) L → Discovered G (earliest_form M' h) L
  same_met {L} d = rw (map-id L) at (discovered_mapped (early_wf W h H) same_maps same_early (λ s t v w e. e) d)

-- The trimmed form of M is that of a transducer identical to M.
pub trimmed_same : {G : Grammar} {M M' N : Transducer ℕ} {n k : ℕ} → Wf G M (λ q. q < n) → Identical G M M' n n → Trimmed G M (λ q. q < n) N k → Trimmed G M' (λ q. q < n) N k
trimmed_same W i T =
    let h = T.prefix in
    let d = same_met W i h T.prefs T.met in
    record {
      prefix = h;
      prefs = same_prefs W i h T.prefs;
      states = T.states;
      number = T.number;
      numbers = T.numbers;
      met = d;
      form = identical_trans T.form (listed_identical (early_wf W h T.prefs) (same_maps W i h T.prefs) (same_early W i h T.prefs) (λ s t v w e. e) T.met T.numbers d T.numbers);
    }
