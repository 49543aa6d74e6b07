-- The earliest form by its numbers: its right-hand sides are over the output alphabet, its states are those of the theory's earliest form, and so are its right-hand sides.
-- Assumes nothing.
use Prim.Native.Nat.{ℕ, ◌+◌, ◌*◌, ◌/◌, ◌%◌, ◌≤◌, ◌<◌}
use native.Mathlib.Omega.{arith}
use mathlib.Core.List.{List}
use mathlib.Core.Option
use mathlib.Core.Option.{some}
use mathlib.Core.Path.{◌≡◌, refl, sym, ap, ap₂, ◌∙◌}
use lib.ListN.{length, get_or}
use Rattle.theory.specs.EarliestForm.{expand, earliest_form}
use Rattle.theory.specs.Pref.{Prefs}
use Rattle.theory.specs.Prefix.{Prefix, Open}
use Rattle.theory.specs.Term.{Term, var, node, none, mapT, sub}
use Rattle.theory.specs.Transducer.{renamed}
use Rattle.theory.proofs.Cut.{prefs_fixed}
use Rattle.theory.proofs.Morphism.{Maps}
use Rattle.theory.proofs.Prefixes.{prefix_map, prefix_trans}
use Rattle.theory.proofs.Terms.{bind_var, sub_bind}
use Rattle.trees.specs.Alphabets.{Leaf}
use Rattle.trees.specs.Code.{Ranked}
use Rattle.theory.specs.Inner.Forests.{letters}
use Rattle.trees.specs.Inner.Decode.{forest, first, Whole}
use Rattle.formats.specs.Inner.Layout.{body, body_number, transducer}
use Rattle.trees.proofs.Codes.{single}
use Rattle.forms.specs.Alphabet.{alphabet, children_inside, children_of_lem}
use Rattle.prefixes.specs.Inner.Heads.{Heads, head_of}
use Rattle.forms.specs.Inner.Tables.{Layout, machine}
use Rattle.prefixes.specs.Inner.Patterns.{top, top_of, pattern_code, head_at, read_pattern}
use Rattle.forms.proofs.Files.{machine_wf}
use Rattle.discovery.specs.Inner.Discovering.{ValidCall, ByNumbers}
use Rattle.earliest.specs.Inner.Letters.{letter_of, expanded_body, under, earliest, State, Expanding}
use Rattle.discovery.proofs.Ranks.{ranked_sub}
use Rattle.earliest.specs.Inner.Places.{place}
use Rattle.earliest.proofs.Places.{under_place, place_open, place_same}
use Rattle.earliest.proofs.Expanding.{state_small, pair, ExpandedRead, expanded_read, head_ranked, head_letters, head_byte}

-- the term that is read from expanded body j
abbrev pub expanded_term : List ℕ → List ℕ → List ℕ → List ℕ → List ℕ → ℕ → Term (ℕ × ℕ)
expanded_term outs starts bytes heads sizes j = first (forest (letter_of outs) (expanded_body starts bytes heads sizes j))

-- a renamed term has the symbols of the term
prefix_renamed : {Q Q' : Type 0} (f : Q → Q') (t : Term (ℕ × Q)) → Prefix (renamed f t) t
unfolding renamed
prefix_renamed {Q} {Q'} f t = rw (bind_var t) at (prefix_map {C = ℕ × Q'} (λ e. (e.0, f e.1)) t (λ e. var e))

-- ---- the expanded bodies
module _ {ins outs starts bytes heads sizes : List ℕ} (T : Heads outs heads sizes) (L : Layout ins outs starts bytes (length sizes)) where
  read_initial : ExpandedRead outs heads sizes bytes (get_or starts 0 0) (get_or starts 1 0) 1
  unfolding body
  read_initial = expanded_read T L.few_symbols L.few_states bytes (get_or starts 0 0) (get_or starts 1 0) 1 L.wholes.initial

  module _ (q a : ℕ) (state : q < length sizes) (there : a < length ins) where
    read_rhs : ExpandedRead outs heads sizes bytes (get_or starts (body_number ins q a) 0) (get_or starts (body_number ins q a + 1) 0) (get_or ins a 0)
    unfolding body
    read_rhs = expanded_read T L.few_symbols L.few_states bytes (get_or starts (body_number ins q a) 0) (get_or starts (body_number ins q a + 1) 0) (get_or ins a 0) (L.wholes.rhs q a state there)

    -- each is one tree of known letters
    pub expanded_whole : Whole (letter_of outs) (expanded_body starts bytes heads sizes (body_number ins q a))
    expanded_whole = read_rhs.whole

    -- it is the expanded right-hand side, by the numbers of the states
    pub expanded_pairs : renamed (pair (head_of outs heads sizes)) (expanded_term outs starts bytes heads sizes (body_number ins q a)) ≡ expand (head_of outs heads sizes) ((machine ins outs starts bytes (length sizes)).rhs q a)
    unfolding transducer body
    expanded_pairs = read_rhs.pairs

    pub expanded_ranked : Ranked (ValidCall (State heads sizes) (get_or ins a 0)) outs (expanded_term outs starts bytes heads sizes (body_number ins q a))
    expanded_ranked = read_rhs.ranked

  pub expanded_whole_initial : Whole (letter_of outs) (expanded_body starts bytes heads sizes 0)
  expanded_whole_initial = read_initial.whole

  pub expanded_pairs_initial : renamed (pair (head_of outs heads sizes)) (expanded_term outs starts bytes heads sizes 0) ≡ expand (head_of outs heads sizes) (machine ins outs starts bytes (length sizes)).initial
  unfolding transducer body
  expanded_pairs_initial = read_initial.pairs

  -- common prefixes are prefixes of the expanded right-hand sides
  pub prefixed_by : (l : Leaf ins) → Prefs (alphabet ins l) (machine ins outs starts bytes (length sizes)) (λ q. q < length sizes) (head_of outs heads sizes)
      → (q a : ℕ) → q < length sizes → a < length ins → Prefix (head_of outs heads sizes q) (expanded_term outs starts bytes heads sizes (body_number ins q a))
  unfolding alphabet
  prefixed_by l H q a h g =
      prefix_trans (rw (← expanded_pairs q a h g) at (prefs_fixed (machine_wf l L.wholes) (head_of outs heads sizes) H q a _ h (children_of_lem ins a g)))
      (prefix_renamed (pair (head_of outs heads sizes)) (expanded_term outs starts bytes heads sizes (body_number ins q a)))

-- ---- the states
module _ {outs heads sizes : List ℕ} (T : Heads outs heads sizes) (few : length outs ≤ 64) {c : ℕ} (S : State heads sizes c) where
  -- the code of the pattern has ⊤ there
  top_byte : get_or (pattern_code (head_of outs heads sizes (c / 64))) (c % 64) 0 ≡ top
  top_byte = let e : 64 * (c / 64) + c % 64 ≡ c = omega arith in head_byte T (c / 64) S.state (c % 64) S.inside ∙ ap (λ k. get_or heads k 0) e ∙ S.is_top

  top_inside : c % 64 < letters (head_of outs heads sizes (c / 64))
  top_inside = omega (arith, head_letters T (c / 64) S.state, S.inside)

  -- so the pair is a state of the theory's earliest form
  pub pair_valid : ((pair (head_of outs heads sizes) c).0 < length sizes) × Open (head_of outs heads sizes (pair (head_of outs heads sizes) c).0) (pair (head_of outs heads sizes) c).1
  unfolding pair
  pair_valid = (S.state, place_open outs few (head_of outs heads sizes (c / 64)) (head_ranked T (c / 64) S.state) (c % 64) top_inside top_byte)

-- two states have two pairs
pub pair_injective : {outs heads sizes : List ℕ} → Heads outs heads sizes → length outs ≤ 64 → {c d : ℕ} → State heads sizes c → State heads sizes d → pair (head_of outs heads sizes) c ≡ pair (head_of outs heads sizes) d → c ≡ d
unfolding pair
pair_injective {outs} {heads} {sizes} T few {c} {d} S R e =
    let h = head_of outs heads sizes in
    let q : c / 64 ≡ d / 64 = ap (λ (s : ℕ × List ℕ). s.0) e in
    let p : place (h (c / 64)) (c % 64) ≡ place (h (c / 64)) (d % 64) = ap (λ (s : ℕ × List ℕ). s.1) e ∙ ap (λ k. place (h k) (d % 64)) (sym q) in
    let m : c % 64 ≡ d % 64 = place_same outs few (h (c / 64)) (head_ranked T (c / 64) S.state) (c % 64) (top_inside T few S) (top_byte T few S) (d % 64) (rw q (top_inside T few R)) (rw q (top_byte T few R)) p in
    omega arith

-- ---- the transducer
module _ {ins outs starts bytes heads sizes : List ℕ} (X : Expanding ins outs starts bytes heads sizes) where
  -- the right-hand side of c is the subtree at its address of the expanded right-hand side
  earliest_sub : {c : ℕ} (a : ℕ) → State heads sizes c → a < length ins → sub (expanded_term outs starts bytes heads sizes (body_number ins (c / 64) a)) (place (head_of outs heads sizes (c / 64)) (c % 64)) ≡ some ((earliest ins outs starts bytes heads sizes).rhs c a)
  unfolding earliest head_of read_pattern
  earliest_sub {c} a S h =
      under_place (X.prefixed (c / 64) a S.state h) (c % 64) (top_inside X.table X.layout.few_symbols S)
      ∙ ap some (ap₂ (under (c % 64)) (sym (single (forest (top_of outs) (head_at heads sizes (c / 64))) (X.table.each (c / 64) S.state).one))
      (sym (single (forest (letter_of outs) (expanded_body starts bytes heads sizes (body_number ins (c / 64) a))) (expanded_whole X.table X.layout (c / 64) a S.state h).one)))

  -- the initial term and the right-hand sides are over the output alphabet, and call states
  pub earliest_over_initial : Ranked (ValidCall (State heads sizes) 1) outs (earliest ins outs starts bytes heads sizes).initial
  unfolding earliest
  earliest_over_initial = (read_initial X.table X.layout).ranked

  pub earliest_over : {c : ℕ} (a : ℕ) → State heads sizes c → a < length ins → Ranked (ValidCall (State heads sizes) (get_or ins a 0)) outs ((earliest ins outs starts bytes heads sizes).rhs c a)
  earliest_over {c} a S h =
      ranked_sub (ValidCall (State heads sizes) (get_or ins a 0)) outs (expanded_term outs starts bytes heads sizes (body_number ins (c / 64) a)) (place (head_of outs heads sizes (c / 64)) (c % 64)) (expanded_ranked X.table X.layout (c / 64) a S.state h) (earliest_sub a S h)

  -- its states are numbers below 8,192
  pub by_numbers : ByNumbers ins outs 8192 (earliest ins outs starts bytes heads sizes) (State heads sizes)
  unfolding earliest
  by_numbers = record {
    few_symbols = X.layout.few_symbols;
    few_inputs = X.layout.few_inputs;
    ranks = X.ranks;
    narrow = omega arith;
    small = λ c S. state_small S X.layout.few_states;
    sort = λ c. refl;
    initial = earliest_over_initial;
    rhs = λ c a. earliest_over a;
  }

  -- the pairs of its states map it into the theory's earliest form
  pub earliest_maps : (l : Leaf ins) → Maps (alphabet ins l) (earliest ins outs starts bytes heads sizes) (earliest_form (machine ins outs starts bytes (length sizes)) (head_of outs heads sizes)) (State heads sizes) (pair (head_of outs heads sizes))
  unfolding alphabet earliest earliest_form pair renamed mapT
  earliest_maps l = record {
    initial = sym (expanded_pairs_initial X.table X.layout);
    rhs = λ c a S k.
        let g = (children_inside ins a k).0 in
        let v = place (head_of outs heads sizes (c / 64)) (c % 64) in
        let t = expanded_term outs starts bytes heads sizes (body_number ins (c / 64) a) in
        ap (λ u. Option.get_or (sub u v) (node 0 none)) (sym (expanded_pairs X.table X.layout (c / 64) a S.state g)) ∙ ap (λ o. Option.get_or o (node 0 none)) (sub_bind t _ v (earliest_sub a S g));
  }

  -- and keep the sorts
  pub pair_sort : (c : ℕ) → (earliest_form (machine ins outs starts bytes (length sizes)) (head_of outs heads sizes)).sort (pair (head_of outs heads sizes) c) ≡ (earliest ins outs starts bytes heads sizes).sort c
  unfolding earliest_form earliest transducer
  pair_sort c = refl
