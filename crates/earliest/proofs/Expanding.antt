-- The letters of an expanded right-hand side are the code of a term: the theory's expanded right-hand side, with the numbers of the ⊤ for their addresses.
-- Assumes nothing.
use Prim.Native.Nat.{ℕ, suc, ◌+◌, ◌*◌, ◌/◌, ◌%◌, ◌≤◌, ◌<◌}
use native.Mathlib.Nat.{add-zero, div-add-mod}
use native.Mathlib.Omega.{arith}
use mathlib.Core.Bool.{Bool, true, false}
use mathlib.Core.List.{List, [], ◌∷◌, ◌++◌}
use mathlib.Core.Path.{◌≡◌, refl, sym, ap, ap₂, ◌∙◌, fun_ext}
use lib.Dec.{ltb, eqb}
use lib.ListN.{length, get_or, take}
use lib.Seq.{get_or-drop, get_or-take}
use borrow.Author.Tests.{ltb-true, lt-ltb, le-ltb, le-leb, ne_eqb}
use Rattle.theory.specs.EarliestForm.{opened, expand}
use Rattle.theory.specs.Lcp.{Patterns}
use Rattle.theory.specs.Prefix.{Pattern}
use Rattle.theory.specs.Term.{Term, var, node, Terms, none, more, count, bind, mapT}
use Rattle.theory.specs.Transducer.{renamed}
use Rattle.theory.specs.Vars.{AllVars}
use Rattle.theory.proofs.Terms.{conflict, bind_bind, bind_map}
use Rattle.theory.proofs.Vars.{bind_ext, all_map}
use Rattle.trees.specs.Code.{Ranked, AllRanked, Call, preorder, preorders}
use Rattle.theory.specs.Inner.Forests.{letters}
use Rattle.trees.specs.Inner.Decode.{call, symbol, forest, first, Whole, Over, AllOver}
use Rattle.formats.specs.Inner.Layout.{mark_of}
use Rattle.formats.specs.Inner.Marked.{part}
use Rattle.trees.proofs.Codes.{preorder_bind, reads_back, code_whole}
use Rattle.formats.proofs.Sheets.{whole_ranked}
use Rattle.transducer.proofs.Meaning.{body_read}
use Rattle.transducer.proofs.Walks.{spell_same}
use Rattle.prefixes.specs.Inner.Heads.{Heads, head_of, body_term}
use Rattle.prefixes.specs.Inner.Patterns.{top, top_if, top_of, pattern_code, head_at}
use Rattle.prefixes.proofs.Grafts.{OverTop, pattern_read, head_length}
use Rattle.discovery.specs.Inner.Discovering.{ValidCall}
use Rattle.earliest.specs.Inner.Letters.{letter_of, open_if, labeled, expanded, State}
use Rattle.discovery.specs.Inner.Letters.{call_letter, spelt}
use Rattle.discovery.proofs.Ranks.{ranked_all, ranked_bind}
use Rattle.earliest.specs.Inner.Places.{place}
use Rattle.earliest.proofs.Places.{numbered, numbered_all, label_number, pattern_length, RankedPattern, ranked_number}

-- ---- patterns
top_inside : (outs : List ℕ) (k n : ℕ) → top_of outs k ≡ symbol k n → (k < length outs) × (n ≡ get_or outs k 0)
unfolding top_of
top_inside outs k n e = go (ltb k (length outs)) (eqb k top) refl e
  where
    go : (b t : Bool) → ltb k (length outs) ≡ b → top_if b t k (get_or outs k 0) ≡ symbol k n → (k < length outs) × (n ≡ get_or outs k 0)
    go true t h e = (ltb-true _ _ h, (cc))
    go false true h e = conflict (cc)
    go false false h e = conflict (cc)

module _ (outs : List ℕ) where
  mutual
    unfolding Over Ranked

    -- a pattern over the letters is ranked
    pattern_ranked : (p : Pattern) → OverTop outs p → RankedPattern outs p
    pattern_ranked (var a) o = tt
    pattern_ranked (node k ps) o = let i = top_inside outs k (count ps) o.0 in (i.0, i.1, patterns_ranked ps o.1)

    patterns_ranked : (ps : Patterns) → AllOver (top_of outs) (λ u. top) (λ k. k) ps → AllRanked (λ u. Unit {0}) outs ps
    patterns_ranked none o = tt
    patterns_ranked (more p ps) o = (pattern_ranked p o.0, patterns_ranked ps o.1)

labeled_append : (b : ℕ) (s u : List ℕ) → labeled b (s ++ u) ≡ labeled b s ++ labeled (b + length s) u
unfolding labeled
labeled_append b [] u = rw (add-zero b)
labeled_append b (x ∷ s) u = ap (◌∷◌ (open_if (eqb x top) b x)) (labeled_append (suc b) s u ∙ ap (λ k. labeled (suc b) s ++ labeled k u) (omega arith))

module _ (outs : List ℕ) (few : length outs ≤ 64) where
  mutual
    unfolding labeled preorder numbered Ranked letters

    -- a labeled pattern has the letters of its numbered term
    labeled_number : (p : Pattern) (b : ℕ) → RankedPattern outs p → labeled b (pattern_code p) ≡ preorder (λ x. x ∷ []) (λ k. k) (numbered p b)
    labeled_number (var a) b c = refl
    labeled_number (node k ps) b c = rw (ne_eqb k top (λ e. omega (arith, c.0))) (ap (◌∷◌ k) (labeled_numbers ps (suc b) c.2))

    labeled_numbers : (ps : Patterns) (b : ℕ) → AllRanked (λ u. Unit {0}) outs ps → labeled b (preorders (λ u. top ∷ []) (λ k. k) ps) ≡ preorders (λ x. x ∷ []) (λ k. k) (numbered_all ps b)
    labeled_numbers none b c = refl
    labeled_numbers (more p ps) b c =
        labeled_append b (pattern_code p) (preorders (λ u. top ∷ []) (λ k. k) ps)
        ∙ ap₂ ◌++◌ (labeled_number p b c.0) (ap (λ n. labeled (b + n) (preorders (λ u. top ∷ []) (λ k. k) ps)) (pattern_length p) ∙ labeled_numbers ps (b + letters p) c.1)

-- ---- a call for each number
abbrev pub call_of : ℕ → ℕ × ℕ
call_of x = (x / 65536, x % 65536)

-- the numbers are the letters of the calls
spelt_calls : (t : Term ℕ) → spelt (mapT call_of t) ≡ preorder (λ x. x ∷ []) (λ k. k) t
unfolding mapT preorder
spelt_calls t = preorder_bind (λ e. call_letter e ∷ []) (λ k. k) (λ x. var (call_of x)) t ∙ ap (λ (g : ℕ → List ℕ). preorder g (λ k. k) t) (fun_ext (λ x. ap (λ y. y ∷ []) (div-add-mod x 65536)))

-- the pattern that stands for the call (i, q), with a call of state 64 q + m on child i at its ⊤ number m
abbrev pub open_numbers : (ℕ → Pattern) → ℕ × ℕ → Term (ℕ × ℕ)
open_numbers h e = mapT call_of (numbered (h e.1) (65536 * e.0 + 64 * e.1))

-- t with such patterns for its calls
unfoldable pub expand_numbers : (ℕ → Pattern) → Term (ℕ × ℕ) → Term (ℕ × ℕ)
expand_numbers h t = bind t (open_numbers h)

-- the state of the theory's earliest form that has the number c
unfoldable pub pair : (ℕ → Pattern) → ℕ → ℕ × List ℕ
pair h c = (c / 64, place (h (c / 64)) (c % 64))

-- the parts of such a number
module _ (i q m : ℕ) (state : q < 128) (inside : m < 64) where
  number_call : call_of (65536 * i + 64 * q + m) ≡ (i, 64 * q + m)
  number_call =
      let a : (65536 * i + 64 * q + m) / 65536 ≡ i = omega arith in
      let b : (65536 * i + 64 * q + m) % 65536 ≡ 64 * q + m = omega arith in
      ap₂ (λ x y. (x, y)) a b

  number_state : ((64 * q + m) / 64 ≡ q) × ((64 * q + m) % 64 ≡ m)
  number_state = (omega arith, omega arith)

  number_pair : (h : ℕ → Pattern) → pair h (64 * q + m) ≡ (q, place (h q) m)
  unfolding pair
  number_pair h = ap₂ (λ x y. (x, place (h x) y)) number_state.0 number_state.1

module _ (h : ℕ → Pattern) (n r : ℕ) (few : n ≤ 128) (small : (q : ℕ) → q < n → letters (h q) ≤ 64) where
  -- a pattern for a call, by the numbers of its ⊤ or by their addresses
  opened_pair : (e : ℕ × ℕ) → Call n r e → renamed (pair h) (open_numbers h e) ≡ opened h e
  unfolding renamed opened mapT
  opened_pair e c =
      let p = h e.1 in
      let b = 65536 * e.0 + 64 * e.1 in
      let s = small e.1 c.state in
      bind_map call_of (numbered p b) (λ d. var (d.0, pair h d.1))
      ∙ label_number (λ x. ((call_of x).0, pair h (call_of x).1)) p b (λ v. (e.0, (e.1, v))) (λ m l.
      let k = number_call e.0 e.1 m (omega (arith, c.state)) (omega arith) in
      ap (λ (d : ℕ × ℕ). (d.0, pair h d.1)) k ∙ ap (λ s. (e.0, s)) (number_pair e.0 e.1 m (omega (arith, c.state)) (omega arith) h))

  -- an expanded term, by the numbers or by the addresses
  pub expand_pair : (t : Term (ℕ × ℕ)) → AllVars (Call n r) t → renamed (pair h) (expand_numbers h t) ≡ expand h t
  unfolding renamed expand expand_numbers mapT
  expand_pair t c = bind_bind t (open_numbers h) (λ d. var (d.0, pair h d.1)) ∙ bind_ext (all_map opened_pair c)

-- ---- the table of patterns
-- there are at most 8,192 states
pub state_small : {heads sizes : List ℕ} {c : ℕ} → State heads sizes c → length sizes ≤ 128 → c < 8192
state_small S few = omega (arith, S.state)

module _ {outs heads sizes : List ℕ} (T : Heads outs heads sizes) (q : ℕ) (state : q < length sizes) where
  pub head_ranked : RankedPattern outs (head_of outs heads sizes q)
  unfolding head_of
  head_ranked = pattern_ranked outs _ (pattern_read outs (head_at heads sizes q) (T.each q state)).0

  pub head_code : pattern_code (head_of outs heads sizes q) ≡ head_at heads sizes q
  unfolding head_of
  head_code = (pattern_read outs (head_at heads sizes q) (T.each q state)).1

  pub head_letters : letters (head_of outs heads sizes q) ≡ get_or sizes q 0
  head_letters = sym (pattern_length (head_of outs heads sizes q)) ∙ ap length head_code ∙ head_length heads sizes q (omega (arith, T.long, T.small q state))

  -- byte m of the pattern stands at byte 64 q + m of the table
  pub head_byte : (m : ℕ) → m < get_or sizes q 0 → get_or (pattern_code (head_of outs heads sizes q)) m 0 ≡ get_or heads (64 * q + m) 0
  head_byte m h =
      ap (λ s. get_or s m 0) head_code ∙ get_or-drop (64 * q) (take (64 * q + get_or sizes q 0) heads) m 0 ∙ get_or-take (64 * q + get_or sizes q 0) heads (64 * q + m) 0 (omega arith)

  -- its ⊤ are states
  head_state : q < 128 → (m : ℕ) → m < letters (head_of outs heads sizes q) → get_or (pattern_code (head_of outs heads sizes q)) m 0 ≡ top → State heads sizes (64 * q + m)
  head_state few m h e =
      let l = head_letters in
      let s = T.small q state in
      let k = number_state 0 q m few (omega arith) in
      record {
        state = omega (arith, k.0);
        inside = rw (k.0, k.1) (omega arith);
        is_top = sym (head_byte m (omega arith)) ∙ e;
      }

-- ---- the letters
symbol_letter : (outs : List ℕ) (k : ℕ) → k < length outs → letter_of outs k ≡ symbol k (get_or outs k 0)
unfolding letter_of
symbol_letter outs k h = simp (lt-ltb k (length outs) h)

call_letter_lem : (outs : List ℕ) → length outs ≤ 64 → (e : ℕ × ℕ) → 1 ≤ e.0 → e.1 < 65536 → letter_of outs (call_letter e) ≡ call e
unfolding letter_of
call_letter_lem outs few e h g =
    let a : call_letter e / 65536 ≡ e.0 = omega arith in
    let b : call_letter e % 65536 ≡ e.1 = omega arith in
    simp (le-ltb (call_letter e) (length outs) (omega arith), le-leb 65536 (call_letter e) (omega arith)) (ap₂ (λ x y. call (x, y)) a b)

-- a ranked term is over the letters
module _ (outs heads sizes : List ℕ) (few : length outs ≤ 64) (few_states : length sizes ≤ 128) (r : ℕ) where
  mutual
    unfolding Over Ranked

    over_letters : (t : Term (ℕ × ℕ)) → Ranked (ValidCall (State heads sizes) r) outs t → Over (letter_of outs) call_letter (λ k. k) t
    over_letters (var e) c = call_letter_lem outs few e c.from_one (omega (arith, state_small c.state few_states))
    over_letters (node k ts) c = (symbol_letter outs k c.0 ∙ ap (symbol k) (sym c.1), all_over_letters ts c.2)

    all_over_letters : (ts : Terms (ℕ × ℕ)) → AllRanked (ValidCall (State heads sizes) r) outs ts → AllOver (letter_of outs) call_letter (λ k. k) ts
    all_over_letters none c = tt
    all_over_letters (more t ts) c = (over_letters t c.0, all_over_letters ts c.1)

-- the letters of the marks number `from` up to `to`, a body over r children, expanded: one term is read from them, the body's expanded term
pub record ExpandedRead (outs heads sizes bytes : List ℕ) (from to r : ℕ) : Type 0 where
  pub whole : Whole (letter_of outs) (expanded heads sizes bytes from to)
  pub read : first (forest (letter_of outs) (expanded heads sizes bytes from to)) ≡ expand_numbers (head_of outs heads sizes) (body_term outs sizes r bytes from to)
  pub ranked : Ranked (ValidCall (State heads sizes) r) outs (first (forest (letter_of outs) (expanded heads sizes bytes from to)))
  pub pairs : renamed (pair (head_of outs heads sizes)) (first (forest (letter_of outs) (expanded heads sizes bytes from to))) ≡ expand (head_of outs heads sizes) (body_term outs sizes r bytes from to)

module _ {outs heads sizes : List ℕ} (T : Heads outs heads sizes) (few : length outs ≤ 64) (few_states : length sizes ≤ 128)
    (bytes : List ℕ) (from to r : ℕ) (W : Whole (mark_of outs (length sizes) r) (part bytes from to)) where
  -- the calls that stand for a call
  opened_ranked : (e : ℕ × ℕ) → Call (length sizes) r e → Ranked (ValidCall (State heads sizes) r) outs (open_numbers (head_of outs heads sizes) e)
  opened_ranked e c =
      let p = head_of outs heads sizes e.1 in
      let l = head_letters T e.1 c.state in
      let s = T.small e.1 c.state in
      ranked_number outs (ValidCall (State heads sizes) r) call_of p (65536 * e.0 + 64 * e.1) (head_ranked T e.1 c.state) (λ m h g.
      rw (number_call e.0 e.1 m (omega (arith, c.state)) (omega arith)) (record {
        from_one = c.from_one;
        child = c.child;
        state = head_state T e.1 c.state (omega (arith, c.state)) m h g;
      }))

  expand_ranked : Ranked (ValidCall (State heads sizes) r) outs (expand_numbers (head_of outs heads sizes) (body_term outs sizes r bytes from to))
  unfolding expand_numbers
  expand_ranked = ranked_bind (Call (length sizes) r) outs (ValidCall (State heads sizes) r) (open_numbers (head_of outs heads sizes)) opened_ranked (body_term outs sizes r bytes from to) (whole_ranked outs (length sizes) r (part bytes from to) W).0

  -- the letters are those of the expanded term
  expanded_spelt : expanded heads sizes bytes from to ≡ spelt (expand_numbers (head_of outs heads sizes) (body_term outs sizes r bytes from to))
  unfolding expand_numbers
  expanded_spelt =
      let h = head_of outs heads sizes in
      let R = body_read outs (length sizes) r (part bytes from to) W in
      spell_same (λ i q. labeled (65536 * i + 64 * q) (head_at heads sizes q)) (λ i q. spelt (open_numbers h (i, q))) (length sizes) r (part bytes from to) R.callable
      (λ i q p l s. ap (labeled (65536 * i + 64 * q)) (sym (head_code T q s)) ∙ labeled_number outs few (h q) (65536 * i + 64 * q) (head_ranked T q s) ∙ sym (spelt_calls (numbered (h q) (65536 * i + 64 * q))))
      ∙ sym (R.spelled (λ e. spelt (open_numbers h e)))
      ∙ sym (preorder_bind (λ e. call_letter e ∷ []) (λ k. k) (open_numbers h) (body_term outs sizes r bytes from to))

  pub expanded_read : ExpandedRead outs heads sizes bytes from to r
  expanded_read =
      let h = head_of outs heads sizes in
      let t = body_term outs sizes r bytes from to in
      let o = over_letters outs heads sizes few few_states r (expand_numbers h t) expand_ranked in
      let e : first (forest (letter_of outs) (expanded heads sizes bytes from to)) ≡ expand_numbers h t = ap (λ s. first (forest (letter_of outs) s)) expanded_spelt ∙ reads_back (letter_of outs) call_letter (λ k. k) (expand_numbers h t) o in
      let c = ranked_all (Call (length sizes) r) outs t (whole_ranked outs (length sizes) r (part bytes from to) W).0 in
      record {
        whole = rw expanded_spelt (code_whole (letter_of outs) call_letter (λ k. k) (expand_numbers h t) o);
        read = e;
        ranked = rw e expand_ranked;
        pairs = ap (renamed (pair h)) e ∙ expand_pair h (length sizes) r few_states (λ q s. omega (arith, head_letters T q s, T.small q s)) t c;
      }
