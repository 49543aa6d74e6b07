-- Patterns as bytes: each is read back from its code; a right-hand side with the patterns of the states for its calls is the code of its graft; and what a cut does to the table of patterns.
-- Assumes nothing.
use Prim.Native.Nat.{ℕ, suc, ◌+◌, ◌-◌, ◌*◌, ◌≤◌, ◌<◌}
use native.Mathlib.Decide.{dec_lt, ℕ_discrete}
use native.Mathlib.Numerals.{add-one}
use native.Mathlib.Omega.{arith}
use mathlib.Core.Bool.{Bool, true, false}
use mathlib.Core.Logic.{◌≢◌, by_cases, ⊎_elim}
use mathlib.Core.Path.{◌≡◌, refl, sym, ap, ap₂, ◌∙◌}
use mathlib.Core.List.{List, [], ◌∷◌, ◌++◌, append_assoc, append-nil}
use lib.Dec.{ltb, eqb}
use lib.ListN.{length, get_or, take, drop, set, length-take, length-append, length-set, get_or-eq_default}
use lib.Seq.{set-get_or, take_at, slice, slice_empty, length-slice, length-take-le, get_or-take, get_or-drop, drop_at, take-take, take-suc-set, drop-drop, take-append-le, take-append-add, sets, sets-eq, length-sets, get_or-set_same, get_or-set_other}
use borrow.Rule.Slice.PartMut.{put_mid, post_of, same_len_mid, mid_len, take_put, drop_put}
use borrow.Author.Tests.{lt-ltb, le-ltb, eqb-true}
use Rattle.theory.specs.Inner.Graft.{graft}
use Rattle.theory.specs.Lcp.{lcp, Patterns}
use Rattle.theory.specs.Prefix.{Pattern, Prefix, any, keeps, Prefixes, no_more, also}
use Rattle.theory.specs.Term.{Term, var, node, Terms, none, more, count, bind, binds}
use Rattle.theory.proofs.Lcps.{lcp_left}
use Rattle.theory.proofs.Prefixes.{prefixes_count}
use Rattle.theory.specs.Size.{size}
use Rattle.theory.proofs.Sizes.{lcp_smaller}
use Rattle.std.specs.Prelude.{is_some}
use Rattle.std.specs.Bool.{then_some}
use Rattle.theory.proofs.Terms.{conflict, count_binds}
use Rattle.trees.specs.Code.{Ranked, AllRanked, Call, Mark}
use Rattle.trees.specs.Inner.Decode.{call, symbol, first, Over, AllOver, Whole}
use Rattle.formats.specs.Inner.Layout.{pairs, mark_at, mark_of}
use Rattle.formats.specs.Inner.Marked.{part}
use Rattle.trees.proofs.Codes.{Faithful, exactly, reads_back, code_whole, preorder_bind}
use Rattle.trees.proofs.Deciding.{decides_same}
use Rattle.formats.proofs.Pairs.{getD_slice, pairs_at, pairs_length, part_cons}
use Rattle.formats.proofs.Sheets.{whole_ranked}
use Rattle.transducer.specs.Inner.Written.{spell}
use Rattle.transducer.proofs.Meaning.{body_read}
use Rattle.transducer.proofs.Walks.{spell_same}
use Rattle.forms.proofs.Slices.{slice_from}
use Rattle.prefixes.specs.Inner.Patterns.{top, top_if, top_of, pattern_code, IsPattern, read_pattern, head_at, grafted, Begins, Graftable, CutPattern, size_after}
use Rattle.prefixes.specs.Inner.Heads.{Heads, head_of, body_term, Cuttable, CutBy}
use Rattle.prefixes.proofs.Ends.{letter_inside}
use Rattle.prefixes.proofs.Patterns.{patterns_at, Byte, named, free, byte_at}

-- ---- a byte of a pattern
-- p is over the output alphabet
abbrev pub OverTop : List ℕ → Pattern → Type 0
OverTop outs p = Over (top_of outs) (λ u. top) (λ k. k) p

-- which byte a letter was read from
symbol_byte : (outs : List ℕ) (x k n : ℕ) → top_of outs x ≡ symbol k n → k ≡ x
unfolding top_of
symbol_byte outs x k n e = go (ltb x (length outs)) (eqb x top) e
  where
    go : (b t : Bool) → top_if b t x (get_or outs x 0) ≡ symbol k n → k ≡ x
    go true t e = cc
    go false true e = conflict (cc)
    go false false e = conflict (cc)

top_byte : (outs : List ℕ) (x : ℕ) (u : Unit {0}) → top_of outs x ≡ call u → top ≡ x
unfolding top_of
top_byte outs x u e = go (ltb x (length outs)) (eqb x top) refl e
  where
    go : (b t : Bool) → eqb x top ≡ t → top_if b t x (get_or outs x 0) ≡ call u → top ≡ x
    go true t h e = conflict (cc)
    go false true h e = sym (eqb-true x top h)
    go false false h e = conflict (cc)

-- each byte of a pattern is the letter of one symbol, or that of ⊤
pub faithful_top : (outs : List ℕ) → Faithful (top_of outs) (λ u. top) (λ k. k)
faithful_top outs = record { calls = λ x u e. top_byte outs x u e; symbols = λ x k n e. symbol_byte outs x k n e }

symbol_letter : (outs : List ℕ) (k : ℕ) → k < length outs → top_of outs k ≡ symbol k (get_or outs k 0)
unfolding top_of
symbol_letter outs k h = simp (lt-ltb k (length outs) h)

-- ---- the code of a pattern
module _ (outs : List ℕ) where
  -- a pattern that is over the alphabet is read back from its code
  pub pattern_back : (p : Pattern) → OverTop outs p → IsPattern outs (pattern_code p) × (read_pattern outs (pattern_code p) ≡ p)
  unfolding read_pattern
  pattern_back p o = (code_whole (top_of outs) (λ u. top) (λ k. k) p o, reads_back (top_of outs) (λ u. top) (λ k. k) p o)

  -- the pattern that is read from a code is over the alphabet, and has that code
  pub pattern_read : (s : List ℕ) → IsPattern outs s → OverTop outs (read_pattern outs s) × (pattern_code (read_pattern outs s) ≡ s)
  pattern_read s W =
      let w = (exactly (top_of outs) (λ u. top) (λ k. k) (faithful_top outs) 0 s).0 W in
      let e : read_pattern outs s ≡ w.0 = ap (read_pattern outs) (sym w.2) ∙ (pattern_back w.0 w.1).1 in
      (rw e w.1, ap pattern_code e ∙ w.2)

-- ---- what two patterns share
module _ (outs : List ℕ) (few : length outs ≤ 64) where
  pub top_letter : (u : Unit {0}) → top_of outs top ≡ call u
  unfolding top_of
  top_letter u = simp (le-ltb top (length outs) (omega arith))

  mutual
    unfolding Over count

    -- a prefix of a pattern over the alphabet is over it
    over_prefix : {p t : Pattern} → Prefix p t → OverTop outs t → OverTop outs p
    over_prefix (any {a}) o = top_letter a
    over_prefix (keeps {k} ps) o = (o.0 ∙ ap (symbol k) (sym (prefixes_count ps)), over_prefixes ps o.1)

    over_prefixes : {ps ts : Patterns} → Prefixes ps ts → AllOver (top_of outs) (λ u. top) (λ k. k) ts → AllOver (top_of outs) (λ u. top) (λ k. k) ps
    over_prefixes no_more o = tt
    over_prefixes (also p ps) o = (over_prefix p o.0, over_prefixes ps o.1)

  -- what a pattern over the alphabet shares with another is over it
  pub over_lcp : (p t : Pattern) → OverTop outs p → OverTop outs (lcp p t)
  over_lcp p t o = over_prefix (lcp_left p t) o

-- what two codes of patterns share
abbrev pub shared_of : List ℕ → List ℕ → List ℕ → Pattern
shared_of outs x y = lcp (read_pattern outs x) (read_pattern outs y)

-- its code is a pattern, and is read back
pub shared_back : (outs : List ℕ) → length outs ≤ 64 → (x y : List ℕ) → IsPattern outs x → IsPattern outs (pattern_code (shared_of outs x y)) × (read_pattern outs (pattern_code (shared_of outs x y)) ≡ shared_of outs x y)
shared_back outs few x y W = pattern_back outs (shared_of outs x y) (over_lcp outs few (read_pattern outs x) (read_pattern outs y) (pattern_read outs x W).0)

-- where nothing was taken away, all of x is left
all_left : (outs : List ℕ) {x y after : List ℕ} {w : ℕ} → IsPattern outs x → CutPattern outs x y after w false → w ≡ length x
all_left outs {x} {y} {after} {w} X C =
    let e : shared_of outs x y ≡ read_pattern outs x = ⊎_elim (λ s. s) (λ l. conflict (let z = C.told.complete (λ k. omega (arith, ap size k)) in cc)) (lcp_smaller (read_pattern outs x) (read_pattern outs y)) in
    let f : take w after ≡ x = C.shared ∙ ap pattern_code e ∙ (pattern_read outs x X).1 in
    omega (arith, C.short, simp length-take at (ap length f))

-- the answer of a cut
pub cut_answer : {outs x y after : List ℕ} {w : ℕ} (cut : Bool) → IsPattern outs x → CutPattern outs x y after w cut → CutPattern outs x y after (size_after x (then_some cut w)) (is_some (then_some cut w))
cut_answer true X C = C
cut_answer {outs} false X C = rw (← all_left outs X C) C

-- ---- the graft of a right-hand side over n states and r children
module _ (outs : List ℕ) (n r : ℕ) (h : ℕ → Pattern) (all : (q : ℕ) → q < n → OverTop outs (h q)) where
  mutual
    unfolding Over Ranked bind

    over_bind : (t : Term (ℕ × ℕ)) → Ranked (Call n r) outs t → OverTop outs (bind t (λ e. h e.1))
    over_bind (var e) c = all e.1 c.state
    over_bind (node k ts) c = (symbol_letter outs k c.0 ∙ ap (symbol k) (sym (count_binds ts (λ e. h e.1) ∙ c.1)), over_binds ts c.2)

    over_binds : (ts : Terms (ℕ × ℕ)) → AllRanked (Call n r) outs ts → AllOver (top_of outs) (λ u. top) (λ k. k) (binds ts (λ e. h e.1))
    over_binds none c = tt
    over_binds (more t ts) c = (over_bind t c.0, over_binds ts c.1)

  -- the graft of patterns over the alphabet into a ranked term is over it
  pub over_graft : (t : Term (ℕ × ℕ)) → Ranked (Call n r) outs t → OverTop outs (graft h t)
  unfolding graft
  over_graft t c = over_bind t c

-- the patterns of a table, grafted into a whole body: the code of the graft, which is read back
pub record GraftRead (outs heads sizes bytes : List ℕ) (from to r : ℕ) : Type 0 where
  pub pattern : IsPattern outs (grafted heads sizes bytes from to)
  pub read : read_pattern outs (grafted heads sizes bytes from to) ≡ graft (head_of outs heads sizes) (body_term outs sizes r bytes from to)

module _ {outs heads sizes : List ℕ} (T : Heads outs heads sizes) (bytes : List ℕ) (from to r : ℕ) (W : Whole (mark_of outs (length sizes) r) (part bytes from to)) where
  -- the bytes that are grafted are the code of the graft
  pub grafted_code : grafted heads sizes bytes from to ≡ pattern_code (graft (head_of outs heads sizes) (body_term outs sizes r bytes from to))
  unfolding graft head_of
  grafted_code =
      let h = head_of outs heads sizes in
      let R = body_read outs (length sizes) r (part bytes from to) W in
      spell_same (λ i q. head_at heads sizes q) (λ i q. pattern_code (h q)) (length sizes) r (part bytes from to) R.callable (λ i q p l s. sym (pattern_read outs (head_at heads sizes q) (T.each q s)).1)
      ∙ sym (R.spelled (λ e. pattern_code (h e.1)))
      ∙ sym (preorder_bind (λ u. top ∷ []) (λ k. k) (λ e. h e.1) (body_term outs sizes r bytes from to))

  pub graft_read : GraftRead outs heads sizes bytes from to r
  unfolding head_of
  graft_read =
      let o = over_graft outs (length sizes) r (head_of outs heads sizes) (λ q s. (pattern_read outs (head_at heads sizes q) (T.each q s)).0) (body_term outs sizes r bytes from to) (whole_ranked outs (length sizes) r (part bytes from to) W).0 in
      let b = pattern_back outs (graft (head_of outs heads sizes) (body_term outs sizes r bytes from to)) o in
      record { pattern = rw grafted_code b.0; read = ap (read_pattern outs) grafted_code ∙ b.1 }

-- ---- a pattern of the table
-- the n bytes that are lent for the pattern of state q, and the table with them put back as ys
abbrev pub lent_head : List ℕ → ℕ → ℕ → List ℕ
lent_head heads q n = take (64 * q + n - 64 * q) (drop (64 * q) heads)

abbrev pub put_head : List ℕ → ℕ → ℕ → List ℕ → List ℕ
put_head heads q n ys = put_mid (64 * q) (64 * q + n - 64 * q) heads ys

-- with the size of its pattern they are that pattern
pub head_lent : (heads sizes : List ℕ) (q : ℕ) {size : ℕ} → size ≡ get_or sizes q 0 → 64 * q ≤ length heads → lent_head heads q size ≡ head_at heads sizes q
head_lent heads sizes q {size} e h =
    let k : 64 * q + size - 64 * q ≡ get_or sizes q 0 = omega arith in
    ap (λ n. take n (drop (64 * q) heads)) k ∙ sym (slice_from heads (64 * q) (get_or sizes q 0) h)

-- a pattern is as long as its size says
pub head_length : (heads sizes : List ℕ) (q : ℕ) → 64 * q + get_or sizes q 0 ≤ length heads → length (head_at heads sizes q) ≡ get_or sizes q 0
head_length heads sizes q h = length-slice (64 * q) (64 * q + get_or sizes q 0) heads h ∙ omega arith

-- a pattern that begins with the byte of ⊤ is ⊤
pub head_top : {outs heads sizes : List ℕ} → Heads outs heads sizes → length outs ≤ 64 → (q : ℕ) → q < length sizes → get_or heads (64 * q) 0 ≡ top → head_of outs heads sizes q ≡ var tt
unfolding head_of read_pattern first
head_top {outs} {heads} {sizes} T few q state e =
    let s = head_at heads sizes q in
    let there : 0 < count (patterns_at outs s 0) = omega (arith, (T.each q state).one) in
    let some : 0 < get_or sizes q 0 = omega (arith, letter_inside (top_of outs) s 0 there, head_length heads sizes q (omega (arith, T.long, T.small q state))) in
    let z : 64 * q + 0 ≡ 64 * q = omega arith in
    let x : get_or s 0 0 ≡ top = ap (λ l. get_or l 0 0) (slice_from heads (64 * q) (get_or sizes q 0) (omega (arith, T.long))) ∙ get_or-take (get_or sizes q 0) (drop (64 * q) heads) 0 0 some ∙ get_or-drop (64 * q) heads 0 0 ∙ ap (λ k. get_or heads k 0) z ∙ e in
    go x (byte_at outs s 0 there)
  where
    go : {x : ℕ} {G F : Patterns} → x ≡ top → Byte outs x G F → first F ≡ var tt
    go e (named l h) = absurd (omega arith)
    go e (free l h) = refl

-- ---- mark by mark
-- the first mark, where the call (i, q) gives g i q
module _ (g : ℕ → ℕ → List ℕ) (bytes : List ℕ) (j to : ℕ) (less : j < to) (inside : 2 * to ≤ length bytes) where
  -- a symbol writes itself
  pub spell_symbol : get_or bytes (2 * j) 0 ≡ 0 → spell g (part bytes j to) ≡ get_or bytes (2 * j + 1) 0 ∷ spell g (part bytes (j + 1) to)
  unfolding spell
  spell_symbol e = rw (part_cons bytes j to less inside, e)

  -- a call writes what it gives
  pub spell_call : (get_or bytes (2 * j) 0 ≡ 0 → ⊥) → spell g (part bytes j to) ≡ g (get_or bytes (2 * j) 0) (get_or bytes (2 * j + 1) 0) ++ spell g (part bytes (j + 1) to)
  unfolding spell
  spell_call some = go (get_or bytes (2 * j) 0) refl
    where
      go : (i : ℕ) → get_or bytes (2 * j) 0 ≡ i → spell g (part bytes j to) ≡ g i (get_or bytes (2 * j + 1) 0) ++ spell g (part bytes (j + 1) to)
      go ℕ.zero e = absurd (some e)
      go (suc i) e = rw (part_cons bytes j to less inside, e)

-- no mark is left
pub spell_end : (g : ℕ → ℕ → List ℕ) (bytes : List ℕ) (j to : ℕ) → j ≤ to → to ≤ j → spell g (part bytes j to) ≡ []
unfolding spell
spell_end g bytes j to h l = let e : j ≡ to = omega arith in rw (e, slice_empty to (pairs bytes))

-- the pattern of the state q, which mark j calls
pub record Called (heads sizes bytes : List ℕ) (j to q : ℕ) : Type 0 where
  pub state : q < length sizes
  pub small : get_or sizes q 0 ≤ 64
  pub inside : 64 * q + 64 ≤ length heads
  pub long : length (head_at heads sizes q) ≡ get_or sizes q 0
  pub next : grafted heads sizes bytes j to ≡ head_at heads sizes q ++ grafted heads sizes bytes (j + 1) to

module _ {heads sizes bytes out : List ℕ} {from to : ℕ} (G : Graftable heads sizes bytes from to out) where
  -- each call has one
  pub called : (j : ℕ) → from ≤ j → j < to → (get_or bytes (2 * j) 0 ≡ 0 → ⊥) → {q : ℕ} → q ≡ get_or bytes (2 * j + 1) 0 → Called heads sizes bytes j to q
  called j h g some {q} e =
      let m = rw (pairs_at bytes j (omega (arith, G.inside))) at (G.there j h g) in
      let t = m (omega arith) in
      let s : get_or sizes q 0 ≤ 64 = rw e t.1 in
      let i : 64 * q + 64 ≤ length heads = omega (arith, t.2) in
      record {
        state = omega (arith, t.0);
        small = s;
        inside = i;
        long = head_length heads sizes q (omega arith);
        next = rw e (spell_call (λ i q. head_at heads sizes q) bytes j to g G.inside some);
      }

-- ---- the area while a right-hand side is grafted
-- it begins with what the marks before j spell, at most 64 bytes each
pub record Grafting (heads sizes bytes : List ℕ) (from to : ℕ) (area₀ area : List ℕ) (w j : ℕ) : Type 0 where
  pub first : from ≤ j
  pub last : j ≤ to
  pub short : w ≤ 64 * (j - from)
  pub same : length area ≡ length area₀
  pub so_far : take w area ++ grafted heads sizes bytes j to ≡ grafted heads sizes bytes from to

-- a word written behind the first w bytes: they stay, and it stands behind them
take_word : (area word : List ℕ) (w : ℕ) → w + length word ≤ length area → take (w + length word) (sets area w word) ≡ take w area ++ word
take_word area word w fits =
    let l : length (take w area) ≡ w = length-take-le w area (omega arith) in
    let behind = drop (w + length word) area in
    ap (take (w + length word)) (sets-eq word area w fits ∙ append_assoc (take w area) word behind) ∙ ap (λ k. take (k + length word) (take w area ++ (word ++ behind))) (sym l) ∙ take-append-add (take w area) (word ++ behind) (length word) ∙ ap (λ r. take w area ++ r) (take_at word behind (length word) refl)

module _ {heads sizes bytes area₀ : List ℕ} {from to : ℕ} (G : Graftable heads sizes bytes from to area₀) {area : List ℕ} {w j : ℕ} (L : Grafting heads sizes bytes from to area₀ area w j) where
  module _ (less : j < to) where
    -- a pattern more has room
    pub graft_room : w + 64 ≤ length area
    graft_room = omega (arith, L.short, L.first, L.same, G.few, G.room)

    pub graft_symbol : {area' : List ℕ} {w' : ℕ} → get_or bytes (2 * j) 0 ≡ 0 → area' ≡ set area w (get_or bytes (2 * j + 1) 0) → w' ≡ w + 1 → Grafting heads sizes bytes from to area₀ area' w' (j + 1)
    graft_symbol z e f =
        let x = get_or bytes (2 * j + 1) 0 in
        let s = spell_symbol (λ i q. head_at heads sizes q) bytes j to less G.inside z in
        let r : w < length area = omega (arith, graft_room) in
        rw (e, f) (record {
          first = omega (arith, L.first);
          last = omega arith;
          short = omega (arith, L.short, L.first);
          same = length-set area w x ∙ L.same;
          so_far = rw (add-one, take-suc-set area w x r, append_assoc) (ap (λ r. take w area ++ r) (sym s) ∙ L.so_far);
        })

    pub graft_call : {area' : List ℕ} {w' q size : ℕ} → (get_or bytes (2 * j) 0 ≡ 0 → ⊥) → q ≡ get_or bytes (2 * j + 1) 0 → size ≡ get_or sizes q 0 → area' ≡ sets area w (lent_head heads q size) → w' ≡ w + size → Grafting heads sizes bytes from to area₀ area' w' (j + 1)
    graft_call {q = q} {size} some c d e f =
        let C = called G j L.first less some c in
        let word = head_at heads sizes q in
        let h : lent_head heads q size ≡ word = head_lent heads sizes q d (omega (arith, C.inside)) in
        let l : size ≡ length word = d ∙ sym C.long in
        rw (e, f, h) (record {
          first = omega (arith, L.first);
          last = omega arith;
          short = omega (arith, L.short, L.first, C.small);
          same = length-sets area w word ∙ L.same;
          so_far = rw (l, take_word area word w (omega (arith, graft_room, C.small)), append_assoc) (ap (λ r. take w area ++ r) (sym C.next) ∙ L.so_far);
        })

  -- no mark is left
  pub graft_end : to ≤ j → Begins (grafted heads sizes bytes from to) area w
  graft_end h = record {
    inside = omega (arith, L.short, L.same, G.few, G.room, L.last);
    wrote = sym (append-nil (take w area)) ∙ ap (λ r. take w area ++ r) (sym (spell_end (λ i q. head_at heads sizes q) bytes j to L.last h)) ∙ L.so_far;
  }

-- a word is at most 64 times as long as the marks that spell it, if each call gives at most 64 bytes
spell_short : (g : ℕ → ℕ → List ℕ) (ms : List Mark) → ((j : ℕ) → j < length ms → 0 < (get_or ms j (0, 0)).0 → length (g (get_or ms j (0, 0)).0 (get_or ms j (0, 0)).1) ≤ 64) → length (spell g ms) ≤ 64 * length ms
unfolding spell
spell_short g [] k = omega arith
spell_short g ((ℕ.zero, b) ∷ ms) k = omega (arith, spell_short g ms (λ j h. k (suc j) (omega arith)))
spell_short g ((suc i, q) ∷ ms) k = omega (arith, length-append (g (suc i) q) (spell g ms), k 0 (omega arith) (omega arith), spell_short g ms (λ j h. k (suc j) (omega arith)))

-- so the marks number `from` up to `to` spell at most 64 bytes each
pub spell_fits : (g : ℕ → ℕ → List ℕ) (bytes : List ℕ) (from to : ℕ) → 2 * to ≤ length bytes → ((j : ℕ) → from ≤ j → j < to → 0 < (mark_at bytes j).0 → length (g (mark_at bytes j).0 (mark_at bytes j).1) ≤ 64) → length (spell g (part bytes from to)) ≤ 64 * (to - from)
spell_fits g bytes from to inside k =
    let p = pairs_length bytes to inside in
    let s = spell_short g (part bytes from to) (λ j h.
    let d = getD_slice from to j (pairs bytes) p h in
    rw d.1 (k (from + j) (omega arith) d.0)) in
    omega (arith, length-slice from to (pairs bytes) p)

-- a state that is not there has no bytes
head_none : (heads sizes : List ℕ) (p : ℕ) → length sizes ≤ p → head_at heads sizes p ≡ []
head_none heads sizes p h = let e : 64 * p + get_or sizes p 0 ≡ 64 * p = omega (arith, get_or-eq_default sizes 0 h) in rw e (slice_empty (64 * p) heads)

-- ---- a part that was lent, from index f up to e, put back as ys
module _ (l ys : List ℕ) (f e : ℕ) (ordered : f ≤ e) (fits : e ≤ length l) (same : length ys ≡ e - f) where
  put_length : length (put_mid f (e - f) l ys) ≡ length l
  put_length = same_len_mid f (e - f) l ys (same ∙ sym (mid_len f e l fits))

  -- what stands before it is as it was
  put_before : (b c : ℕ) → c ≤ f → slice b c (put_mid f (e - f) l ys) ≡ slice b c l
  put_before b c h = ap (drop b) (sym (take-take c f (put_mid f (e - f) l ys) h) ∙ ap (take c) (take_put f (e - f) l ys (omega arith)) ∙ take-take c f l h)

  -- so is what stands behind it
  put_behind : (b n : ℕ) → e ≤ b → b ≤ length l → slice b (b + n) (put_mid f (e - f) l ys) ≡ slice b (b + n) l
  put_behind b n h g =
      let k : e + (b - e) ≡ b = omega arith in
      let d : drop (e + (b - e)) (put_mid f (e - f) l ys) ≡ drop (e + (b - e)) l = sym (drop-drop (b - e) e (put_mid f (e - f) l ys)) ∙ ap (drop (b - e)) (drop_put f e l ys ordered fits same) ∙ drop-drop (b - e) e l in
      slice_from (put_mid f (e - f) l ys) b n (omega (arith, put_length)) ∙ ap (take n) (rw k at d) ∙ sym (slice_from l b n g)

  -- and in its place stands ys
  put_here : (n : ℕ) → n ≤ length ys → slice f (f + n) (put_mid f (e - f) l ys) ≡ take n ys
  put_here n h =
      slice_from (put_mid f (e - f) l ys) f n (omega (arith, put_length))
      ∙ ap (take n) (drop_at (take f l) (ys ++ post_of f (e - f) l) f (length-take-le f l (omega arith)))
      ∙ take-append-le n ys (post_of f (e - f) l) h

-- the first r bytes of an area, as they are lent
abbrev pub lent_area : ℕ → List ℕ → List ℕ
lent_area r area = take (r - 0) area

-- ---- a cut of the table: the part of state q is lent, and put back as after, of which size bytes count
module _ {outs heads sizes : List ℕ} (T : Heads outs heads sizes) (q : ℕ) (state : q < length sizes) {n : ℕ} (right : n ≡ get_or sizes q 0)
    (after : List ℕ) (same : length after ≡ length (lent_head heads q n)) (size : ℕ) (short : size ≤ length after) where
  fits_q : 64 * q + n ≤ length heads
  fits_q = omega (arith, T.long, T.small q state)

  same_q : length after ≡ 64 * q + n - 64 * q
  same_q = same ∙ mid_len (64 * q) (64 * q + n) heads fits_q

  -- the bytes of q are the first ones that were put back
  head_cut : head_at (put_head heads q n after) (set sizes q size) q ≡ take size after
  head_cut = rw (get_or-set_same sizes q size 0 state) (put_here heads after (64 * q) (64 * q + n) (omega arith) fits_q same_q size short)

  -- those of the other states stay
  head_kept : (p : ℕ) → p < length sizes → p ≢ q → head_at (put_head heads q n after) (set sizes q size) p ≡ head_at heads sizes p
  head_kept p h g = rw (get_or-set_other sizes q p size 0 g) (by_cases (dec_lt p q)
      (λ l. put_before heads after (64 * q) (64 * q + n) (omega arith) fits_q same_q (64 * p) (64 * p + get_or sizes p 0) (omega (arith, T.small p h)))
      (λ l. put_behind heads after (64 * q) (64 * q + n) (omega arith) fits_q same_q (64 * p) (get_or sizes p 0) (omega (arith, T.small q state)) (omega (arith, T.long))))

-- what a cut asks of grafting and of sharing, and what it comes to
module _ {outs heads sizes bytes other : List ℕ} {from to q : ℕ} (C : Cuttable outs heads sizes bytes from to q other) where
  -- each state that the marks call has a pattern in the table
  pub graftable : Graftable heads sizes bytes from to other
  graftable =
      let T = C.table in
      let l = pairs_length bytes to C.inside in
      let R = body_read outs (length sizes) C.children (part bytes from to) C.whole in
      record {
        ordered = C.ordered;
        inside = C.inside;
        few = C.few;
        there = λ j h g some.
            let k : from + (j - from) ≡ j = omega arith in
            let i : j - from < length (part bytes from to) = omega (arith, length-slice from to (pairs bytes) l) in
            let m = rw ((getD_slice from to (j - from) (pairs bytes) l i).1, k) at (R.callable (j - from) i) in
            let s = (m some).1 in
            (s, T.small (mark_at bytes j).1 s, omega (arith, T.long));
        room = C.room;
      }

  module _ {len n : ℕ} {other' : List ℕ} (P : Begins (grafted heads sizes bytes from to) other' len) (right : n ≡ get_or sizes q 0) where
    -- the part of state q, and what was grafted
    lent_head_lem : lent_head heads q n ≡ head_at heads sizes q
    lent_head_lem = head_lent heads sizes q right (omega (arith, C.table.long, C.state))

    lent_graft : take len other' ≡ grafted heads sizes bytes from to
    lent_graft = P.wrote

    -- both are patterns
    pub to_cut_pattern : IsPattern outs (lent_head heads q n) × IsPattern outs (take len other')
    to_cut_pattern = (rw lent_head_lem (C.table.each q C.state), rw lent_graft (graft_read C.table bytes from to C.children C.whole).pattern)

    -- the part and the room that are lent
    pub lent_inside : (64 * q + n ≤ length heads) × (len ≤ length other')
    lent_inside = (omega (arith, C.table.long, C.state, C.table.small q C.state), P.inside)

    module _ {after : List ℕ} {size : ℕ} {b : Bool} (same : length after ≡ length (lent_head heads q n))
        (M : CutPattern outs (lent_head heads q n) (take len other') after size b) where
      -- the new size fits a byte
      pub size_small : size ≤ 64
      size_small = omega (arith, M.short, ap length lent_head_lem, head_length heads sizes q (omega (arith, lent_inside.0)), C.table.small q C.state)

      -- the code of the new pattern of q
      new_head_lem : head_at (put_head heads q n after) (set sizes q size) q ≡ pattern_code (shared_of outs (lent_head heads q n) (take len other'))
      new_head_lem = head_cut C.table q C.state right after same size (omega (arith, M.short)) ∙ M.shared

      -- so it is a pattern, and which
      new_back : IsPattern outs (head_at (put_head heads q n after) (set sizes q size) q)
          × (head_of outs (put_head heads q n after) (set sizes q size) q ≡ shared_of outs (lent_head heads q n) (take len other'))
      unfolding head_of
      new_back =
          let k = shared_back outs C.few_symbols (lent_head heads q n) (take len other') to_cut_pattern.0 in
          (rw new_head_lem k.0, ap (read_pattern outs) new_head_lem ∙ k.1)

      -- the old one
      old_head : read_pattern outs (lent_head heads q n) ≡ head_of outs heads sizes q
      unfolding head_of
      old_head = ap (read_pattern outs) lent_head_lem

      -- those of the other states
      kept : (p : ℕ) → p < length sizes → p ≢ q → head_at (put_head heads q n after) (set sizes q size) p ≡ head_at heads sizes p
      kept p h g = head_kept C.table q C.state right after same size (omega (arith, M.short)) p h g

      -- the contract of `cut_by`
      pub cut_by : CutBy outs bytes from to q heads sizes (put_head heads q n after) (set sizes q size) b
      unfolding head_of
      cut_by = record {
        table = record {
          long = rw (length-set, same_len_mid (64 * q) (64 * q + n - 64 * q) heads after same) C.table.long;
          small = λ p h. by_cases (ℕ_discrete p q)
              (λ e. rw (e, get_or-set_same sizes q size 0 C.state) size_small)
              (λ g. rw (get_or-set_other sizes q p size 0 g) (C.table.small p (rw length-set at h)));
          each = λ p h. by_cases (ℕ_discrete p q)
              (λ e. rw e new_back.0)
              (λ g. rw (kept p (rw length-set at h) g) (C.table.each p (rw length-set at h)));
        };
        cut = λ r W. new_back.1 ∙ ap₂ lcp old_head (ap (read_pattern outs) lent_graft ∙ (graft_read C.table bytes from to r W).read);
        others = λ p g. ap (read_pattern outs) (by_cases (dec_lt p (length sizes)) (λ h. kept p h g) (λ h. head_none (put_head heads q n after) (set sizes q size) p (omega (arith, length-set sizes q size)) ∙ sym (head_none heads sizes p (omega arith))));
        told = decides_same (λ f e. f (sym new_back.1 ∙ e ∙ sym old_head)) (λ f e. f (new_back.1 ∙ e ∙ old_head)) M.told;
      }

    -- nothing was taken away
    pub cut_none : {after : List ℕ} → length after ≡ length (lent_head heads q n) → CutPattern outs (lent_head heads q n) (take len other') after (length (lent_head heads q n)) false → CutBy outs bytes from to q heads sizes (put_head heads q n after) sizes false
    cut_none same M =
        let e : length (lent_head heads q n) ≡ get_or sizes q 0 = ap length lent_head_lem ∙ head_length heads sizes q (omega (arith, lent_inside.0, right)) in
        rw (e, set-get_or sizes q 0) at (cut_by same M)
