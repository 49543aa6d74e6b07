-- Writing the quotient: marks with classes for states are those of the renamed term, a body after the other fits where the old file had it, and the new file is the quotient.
-- Assumes nothing.
use Prim.Native.Nat.{ℕ, suc, ◌+◌, ◌-◌, ◌*◌, ◌≤◌, ◌<◌}
use native.Mathlib.Decide.{ℕ_discrete}
use native.Mathlib.Nat.{mul-le-mul, mul-le-mul_right, suc-mul}
use native.Mathlib.Numerals.{add-one}
use native.Mathlib.Omega.{arith}
use mathlib.Core.List.{List, [], ◌∷◌, ◌++◌, map-append, append_assoc}
use mathlib.Core.Logic.{by_cases}
use mathlib.Core.Path.{◌≡◌, refl, sym, ap, ap₂, ◌∙◌}
use lib.ListN.{length, get_or, set, take, drop, length-map, length-set, take-append-drop}
use lib.Seq.{slice, slice_empty, length-slice, length-take-le, take_at, take-append-add, drop_at, take-append-le, sets, sets-eq, length-sets, get_or-set_same, get_or-set_other}
use borrow.Author.Count.{below_more}
use Rattle.theory.specs.NormalForm.{Identical}
use Rattle.theory.specs.Quotient.{Classes, no_class, old_class, new_class, quotient}
use Rattle.theory.specs.Term.{Term, var, node, Terms, none, more, bind, binds, mapT}
use Rattle.theory.specs.Transducer.{renamed}
use Rattle.theory.proofs.Terms.{count_binds}
use Rattle.trees.specs.Alphabets.{Leaf}
use Rattle.trees.specs.Code.{Mark, preorder, preorders, marks, Ranked, AllRanked, Call}
use Rattle.trees.specs.Inner.Decode.{forest, first, Whole}
use Rattle.formats.specs.Inner.Layout.{pairs, mark_of, body, body_number, body_count, transducer, Wholes}
use Rattle.formats.specs.Inner.Marked.{part}
use Rattle.formats.specs.Sheet.{mark_bytes}
use Rattle.trees.proofs.Codes.{reads_back}
use Rattle.formats.proofs.Cuts.{length-mark_bytes, pairs_mark_bytes, mark_bytes_pairs}
use Rattle.formats.proofs.Letters.{over_term}
use Rattle.formats.proofs.Pairs.{pairs_length, pairs_at, part_cons, row_less, number_less, getD_slice}
use Rattle.formats.proofs.Sheets.{body_exactly, whole_ranked}
use Rattle.formats.proofs.Writing.{Writing, one_more_lem}
use Rattle.transducer.proofs.Meaning.{body_read}
use Rattle.forms.specs.Alphabet.{alphabet, children_inside}
use Rattle.forms.specs.Inner.Tables.{machine, Layout, Packed}
use Rattle.forms.proofs.Files.{number_fits}
use Rattle.classes.specs.Inner.Classes.{key_of, keyed, body_marks, at, Keyable}
use Rattle.classes.proofs.Numbering.{class_below, least_below, classes_few}
use Rattle.canonical.specs.Inner.Quotients.{Mergeable, Merges, Keys, size_of, Front, Copied, Kept, Copyable, Copies, StateMergeable, MergesState}

-- ---- classes in the order of their least members
module _ {c least : ℕ → ℕ} where
  -- later classes have later least members
  pub least_rises : {p n : ℕ} → Classes c least p n → (k : ℕ) → k + 1 < n → least k < least (k + 1)
  least_rises no_class k l = absurd (omega arith)
  least_rises (old_class K h) k l = least_rises K k l
  least_rises (new_class {p} {n} K h h') k l = by_cases (ℕ_discrete (k + 1) n) (λ z. rw (z, h') (least_below K k (omega arith)).0) (λ z. least_rises K k (omega arith))

-- ---- a term with classes for states
module _ (classes outs : List ℕ) (n m r : ℕ) (low : (q : ℕ) → q < n → at classes q < m) where
  key_call : (e : ℕ × ℕ) → Call n r e → key_of classes e ≡ (e.0, at classes e.1)
  unfolding key_of
  key_call (ℕ.zero, q) c = absurd (omega (arith, c.from_one))
  key_call (suc i, q) c = refl

  mutual
    unfolding preorder renamed mapT bind Ranked key_of

    -- its marks are those of the term, with classes for states
    pub keyed_marks : (t : Term (ℕ × ℕ)) → Ranked (Call n r) outs t → keyed classes (marks t) ≡ marks (renamed (at classes) t)
    keyed_marks (var e) c = ap (λ x. x ∷ []) (key_call e c)
    keyed_marks (node k ts) c = ap (◌∷◌ (0, k)) (keyed_all ts c.2)

    keyed_all : (ts : Terms (ℕ × ℕ)) → AllRanked (Call n r) outs ts → keyed classes (preorders (λ e. e ∷ []) (λ b. (0, b)) ts) ≡ preorders (λ e. e ∷ []) (λ b. (0, b)) (binds ts (λ e. var (e.0, at classes e.1)))
    keyed_all none c = refl
    keyed_all (more t ts) c = map-append (key_of classes) (marks t) (preorders (λ e. e ∷ []) (λ b. (0, b)) ts) ∙ ap₂ ◌++◌ (keyed_marks t c.0) (keyed_all ts c.1)

  mutual
    unfolding renamed mapT bind Ranked

    -- it calls classes that are there
    pub ranked_renamed : (t : Term (ℕ × ℕ)) → Ranked (Call n r) outs t → Ranked (Call m r) outs (renamed (at classes) t)
    ranked_renamed (var e) c = record { from_one = c.from_one; child = c.child; state = low e.1 c.state }
    ranked_renamed (node k ts) c = (c.0, count_binds ts (λ e. var (e.0, at classes e.1)) ∙ c.1, ranked_all ts c.2)

    ranked_all : (ts : Terms (ℕ × ℕ)) → AllRanked (Call n r) outs ts → AllRanked (Call m r) outs (binds ts (λ e. var (e.0, at classes e.1)))
    ranked_all none c = tt
    ranked_all (more t ts) c = (ranked_renamed t c.0, ranked_all ts c.1)

  -- the marks of a right-hand side, with classes for states, are one right-hand side: the renamed one
  pub keyed_reads : (ms : List Mark) → Whole (mark_of outs n r) ms → Whole (mark_of outs m r) (keyed classes ms) × (first (forest (mark_of outs m r) (keyed classes ms)) ≡ renamed (at classes) (first (forest (mark_of outs n r) ms)))
  keyed_reads ms W =
      let w = whole_ranked outs n r ms W in
      let t = first (forest (mark_of outs n r) ms) in
      let R = ranked_renamed t w.0 in
      let e : marks (renamed (at classes) t) ≡ keyed classes ms = sym (keyed_marks t w.0) ∙ ap (keyed classes) w.1 in
      ((body_exactly outs m r (keyed classes ms)).1 (renamed (at classes) t, R, e), ap (λ l. first (forest (mark_of outs m r) l)) (sym e) ∙ reads_back (mark_of outs m r) (λ e. e) (λ b. (0, b)) (renamed (at classes) t) (over_term outs m r (renamed (at classes) t) R))

-- ---- marks that were written from a mark on
-- the marks before number w, and those from there on
pairs_split : (s : List ℕ) (w : ℕ) → 2 * w ≤ length s → (length (pairs (take (2 * w) s)) ≡ w) × ((r : List ℕ) → pairs (take (2 * w) s ++ r) ≡ pairs (take (2 * w) s) ++ pairs r)
pairs_split s w h =
    let p = mark_bytes_pairs (take (2 * w) s) w (length-take-le (2 * w) s h) in
    (p.1, λ r. ap (λ l. pairs (l ++ r)) (sym p.0) ∙ pairs_mark_bytes (pairs (take (2 * w) s)) r)

module _ (s : List ℕ) (w : ℕ) (ms : List Mark) (fits : 2 * (w + length ms) ≤ length s) where
  abbrev head : List Mark
  head = pairs (take (2 * w) s)

  abbrev tail : List Mark
  tail = pairs (drop (2 * w + length (mark_bytes ms)) s)

  head_long : length head ≡ w
  head_long = (pairs_split s w (omega arith)).0

  put_pairs : pairs (sets s (2 * w) (mark_bytes ms)) ≡ head ++ (ms ++ tail)
  put_pairs =
      let r = drop (2 * w + length (mark_bytes ms)) s in
      ap pairs (sets-eq (mark_bytes ms) s (2 * w) (omega (arith, length-mark_bytes ms)) ∙ append_assoc (take (2 * w) s) (mark_bytes ms) r)
      ∙ (pairs_split s w (omega arith)).1 (mark_bytes ms ++ r)
      ∙ ap (◌++◌ head) (pairs_mark_bytes ms r)

  -- those before stay
  pub put_before : (f t : ℕ) → t ≤ w → part (sets s (2 * w) (mark_bytes ms)) f t ≡ part s f t
  put_before f t h =
      let k : t ≤ length head = omega (arith, head_long) in
      let e : pairs s ≡ head ++ pairs (drop (2 * w) s) = ap pairs (sym (take-append-drop (2 * w) s)) ∙ (pairs_split s w (omega arith)).1 (drop (2 * w) s) in
      ap (slice f t) put_pairs ∙ ap (drop f) (take-append-le t head (ms ++ tail) k) ∙ sym (ap (slice f t) e ∙ ap (drop f) (take-append-le t head (pairs (drop (2 * w) s)) k))

  -- and there they stand
  pub put_here : part (sets s (2 * w) (mark_bytes ms)) w (w + length ms) ≡ ms
  put_here =
      let t : take (w + length ms) (head ++ (ms ++ tail)) ≡ head ++ ms = ap (λ k. take (k + length ms) (head ++ (ms ++ tail))) (sym head_long) ∙ take-append-add head (ms ++ tail) (length ms) ∙ ap (◌++◌ head) (take_at ms tail (length ms) refl) in
      ap (slice w (w + length ms)) put_pairs ∙ ap (drop w) t ∙ drop_at head ms w head_long

-- ---- copying marks, with classes for states
-- the bytes that are left to write when k marks are written
abbrev pub keys_left : List ℕ → List ℕ → ℕ → ℕ → ℕ → List ℕ
keys_left classes bytes from n k = mark_bytes (keyed classes (part bytes (from + k) (from + n)))

-- of a call the class of the state is written, of a symbol the symbol
pub key_by : (classes : List ℕ) (i x y : ℕ) → (0 < i → y ≡ get_or classes x 0) → (i ≤ 0 → y ≡ x) → key_of classes (i, x) ≡ (i, y)
unfolding key_of
key_by classes ℕ.zero x y f g = ap (λ z. (0, z)) (sym (g (omega arith)))
key_by classes (suc i) x y f g = ap (λ z. (suc i, z)) (sym (f (omega arith)))

module _ {classes bytes : List ℕ} {from n k : ℕ} (K : Keyable classes bytes from n) (less : k < n) where
  -- the state of a call has a class
  pub key_there : 0 < get_or bytes (2 * (from + k)) 0 → get_or bytes (2 * (from + k) + 1) 0 < length classes
  key_there h = let e = pairs_at bytes (from + k) (omega (arith, K.inside)) in rw e at (K.there k less) h

  -- the next mark
  pub keys_first : {y : ℕ} → key_of classes (get_or bytes (2 * (from + k)) 0, get_or bytes (2 * (from + k) + 1) 0) ≡ (get_or bytes (2 * (from + k)) 0, y) → keys_left classes bytes from n k ≡ get_or bytes (2 * (from + k)) 0 ∷ y ∷ keys_left classes bytes from n (k + 1)
  unfolding mark_bytes
  keys_first e =
      let s : from + k + 1 ≡ from + (k + 1) = omega arith in
      ap (λ l. mark_bytes (keyed classes l)) (part_cons bytes (from + k) (from + n) (omega arith) K.inside) ∙ rw (e, s)

  module _ {whole start now : List ℕ} {place : ℕ} (w : ℕ) (W : Writing whole place start (keys_left classes bytes from n k) (2 * (w + k)) now) where
    pub key_more : {y : ℕ} → key_of classes (get_or bytes (2 * (from + k)) 0, get_or bytes (2 * (from + k) + 1) 0) ≡ (get_or bytes (2 * (from + k)) 0, y) → Writing whole place start (keys_left classes bytes from n (k + 1)) (2 * (w + (k + 1))) (set (set now (2 * (w + k)) (get_or bytes (2 * (from + k)) 0)) (2 * (w + k) + 1) y)
    key_more {y} e = one_more_lem (one_more_lem W (get_or bytes (2 * (from + k)) 0) (y ∷ keys_left classes bytes from n (k + 1)) (keys_first e) refl refl) y (keys_left classes bytes from n (k + 1)) refl (omega arith) refl

-- no mark is left
pub keys_end : (classes bytes : List ℕ) (from n k : ℕ) → k ≤ n → n ≤ k → keys_left classes bytes from n k ≡ []
unfolding mark_bytes
keys_end classes bytes from n k h g = let e : k ≡ n = omega arith in rw (e, slice_empty (from + n) (pairs bytes))

-- ---- tables of starts
-- what stands earlier starts earlier
pub front_le : {starts : List ℕ} {b : ℕ} → Front starts b → (i j : ℕ) → i ≤ j → j ≤ b → get_or starts i 0 ≤ get_or starts j 0
front_le F i ℕ.zero h g = let e : i ≡ 0 = omega arith in rw e (omega arith)
front_le {starts} F i (suc j) h g = by_cases (ℕ_discrete i (suc j))
    (λ e. rw e (omega arith))
    (λ d. omega (arith, front_le F i j (omega arith) (omega arith), rw add-one at (F.increasing j (omega arith))))

-- the bodies of a file lie so
pub file_front : {ins outs starts bytes : List ℕ} {n : ℕ} → Layout ins outs starts bytes n → Packed ins starts n → Front starts (body_count ins n)
file_front L P = record { start = P.start; increasing = P.increasing; few = L.few }

-- ---- what a copied body leaves
pub kept_all : {starts bytes : List ℕ} {b : ℕ} → Kept starts bytes starts bytes b
kept_all = record { start = λ j h. refl; marks = λ f t h. refl }

-- what is kept up to b, and then up to a later place, is kept up to b
pub kept_on : {starts bytes starts₁ bytes₁ starts₂ bytes₂ : List ℕ} {b d : ℕ} → Kept starts bytes starts₁ bytes₁ b → Front starts₁ d → b ≤ d → Kept starts₁ bytes₁ starts₂ bytes₂ d → Kept starts bytes starts₂ bytes₂ b
kept_on {b = b} {d} K F h K' = record {
  start = λ j g. K'.start j (omega arith) ∙ K.start j g;
  marks = λ f t g. K'.marks f t (omega (arith, K.start b (omega arith), front_le F b d h (omega arith))) ∙ K.marks f t g;
}

module _ {starts bytes classes starts₁ bytes₁ starts₂ bytes₂ : List ℕ} {j i d : ℕ} where
  -- a body before b stays
  pub copied_on : Copied starts bytes classes j starts₁ bytes₁ i → Front starts₁ d → i < d → Kept starts₁ bytes₁ starts₂ bytes₂ d → Copied starts bytes classes j starts₂ bytes₂ i
  copied_on C F h K = record {
    same = ap₂ (part bytes₂) (K.start i (omega arith)) (K.start (i + 1) (omega arith)) ∙ K.marks (get_or starts₁ i 0) (get_or starts₁ (i + 1) 0) (front_le F (i + 1) d (omega arith) (omega arith)) ∙ C.same;
  }

module _ {starts bytes classes : List ℕ} {j b : ℕ} {starts' bytes' starts'' bytes'' : List ℕ} (A : Copyable starts bytes classes j b starts' bytes') (C : Copies starts bytes classes j b starts' bytes' starts'' bytes'') where
  abbrev ms : List Mark
  ms = keyed classes (body_marks starts bytes j)

  keys_long : length ms ≡ size_of starts j
  keys_long =
      let h : 2 * get_or starts (j + 1) 0 ≤ length bytes = omega (arith, A.keyable.inside, A.ordered) in
      length-map (body_marks starts bytes j) (key_of classes) ∙ length-slice (get_or starts j 0) (get_or starts (j + 1) 0) (pairs bytes) (pairs_length bytes (get_or starts (j + 1) 0) h)

  keys_fit : 2 * (get_or starts' b 0 + length ms) ≤ length bytes'
  keys_fit = omega (arith, keys_long, A.all, A.bytes_room)

  start_next : get_or starts'' (b + 1) 0 ≡ get_or starts' b 0 + size_of starts j
  start_next = ap (λ l. get_or l (b + 1) 0) C.next ∙ get_or-set_same starts' (b + 1) (get_or starts' b 0 + size_of starts j) 0 A.starts_room

  -- the starts and the marks before it stay
  pub copies_kept : Kept starts' bytes' starts'' bytes'' b
  copies_kept = record {
    start = λ i h. ap (λ l. get_or l i 0) C.next ∙ get_or-set_other starts' (b + 1) i (get_or starts' b 0 + size_of starts j) 0 (λ e. omega arith);
    marks = λ f t h. ap (λ l. part l f t) C.wrote ∙ put_before bytes' (get_or starts' b 0) ms keys_fit f t h;
  }

  -- it stands there
  pub copies_copied : Copied starts bytes classes j starts'' bytes'' b
  copies_copied =
      let s : get_or starts'' (b + 1) 0 ≡ get_or starts' b 0 + length ms = omega (arith, start_next, keys_long) in
      record { same = ap₂ (part bytes'') (copies_kept.start b (omega arith)) s ∙ ap (λ l. part l (get_or starts' b 0) (get_or starts' b 0 + length ms)) C.wrote ∙ put_here bytes' (get_or starts' b 0) ms keys_fit }

  -- and the table is good for one body more
  pub copies_front : get_or starts j 0 < get_or starts (j + 1) 0 → get_or starts (j + 1) 0 ≤ get_or starts j 0 + 64 → Front starts' b → Front starts'' (b + 1)
  copies_front h g F = record {
    start = copies_kept.start 0 (omega arith) ∙ F.start;
    increasing = below_more (λ i. get_or starts'' i 0 < get_or starts'' (i + 1) 0) b (λ i l. rw (copies_kept.start i (omega arith), copies_kept.start (i + 1) (omega arith)) (F.increasing i l)) (omega (arith, start_next, copies_kept.start b (omega arith)));
    few = below_more (λ i. get_or starts'' (i + 1) 0 ≤ get_or starts'' i 0 + 64) b (λ i l. rw (copies_kept.start i (omega arith), copies_kept.start (i + 1) (omega arith)) (F.few i l)) (omega (arith, start_next, copies_kept.start b (omega arith)));
  }

  -- the next start is behind it
  pub copies_place : get_or starts' b 0 ≤ get_or starts j 0 → get_or starts'' (b + 1) 0 ≤ get_or starts (j + 1) 0
  copies_place h = omega (arith, start_next, A.ordered)

  pub copies_lengths : (length starts'' ≡ length starts') × (length bytes'' ≡ length bytes')
  copies_lengths = (ap length C.next ∙ length-set starts' (b + 1) (get_or starts' b 0 + size_of starts j), ap length C.wrote ∙ length-sets bytes' (2 * get_or starts' b 0) (mark_bytes ms))

-- ---- copying a body
module _ {starts bytes classes : List ℕ} {j b : ℕ} {starts' bytes' : List ℕ} (A : Copyable starts bytes classes j b starts' bytes')
    {w from to : ℕ} (v : w ≡ get_or starts' b 0) (f : from ≡ get_or starts j 0) (t : to ≡ get_or starts (j + 1) 0) where
  -- its marks can be copied
  pub can_copy : Keyable classes bytes from (to - from) × (2 * (w + (to - from)) ≤ length bytes')
  can_copy = (rw (f, t) A.keyable, rw (v, f, t) (omega (arith, A.all, A.bytes_room)))

  -- and then it is copied
  pub has_copied : {bytes'' : List ℕ} → Keys classes bytes from (from + (to - from)) bytes' w bytes'' → Copies starts bytes classes j b starts' bytes' (set starts' (b + 1) (w + (to - from))) bytes''
  has_copied K =
      let e : from + (to - from) ≡ get_or starts (j + 1) 0 = omega (arith, A.ordered) in
      record { next = rw (v, f, t); wrote = K.wrote ∙ rw (e, f, v) }

-- ---- the bodies of a transducer whose states have classes
module _ {ins outs starts bytes : List ℕ} {n : ℕ} (L : Layout ins outs starts bytes n) {j : ℕ} (less : j < body_count ins n) where
  -- a right-hand side calls states that have a class
  pub body_keyable : (classes : List ℕ) → length classes ≡ n → (r : ℕ) → Whole (mark_of outs n r) (body_marks starts bytes j) → Keyable classes bytes (get_or starts j 0) (size_of starts j)
  body_keyable classes e r W =
      let f = get_or starts j 0 in
      let t = get_or starts (j + 1) 0 in
      let o : f ≤ t = L.bounds.ordered j less in
      let i : 2 * t ≤ length bytes = L.bounds.inside (j + 1) (omega arith) in
      let l = length-slice f t (pairs bytes) (pairs_length bytes t i) in
      record {
        inside = omega arith;
        there = λ k h g.
            let s : k < length (part bytes f t) = omega arith in
            let m = (getD_slice f t k (pairs bytes) (pairs_length bytes t i) s).1 in
            let d = (body_read outs n r (part bytes f t) W).callable k s in
            rw e (rw m at d g).1;
      }

module _ {ins outs starts bytes classes least : List ℕ} {count : ℕ} {starts₀ bytes₀ : List ℕ} (A : Mergeable ins outs starts bytes classes least (length classes) count starts₀ bytes₀) where
  abbrev old : Front starts (body_count ins (length classes))
  old = file_front A.layout A.packed

  -- it can be copied where the bodies before it take no more marks than they did
  pub body_copyable : (j b r : ℕ) {starts' bytes' : List ℕ} → j < body_count ins (length classes) → Whole (mark_of outs (length classes) r) (body_marks starts bytes j) → b < 2049 → length starts' ≡ length starts₀ → length bytes' ≡ length bytes₀ → get_or starts' b 0 ≤ get_or starts j 0 → Copyable starts bytes classes j b starts' bytes'
  body_copyable j b r h W g s t p = record {
    there = omega (arith, A.layout.bounds.long);
    ordered = A.layout.bounds.ordered j h;
    keyable = body_keyable A.layout h classes refl r W;
    starts_room = omega (arith, A.starts_room);
    bytes_room = t ∙ A.bytes_room;
    all = omega (arith, A.layout.bounds.ordered j h, front_le old (j + 1) (body_count ins (length classes)) (omega arith) (omega arith), A.packed.all);
  }

  -- the number of a class, and that of its least member, are those of states
  pub class_state : {k : ℕ} → k < count → (k < length classes) × (at least k < length classes) × (k < length least)
  class_state {k} h = (omega (arith, classes_few A.classed), (least_below A.classed k h).0, omega (arith, A.few))

-- ---- the loop over the symbols: the right-hand sides for those before a are written
pub record StateLoop (ins starts bytes classes least : List ℕ) (k : ℕ) (starts₀ bytes₀ starts' bytes' : List ℕ) (a : ℕ) : Type 0 where
  pub inside : a ≤ length ins
  pub same_starts : length starts' ≡ length starts₀
  pub same_bytes : length bytes' ≡ length bytes₀
  pub merged : MergesState ins starts bytes classes least k a starts₀ bytes₀ starts' bytes'

module _ {ins starts bytes classes least : List ℕ} {k : ℕ} {starts₀ bytes₀ : List ℕ} (A : StateMergeable ins starts bytes classes least k starts₀ bytes₀) where
  pub state_none : StateLoop ins starts bytes classes least k starts₀ bytes₀ starts₀ bytes₀ 0
  state_none = record {
    inside = omega arith;
    same_starts = refl;
    same_bytes = refl;
    merged = record { front = A.front; kept = kept_all; place = A.place; copied = λ d h. absurd (omega arith) };
  }

  -- the numbers of the bodies are small
  pub state_numbers : {p a : ℕ} → p ≡ at least k → a < length ins → (body_number ins p a < 2049) × (body_number ins k a < 2049)
  state_numbers e h =
      let s = class_state A.whole A.class in
      (rw e (number_fits A.whole.layout s.1 h).0, (number_fits A.whole.layout s.0 h).0)

  module _ {starts' bytes' : List ℕ} {a : ℕ} (L : StateLoop ins starts bytes classes least k starts₀ bytes₀ starts' bytes' a) (less : a < length ins) where
    least_copyable : Copyable starts bytes classes (body_number ins (at least k) a) (body_number ins k a) starts' bytes'
    unfolding body
    least_copyable =
        let s = class_state A.whole A.class in
        body_copyable A.whole (body_number ins (at least k) a) (body_number ins k a) (get_or ins a 0)
        (number_less ins (at least k) (length classes) a s.1 less)
        (A.whole.layout.wholes.rhs (at least k) a s.1 less)
        (state_numbers refl less).1
        L.same_starts L.same_bytes L.merged.place

    least_next : {starts'' bytes'' : List ℕ} → Copies starts bytes classes (body_number ins (at least k) a) (body_number ins k a) starts' bytes' starts'' bytes'' → StateLoop ins starts bytes classes least k starts₀ bytes₀ starts'' bytes'' (a + 1)
    least_next {starts''} {bytes''} C =
        let s = class_state A.whole A.class in
        let j = body_number ins (at least k) a in
        let b = body_number ins k a in
        let h = number_less ins (at least k) (length classes) a s.1 less in
        let e : j + 1 ≡ body_number ins (at least k) (a + 1) = omega arith in
        let f : b + 1 ≡ body_number ins k (a + 1) = omega arith in
        let K = copies_kept least_copyable C in
        record {
          inside = omega arith;
          same_starts = (copies_lengths least_copyable C).0 ∙ L.same_starts;
          same_bytes = (copies_lengths least_copyable C).1 ∙ L.same_bytes;
          merged = record {
            front = rw f at (copies_front least_copyable C (A.whole.packed.increasing j h) (A.whole.layout.few j h) L.merged.front);
            kept = kept_on L.merged.kept L.merged.front (omega arith) K;
            place = rw (e, f) at (copies_place least_copyable C L.merged.place);
            copied = below_more (λ d. Copied starts bytes classes (body_number ins (at least k) d) starts'' bytes'' (body_number ins k d)) a (λ d g. copied_on (L.merged.copied d g) L.merged.front (omega arith) K) (copies_copied least_copyable C);
          };
        }

    module _ {p : ℕ} (e : p ≡ at least k) where
      -- the next right-hand side can be copied
      pub state_copyable : Copyable starts bytes classes (body_number ins p a) (body_number ins k a) starts' bytes'
      state_copyable = rw e least_copyable

      pub state_next : {starts'' bytes'' : List ℕ} → Copies starts bytes classes (body_number ins p a) (body_number ins k a) starts' bytes' starts'' bytes'' → StateLoop ins starts bytes classes least k starts₀ bytes₀ starts'' bytes'' (a + 1)
      state_next C = least_next (rw e at C)

  -- all of them are written
  pub state_end : {starts' bytes' : List ℕ} {a : ℕ} → StateLoop ins starts bytes classes least k starts₀ bytes₀ starts' bytes' a → length ins ≤ a → MergesState ins starts bytes classes least k (length ins) starts₀ bytes₀ starts' bytes'
  state_end {a = a} L h = let e : a ≡ length ins = omega (arith, L.inside) in rw e at L.merged

-- ---- the loop over the classes: the initial term and the right-hand sides of those before k are written
pub record MergeLoop (ins starts bytes classes least : List ℕ) (count : ℕ) (starts' bytes' : List ℕ) (k : ℕ) : Type 0 where
  pub inside : k ≤ count
  pub starts_room : 2050 ≤ length starts'
  pub bytes_room : length bytes' ≡ 16384
  pub front : Front starts' (body_number ins k 0)
  pub place : k < count → get_or starts' (body_number ins k 0) 0 ≤ get_or starts (body_number ins (at least k) 0) 0
  pub all : get_or starts' (body_number ins k 0) 0 ≤ 8192
  pub initial : Copied starts bytes classes 0 starts' bytes' 0
  pub copied : (p a : ℕ) → p < k → a < length ins → Copied starts bytes classes (body_number ins (at least p) a) starts' bytes' (body_number ins p a)

-- behind the bodies of a state are those of the next
row_next : (ins : List ℕ) (q : ℕ) → body_number ins q (length ins) ≡ body_number ins (q + 1) 0
row_next ins q = rw (add-one q) (omega (arith, suc-mul q (length ins)))

row_le : (ins : List ℕ) (p q : ℕ) → p ≤ q → body_number ins p 0 ≤ body_number ins q 0
row_le ins p q h = omega (arith, mul-le-mul_right {m = p} {n = q} (length ins) h)

module _ {ins outs starts bytes classes least : List ℕ} {count : ℕ} {starts₀ bytes₀ : List ℕ} (A : Mergeable ins outs starts bytes classes least (length classes) count starts₀ bytes₀) where
  -- the bodies of earlier states lie before those of later ones
  old_le : (i q : ℕ) → i ≤ body_number ins q 0 → q ≤ length classes → get_or starts i 0 ≤ get_or starts (body_number ins q 0) 0
  old_le i q h g = front_le (old A) i (body_number ins q 0) h (omega (arith, row_le ins q (length classes) g))

  old_all : (q : ℕ) → q ≤ length classes → get_or starts (body_number ins q 0) 0 ≤ 8192
  old_all q g = omega (arith, front_le (old A) (body_number ins q 0) (body_count ins (length classes)) (omega (arith, row_le ins q (length classes) g)) (omega arith), A.packed.all)

  -- the initial term can be copied
  pub initial_copyable : Copyable starts bytes classes 0 0 (set starts₀ 0 0) bytes₀
  unfolding body
  initial_copyable =
      let z = get_or-set_same starts₀ 0 0 0 (omega (arith, A.starts_room)) in
      body_copyable A 0 0 1 (omega arith) A.layout.wholes.initial (omega arith) (length-set starts₀ 0 0) refl (omega arith)

  pub merge_none : {starts' bytes' : List ℕ} → Copies starts bytes classes 0 0 (set starts₀ 0 0) bytes₀ starts' bytes' → MergeLoop ins starts bytes classes least count starts' bytes' 0
  merge_none {starts'} C =
      let z = get_or-set_same starts₀ 0 0 0 (omega (arith, A.starts_room)) in
      let F : Front (set starts₀ 0 0) 0 = record { start = z; increasing = λ j h. absurd (omega arith); few = λ j h. absurd (omega arith) } in
      let e : 0 + 1 ≡ body_number ins 0 0 = omega arith in
      let p : get_or starts' (body_number ins 0 0) 0 ≤ get_or starts (body_number ins 0 0) 0 = rw e at (copies_place initial_copyable C (omega arith)) in
      record {
        inside = omega arith;
        starts_room = omega (arith, copies_lengths initial_copyable C, length-set starts₀ 0 0, A.starts_room);
        bytes_room = (copies_lengths initial_copyable C).1 ∙ A.bytes_room;
        front = rw e at (copies_front initial_copyable C (A.packed.increasing 0 (omega arith)) (A.layout.few 0 (omega arith)) F);
        place = λ h. omega (arith, old_le (body_number ins 0 0) (at least 0) (row_le ins 0 (at least 0) (omega arith)) (omega (arith, class_state A h)));
        all = omega (arith, old_all 0 (omega arith));
        initial = copies_copied initial_copyable C;
        copied = λ q a h. absurd (omega arith);
      }

  module _ {starts' bytes' : List ℕ} {k : ℕ} (L : MergeLoop ins starts bytes classes least count starts' bytes' k) where
    module _ (less : k < count) where
      -- the right-hand sides of class k can be written
      pub state_mergeable : StateMergeable ins starts bytes classes least k starts' bytes'
      state_mergeable = record {
        outs = outs;
        count = count;
        whole = record {
          layout = A.layout;
          packed = A.packed;
          long = refl;
          few = A.few;
          classed = A.classed;
          starts_room = L.starts_room;
          bytes_room = L.bytes_room;
        };
        class = less;
        front = L.front;
        place = L.place less;
      }

      pub merge_next : {starts'' bytes'' : List ℕ} → length starts'' ≡ length starts' → length bytes'' ≡ length bytes' → MergesState ins starts bytes classes least k (length ins) starts' bytes' starts'' bytes'' → MergeLoop ins starts bytes classes least count starts'' bytes'' (k + 1)
      merge_next {starts''} {bytes''} s t M =
          let c = class_state A less in
          let p : get_or starts'' (body_number ins (k + 1) 0) 0 ≤ get_or starts (body_number ins (at least k + 1) 0) 0 = rw (row_next ins k, row_next ins (at least k)) at M.place in
          record {
            inside = omega arith;
            starts_room = omega (arith, L.starts_room);
            bytes_room = t ∙ L.bytes_room;
            front = rw (row_next ins k) at M.front;
            place = λ h. omega (arith, old_le (body_number ins (at least k + 1) 0) (at least (k + 1)) (row_le ins (at least k + 1) (at least (k + 1)) (omega (arith, least_rises A.classed k h))) (omega (arith, class_state A h)));
            all = omega (arith, old_all (at least k + 1) (omega arith));
            initial = copied_on L.initial L.front (omega arith) M.kept;
            copied = λ q a h g. below_more (λ q. Copied starts bytes classes (body_number ins (at least q) a) starts'' bytes'' (body_number ins q a)) k (λ q h. copied_on (L.copied q a h g) L.front (omega (arith, row_less q k a (length ins) h g)) M.kept) (M.copied a g) q h;
          }

    -- ---- all classes are written
    module _ (done : count ≤ k) where
      all_bodies : body_number ins k 0 ≡ body_count ins count
      all_bodies = let e : k ≡ count = omega (arith, L.inside) in rw e (omega arith)

      all_front : Front starts' (body_count ins count)
      all_front = rw all_bodies at L.front

      all_few : get_or starts' (body_count ins count) 0 ≤ 8192
      all_few = rw all_bodies at L.all

      low : (q : ℕ) → q < length classes → at classes q < count
      low q h = class_below A.classed q h

      -- the initial term is read with classes for states
      initial_reads : Whole (mark_of outs count 1) (body_marks starts' bytes' 0) × (first (forest (mark_of outs count 1) (body_marks starts' bytes' 0)) ≡ renamed (at classes) (first (forest (mark_of outs (length classes) 1) (body_marks starts bytes 0))))
      unfolding body
      initial_reads = rw L.initial.same (keyed_reads classes outs (length classes) count 1 low (body_marks starts bytes 0) A.layout.wholes.initial)

      -- and so is each right-hand side of a least member
      rhs_reads : (q a : ℕ) → q < count → a < length ins → Whole (mark_of outs count (get_or ins a 0)) (body_marks starts' bytes' (body_number ins q a)) × (first (forest (mark_of outs count (get_or ins a 0)) (body_marks starts' bytes' (body_number ins q a))) ≡ renamed (at classes) (first (forest (mark_of outs (length classes) (get_or ins a 0)) (body_marks starts bytes (body_number ins (at least q) a)))))
      unfolding body
      rhs_reads q a h g = rw (L.copied q a (omega arith) g).same (keyed_reads classes outs (length classes) count (get_or ins a 0) low (body_marks starts bytes (body_number ins (at least q) a)) (A.layout.wholes.rhs (at least q) a (class_state A h).1 g))

      new_wholes : Wholes ins outs count (λ j. get_or starts' j 0) bytes'
      unfolding body
      new_wholes = record { initial = initial_reads.0; rhs = λ q a h g. (rhs_reads q a h g).0 }

      new_layout : Layout ins outs starts' bytes' count
      new_layout =
          let few : count ≤ 128 = omega (arith, classes_few A.classed, A.layout.few_states) in
          record {
            few_symbols = A.layout.few_symbols;
            few_states = few;
            few_inputs = A.layout.few_inputs;
            bounds = record {
              long = omega (arith, mul-le-mul few A.layout.few_inputs, L.starts_room);
              ordered = λ j h. omega (arith, all_front.increasing j h);
              inside = λ j h. omega (arith, front_le all_front j (body_count ins count) h (omega arith), all_few, L.bytes_room);
            };
            few = all_front.few;
            wholes = new_wholes;
          }

      new_machine : (l : Leaf ins) → Identical (alphabet ins l) (machine ins outs starts' bytes' count) (quotient (machine ins outs starts bytes (length classes)) (λ q. at classes q) (λ q. at least q)) count count
      unfolding transducer body quotient alphabet
      new_machine l = record {
        number = refl;
        initial = initial_reads.1;
        sort = λ p h. refl;
        rhs = λ p a sorts h e. (rhs_reads p a h (children_inside ins a e).0).1;
      }

      -- the new file is the quotient
      pub merge_end : Merges ins outs starts bytes classes least (length classes) count starts' bytes'
      merge_end = record {
        layout = new_layout;
        packed = record { start = all_front.start; increasing = all_front.increasing; all = all_few };
        merged = new_machine;
      }
