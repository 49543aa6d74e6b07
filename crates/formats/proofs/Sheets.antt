-- The file of a transducer: from its parts to the bytes and back. An accepted file is the code of one transducer.
-- Assumes nothing.
use Prim.Native.Nat.{ℕ, ◌+◌, ◌*◌, ◌≤◌, ◌<◌}
use native.Mathlib.Nat.{mul-le-mul}
use native.Mathlib.Numerals.{one-add}
use native.Mathlib.Omega.{arith}
use mathlib.Core.Logic.{◌↔◌}
use mathlib.Core.List.{List, []}
use mathlib.Core.Path.{◌≡◌, refl, sym, ap, ◌∙◌}
use lib.ListN.{length, get_or, take, drop, length-append}
use lib.Seq.{take_at, drop_at}
use Rattle.theory.specs.Term.{Term}
use Rattle.theory.specs.Transducer.{Transducer}
use Rattle.trees.specs.Code.{Ranked, Mark, marks, Call}
use Rattle.trees.specs.Inner.Decode.{forest, first, Whole}
use Rattle.formats.specs.Inner.Layout.{pairs, offset, count_at, mark_of, body, body_number, body_count, transducer, Right, Wholes}
use Rattle.formats.specs.Sheet.{longest, count_bytes, body_bytes, Contents, Counted, OverAlphabets, bodies_of, terms, Encodes, file, CountedFile, Sheet}
use Rattle.trees.proofs.Codes.{reads_back, unique, exactly}
use Rattle.formats.proofs.Letters.{faithful_marks, over_term, ranked_term}
use Rattle.formats.proofs.Pairs.{number_less}
use Rattle.formats.proofs.Cuts.{mark_bytes_pairs, length-count_bytes, count_at_lem, length-body_bytes, body_at, cut, cut_marks, cut_counts, cut_length}
use Rattle.formats.proofs.Lines.{bodies_at, bodies_are}

-- ---- N, counts and marks
-- the bodies that the counts cut out of the marks are those that were coded
pub counted_body : (P n : ℕ) (counts bytes : List ℕ) (C : Counted P n counts bytes) (j : ℕ) → j < 1 + n * P → body (offset counts) bytes j ≡ get_or C.parts j []
counted_body P n counts bytes C j h = rw (← C.counts_coded, ← C.marks_coded) (body_at C.parts j (omega (arith, C.contents.bodies)))

-- bodies within the limits give right counts and marks
contents_right : (ins : List ℕ) (n : ℕ) (bs : List (List Mark)) → length ins ≤ 16 → Contents (length ins) n bs → Right ins n (count_bytes bs) (body_bytes bs)
contents_right ins n bs h C =
    let m = ap (offset (count_bytes bs)) C.bodies in
    let l = length-body_bytes bs in
    record {
      symbols = h;
      states = C.states;
      long = omega (arith, length-count_bytes bs);
      sums = record {
        each = λ j g. let k : j < length bs = omega arith in (omega (arith, count_at_lem bs j k, C.some j k), omega (arith, count_at_lem bs j k, C.few j k));
        few = omega arith;
        all = omega arith;
      };
    }

-- the counts and marks of some bodies are right
pub counted_right : (ins : List ℕ) (n : ℕ) (counts bytes : List ℕ) → length ins ≤ 16 → Counted (length ins) n counts bytes → Right ins n counts bytes
counted_right ins n counts bytes h C = rw (← C.counts_coded, ← C.marks_coded) (contents_right ins n C.parts h C.contents)

-- a file within the limits is at most 20,483 bytes long
pub file_short : (ins : List ℕ) (n : ℕ) (counts bytes : List ℕ) → length ins ≤ 16 → Counted (length ins) n counts bytes → length (file n counts bytes) ≤ longest
file_short ins n counts bytes h C =
    let R = counted_right ins n counts bytes h C in
    omega (arith, length-append counts bytes, R.long, R.sums.all, R.sums.few, mul-le-mul R.states h)

-- right counts and marks are those of some bodies: the marks, cut by the counts
pub right_counted : (ins : List ℕ) (n : ℕ) (counts bytes : List ℕ) → Right ins n counts bytes → Counted (length ins) n counts bytes
right_counted ins n counts bytes R =
    let m = body_count ins n in
    let p = mark_bytes_pairs bytes (offset counts m) R.sums.all in
    let bs = cut counts (pairs bytes) in
    let l : length bs ≡ m = cut_length counts m (pairs bytes) R.long in
    let c : count_bytes bs ≡ counts = cut_counts counts m (pairs bytes) R.long (λ j g. omega (arith, (R.sums.each j g).1)) (sym p.1) in
    let b : body_bytes bs ≡ bytes = cut_marks counts m (pairs bytes) R.long (sym p.1) ∙ p.0 in
    let k : (j : ℕ) → j < length bs → length (get_or bs j []) ≡ count_at counts j = λ j g. sym (count_at_lem bs j g) ∙ ap (λ cs. count_at cs j) c in
    record {
      parts = bs;
      contents = record {
        states = R.states;
        bodies = l;
        some = λ j g. omega (arith, k j g, (R.sums.each j (omega arith)).0);
        few = λ j g. omega (arith, k j g, (R.sums.each j (omega arith)).1);
        all = omega (arith, ap length b, R.sums.all, R.sums.few);
      };
      counts_coded = c;
      marks_coded = b;
    }

-- ---- the bodies
-- a body is one tree of known marks exactly if it is the code of a ranked term
pub body_exactly : (outs : List ℕ) (n r : ℕ) (ms : List Mark) → Whole (mark_of outs n r) ms ↔ ((t : Term (ℕ × ℕ)) × Ranked (Call n r) outs t × (marks t ≡ ms))
body_exactly outs n r ms =
    let e = exactly (mark_of outs n r) (λ e. e) (λ b. (0, b)) (faithful_marks outs n r) (0, 0) ms in (
      (λ W. let w = e.0 W in (w.0, ranked_term outs n r w.0 w.1, w.2)),
      (λ w. e.1 (w.0, over_term outs n r w.0 w.1, w.2)),
    )

-- and of no other
pub body_unique : (outs : List ℕ) (n r : ℕ) (t u : Term (ℕ × ℕ)) → Ranked (Call n r) outs t → Ranked (Call n r) outs u → marks t ≡ marks u → t ≡ u
body_unique outs n r t u o p e = unique (mark_of outs n r) (λ e. e) (λ b. (0, b)) t u (over_term outs n r t o) (over_term outs n r u p) e

-- the term that is read from a whole body
pub whole_ranked : (outs : List ℕ) (n r : ℕ) (ms : List Mark) → Whole (mark_of outs n r) ms → Ranked (Call n r) outs (first (forest (mark_of outs n r) ms)) × (marks (first (forest (mark_of outs n r) ms)) ≡ ms)
whole_ranked outs n r ms W =
    let w = (body_exactly outs n r ms).0 W in
    let e : first (forest (mark_of outs n r) ms) ≡ w.0 = ap (λ l. first (forest (mark_of outs n r) l)) (sym w.2) ∙ reads_back (mark_of outs n r) (λ e. e) (λ b. (0, b)) w.0 (over_term outs n r w.0 w.1) in
    (rw e w.1, rw e w.2)

-- the counts and marks of a transducer are those of its bodies
pub encodes_counted : (ins outs : List ℕ) (n : ℕ) (counts bytes : List ℕ) (M : Transducer ℕ) → Encodes ins outs n counts bytes M → Counted (length ins) n counts bytes
encodes_counted ins outs n counts bytes M E =
    record { parts = bodies_of (length ins) n M; contents = E.contents; counts_coded = E.counts_coded; marks_coded = E.marks_coded }

-- each body of M is where the counts say
pub initial_code : (ins outs : List ℕ) (n : ℕ) (counts bytes : List ℕ) (M : Transducer ℕ) → Encodes ins outs n counts bytes M → marks M.initial ≡ body (offset counts) bytes 0
unfolding terms encodes_counted
initial_code ins outs n counts bytes M E = sym (counted_body (length ins) n counts bytes (encodes_counted ins outs n counts bytes M E) 0 (omega arith))

pub rhs_code : (ins outs : List ℕ) (n : ℕ) (counts bytes : List ℕ) (M : Transducer ℕ) → Encodes ins outs n counts bytes M → (q a : ℕ) → q < n → a < length ins → marks (M.rhs q a) ≡ body (offset counts) bytes (body_number ins q a)
unfolding encodes_counted
rhs_code ins outs n counts bytes M E q a h k =
    sym (bodies_at (length ins) n M q a h k) ∙ sym (counted_body (length ins) n counts bytes (encodes_counted ins outs n counts bytes M E) (body_number ins q a) (number_less ins q n a h k))

-- only whole bodies are those of a transducer
pub encodes_wholes : (ins outs : List ℕ) (n : ℕ) (counts bytes : List ℕ) (M : Transducer ℕ) → Encodes ins outs n counts bytes M → Wholes ins outs n (offset counts) bytes
encodes_wholes ins outs n counts bytes M E = record {
  initial = (body_exactly outs n 1 (body (offset counts) bytes 0)).1 (M.initial, E.over.initial, initial_code ins outs n counts bytes M E);
  rhs = λ q a h k. (body_exactly outs n (get_or ins a 0) (body (offset counts) bytes (body_number ins q a))).1 (M.rhs q a, E.over.rhs q a h k, rhs_code ins outs n counts bytes M E q a h k);
}

-- the transducer that is read from the bodies is over the alphabets
pub transducer_over : (ins outs : List ℕ) (n : ℕ) (start : ℕ → ℕ) (bytes : List ℕ) → Wholes ins outs n start bytes → OverAlphabets ins outs n (transducer ins outs n start bytes)
unfolding transducer
transducer_over ins outs n start bytes W = record {
  initial = (whole_ranked outs n 1 (body start bytes 0) W.initial).0;
  rhs = λ q a h k. (whole_ranked outs n (get_or ins a 0) (body start bytes (body_number ins q a)) (W.rhs q a h k)).0;
  sort = λ q h. refl;
}

-- and its bodies are those of the file
pub transducer_bodies : (ins outs : List ℕ) (n : ℕ) (counts bytes : List ℕ) → (C : Counted (length ins) n counts bytes) → Wholes ins outs n (offset counts) bytes → bodies_of (length ins) n (transducer ins outs n (offset counts) bytes) ≡ C.parts
unfolding transducer
transducer_bodies ins outs n counts bytes C W =
    let at = counted_body (length ins) n counts bytes C in
    let start = offset counts in
    bodies_are (length ins) n (transducer ins outs n start bytes) C.parts C.contents.bodies
    ((whole_ranked outs n 1 (body start bytes 0) W.initial).1 ∙ at 0 (omega arith))
    (λ q a h k. (whole_ranked outs n (get_or ins a 0) (body start bytes (body_number ins q a)) (W.rhs q a h k)).1 ∙ at (body_number ins q a) (number_less ins q n a h k))

-- and whole bodies are those of the transducer that is read from them
pub wholes_encodes : (ins outs : List ℕ) (n : ℕ) (counts bytes : List ℕ) → Right ins n counts bytes → Wholes ins outs n (offset counts) bytes → Encodes ins outs n counts bytes (transducer ins outs n (offset counts) bytes)
wholes_encodes ins outs n counts bytes R W =
    let C = right_counted ins n counts bytes R in
    let e = transducer_bodies ins outs n counts bytes C W in
    record {
      over = transducer_over ins outs n (offset counts) bytes W;
      contents = rw e C.contents;
      counts_coded = rw e C.counts_coded;
      marks_coded = rw e C.marks_coded;
    }

-- the transducer is one, as far as its states and symbols go
pub encodes_unique : (ins outs : List ℕ) (n : ℕ) (counts bytes : List ℕ) (M M' : Transducer ℕ) → Encodes ins outs n counts bytes M → Encodes ins outs n counts bytes M'
    → (M.initial ≡ M'.initial) × ((q a : ℕ) → q < n → a < length ins → M.rhs q a ≡ M'.rhs q a)
encodes_unique ins outs n counts bytes M M' E E' = (
  body_unique outs n 1 M.initial M'.initial E.over.initial E'.over.initial (initial_code ins outs n counts bytes M E ∙ sym (initial_code ins outs n counts bytes M' E')),
  λ q a h k. body_unique outs n (get_or ins a 0) (M.rhs q a) (M'.rhs q a) (E.over.rhs q a h k) (E'.over.rhs q a h k) (rhs_code ins outs n counts bytes M E q a h k ∙ sym (rhs_code ins outs n counts bytes M' E' q a h k)),
)

-- ---- the file
-- the parts of a file are where N says that they are
pub parts_at : (ins : List ℕ) (n : ℕ) (counts bytes s : List ℕ) → length counts ≡ 2 * body_count ins n → file n counts bytes ≡ s
    → (n ≡ get_or s 0 0) × (counts ≡ take (2 * body_count ins n) (drop 1 s)) × (bytes ≡ drop (1 + 2 * body_count ins n) s)
parts_at ins n counts bytes s l e =
    rw (← e) (refl, sym (take_at counts bytes (2 * body_count ins n) l), rw (one-add (2 * body_count ins n)) (sym (drop_at counts bytes (2 * body_count ins n) l)))

-- the list of counts is as long as n says
pub encodes_long : (ins outs : List ℕ) (n : ℕ) (counts bytes : List ℕ) (M : Transducer ℕ) → Encodes ins outs n counts bytes M → length counts ≡ 2 * body_count ins n
encodes_long ins outs n counts bytes M E =
    sym (ap length E.counts_coded) ∙ length-count_bytes (bodies_of (length ins) n M) ∙ ap (◌*◌ 2) E.contents.bodies

-- equal parts are encoded by the same transducers
encodes_same : (ins outs : List ℕ) (n n' : ℕ) (counts counts' bytes bytes' : List ℕ) (M : Transducer ℕ) → n ≡ n' → counts ≡ counts' → bytes ≡ bytes' → Encodes ins outs n' counts' bytes' M → Encodes ins outs n counts bytes M
encodes_same ins outs n n' counts counts' bytes bytes' M e f g E = rw (e, f, g) E

-- one file has one N, one list of counts, one of marks, and one transducer
pub sheet_unique : (ins outs s : List ℕ) (n n' : ℕ) (M M' : Transducer ℕ) → (S : Sheet ins outs s n M) → (S' : Sheet ins outs s n' M')
    → (n ≡ n') × (S.counts ≡ S'.counts) × (S.bytes ≡ S'.bytes) × (M.initial ≡ M'.initial) × ((q a : ℕ) → q < n → a < length ins → M.rhs q a ≡ M'.rhs q a)
sheet_unique ins outs s n n' M M' S S' =
    let p = parts_at ins n S.counts S.bytes s (encodes_long ins outs n S.counts S.bytes M S.encodes) S.coded in
    let p' = parts_at ins n' S'.counts S'.bytes s (encodes_long ins outs n' S'.counts S'.bytes M' S'.encodes) S'.coded in
    let e : n ≡ n' = p.0 ∙ sym p'.0 in
    let f : S.counts ≡ S'.counts = p.1 ∙ ap (λ k. take (2 * body_count ins k) (drop 1 s)) e ∙ sym p'.1 in
    let g : S.bytes ≡ S'.bytes = p.2 ∙ ap (λ k. drop (1 + 2 * body_count ins k) s) e ∙ sym p'.2 in
    let E = encodes_same ins outs n n' S.counts S'.counts S.bytes S'.bytes M' e f g S'.encodes in
    let u = encodes_unique ins outs n S.counts S.bytes M M' S.encodes E in
    (e, f, g, u.0, u.1)

-- the file of a transducer has the right N, counts and length
pub sheet_counted : {ins outs s : List ℕ} {n : ℕ} {M : Transducer ℕ} → Sheet ins outs s n M → CountedFile (length ins) s
sheet_counted {ins} {outs} {n = n} {M = M} S = record { states = n; counts = S.counts; bytes = S.bytes; coded = S.coded; counted = encodes_counted ins outs n S.counts S.bytes M S.encodes }
