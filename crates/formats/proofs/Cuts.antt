-- Bodies and their bytes: a list of bodies read back from its counts and marks, and marks cut into bodies by the counts.
-- Assumes nothing.
use Prim.Native.Nat.{ℕ, suc, ◌+◌, ◌*◌, ◌/◌, ◌%◌, ◌<◌}
use native.Mathlib.Nat.{div-add-mod, div-eq_of_lt, mod-eq_of_lt}
use native.Mathlib.Numerals.{add-one}
use native.Mathlib.Omega.{arith}
use mathlib.Core.Path.{◌≡◌, refl, sym, ap, ap₂, ◌∙◌}
use mathlib.Core.List.{List, [], ◌∷◌, ◌++◌}
use lib.ListN.{length, get_or, take, drop, length-append, length-drop, take-append-drop}
use lib.Seq.{slice, take_at, take-append-add, drop-append-add, length-take-le}
use Rattle.trees.specs.Code.{Mark}
use Rattle.formats.specs.Sheet.{count_bytes, mark_bytes, body_bytes}
use Rattle.formats.specs.Inner.Layout.{pairs, offset, body, count_at}

-- ---- marks and their bytes
-- two bytes to a mark
pub length-mark_bytes : (b : List Mark) → length (mark_bytes b) ≡ 2 * length b
unfolding mark_bytes
length-mark_bytes [] = refl
length-mark_bytes ((i, x) ∷ b) = omega (arith, length-mark_bytes b)

-- marks behind marks are bytes behind bytes
pub mark_bytes-append : (a b : List Mark) → mark_bytes (a ++ b) ≡ mark_bytes a ++ mark_bytes b
unfolding mark_bytes
mark_bytes-append [] b = refl
mark_bytes-append ((i, x) ∷ a) b = ap (λ s. i ∷ x ∷ s) (mark_bytes-append a b)

-- marks are read back from their bytes, whatever follows
pub pairs_mark_bytes : (b : List Mark) (s : List ℕ) → pairs (mark_bytes b ++ s) ≡ b ++ pairs s
unfolding mark_bytes pairs
pairs_mark_bytes [] s = refl
pairs_mark_bytes ((i, x) ∷ b) s = ap (◌∷◌ (i, x)) (pairs_mark_bytes b s)

-- bytes, even in number, are those of the marks that are read from them
pub mark_bytes_pairs : (s : List ℕ) (n : ℕ) → length s ≡ 2 * n → (mark_bytes (pairs s) ≡ s) × (length (pairs s) ≡ n)
unfolding mark_bytes pairs
mark_bytes_pairs [] n e = (refl, omega arith)
mark_bytes_pairs (x ∷ []) n e = absurd (omega arith)
mark_bytes_pairs (i ∷ x ∷ s) ℕ.zero e = absurd (omega arith)
mark_bytes_pairs (i ∷ x ∷ s) (suc n) e = let r = mark_bytes_pairs s n (omega arith) in (ap (λ t. i ∷ x ∷ t) r.0, ap suc r.1)

-- ---- bodies, from their bytes
-- two bytes to a count
pub length-count_bytes : (bs : List (List Mark)) → length (count_bytes bs) ≡ 2 * length bs
unfolding count_bytes
length-count_bytes [] = refl
length-count_bytes (b ∷ bs) = omega (arith, length-count_bytes bs)

-- a count more, before the others
count_suc : (hi lo : ℕ) (cs : List ℕ) (j : ℕ) → count_at (hi ∷ lo ∷ cs) (suc j) ≡ count_at cs j
count_suc hi lo cs j =
    let e : 2 * suc j ≡ suc (suc (2 * j)) = omega arith in
    let f : suc (suc (2 * j)) + 1 ≡ suc (suc (2 * j + 1)) = omega arith in
    rw (e, f)

-- the count of a body is its number of marks
pub count_at_lem : (bs : List (List Mark)) (j : ℕ) → j < length bs → count_at (count_bytes bs) j ≡ length (get_or bs j [])
unfolding count_bytes
count_at_lem [] j h = absurd (omega arith)
count_at_lem (b ∷ bs) ℕ.zero h = div-add-mod (length b) 256
count_at_lem (b ∷ bs) (suc j) h = count_suc (length b / 256) (length b % 256) (count_bytes bs) j ∙ count_at_lem bs j (omega arith)

-- a body more, before the others
pub offset_suc : (b : List Mark) (bs : List (List Mark)) (j : ℕ) → offset (count_bytes (b ∷ bs)) (suc j) ≡ length b + offset (count_bytes bs) j
unfolding count_bytes offset
offset_suc b bs j = ap (λ k. k + offset (count_bytes bs) j) (div-add-mod (length b) 256)

-- the counts add up to the number of marks
pub length-body_bytes : (bs : List (List Mark)) → length (body_bytes bs) ≡ 2 * offset (count_bytes bs) (length bs)
unfolding body_bytes offset
length-body_bytes [] = refl
length-body_bytes (b ∷ bs) = omega (arith, length-append (mark_bytes b) (body_bytes bs), length-mark_bytes b, length-body_bytes bs, offset_suc b bs (length bs))

-- a part behind the first list
slice-append : (b l : List Mark) (f t : ℕ) → slice (length b + f) (length b + t) (b ++ l) ≡ slice f t l
slice-append b l f t = ap (drop (length b + f)) (take-append-add b l t) ∙ drop-append-add b (take t l) f

-- each body is where the counts before it say
pub body_at : (bs : List (List Mark)) (j : ℕ) → j < length bs → body (offset (count_bytes bs)) (body_bytes bs) j ≡ get_or bs j []
unfolding body body_bytes offset
body_at [] j h = absurd (omega arith)
body_at (b ∷ bs) ℕ.zero h = rw pairs_mark_bytes (take_at b (pairs (body_bytes bs)) (offset (count_bytes (b ∷ bs)) 1) (omega (arith, offset_suc b bs 0)))
body_at (b ∷ bs) (suc j) h =
    rw (add-one, offset_suc b bs j, offset_suc b bs (suc j), pairs_mark_bytes) (slice-append b (pairs (body_bytes bs)) (offset (count_bytes bs) j) (offset (count_bytes bs) (suc j)) ∙ rw add-one at (body_at bs j (omega arith)))

-- ---- marks, cut into bodies by the counts
-- each count takes as many marks as it says
pub cut : List ℕ → List Mark → List (List Mark)
cut [] ms = []
cut (hi ∷ []) ms = []
cut (hi ∷ lo ∷ cs) ms = take (256 * hi + lo) ms ∷ cut cs (drop (256 * hi + lo) ms)

-- what the first count leaves of the marks
left : (ms : List Mark) (k n : ℕ) → k + n ≡ length ms → n ≡ length (drop k ms)
left ms k n e = omega (arith, length-drop k ms)

-- where the counts add up to the number of marks, the bodies have all the marks
pub cut_marks : (cs : List ℕ) (m : ℕ) (ms : List Mark) → length cs ≡ 2 * m → offset cs m ≡ length ms → body_bytes (cut cs ms) ≡ mark_bytes ms
unfolding cut body_bytes offset mark_bytes
cut_marks [] ℕ.zero [] l e = refl
cut_marks [] ℕ.zero (x ∷ ms) l e = absurd (omega arith)
cut_marks [] (suc m) ms l e = absurd (omega arith)
cut_marks (hi ∷ []) m ms l e = absurd (omega arith)
cut_marks (hi ∷ lo ∷ cs) ℕ.zero ms l e = absurd (omega arith)
cut_marks (hi ∷ lo ∷ cs) (suc m) ms l e =
    let k = 256 * hi + lo in
    let i = cut_marks cs m (drop k ms) (omega arith) (left ms k (offset cs m) e) in
    ap (◌++◌ (mark_bytes (take k ms))) i ∙ sym (mark_bytes-append (take k ms) (drop k ms)) ∙ ap mark_bytes (take-append-drop k ms)

-- a count below 256 has the high byte 0
low_count : (hi lo k : ℕ) → k ≡ 256 * hi + lo → k < 256 → (k / 256 ≡ hi) × (k % 256 ≡ lo)
low_count hi lo k e h = (div-eq_of_lt h ∙ omega arith, mod-eq_of_lt h ∙ omega arith)

-- and where each is below 256 too, the bodies have the counts that they were cut by
pub cut_counts : (cs : List ℕ) (m : ℕ) (ms : List Mark) → length cs ≡ 2 * m → ((j : ℕ) → j < m → count_at cs j < 256) → offset cs m ≡ length ms → count_bytes (cut cs ms) ≡ cs
unfolding cut count_bytes offset
cut_counts [] m ms l h e = refl
cut_counts (hi ∷ []) m ms l h e = absurd (omega arith)
cut_counts (hi ∷ lo ∷ cs) ℕ.zero ms l h e = absurd (omega arith)
cut_counts (hi ∷ lo ∷ cs) (suc m) ms l h e =
    let k = 256 * hi + lo in
    let t : length (take k ms) ≡ k = length-take-le k ms (omega arith) in
    let c = low_count hi lo (length (take k ms)) t (omega (arith, h 0 (omega arith))) in
    let i = cut_counts cs m (drop k ms) (omega arith) (λ j g. omega (arith, h (suc j) (omega arith), count_suc hi lo cs j)) (left ms k (offset cs m) e) in
    ap₂ (λ x s. x ∷ s) c.0 (ap₂ (λ x s. x ∷ s) c.1 i)

-- there is a body for each count
pub cut_length : (cs : List ℕ) (m : ℕ) (ms : List Mark) → length cs ≡ 2 * m → length (cut cs ms) ≡ m
unfolding cut
cut_length [] m ms l = omega arith
cut_length (hi ∷ []) m ms l = absurd (omega arith)
cut_length (hi ∷ lo ∷ cs) ℕ.zero ms l = absurd (omega arith)
cut_length (hi ∷ lo ∷ cs) (suc m) ms l = ap suc (cut_length cs m (drop (256 * hi + lo) ms) (omega arith))
