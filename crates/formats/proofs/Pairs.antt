-- Pairs of bytes as marks, and the bodies among them.
-- Assumes nothing.
use Prim.Native.Nat.{ℕ, suc, ◌+◌, ◌*◌, ◌≤◌, ◌<◌}
use native.Mathlib.Nat.{mul-le-mul_right, suc-mul}
use native.Mathlib.Numerals.{add-one}
use native.Mathlib.Omega.{arith}
use mathlib.Core.Path.{◌≡◌, refl, sym, ap, ap₂, ◌∙◌}
use mathlib.Core.List.{List, [], ◌∷◌}
use lib.ListN.{length, get_or, take}
use lib.Seq.{slice, slice-cons, length-slice, get_or-drop, get_or-take}
use Rattle.trees.specs.Code.{Mark}
use Rattle.formats.specs.Inner.Layout.{pairs, mark_at, body_number, body_count}
use Rattle.formats.specs.Inner.Marked.{part}

pub pairs_length : (s : List ℕ) (n : ℕ) → 2 * n ≤ length s → n ≤ length (pairs s)
unfolding pairs
pairs_length s ℕ.zero h = omega arith
pairs_length [] (suc n) h = absurd (omega arith)
pairs_length (x ∷ []) (suc n) h = absurd (omega arith)
pairs_length (i ∷ x ∷ s) (suc n) h = let r = pairs_length s n (omega arith) in omega arith

pub pairs_at : (s : List ℕ) (j : ℕ) → 2 * j + 1 < length s → mark_at s j ≡ (get_or s (2 * j) 0, get_or s (2 * j + 1) 0)
unfolding pairs
pairs_at [] j h = absurd (omega arith)
pairs_at (x ∷ []) j h = absurd (omega arith)
pairs_at (i ∷ x ∷ s) ℕ.zero h = refl
pairs_at (i ∷ x ∷ s) (suc j) h =
    let a : 2 * suc j ≡ suc (suc (2 * j)) = omega arith in
    let b : suc (suc (2 * j)) + 1 ≡ suc (suc (2 * j + 1)) = omega arith in
    rw (a, b) (pairs_at s j (omega arith))

-- the marks from number j on: mark j, and those behind it
pub part_cons : (bytes : List ℕ) (j to : ℕ) → j < to → 2 * to ≤ length bytes → part bytes j to ≡ (get_or bytes (2 * j) 0, get_or bytes (2 * j + 1) 0) ∷ part bytes (j + 1) to
part_cons bytes j to less inside =
    slice-cons j to (pairs bytes) (0, 0) less (pairs_length bytes to inside) ∙ ap₂ ◌∷◌ (pairs_at bytes j (omega arith)) (ap (λ k. slice k to (pairs bytes)) (sym (add-one j)))

-- ---- bodies by number
-- q · P + a is below n · P for a below P
pub row_less : (q n a P : ℕ) → q < n → a < P → q * P + a < n * P
row_less q n a P h g = omega (arith, mul-le-mul_right {m = suc q} {n = n} P h, suc-mul q P)

pub number_less : (ins : List ℕ) (q n a : ℕ) → q < n → a < length ins → body_number ins q a < body_count ins n
number_less ins q n a h g = omega (arith, row_less q n a (length ins) h g)

pub getD_slice : (f t j : ℕ) (l : List Mark) → t ≤ length l → j < length (slice f t l) → (f + j < t) × (get_or (slice f t l) j (0, 0) ≡ get_or l (f + j) (0, 0))
getD_slice f t j l h g = let b : f + j < t = omega (arith, length-slice f t l h) in (b, get_or-drop f (take t l) j (0, 0) ∙ get_or-take t l (f + j) (0, 0) b)
