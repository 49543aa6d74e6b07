-- Where bodies start: the sums of the counts, and the table of them.
-- Assumes nothing.
use Prim.Native.Nat.{ℕ, suc, ◌+◌, ◌-◌, ◌*◌, ◌≤◌, ◌<◌}
use native.Mathlib.Nat.{add-zero}
use native.Mathlib.Numerals.{add-one}
use native.Mathlib.Omega.{arith}
use native.Mathlib.Decide.{dec_lt}
use mathlib.Core.Path.{◌≡◌, ap, ◌∙◌}
use mathlib.Core.List.{List, [], ◌∷◌}
use lib.ListN.{length, get_or, set}
use lib.Seq.{get_or-set_same, get_or-set_other}
use Rattle.formats.specs.Inner.Layout.{offset, Starts, KeptBehind}

pub offset_ordered : (cs : List ℕ) (j : ℕ) → offset cs j ≤ offset cs (j + 1)
unfolding offset
offset_ordered cs ℕ.zero = omega arith
offset_ordered [] (suc j) = rw add-one (omega arith)
offset_ordered (hi ∷ []) (suc j) = rw add-one (omega arith)
offset_ordered (hi ∷ lo ∷ cs) (suc j) = rw add-one (omega (arith, rw add-one at (offset_ordered cs j)))

pub offset_up : (cs : List ℕ) (m j : ℕ) → offset cs j ≤ offset cs (j + m)
offset_up cs ℕ.zero j = rw add-zero (omega arith)
offset_up cs (suc m) j = let e : j + suc m ≡ j + m + 1 = omega arith in rw e (omega (arith, offset_up cs m j, offset_ordered cs (j + m)))

pub offset_most : (cs : List ℕ) (j k : ℕ) → j ≤ k → offset cs j ≤ offset cs k
offset_most cs j k h = let e : j + (k - j) ≡ k = omega arith in rw e at (offset_up cs (k - j) j)

pub offset_next : (cs : List ℕ) (j : ℕ) → 2 * j + 1 < length cs → offset cs (j + 1) ≡ offset cs j + (256 * get_or cs (2 * j) 0 + get_or cs (2 * j + 1) 0)
unfolding offset
offset_next [] j h = absurd (omega arith)
offset_next (hi ∷ []) j h = absurd (omega arith)
offset_next (hi ∷ lo ∷ cs) ℕ.zero h = omega arith
offset_next (hi ∷ lo ∷ cs) (suc j) h =
    let a : 2 * suc j ≡ suc (suc (2 * j)) = omega arith in
    let b : 2 * suc j + 1 ≡ suc (suc (2 * j + 1)) = omega arith in
    let i = offset_next cs j (omega arith) in
    let x = ap (λ k. get_or (hi ∷ lo ∷ cs) k 0) a in
    let y = ap (λ k. get_or (hi ∷ lo ∷ cs) k 0) b in
    let z = ap (λ k. offset (hi ∷ lo ∷ cs) k) (add-one (suc j)) in
    omega (arith, i, x, y, z, ap (offset cs) (add-one j))

-- one count more
pub next_fits : (cs : List ℕ) (j m : ℕ) → j < m → 2 * m ≤ length cs → offset cs m < 65536 → (offset cs (j + 1) ≡ offset cs j + (256 * get_or cs (2 * j) 0 + get_or cs (2 * j + 1) 0)) × (offset cs (j + 1) < 65536)
next_fits cs j m h g l = (offset_next cs j (omega arith), omega (arith, offset_most cs (j + 1) m (omega arith)))

pub starts_none : (cs l : List ℕ) → 0 < length l → Starts cs (set l 0 0) 0
unfolding offset
starts_none cs l h j g = let z : j ≡ 0 = omega arith in rw z (get_or-set_same l 0 0 0 h)

pub starts_more : (cs l : List ℕ) (j v : ℕ) → j + 1 < length l → v ≡ offset cs (j + 1) → Starts cs l j → Starts cs (set l (j + 1) v) (j + 1)
starts_more cs l j v h e S k g = by_case (dec_lt k (j + 1))
  where
    by_case : Dec (k < j + 1) → get_or (set l (j + 1) v) k 0 ≡ offset cs k
    by_case (yes y) = get_or-set_other l (j + 1) k v 0 (omega arith) ∙ S k (omega arith)
    by_case (no n) = let z : k ≡ j + 1 = omega arith in rw z (get_or-set_same l (j + 1) v 0 h ∙ e)

-- a write behind the entry j moves the border of what stays
pub kept_more : (before l : List ℕ) (j v : ℕ) → KeptBehind before l j → KeptBehind before (set l (j + 1) v) (j + 1)
kept_more before l j v K k g = get_or-set_other l (j + 1) k v 0 (omega arith) ∙ K k (omega arith)
