-- Elements of a list from an index on.
-- Assumes nothing.
use Prim.Native.Nat.{ℕ, ◌+◌, ◌≤◌}
use mathlib.Core.List.{List}
use mathlib.Core.Path.{◌≡◌, ap, ◌∙◌}
use lib.ListN.{length, take, drop}
use lib.Seq.{slice, take-add, drop_at, length-take-le}

-- the k elements from index f on
pub slice_from : (l : List ℕ) (f k : ℕ) → f ≤ length l → slice f (f + k) l ≡ take k (drop f l)
slice_from l f k h = ap (drop f) (take-add f k l) ∙ drop_at (take f l) (take k (drop f l)) f (length-take-le f l h)
