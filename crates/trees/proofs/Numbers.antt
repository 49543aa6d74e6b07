-- What std's methods on numbers answer, in the words of the definitions.
-- Assumes nothing.
use Prim.Native.Nat.{ℕ, max, min}
use native.Mathlib.Omega.{arith}
use mathlib.Core.Path.{◌≡◌}
use Rattle.std.specs.Ordering.{ord_max, ord_min, nat_cmp}

pub max_is : (a b : ℕ) → ord_max nat_cmp a b ≡ max a b
max_is a b = grind arith

pub min_is : (a b : ℕ) → ord_min nat_cmp a b ≡ min a b
min_is a b = grind arith
