-- Sums over the numbers below n.
use Rattle.std.specs.Prelude.{ℕ, suc, ◌+◌}

-- f 0 + … + f (n - 1)
unfoldable pub sum : (ℕ → ℕ) → ℕ → ℕ
sum f ℕ.zero = 0
sum f (suc n) = sum f n + f n
