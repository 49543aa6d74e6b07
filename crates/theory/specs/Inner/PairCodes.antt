-- Pairs of numbers as numbers.
use Rattle.std.specs.Prelude.{ℕ, ◌+◌, ◌*◌, ◌/◌, ◌%◌}

-- the number of a pair whose second is below m
unfoldable pub pair_code : ℕ → ℕ × ℕ → ℕ
pair_code m s = s.0 * m + s.1

-- the pair that has this number
unfoldable pub pair_name : ℕ → ℕ → ℕ × ℕ
pair_name m c = (c / m, c % m)
