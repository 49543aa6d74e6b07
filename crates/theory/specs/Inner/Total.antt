-- The size of a table of patterns, by which the search for the largest common prefixes ends.
use Rattle.std.specs.Prelude.{ℕ}
use Rattle.theory.specs.Prefix.{Pattern}
use Rattle.theory.specs.Size.{size}
use Rattle.theory.specs.Sum.{sum}

-- the size of the whole table, for n states
unfoldable pub total : (ℕ → Pattern) → ℕ → ℕ
total h n = sum (λ q. size (h q)) n
