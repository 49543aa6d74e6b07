-- A word that was written to an area from a position on.
use Rattle.std.specs.Prelude.{ℕ, ◌+◌, List, ◌≡◌, length}
use Rattle.std.proofs.lemmas.List.Edits.{sets}

-- these bytes were written from `at` on, and `to` is the position behind them
pub record Wrote (before after : List ℕ) (at to : ℕ) (bytes : List ℕ) : Type 0 where
  pub wrote : after ≡ sets before at bytes
  pub behind : to ≡ at + length bytes
