-- Lists in which no item stands twice.
use Rattle.std.specs.Prelude.{ℕ, ◌≡◌, List}
use Rattle.std.proofs.Math.Option.{some}
use Rattle.std.proofs.Math.ListN.{get_elem?}

-- no item stands twice in R
pub record Distinct {I : Type 0} (R : List I) : Type 0 where
  pub unique : (m n : ℕ) (x : I) → get_elem? R m ≡ some x → get_elem? R n ≡ some x → m ≡ n
