-- The transducers of two tables, one after the other, with a number for each pair of their states.
use Rattle.std.specs.Prelude.{ℕ, ◌/◌, ◌%◌, ◌<◌, List}
use Rattle.theory.specs.Accessible.{coded}
use Rattle.theory.specs.Compose.{compose}
use Rattle.theory.specs.Inner.PairCodes.{pair_code, pair_name}
use Rattle.theory.specs.Transducer.{Transducer}
use Rattle.trees.specs.Alphabets.{Alphabets, inputs, outputs}
use Rattle.runs.specs.Inner.Walked.{tabled, InTable}

-- the second after the first: the pair of q and p is the number 128 · q + p
unfoldable pub product : List ℕ → List ℕ → List ℕ → List ℕ → List ℕ → List ℕ → Transducer ℕ
product stock stock' starts bytes starts' bytes' = coded (compose (tabled (inputs stock) (inputs stock') starts bytes) (tabled (inputs stock') (outputs stock') starts' bytes')) (pair_code 128) (pair_name 128)

-- c is the pair of one of n states and one of m
pub record Pair (n m c : ℕ) : Type 0 where
  pub first : c / 128 < n
  pub second : c % 128 < m

-- two transducers stand in tables, and the second reads what the first gives
pub record Tables (stock stock' starts bytes starts' bytes' : List ℕ) : Type 0 where
  pub alphabets : Alphabets stock
  pub alphabets' : Alphabets stock'
  pub first : InTable (inputs stock) (inputs stock') starts bytes
  pub second : InTable (inputs stock') (outputs stock') starts' bytes'

-- and c is a pair of their states
pub record IsPair (stock stock' starts bytes starts' bytes' : List ℕ) (c : ℕ) : Type 0 where
  pub tables : Tables stock stock' starts bytes starts' bytes'
  pub pair : Pair tables.first.states tables.second.states c
