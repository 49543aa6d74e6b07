-- Reading the calls of a term alone, from left to right.
use Rattle.std.specs.Prelude.{ℕ, List, [], ◌∷◌}
use Rattle.theory.specs.Registry.{Enter}

-- reading a list of calls: each state called is entered into the list
pub data ReadCalls {Q : Type 0} : List (ℕ × Q) → List Q → List Q → Type 0 where
  no_call : {L : List Q} → ReadCalls [] L L
  one_call : {e : ℕ × Q} {es : List (ℕ × Q)} {n : ℕ} {L L' L'' : List Q} → Enter L e.1 n L' → ReadCalls es L' L'' → ReadCalls (e ∷ es) L L''
