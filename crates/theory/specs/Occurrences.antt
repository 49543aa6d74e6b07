-- How often a symbol stands in the output trees (02, F-11: thread order).
use Rattle.std.specs.Prelude.{ℕ, ◌+◌, List, [], ◌∷◌, eqb}
use Rattle.theory.specs.Term.{Term, var, node, Terms, none, more, Tree}
use Rattle.theory.specs.Transducer.{Transducer, translate}
use Rattle.theory.specs.Weight.{one_if}

-- |t|_k, the number of nodes of t with the symbol k
unfoldable mutual
  pub occurrences : {A : Type 0} → ℕ → Term A → ℕ
  occurrences k (var a) = 0
  occurrences k (node j ts) = one_if (eqb j k) + occurrences_in k ts

  pub occurrences_in : {A : Type 0} → ℕ → Terms A → ℕ
  occurrences_in k none = 0
  occurrences_in k (more t ts) = occurrences k t + occurrences_in k ts

-- the number of nodes with the symbol k in the outputs of several input trees together
unfoldable pub total : {Q : Type 0} → Transducer Q → ℕ → List Tree → ℕ
total M k [] = 0
total M k (d ∷ ds) = occurrences k (translate M d) + total M k ds
