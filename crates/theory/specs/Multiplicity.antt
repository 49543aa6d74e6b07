-- Counting the symbols of an output tree from the multiplicities of the states at each node of the input tree: the steps of finding the occurrences (02, F-11).
use Rattle.std.specs.Prelude.{ℕ, suc, ◌+◌, ◌*◌, eqb}
use Rattle.theory.specs.Occurrences.{occurrences}
use Rattle.theory.specs.Sum.{sum}
use Rattle.theory.specs.Term.{Term, Terms, none, more, Tree}
use Rattle.theory.specs.Transducer.{Transducer, output}
use Rattle.theory.specs.Weight.{one_if, weight}

-- A vector m of multiplicities has for each state how often it is called at a node of the input tree. Those of n states at d give so many nodes with the symbol k:
unfoldable pub contribution : Transducer ℕ → ℕ → ℕ → (ℕ → ℕ) → Tree → ℕ
contribution M n k m d = sum (λ q. m q * occurrences k (output M d q)) n

-- how often a term calls state r
unfoldable pub calls_of : ℕ → Term (ℕ × ℕ) → ℕ
calls_of r t = weight (λ e. one_if (eqb e.1 r)) t

-- how often a term calls state r on child i
unfoldable pub calls_on : ℕ → ℕ → Term (ℕ × ℕ) → ℕ
calls_on i r t = weight (λ e. one_if (eqb e.0 i) * one_if (eqb e.1 r)) t

-- the vector at child i of a node with the symbol a and the vector m
unfoldable pub passed : Transducer ℕ → ℕ → ℕ → (ℕ → ℕ) → ℕ → ℕ → ℕ
passed M n a m i r = sum (λ q. m q * calls_on i r (M.rhs q a)) n

-- the sum of f i d over the children d of a node, with their numbers i
unfoldable pub over_children : (ℕ → Tree → ℕ) → ℕ → Terms ⊥ → ℕ
over_children f i none = 0
over_children f i (more d ds) = f i d + over_children f (suc i) ds
