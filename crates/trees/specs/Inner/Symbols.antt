-- What a byte says as a symbol of an alphabet, and the input trees that are read from such bytes.
use Rattle.std.specs.Prelude.{ℕ, Bool, true, false, List, ltb, length, get_or}
use Rattle.theory.specs.Term.{Tree, Terms}
use Rattle.trees.specs.Inner.Decode.{Letter, symbol, unknown, forest, first, Whole}

abbrev pub symbol_if : {A : Type 0} → Bool → ℕ → ℕ → Letter A
symbol_if true k n = symbol k n
symbol_if false k n = unknown

-- a symbol of an alphabet, whose ranks are rs
unfoldable pub symbol_of : {A : Type 0} → List ℕ → ℕ → Letter A
symbol_of rs k = symbol_if (ltb k (length rs)) k (get_or rs k 0)

-- the input trees that follow one another in s, and the first of them
unfoldable pub trees : List ℕ → List ℕ → Terms ⊥
trees ins s = forest (symbol_of ins) s

unfoldable pub tree : List ℕ → List ℕ → Tree
tree ins s = first (trees ins s)

-- s is the code of one input tree
abbrev pub IsTree : List ℕ → List ℕ → Type 0
IsTree ins s = Whole {A = ⊥} (symbol_of ins) s
