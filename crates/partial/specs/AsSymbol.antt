-- Variables as a symbol: with one more input symbol for the variables and one more output symbol for the calls that stay, both of rank 0, translation gives what is laid for a partial input tree.
-- So translating is enough for a preview, where the alphabets have room for the two and the file for the right-hand sides.
use Rattle.std.specs.Prelude.{ℕ, ◌<◌, List, [], ◌∷◌, ◌++◌, ◌≡◌, length}
use Rattle.theory.specs.Term.{Term, node, none, bind, Tree}
use Rattle.theory.specs.Transducer.{Transducer}
use Rattle.trees.specs.Alphabets.{stock, inputs, outputs}
use Rattle.formats.specs.Sheet.{Sheet}

-- an alphabet with one more symbol, of rank 0: the first byte outside the alphabet is its name
abbrev pub one_more : List ℕ → List ℕ
one_more ranks = ranks ++ 0 ∷ []

-- both alphabets with one more symbol
abbrev pub blank_stock : List ℕ → List ℕ
blank_stock s = stock (one_more (inputs s)) (one_more (outputs s))

-- the file x is, under these, the file s with one more right-hand side for each state: for the new input symbol, the new output symbol
pub record BlankSheet (alphabets s x : List ℕ) : Type 0 where
  pub states : ℕ
  pub machine : Transducer ℕ
  pub sheet : Sheet (inputs alphabets) (outputs alphabets) s states machine
  pub wider : Transducer ℕ
  pub wider_sheet : Sheet (one_more (inputs alphabets)) (one_more (outputs alphabets)) x states wider
  pub initial : wider.initial ≡ machine.initial
  pub rhs : (q a : ℕ) → q < states → a < length (inputs alphabets) → wider.rhs q a ≡ machine.rhs q a
  pub blank : (q : ℕ) → q < states → wider.rhs q (length (inputs alphabets)) ≡ node (length (outputs alphabets)) none

-- a tree with the symbol p, of rank 0, for each variable
abbrev pub marked : {A : Type 0} → ℕ → Term A → Tree
marked p d = bind d (λ x. node p none)
