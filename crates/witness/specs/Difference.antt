-- A difference of two transducers, and how it stands in lent areas.
use Rattle.std.specs.Prelude.{ℕ, ◌≤◌, List, ◌≢◌, ◌≡◌, length, get_or}
use Rattle.std.proofs.Math.Option.{some}
use Rattle.std.proofs.lemmas.List.Edits.{sets}
use Rattle.theory.specs.Size.{size, levels}
use Rattle.theory.specs.Term.{Tree, symbol_at}
use Rattle.theory.specs.Transducer.{Transducer, translate}
use Rattle.trees.specs.Code.{Ranked, code}

-- the areas: of the tree, 1 + 4 · 383 nodes in 384 levels at most; of the address, 63 numbers for each of 256 right-hand sides at most
abbrev pub tree_area : ℕ
tree_area = 1536

abbrev pub tree_levels : ℕ
tree_levels = 384

abbrev pub address_area : ℕ
address_area = 16128

-- A difference of two transducers: an input tree, and an address at which the two output trees, of any size, have two symbols. Which tree and which address is the program's choice.
pub record Difference (ins outs : List ℕ) (M M' : Transducer ℕ) (d : Tree) (v : List ℕ) (b b' : ℕ) : Type 0 where
  pub ranked : Ranked (λ x. ⊥) ins d
  pub small : size d ≤ tree_area
  pub few_levels_lem : levels d ≤ tree_levels
  pub short : length v ≤ address_area
  pub left : symbol_at (translate M d) v ≡ some (b, get_or outs b 0)
  pub right : symbol_at (translate M' d) v ≡ some (b', get_or outs b' 0)
  pub unlike : b ≢ b'

-- the areas begin with the tree and the address, and keep what stands behind them
pub record Written (d : Tree) (v tree tree' address address' : List ℕ) (nodes numbers : ℕ) : Type 0 where
  pub nodes_are : nodes ≡ size d
  pub numbers_are : numbers ≡ length v
  pub tree_wrote : tree' ≡ sets tree 0 (code d)
  pub address_wrote : address' ≡ sets address 0 v
