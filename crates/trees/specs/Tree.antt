-- The file of an input tree (01: design).
use Rattle.std.specs.Prelude.{ℕ, ◌≤◌, List, ◌≡◌}
use Rattle.theory.specs.Size.{size, levels}
use Rattle.theory.specs.Term.{Tree}
use Rattle.trees.specs.Alphabets.{inputs}
use Rattle.trees.specs.Code.{Ranked, code}
use Rattle.trees.specs.Refusal.{Checks, check}

-- s is the code of the tree d over the input alphabet with the ranks ins, which has at most 4,096 nodes and 512 levels
pub record InputTree (ins s : List ℕ) (d : Tree) : Type 0 where
  pub ranked : Ranked (λ x. ⊥) ins d
  pub coded : code d ≡ s
  pub small : size d ≤ 4096
  pub few_levels_lem : levels d ≤ 512

-- refusal 3
abbrev pub tree_check : List ℕ → List ℕ → Checks → Checks
tree_check alphabets s rest = check 3 ((d : Tree) × InputTree (inputs alphabets) s d) rest
