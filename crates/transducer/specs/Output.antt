-- The output tree (01: plan): what the transducer of a file gives on the tree of a file, as 000, section 2.1, defines it. It may be of any size.
use Rattle.std.specs.Prelude.{ℕ, List, ◌≡◌}
use Rattle.theory.specs.Term.{Tree}
use Rattle.theory.specs.Transducer.{Transducer, translate}
use Rattle.trees.specs.Alphabets.{inputs, outputs}
use Rattle.formats.specs.Sheet.{Sheet}
use Rattle.trees.specs.Tree.{InputTree}

pub record Output (stock sheet design : List ℕ) (t : Tree) : Type 0 where
  pub states : ℕ
  pub machine : Transducer ℕ
  pub input : Tree
  pub is_sheet : Sheet (inputs stock) (outputs stock) sheet states machine
  pub is_tree : InputTree (inputs stock) design input
  pub given : translate machine input ≡ t
