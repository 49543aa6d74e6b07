-- What translation answers once the parts of a transducer's file are known to be right.
use Rattle.std.specs.Prelude.{Result, ℕ, ◌≤◌, List, ◌≡◌, length}
use Rattle.trees.specs.declared.refusal.Refusal.{Refusal}
use Rattle.trees.specs.Refusal.{outcome_of, done, check, Judged}
use Rattle.std.proofs.lemmas.List.Edits.{sets}
use Rattle.theory.specs.Size.{size, levels}
use Rattle.theory.specs.Term.{Tree}
use Rattle.theory.specs.Transducer.{Transducer, translate}
use Rattle.trees.specs.Alphabets.{Alphabets, inputs, outputs}
use Rattle.trees.specs.Code.{code}
use Rattle.formats.specs.Sheet.{Encodes}
use Rattle.trees.specs.Tree.{InputTree, tree_check}

-- the counts and the marks are those of a transducer with n states
pub record Machine (stock : List ℕ) (n : ℕ) (counts bytes : List ℕ) : Type 0 where
  pub alphabets : Alphabets stock
  pub machine : Transducer ℕ
  pub encodes : Encodes (inputs stock) (outputs stock) n counts bytes machine

-- t is what it gives on the tree of s
pub record OutputBy (stock : List ℕ) (n : ℕ) (counts bytes s : List ℕ) (t : Tree) : Type 0 where
  pub machine : Transducer ℕ
  pub input : Tree
  pub encodes : Encodes (inputs stock) (outputs stock) n counts bytes machine
  pub is_tree : InputTree (inputs stock) s input
  pub given : translate machine input ≡ t

abbrev pub TranslatesBy : List ℕ → ℕ → List ℕ → List ℕ → List ℕ → List ℕ → List ℕ → Result ℕ Refusal → Type 0
TranslatesBy stock n counts bytes s before after r =
    Judged (after ≡ before) (λ k. (t : Tree) × (OutputBy stock n counts bytes s t × (k ≡ size t) × (after ≡ sets before 0 (code t))))
    (tree_check stock s (check 6 ((t : Tree) × (OutputBy stock n counts bytes s t × (size t ≤ length before))) (check 10 ((t : Tree) × (OutputBy stock n counts bytes s t × (levels t ≤ 256))) done)))
    (outcome_of r)
