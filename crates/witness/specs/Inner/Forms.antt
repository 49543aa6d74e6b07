-- Two earliest forms in tables, and a difference of theirs in lent areas.
use Rattle.std.specs.Prelude.{ℕ, ◌<◌, List}
use Rattle.theory.specs.Earliest.{Earliest}
use Rattle.theory.specs.Term.{Tree}
use Rattle.theory.specs.Transducer.{Transducer}
use Rattle.trees.specs.Alphabets.{Ranks, Leaf}
use Rattle.forms.specs.Alphabet.{alphabet}
use Rattle.forms.specs.Inner.Tables.{machine, Layout}
use Rattle.witness.specs.Difference.{Difference, Written}

-- two earliest forms in tables, over alphabets within the limits
pub record Comparable (ins outs starts bytes : List ℕ) (k : ℕ) (starts' bytes' : List ℕ) (k' : ℕ) : Type 0 where
  pub ins_ranks : Ranks 16 ins
  pub outs_ranks : Ranks 64 outs
  pub leaf : Leaf ins
  pub left : Layout ins outs starts bytes k
  pub right : Layout ins outs starts' bytes' k'
  pub left_earliest : (l : Leaf ins) → Earliest (alphabet ins l) (machine ins outs starts bytes k) (λ q. q < k)
  pub right_earliest : (l : Leaf ins) → Earliest (alphabet ins l) (machine ins outs starts' bytes' k') (λ q. q < k')

-- a difference of two transducers stands in the areas
pub record Shows (ins outs : List ℕ) (M M' : Transducer ℕ) (tree tree' address address' : List ℕ) (nodes numbers b b' : ℕ) : Type 0 where
  pub shown : Tree
  pub place : List ℕ
  pub written : Written shown place tree tree' address address' nodes numbers
  pub difference : Difference ins outs M M' shown place b b'
