-- Files of linear transducers (01: single sheets; 02: the lines that can be met).
use Rattle.std.specs.Prelude.{ℕ, ◌<◌, List}
use Rattle.theory.specs.Linear.{Once, Linear}
use Rattle.theory.specs.Transducer.{Transducer}
use Rattle.trees.specs.Alphabets.{Alphabets, inputs, outputs}
use Rattle.formats.specs.Sheet.{Sheet}
use Rattle.forms.specs.Alphabet.{alphabet}

-- s is the file of a transducer that is linear: no child is called twice in its initial term, nor in a right-hand side of a state that is reached from it
pub record LinearFile (stock s : List ℕ) : Type 0 where
  pub alphabets : Alphabets stock
  pub states : ℕ
  pub machine : Transducer ℕ
  pub sheet : Sheet (inputs stock) (outputs stock) s states machine
  pub linear : Linear (alphabet (inputs stock) alphabets.leaf) machine

-- no child is called twice in the initial term, nor in a right-hand side of any of n states over P input symbols, reached or not (01, before 02)
pub record AllOnce (P n : ℕ) (M : Transducer ℕ) : Type 0 where
  pub initial : Once M.initial
  pub rhs : (q a : ℕ) → q < n → a < P → Once (M.rhs q a)
