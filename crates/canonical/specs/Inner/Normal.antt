-- What is answered once the parts of a transducer's file are known to be right.
use Rattle.std.specs.Prelude.{ℕ, ◌<◌, List}
use Rattle.theory.specs.Earliest.{Earliest}
use Rattle.theory.specs.NormalForm.{NormalForm}
use Rattle.theory.specs.Numbered.{Numbered}
use Rattle.theory.specs.Transducer.{Transducer}
use Rattle.trees.specs.Alphabets.{Leaf, Alphabets, inputs, outputs}
use Rattle.formats.specs.Sheet.{Encodes}
use Rattle.forms.specs.Alphabet.{alphabet}
use Rattle.forms.specs.Inner.Tables.{machine, Layout, Packed}
use Rattle.earliest.specs.Inner.Loaded.{Whole}
use Rattle.canonical.specs.Answers.{NormalFile}

-- a transducer in a table
pub record Reducible (ins outs starts bytes : List ℕ) (k : ℕ) : Type 0 where
  pub layout : Layout ins outs starts bytes k
  pub packed : Packed ins starts k

-- its quotient by the equivalence of states, which is its normal form if it is earliest and numbered
pub record Reduces (ins outs starts bytes : List ℕ) (k : ℕ) (starts' out : List ℕ) (n : ℕ) : Type 0 where
  pub layout : Layout ins outs starts' out n
  pub packed : Packed ins starts' n
  pub normal : (l : Leaf ins) → Earliest (alphabet ins l) (machine ins outs starts bytes k) (λ q. q < k) → Numbered (alphabet ins l) (machine ins outs starts bytes k) k → NormalForm (alphabet ins l) (machine ins outs starts bytes k) (machine ins outs starts' out n) n

-- k, the counts and the marks are those of the normal form of the transducer with n states and these counts and marks
pub record NormalOf (stock : List ℕ) (n : ℕ) (counts bytes : List ℕ) (k : ℕ) (counts' bytes' : List ℕ) : Type 0 where
  pub alphabets : Alphabets stock
  pub machine : Transducer ℕ
  pub machine_coded : Encodes (inputs stock) (outputs stock) n counts bytes machine
  pub form : Transducer ℕ
  pub normal : (l : Leaf (inputs stock)) → NormalForm (alphabet (inputs stock) l) machine form k
  pub form_coded : Encodes (inputs stock) (outputs stock) k counts' bytes' form

-- the normal form of the parts of a file is that of the file
pub normal_whole : Whole NormalOf NormalFile
normal_whole stock s n counts bytes coded k counts' bytes' K = record { alphabets = K.alphabets; states = n; machine = K.machine; sheet = record { counts = counts; bytes = bytes; coded = coded; encodes = K.machine_coded }; form = K.form; normal = K.normal; encodes = K.form_coded }
