-- The loops that make the earliest form: what they ask, and what stands there at the end.
use Rattle.std.specs.Prelude.{None, Option, Some, ℕ, ◌≤◌, ◌<◌, List, ◌≡◌, length, get_or}
use Rattle.theory.specs.Transducer.{Transducer}
use Rattle.theory.specs.Trimmed.{Trimmed}
use Rattle.trees.specs.Alphabets.{Leaf}
use Rattle.formats.specs.Sheet.{Encodes}
use Rattle.forms.specs.Alphabet.{alphabet}
use Rattle.forms.specs.Inner.Tables.{machine, Layout, Packed}
use Rattle.earliest.specs.Inner.Letters.{Expanding}

-- what every loop asks of what it only reads, and of the area for letters
pub record Discoverable (ins outs starts bytes heads sizes letters : List ℕ) : Type 0 where
  pub expanding : Expanding ins outs starts bytes heads sizes
  pub leaf : Leaf ins
  pub room : 4096 ≤ length letters

-- the bodies of a transducer over an alphabet with a leaf and ranks up to 4
pub record Formable (ins outs starts bytes : List ℕ) (n : ℕ) : Type 0 where
  pub layout : Layout ins outs starts bytes n
  pub leaf : Leaf ins
  pub ranks : (a : ℕ) → a < length ins → get_or ins a 0 ≤ 4

-- it stands there, within the limits of a file; or it is over them
pub record FormOfTable (ins outs starts bytes : List ℕ) (n : ℕ) (starts' out : List ℕ) (r : Option ℕ) : Type 0 where
  pub over : r ≡ None → (l : Leaf ins) (N : Transducer ℕ) (k : ℕ) (counts marks : List ℕ) → Trimmed (alphabet ins l) (machine ins outs starts bytes n) (λ q. q < n) N k → Encodes ins outs k counts marks N → ⊥
  pub layout : (k : ℕ) → r ≡ Some k → Layout ins outs starts' out k
  pub packed : (k : ℕ) → r ≡ Some k → Packed ins starts' k
  pub trimmed : (k : ℕ) → r ≡ Some k → (l : Leaf ins) → Trimmed (alphabet ins l) (machine ins outs starts bytes n) (λ q. q < n) (machine ins outs starts' out k) k
