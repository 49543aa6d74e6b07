-- What is answered once the parts of a transducer's file are known to be right.
use Rattle.std.specs.Prelude.{None, Option, Result, Some, ℕ, ◌<◌, List, ◌≡◌}
use Rattle.trees.specs.declared.refusal.Refusal.{Refusal}
use Rattle.forms.specs.declared.write.Form.{Form}
use Rattle.trees.specs.Refusal.{outcome_of, done, check, Judged}
use Rattle.theory.specs.NormalForm.{Identical}
use Rattle.theory.specs.Transducer.{Transducer}
use Rattle.theory.specs.Trimmed.{Trimmed}
use Rattle.trees.specs.Alphabets.{Leaf, Alphabets, inputs, outputs}
use Rattle.formats.specs.Sheet.{file, Encodes}
use Rattle.forms.specs.Alphabet.{alphabet}
use Rattle.forms.specs.Inner.Tables.{machine, Layout, Packed}
use Rattle.forms.specs.Answers.{FileOf}
use Rattle.earliest.specs.Answers.{EarliestFile}

-- k, the counts and the marks are those of the earliest form of the transducer with n states and these counts and marks
pub record EarliestOf (stock : List ℕ) (n : ℕ) (counts bytes : List ℕ) (k : ℕ) (counts' bytes' : List ℕ) : Type 0 where
  pub alphabets : Alphabets stock
  pub machine : Transducer ℕ
  pub machine_coded : Encodes (inputs stock) (outputs stock) n counts bytes machine
  pub form : Transducer ℕ
  pub trimmed : Trimmed (alphabet (inputs stock) alphabets.leaf) machine (λ q. q < n) form k
  pub form_coded : Encodes (inputs stock) (outputs stock) k counts' bytes' form

-- the earliest form stands in the table; or it is over the limits of a file
pub record FormOfParts (stock : List ℕ) (n : ℕ) (counts bytes starts out : List ℕ) (r : Option ℕ) : Type 0 where
  pub over : r ≡ None → (k : ℕ) (counts' bytes' : List ℕ) → EarliestOf stock n counts bytes k counts' bytes' → ⊥
  pub layout : (k : ℕ) → r ≡ Some k → Layout (inputs stock) (outputs stock) starts out k
  pub packed : (k : ℕ) → r ≡ Some k → Packed (inputs stock) starts k
  pub trimmed : (k : ℕ) → r ≡ Some k → (M : Transducer ℕ) → Encodes (inputs stock) (outputs stock) n counts bytes M → (l : Leaf (inputs stock)) → Trimmed (alphabet (inputs stock) l) M (λ q. q < n) (machine (inputs stock) (outputs stock) starts out k) k

-- a form of a kind stands in the table, where Parts says what is a form of these parts; or the earliest form is over the limits of a file
pub record FormMade (Parts : List ℕ → ℕ → List ℕ → List ℕ → ℕ → List ℕ → List ℕ → Type 0) (stock : List ℕ) (n : ℕ) (counts bytes starts out : List ℕ) (r : Option ℕ) : Type 0 where
  pub over : r ≡ None → (k : ℕ) (counts' bytes' : List ℕ) → EarliestOf stock n counts bytes k counts' bytes' → ⊥
  pub within : (k : ℕ) → r ≡ Some k → (k' : ℕ) × ((counts' : List ℕ) × ((bytes' : List ℕ) × EarliestOf stock n counts bytes k' counts' bytes'))
  pub layout : (k : ℕ) → r ≡ Some k → Layout (inputs stock) (outputs stock) starts out k
  pub packed : (k : ℕ) → r ≡ Some k → Packed (inputs stock) starts k
  pub made : (k : ℕ) → r ≡ Some k → (counts' bytes' : List ℕ) (N : Transducer ℕ) → Encodes (inputs stock) (outputs stock) k counts' bytes' N → ((l : Leaf (inputs stock)) → Identical (alphabet (inputs stock) l) N (machine (inputs stock) (outputs stock) starts out k) k k) → Parts stock n counts bytes k counts' bytes'

-- a form of the parts of a file is one of the file
abbrev pub Whole : (List ℕ → ℕ → List ℕ → List ℕ → ℕ → List ℕ → List ℕ → Type 0) → (List ℕ → List ℕ → ℕ → List ℕ → List ℕ → Type 0) → Type 0
Whole Parts File = (stock s : List ℕ) (n : ℕ) (counts bytes : List ℕ) → file n counts bytes ≡ s → (k : ℕ) (counts' bytes' : List ℕ) → Parts stock n counts bytes k counts' bytes' → File stock s k counts' bytes'

pub earliest_whole : Whole EarliestOf EarliestFile
earliest_whole stock s n counts bytes coded k counts' bytes' K = record { alphabets = K.alphabets; states = n; machine = K.machine; sheet = record { counts = counts; bytes = bytes; coded = coded; encodes = K.machine_coded }; form = K.form; trimmed = K.trimmed; encodes = K.form_coded }

-- a form of the transducer with n states and these counts and marks, as a file: Form says which k, counts and marks are the form's
abbrev pub FormsFile : (ℕ → List ℕ → List ℕ → Type 0) → List ℕ → ℕ → List ℕ → List ℕ → List ℕ → List ℕ → Result Form Refusal → Type 0
FormsFile Is stock n counts bytes before after r =
    Judged (after ≡ before) (λ (v : Form). (counts' : List ℕ) × ((bytes' : List ℕ) × (Is v.states counts' bytes' × FileOf v counts' bytes' before after)))
    (check 7 ((k : ℕ) × ((counts' : List ℕ) × ((bytes' : List ℕ) × EarliestOf stock n counts bytes k counts' bytes'))) done)
    (outcome_of r)
