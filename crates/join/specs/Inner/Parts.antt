-- What is answered once the parts of both transducers' files are known to be right.
use Rattle.std.specs.Prelude.{None, Option, Result, Some, ℕ, ◌≤◌, List, ◌≡◌, length, take}
use Rattle.trees.specs.declared.refusal.Refusal.{Refusal}
use Rattle.forms.specs.declared.write.Form.{Form}
use Rattle.trees.specs.Refusal.{outcome_of, done, check, Judged}
use Rattle.theory.specs.Joined.{Joined}
use Rattle.theory.specs.Transducer.{Transducer}
use Rattle.trees.specs.Alphabets.{Leaf, Alphabets, inputs, outputs, stock as stockFile}
use Rattle.formats.specs.Sheet.{Encodes, sheet_check}
use Rattle.transducer.specs.Inner.Machine.{Machine}
use Rattle.forms.specs.Alphabet.{alphabet}
use Rattle.forms.specs.Answers.{FileOf}
use Rattle.forms.specs.Inner.Tables.{machine, Layout, Packed}
use Rattle.join.specs.Answers.{JoinedFile, join_check}

-- the alphabets of the joined transducer, as a file: the first r bytes of the area
pub record StockJoined (stock stock' area : List ℕ) (r : ℕ) : Type 0 where
  pub inside : r ≤ length area
  pub coded : take r area ≡ stockFile (inputs stock) (outputs stock')

-- the counts and the marks of two transducers, of which the second reads what the first gives
pub record Joinable (stock stock' : List ℕ) (n : ℕ) (counts bytes : List ℕ) (m : ℕ) (counts' bytes' : List ℕ) : Type 0 where
  pub first : Machine stock n counts bytes
  pub second : Machine stock' m counts' bytes'
  pub fits : outputs stock ≡ inputs stock'

-- k, the counts and the marks are those of the second after the first
pub record JoinedOf (stock stock' : List ℕ) (n : ℕ) (counts bytes : List ℕ) (m : ℕ) (counts' bytes' : List ℕ) (k : ℕ) (counts'' bytes'' : List ℕ) : Type 0 where
  pub alphabets : Alphabets stock
  pub machine : Transducer ℕ
  pub machine_coded : Encodes (inputs stock) (outputs stock) n counts bytes machine
  pub machine' : Transducer ℕ
  pub machine_coded' : Encodes (inputs stock') (outputs stock') m counts' bytes' machine'
  pub form : Transducer ℕ
  pub joined : Joined (alphabet (inputs stock) alphabets.leaf) machine machine' form k
  pub form_coded : Encodes (inputs stock) (outputs stock') k counts'' bytes'' form

-- the joined transducer stands in the table; or it is over the limits of a file
pub record JoinsParts (stock stock' : List ℕ) (n : ℕ) (counts bytes : List ℕ) (m : ℕ) (counts' bytes' starts out : List ℕ) (r : Option ℕ) : Type 0 where
  pub over : r ≡ None → (k : ℕ) (counts'' bytes'' : List ℕ) → JoinedOf stock stock' n counts bytes m counts' bytes' k counts'' bytes'' → ⊥
  pub layout : (k : ℕ) → r ≡ Some k → Layout (inputs stock) (outputs stock') starts out k
  pub packed : (k : ℕ) → r ≡ Some k → Packed (inputs stock) starts k
  pub joined : (k : ℕ) → r ≡ Some k → (M N : Transducer ℕ) → Encodes (inputs stock) (outputs stock) n counts bytes M → Encodes (inputs stock') (outputs stock') m counts' bytes' N → (l : Leaf (inputs stock)) → Joined (alphabet (inputs stock) l) M N (machine (inputs stock) (outputs stock') starts out k) k

-- the joined transducer, as a file
abbrev pub JoinsFile : List ℕ → List ℕ → ℕ → List ℕ → List ℕ → ℕ → List ℕ → List ℕ → List ℕ → List ℕ → Result Form Refusal → Type 0
JoinsFile stock stock' n counts bytes m counts' bytes' before after r =
    Judged (after ≡ before) (λ v. (counts'' : List ℕ) × ((bytes'' : List ℕ) × (JoinedOf stock stock' n counts bytes m counts' bytes' v.states counts'' bytes'' × FileOf v counts'' bytes'' before after)))
    (check 17 ((k : ℕ) × ((counts'' : List ℕ) × ((bytes'' : List ℕ) × JoinedOf stock stock' n counts bytes m counts' bytes' k counts'' bytes''))) done)
    (outcome_of r)

-- the same of two files, under alphabets that are right and fit
abbrev pub JoinsSheets : List ℕ → List ℕ → List ℕ → List ℕ → List ℕ → List ℕ → Result Form Refusal → Type 0
JoinsSheets stock stock' s s' before after r =
    Judged (after ≡ before) (λ v. (counts : List ℕ) × ((bytes : List ℕ) × (JoinedFile stock stock' s s' v.states counts bytes × FileOf v counts bytes before after)))
    (sheet_check stock s (sheet_check stock' s' (join_check stock stock' s s' done)))
    (outcome_of r)
