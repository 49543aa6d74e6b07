-- What making the earliest form answers.
use Rattle.std.specs.Prelude.{Result, ℕ, ◌≤◌, ◌<◌, List, ◌≡◌, length}
use Rattle.trees.specs.declared.refusal.Refusal.{Refusal}
use Rattle.forms.specs.declared.write.Form.{Form}
use Rattle.trees.specs.Refusal.{outcome_of, Checks, done, check, Judged}
use Rattle.theory.specs.Transducer.{Transducer}
use Rattle.theory.specs.Trimmed.{Trimmed}
use Rattle.trees.specs.Alphabets.{Alphabets, inputs, outputs, alphabet_check}
use Rattle.formats.specs.Sheet.{longest, Encodes, Sheet, sheet_check}
use Rattle.forms.specs.Alphabet.{alphabet}
use Rattle.forms.specs.Answers.{FileOf}

-- k, the counts and the marks are those of the earliest form (01: trimmed sheet) of the transducer of the file s; so it is within the limits of a file
pub record EarliestFile (stock s : List ℕ) (k : ℕ) (counts bytes : List ℕ) : Type 0 where
  pub alphabets : Alphabets stock
  pub states : ℕ
  pub machine : Transducer ℕ
  pub sheet : Sheet (inputs stock) (outputs stock) s states machine
  pub form : Transducer ℕ
  pub trimmed : Trimmed (alphabet (inputs stock) alphabets.leaf) machine (λ q. q < states) form k
  pub encodes : Encodes (inputs stock) (outputs stock) k counts bytes form

-- refusal 7
abbrev pub form_check : List ℕ → List ℕ → Checks → Checks
form_check stock s rest = check 7 ((k : ℕ) × ((counts : List ℕ) × ((bytes : List ℕ) × EarliestFile stock s k counts bytes))) rest

-- ---- a form of the transducer of the file s, as a file: Is says which k, counts and marks are the form's; refusal 7 where the earliest form is over the limits of a file
abbrev pub MakesForm : (ℕ → List ℕ → List ℕ → Type 0) → List ℕ → List ℕ → List ℕ → List ℕ → Result Form Refusal → Type 0
MakesForm Is stock s before after r =
    Judged (after ≡ before) (λ (v : Form). (counts : List ℕ) × ((bytes : List ℕ) × (Is v.states counts bytes × FileOf v counts bytes before after)))
    (check 1 (longest ≤ length before) (alphabet_check stock (sheet_check stock s (form_check stock s done))))
    (outcome_of r)

-- the earliest form, as a file
abbrev pub MakesEarliest : List ℕ → List ℕ → List ℕ → List ℕ → Result Form Refusal → Type 0
MakesEarliest stock s before after r = MakesForm (EarliestFile stock s) stock s before after r
