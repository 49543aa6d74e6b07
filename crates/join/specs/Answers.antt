-- What joining two transducers answers: the second after the first, as one transducer.
use Rattle.std.specs.Prelude.{Result, ℕ, ◌≤◌, List, ◌≡◌, length}
use Rattle.trees.specs.declared.refusal.Refusal.{Refusal}
use Rattle.forms.specs.declared.write.Form.{Form}
use Rattle.trees.specs.Refusal.{outcome_of, Checks, done, check, Judged}
use Rattle.theory.specs.Joined.{Joined}
use Rattle.theory.specs.Transducer.{Transducer}
use Rattle.trees.specs.Alphabets.{Alphabets, inputs, outputs, stock as stockFile, alphabet_check}
use Rattle.formats.specs.Sheet.{longest, Encodes, Sheet, sheet_check}
use Rattle.forms.specs.Alphabet.{alphabet}
use Rattle.forms.specs.Answers.{FileOf}

-- refusal 16: the output symbols of the first (02: its block kinds) are the input symbols of the second (its part kinds), as many and of the same ranks
abbrev pub fit_check : List ℕ → List ℕ → Checks → Checks
fit_check stock stock' rest = check 16 (outputs stock ≡ inputs stock') rest

-- the alphabets of the joined transducer: the inputs of the first stock and the outputs of the second
abbrev pub joined_stock : List ℕ → List ℕ → List ℕ
joined_stock stock stock' = stockFile (inputs stock) (outputs stock')

-- k, the counts and the marks are those of the transducer of the file s' after that of the file s (02: the joined sheet); so it is within the limits of a file
pub record JoinedFile (stock stock' s s' : List ℕ) (k : ℕ) (counts bytes : List ℕ) : Type 0 where
  pub alphabets : Alphabets stock
  pub states : ℕ
  pub machine : Transducer ℕ
  pub sheet : Sheet (inputs stock) (outputs stock) s states machine
  pub states' : ℕ
  pub machine' : Transducer ℕ
  pub sheet' : Sheet (inputs stock') (outputs stock') s' states' machine'
  pub form : Transducer ℕ
  pub joined : Joined (alphabet (inputs stock) alphabets.leaf) machine machine' form k
  pub encodes : Encodes (inputs stock) (outputs stock') k counts bytes form

-- refusal 17
abbrev pub join_check : List ℕ → List ℕ → List ℕ → List ℕ → Checks → Checks
join_check stock stock' s s' rest = check 17 ((k : ℕ) × ((counts : List ℕ) × ((bytes : List ℕ) × JoinedFile stock stock' s s' k counts bytes))) rest

-- what is asked of two stocks and two sheets, in this order
abbrev pub joinable : List ℕ → List ℕ → List ℕ → List ℕ → Checks
joinable stock stock' s s' = alphabet_check stock (alphabet_check stock' (fit_check stock stock' (sheet_check stock s (sheet_check stock' s' (join_check stock stock' s s' done)))))

-- the joined transducer, as a file
abbrev pub Joins : List ℕ → List ℕ → List ℕ → List ℕ → List ℕ → List ℕ → Result Form Refusal → Type 0
Joins stock stock' s s' before after r =
    Judged (after ≡ before) (λ v. (counts : List ℕ) × ((bytes : List ℕ) × (JoinedFile stock stock' s s' v.states counts bytes × FileOf v counts bytes before after)))
    (check 1 (longest ≤ length before) (joinable stock stock' s s'))
    (outcome_of r)
