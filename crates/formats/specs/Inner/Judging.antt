-- What judging the parts of a transducer's file answers, once the alphabets are known to be right.
use Rattle.std.specs.Prelude.{Result, ℕ, List, ◌≡◌, length}
use Rattle.trees.specs.declared.refusal.Refusal.{Refusal}
use Rattle.trees.specs.Refusal.{outcome_of, done, Judged}
use Rattle.std.proofs.lemmas.List.Edits.{sets}
use Rattle.theory.specs.Transducer.{Transducer}
use Rattle.trees.specs.Alphabets.{inputs, outputs}
use Rattle.trees.specs.Answers.{Nothing}
use Rattle.formats.specs.Sheet.{Encodes, Sheet, sheet_check, parts_check}

abbrev pub JudgesParts : List ℕ → ℕ → List ℕ → List ℕ → Result ℕ Refusal → Type 0
JudgesParts stock n counts bytes r =
    Judged Nothing (λ k. (k ≡ n) × ((M : Transducer ℕ) × Encodes (inputs stock) (outputs stock) n counts bytes M)) (parts_check stock n counts bytes done) (outcome_of r)

abbrev pub JudgesFile : List ℕ → List ℕ → Result ℕ Refusal → Type 0
JudgesFile stock s r = Judged Nothing (λ n. (M : Transducer ℕ) × Sheet (inputs stock) (outputs stock) s n M) (sheet_check stock s done) (outcome_of r)

-- w was written from the start of the area, and r is how long it is
pub record Put (w before after : List ℕ) (r : ℕ) : Type 0 where
  pub size : r ≡ length w
  pub wrote : after ≡ sets before 0 w
