-- Request F-2 of document 02, single means the lines that can be met, of whatever keeps the promise of the linear test: each field is a sentence of its text. That the checks are made in their order is a field of demand 1.
use Rattle.std.specs.Prelude.{Result, ℕ, ◌≤◌, ◌<◌, Bool, List, ◌≡◌, length}
use Rattle.trees.specs.declared.refusal.Refusal.{Refusal}
use Rattle.trees.specs.Refusal.{outcome_of, accepted, Decides}
use Rattle.theory.specs.Linear.{Linear}
use Rattle.theory.specs.Reached.{AllReached}
use Rattle.theory.specs.Transducer.{Transducer}
use Rattle.trees.specs.Alphabets.{Alphabets, inputs, outputs}
use Rattle.formats.specs.Sheet.{Sheet}
use Rattle.forms.specs.Alphabet.{alphabet}
use Rattle.queries.specs.Answers.{TestsLinear}
use Rattle.queries.specs.Linear.{AllOnce}

-- the linear test of the sheet s answers yes exactly if P
abbrev pub AnswersBy : List ℕ → List ℕ → Type 0 → Type 0
AnswersBy stock s P = (r : Result Bool Refusal) → TestsLinear stock s r → (b : Bool) × ((outcome_of r ≡ accepted b) × Decides P b)

pub record Request2 : Type 0 where
  -- The single test looks at the opening and at the lines of passes reached from it, through any number of open ends.
  pub single : {stock s : List ℕ} {n : ℕ} {M : Transducer ℕ} (A : Alphabets stock) → Sheet (inputs stock) (outputs stock) s n M → AnswersBy stock s (Linear (alphabet (inputs stock) A.leaf) M)
  -- Old passes at the back of a sheet, which nothing before them names, do not count: without them the answer is the same.
  pub old_passes : {stock s s' : List ℕ} {n n' : ℕ} {M M' : Transducer ℕ} → Alphabets stock → Sheet (inputs stock) (outputs stock) s n M → Sheet (inputs stock) (outputs stock) s' n' M'
      → n ≤ n' → M.initial ≡ M'.initial → ((q a : ℕ) → q < n → a < length (inputs stock) → M.rhs q a ≡ M'.rhs q a) → (r r' : Result Bool Refusal) → TestsLinear stock s r → TestsLinear stock s' r' → outcome_of r ≡ outcome_of r'
  -- Sheets whose passes are all reached answer as before.
  pub all_reached : {stock s : List ℕ} {n : ℕ} {M : Transducer ℕ} (A : Alphabets stock) → Sheet (inputs stock) (outputs stock) s n M → AllReached (alphabet (inputs stock) A.leaf) M n → AnswersBy stock s (AllOnce (length (inputs stock)) n M)
