-- What the reader and the writer of a transducer's file answer: the promise about the values, or the refusal.
use Rattle.std.specs.Prelude.{Result, ℕ, ◌≤◌, List, ◌≡◌, length}
use Rattle.trees.specs.declared.refusal.Refusal.{Refusal}
use Rattle.trees.specs.Refusal.{outcome_of, done, check, Judged, Handed}
use Rattle.std.proofs.lemmas.List.Edits.{sets}
use Rattle.theory.specs.Transducer.{Transducer}
use Rattle.trees.specs.Alphabets.{inputs, outputs, alphabet_check}
use Rattle.trees.specs.Answers.{Nothing}
use Rattle.formats.specs.Sheet.{longest, file, Sheet, sheet_check, parts_check}

-- ---- reading a transducer: N, and as parts of the file its counts and its marks
abbrev pub ReadsFile : List ℕ → List ℕ → Result ℕ Refusal → Type 0
ReadsFile stock s r = Judged Nothing (λ n. (M : Transducer ℕ) × Sheet (inputs stock) (outputs stock) s n M) (alphabet_check stock (sheet_check stock s done)) (outcome_of r)

abbrev pub HandsCounts : List ℕ → List ℕ → List ℕ → Type 0
HandsCounts stock s part = Handed (λ p. (n : ℕ) × ((M : Transducer ℕ) × ((S : Sheet (inputs stock) (outputs stock) s n M) × (p ≡ S.counts)))) (alphabet_check stock (sheet_check stock s done)) part

abbrev pub HandsMarks : List ℕ → List ℕ → List ℕ → Type 0
HandsMarks stock s part = Handed (λ p. (n : ℕ) × ((M : Transducer ℕ) × ((S : Sheet (inputs stock) (outputs stock) s n M) × (p ≡ S.bytes)))) (alphabet_check stock (sheet_check stock s done)) part

-- ---- writing a transducer: the length of the file, which the area then begins with; the rest of the area stays
abbrev pub WritesFile : List ℕ → ℕ → List ℕ → List ℕ → List ℕ → List ℕ → Result ℕ Refusal → Type 0
WritesFile stock n counts bytes before after r =
    Judged (after ≡ before) (λ k. (k ≡ length (file n counts bytes)) × (after ≡ sets before 0 (file n counts bytes)))
    (check 1 (longest ≤ length before) (alphabet_check stock (parts_check stock n counts bytes done)))
    (outcome_of r)
