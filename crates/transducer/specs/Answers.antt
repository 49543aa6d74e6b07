-- What translation answers: the promise about the value, or the refusal.
use Rattle.std.specs.Prelude.{Result, ℕ, ◌≤◌, List, ◌≡◌, length}
use Rattle.trees.specs.declared.refusal.Refusal.{Refusal}
use Rattle.trees.specs.Refusal.{outcome_of, Checks, done, check, Judged}
use Rattle.std.proofs.lemmas.List.Edits.{sets}
use Rattle.theory.specs.Size.{size, levels}
use Rattle.theory.specs.Term.{Tree}
use Rattle.trees.specs.Alphabets.{alphabet_check}
use Rattle.trees.specs.Code.{code}
use Rattle.formats.specs.Sheet.{sheet_check}
use Rattle.trees.specs.Tree.{tree_check}
use Rattle.transducer.specs.Output.{Output}

-- refusal 6
abbrev pub room_check : List ℕ → List ℕ → List ℕ → List ℕ → Checks → Checks
room_check stock sheet design area rest = check 6 ((t : Tree) × (Output stock sheet design t × (size t ≤ length area))) rest

-- refusal 10 (02, F-1)
abbrev pub levels_check : List ℕ → List ℕ → List ℕ → Checks → Checks
levels_check stock sheet design rest = check 10 ((t : Tree) × (Output stock sheet design t × (levels t ≤ 256))) rest

-- translating: the number of symbols of the output tree, with whose code the area then begins; the rest of the area stays
abbrev pub Translates : List ℕ → List ℕ → List ℕ → List ℕ → List ℕ → Result ℕ Refusal → Type 0
Translates stock sheet design before after r =
    Judged (after ≡ before) (λ k. (t : Tree) × (Output stock sheet design t × (k ≡ size t) × (after ≡ sets before 0 (code t))))
    (alphabet_check stock (sheet_check stock sheet (tree_check stock design (room_check stock sheet design before (levels_check stock sheet design done)))))
    (outcome_of r)
