-- What the linear test and the reader of one symbol promise of their answers.
use Rattle.std.specs.Prelude.{None, Option, Result, Some, ℕ, Bool, List, ◌≡◌}
use Rattle.trees.specs.declared.refusal.Refusal.{Refusal}
use Rattle.trees.specs.Refusal.{outcome_of, done, Judged, Decides}
use Rattle.std.proofs.Math.Option.{Option as MathOption, some, none as nothing}
use Rattle.theory.specs.Term.{Symbol, Tree, symbol_at}
use Rattle.trees.specs.Alphabets.{alphabet_check}
use Rattle.trees.specs.Answers.{Nothing}
use Rattle.formats.specs.Sheet.{sheet_check}
use Rattle.trees.specs.Tree.{tree_check}
use Rattle.transducer.specs.Output.{Output}
use Rattle.queries.specs.Linear.{LinearFile}

-- ---- the linear test: yes or no
abbrev pub TestsLinear : List ℕ → List ℕ → Result Bool Refusal → Type 0
TestsLinear stock s r =
    Judged Nothing (Decides (LinearFile stock s))
    (alphabet_check stock (sheet_check stock s done))
    (outcome_of r)

-- ---- the symbol at an address (01: the block at a place), or that the output tree has no such address
-- the name of a symbol
abbrev pub named : MathOption Symbol → Option ℕ
named nothing = None
named (some b) = Some b.0

abbrev pub FindsSymbol : List ℕ → List ℕ → List ℕ → List ℕ → Result (Option ℕ) Refusal → Type 0
FindsSymbol stock sheet design address r =
    Judged Nothing (λ o. (t : Tree) × (Output stock sheet design t × (o ≡ named (symbol_at t address))))
    (alphabet_check stock (sheet_check stock sheet (tree_check stock design done)))
    (outcome_of r)
