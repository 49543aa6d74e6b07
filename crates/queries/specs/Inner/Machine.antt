-- What the reader of one symbol answers once the parts of a transducer's file are known to be right.
use Rattle.std.specs.Prelude.{Option, Result, ℕ, List, ◌≡◌}
use Rattle.trees.specs.declared.refusal.Refusal.{Refusal}
use Rattle.trees.specs.Refusal.{outcome_of, done, Judged}
use Rattle.theory.specs.Term.{Tree, symbol_at}
use Rattle.trees.specs.Answers.{Nothing}
use Rattle.trees.specs.Tree.{tree_check}
use Rattle.transducer.specs.Inner.Machine.{OutputBy}
use Rattle.queries.specs.Answers.{named}

abbrev pub FindsBy : List ℕ → ℕ → List ℕ → List ℕ → List ℕ → List ℕ → Result (Option ℕ) Refusal → Type 0
FindsBy stock n counts bytes s address r =
    Judged Nothing (λ o. (t : Tree) × (OutputBy stock n counts bytes s t × (o ≡ named (symbol_at t address)))) (tree_check stock s done) (outcome_of r)
