-- Classes of states, and how they stand to equivalence.
use Rattle.std.specs.Prelude.{ℕ, ◌≡◌, ◌↔◌}
use Rattle.theory.specs.Equivalent.{EquivStates}
use Rattle.theory.specs.Grammar.{Grammar}
use Rattle.theory.specs.Transducer.{Transducer}

-- two states are in one class exactly if they are equivalent
abbrev pub Exact : {Q : Type 0} → Grammar → Transducer Q → (Q → ℕ) → Q → Q → Type 0
Exact G M c q r = (c q ≡ c r) ↔ EquivStates G M M q r

-- equivalent valid states are in one class
abbrev pub Respects : {Q : Type 0} → Grammar → Transducer Q → (Q → Type 0) → (Q → ℕ) → Type 0
Respects {Q} G M Valid c = (p q : Q) → Valid p → Valid q → EquivStates G M M p q → c p ≡ c q
