-- Two transducers joined into one (02, F-9: sheet after sheet), and when the outputs of the first are input trees of the second.
use Rattle.std.specs.Prelude.{ℕ, ◌≡◌, List}
use Rattle.std.proofs.Math.Option.{some}
use Rattle.theory.specs.Accessible.{Accessible}
use Rattle.theory.specs.Compose.{compose}
use Rattle.theory.specs.Grammar.{Grammar}
use Rattle.theory.specs.OpenTrees.{AllowedOpen}
use Rattle.theory.specs.Transducer.{Transducer}

-- the outputs of M are trees of the grammar H, those of state q of the sort out q: so its right-hand sides are, with the outputs of the states that they call for variables
pub record OutputsIn {Q : Type 0} (G H : Grammar) (M : Transducer Q) (Valid : Q → Type 0) (out : Q → ℕ) : Type 0 where
  pub initial : AllowedOpen H (λ e. out e.1) 0 M.initial
  pub rhs : (q : Q) (a : ℕ) {sorts : List ℕ} → Valid q → G.children (M.sort q) a ≡ some sorts → AllowedOpen H (λ e. out e.1) (out q) (M.rhs q a)

-- J, with the states below k, is N after M: its states are the pairs that are met from the joined initial term, numbered as they are
abbrev pub Joined : {Q P : Type 0} → Grammar → Transducer Q → Transducer P → Transducer ℕ → ℕ → Type 0
Joined G M N J k = Accessible G (compose M N) J k
