-- Lists of states that are closed under calls.
use Rattle.std.specs.Prelude.{ℕ, ◌≡◌, List}
use Rattle.std.proofs.Math.Option.{some}
use Rattle.std.proofs.Math.ListN.{get_elem?}
use Rattle.theory.specs.Grammar.{Grammar}
use Rattle.theory.specs.Transducer.{Transducer}
use Rattle.theory.specs.Vars.{AllVars}

-- q is listed, at its number
abbrev pub Listed : {Q : Type 0} → List Q → (Q → ℕ) → Q → Type 0
Listed L idx q = get_elem? L (idx q) ≡ some q

-- L is closed: it has the states that the initial term calls, and those that the right-hand sides of its states call
pub record Closed {Q : Type 0} (G : Grammar) (M : Transducer Q) (L : List Q) (idx : Q → ℕ) : Type 0 where
  pub initial : AllVars (λ e. Listed L idx e.1) M.initial
  pub rhs : (q : Q) (a : ℕ) {sorts : List ℕ} → Listed L idx q → G.children (M.sort q) a ≡ some sorts → AllVars (λ e. Listed L idx e.1) (M.rhs q a)
