-- Linear transducers (02, F-2: single sheets): only what the initial term can reach counts.
use Rattle.std.specs.Prelude.{ℕ, ◌≤◌, ◌≡◌, List}
use Rattle.std.proofs.Math.Option.{some}
use Rattle.theory.specs.Grammar.{Grammar}
use Rattle.theory.specs.Reached.{Reached}
use Rattle.theory.specs.Term.{Term}
use Rattle.theory.specs.Transducer.{Transducer}
use Rattle.theory.specs.Weight.{calls}

-- a linear term: no child is called twice
abbrev pub Once : {Q : Type 0} → Term (ℕ × Q) → Type 0
Once t = (i : ℕ) → calls i t ≤ 1

-- M is linear: so are its initial term and the right-hand sides of the states that are reached
pub record Linear {Q : Type 0} (G : Grammar) (M : Transducer Q) : Type 0 where
  pub initial : Once M.initial
  pub rhs : (q : Q) (a : ℕ) {sorts : List ℕ} → Reached G M q → G.children (M.sort q) a ≡ some sorts → Once (M.rhs q a)
