-- The states that are reached: those that the initial term calls, and those that right-hand sides of reached states call (02: passes reached from the opening, through any number of open ends).
use Rattle.std.specs.Prelude.{ℕ, ◌<◌, ◌≡◌, List}
use Rattle.std.proofs.Math.Option.{some}
use Rattle.theory.specs.Grammar.{Grammar}
use Rattle.theory.specs.Term.{Term, var, sub}
use Rattle.theory.specs.Transducer.{Transducer}

-- a call of q stands in t (02: an open end that names the pass q)
pub record Called {Q : Type 0} (t : Term (ℕ × Q)) (q : Q) : Type 0 where
  pub address : List ℕ
  pub child : ℕ
  pub there : sub t address ≡ some (var (child, q))

-- q is reached; of the right-hand sides those for allowed symbols count
pub data Reached {Q : Type 0} (G : Grammar) (M : Transducer Q) : Q → Type 0 where
  by_initial : {q : Q} → Called M.initial q → Reached G M q
  by_rhs : {p q : Q} {a : ℕ} {sorts : List ℕ} → Reached G M p → G.children (M.sort p) a ≡ some sorts → Called (M.rhs p a) q → Reached G M q

-- every state below n is reached
abbrev pub AllReached : Grammar → Transducer ℕ → ℕ → Type 0
AllReached G M n = (q : ℕ) → q < n → Reached G M q
