-- Sums over the variables of a term, so over the calls of a right-hand side; how often it calls a child.
use Rattle.std.specs.Prelude.{ℕ, ◌+◌, Bool, true, false, eqb}
use Rattle.theory.specs.Term.{Term, var, node, Terms, none, more}

-- 1 if a test holds, else 0
abbrev pub one_if : Bool → ℕ
one_if true = 1
one_if false = 0

-- the sum of w a over the variables a of t, each as often as it stands in t
unfoldable mutual
  pub weight : {A : Type 0} → (A → ℕ) → Term A → ℕ
  weight w (var a) = w a
  weight w (node k ts) = weights w ts

  pub weights : {A : Type 0} → (A → ℕ) → Terms A → ℕ
  weights w none = 0
  weights w (more t ts) = weight w t + weights w ts

-- 1 for a call on child i, 0 for another
abbrev pub on_child : {Q : Type 0} → ℕ → ℕ × Q → ℕ
on_child i e = one_if (eqb e.0 i)

-- how many calls a term makes on child i
abbrev pub calls : {Q : Type 0} → ℕ → Term (ℕ × Q) → ℕ
calls i t = weight (on_child i) t
