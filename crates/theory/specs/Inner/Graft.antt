-- A right-hand side with a pattern for each call.
use Rattle.std.specs.Prelude.{ℕ}
use Rattle.theory.specs.Prefix.{Pattern}
use Rattle.theory.specs.Term.{Term, bind}

-- p[h q₁, …, h q_r], where t is p[q₁(x_i₁), …, q_r(x_i_r)]: the right side of the in-equations that the pref(q) solve (Maneth & Seidl 2007, theorem 3)
unfoldable pub graft : {Q : Type 0} → (Q → Pattern) → Term (ℕ × Q) → Pattern
graft h t = bind t (λ e. h e.1)
