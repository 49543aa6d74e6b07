-- `find_step` meets its contract. The invariant: a right-hand side as far as q is for a or a later symbol. Assumes nothing.
use Prim.Native.Nat.{ℕ, ◌<◌}
use mathlib.Core.Bool.{true, false, not}
use mathlib.Core.List.{List}
use mathlib.Core.Logic.{by_cases}
use native.Mathlib.Decide.{ℕ_discrete}
use lib.Dec.{eqb}
use borrow.Author.Tests.{eq-eqb, ne_eqb}
use Rattle.std.specs.Prelude.{Option, Some, None}
use Rattle.std.specs.Option.{option_eq}
use Rattle.theory.proofs.Terms.{conflict}
use native.Mathlib.Omega.{arith}
use mathlib.Core.Path.{◌≡◌, sym, ap, ◌∙◌}
use lib.ListN.{length, get_or}
use Rattle.witness.specs.Inner.Other.{Steppable}
use Rattle.witness.proofs.Distances.{Ahead, ahead_next}
use Rattle.witness.proofs.other.find_step.Goals as goal

-- a is still a symbol
there : {ins starts marks dist : List ℕ} {q b a : ℕ} → Steppable ins starts marks dist q b → Ahead ins starts marks dist q b (get_or dist q 0) a → a < length ins
there S A = omega (arith, S.step.1, A.ahead S.step.0 S.step.1 S.step.2)

-- what comparing two answers says
unlike : (r : Option ℕ) (d : ℕ) → not (option_eq eqb r (Some d)) ≡ true → r ≡ Some d → ⊥
unlike None d t e = conflict (cc)
unlike (Some x) d t e = let z : x ≡ d = cc in let w = rw (eq-eqb x d z) at t in conflict (cc)

alike : (r : Option ℕ) (d : ℕ) → not (option_eq eqb r (Some d)) ≡ false → r ≡ Some d
alike None d t = conflict (cc)
alike (Some x) d t = by_cases (ℕ_discrete x d) (λ z. ap Some z) (λ z. let w = rw (ne_eqb x d z) at t in conflict (cc))

pub loop-d-preserved : goal.loop-d-preserved
loop-d-preserved c = ahead_next c.loop-d.invariant c.step_distance.ensures c.requires.found (λ e. unlike _ _ (sym c.ne.ensures ∙ c.loop-d-test.true) (e ∙ ap Some (sym c.from.ensures)))

pub returns : goal.returns
returns c = record { there = there c.requires c.loop-d.invariant; distance = sym (c.step_distance.ensures.found _ (alike _ _ (sym c.ne.ensures ∙ c.loop-d-test.false))).0 ∙ c.from.ensures }
