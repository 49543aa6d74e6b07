-- What the exits of a `?` return: where the answer is a refusal, and where it stands for a `None`.
-- Assumes nothing.
use mathlib.Core.Path.{◌≡◌, refl, sym, ◌∙◌}
use Rattle.std.specs.Prelude.{Option, Some, None, Result, Ok, Err}
use Rattle.std.specs.Option.{ok_or}
use Rattle.theory.proofs.Terms.{conflict}

module _ {A E : Type 0} {r : Result A E} where
  -- `o.ok_or(e)` was an error: o is None, and the error is e
  pub none_refused : {o : Option A} {e x : E} → r ≡ ok_or o e → r ≡ Err x → (o ≡ None) × (x ≡ e)
  none_refused {o = None} q w = (refl, let y = sym w ∙ q in cc)
  none_refused {o = Some v} q w = let y = sym w ∙ q in conflict (cc)

  -- it was not: o has that value
  pub some_given : {o : Option A} (e : E) {v : A} → r ≡ ok_or o e → r ≡ Ok v → o ≡ Some v
  some_given {o = None} e q w = let y = sym w ∙ q in conflict (cc)
  some_given {o = Some v} e q w = let y = sym w ∙ q in cc
