-- From the library's answer to what an exported function returns and leaves.
-- Assumes nothing.
use Prim.Native.Nat.{ℕ}
use mathlib.Core.Path.{◌≡◌}
use Rattle.trees.specs.Refusal.{Outcome, accepted, refused}
use Rattle.exports.specs.Exported.{IsTold, Exported}

module _ {E A L : Type 0} {Promise : E → Type 0} {outcome : E → Outcome A} {Left : A → L → Type 0} {before after : L} {r : ℕ} where
  pub tells_accepted : (e : E) {a : A} → Promise e → outcome e ≡ accepted a → r ≡ 0 → Left a after → Exported Promise outcome Left before after r
  unfolding IsTold
  tells_accepted e p q z l = record { answer = e; promise = p; says = rw q (z, l) }

  pub tells_refused : (e : E) {k : ℕ} → Promise e → outcome e ≡ refused k → r ≡ k → after ≡ before → Exported Promise outcome Left before after r
  unfolding IsTold
  tells_refused e p q z l = record { answer = e; promise = p; says = rw q (z, l) }

  -- what is told of a known answer is told for each promise that it keeps
  pub tells_known : {e : E} → Promise e → Exported (λ x. x ≡ e) outcome Left before after r → Exported Promise outcome Left before after r
  tells_known p t = record { answer = t.answer; promise = rw t.promise p; says = t.says }
