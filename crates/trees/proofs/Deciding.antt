-- What a test decides: that something holds, or that it does not.
-- Assumes nothing.
use mathlib.Core.Bool.{Bool, true, false, not}
use mathlib.Core.Path.{◌≡◌, refl}
use borrow.Author.Tests.{not-true, not-false}
use Rattle.theory.proofs.Terms.{conflict}
use Rattle.trees.specs.Refusal.{Decides}

-- what does not hold, what holds, and what holds exactly if something decided does
pub decides_no : {P : Type 0} → (P → ⊥) → Decides P false
decides_no f = record { sound = λ e. conflict (cc); complete = λ p. absurd (f p) }

pub decides_yes : {P : Type 0} → P → Decides P true
decides_yes p = record { sound = λ e. p; complete = λ q. refl }

pub decides_same : {P Q : Type 0} {b : Bool} → (P → Q) → (Q → P) → Decides P b → Decides Q b
decides_same f g D = record { sound = λ e. f (D.sound e); complete = λ q. D.complete (g q) }

-- what a test `if !f(..)` says
pub refuted : {P : Type 0} {b : Bool} → Decides P b → not b ≡ true → P → ⊥
refuted {b = b} D e p = let t : b ≡ true = D.complete p in let f : b ≡ false = not-true b e in conflict (cc)

pub held : {P : Type 0} {b : Bool} → Decides P b → not b ≡ false → P
held {b = b} D e = D.sound (not-false b e)
