-- Codes of normal forms.
use Rattle.std.specs.Prelude.{ℕ}
use Rattle.theory.specs.Grammar.{Grammar}
use Rattle.theory.specs.NormalForm.{NormalForm}
use Rattle.theory.specs.Transducer.{Transducer}

-- item x codes the normal form of M; Codes says what codes which transducer
pub record CodesForm {Q I : Type 0} (G : Grammar) (M : Transducer Q) (Codes : I → Transducer ℕ → ℕ → Type 0) (x : I) : Type 0 where
  pub form : Transducer ℕ
  pub states : ℕ
  pub normal : NormalForm G M form states
  pub codes : Codes x form states
