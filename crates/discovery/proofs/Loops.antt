-- What the loops answer that add the bodies of a transducer: how many states have been met, or that the form is over the limits of a file.
-- Assumes nothing.
use Rattle.std.specs.Prelude.{None, Option, Some}
use Prim.Native.Nat.{ℕ}
use mathlib.Core.List.{List}
use mathlib.Core.Path.{◌≡◌, refl}
use Rattle.theory.specs.Transducer.{Transducer}
use Rattle.theory.proofs.Terms.{conflict}
use Rattle.trees.specs.Alphabets.{Leaf}
use Rattle.discovery.specs.Inner.Letters.{spelt}
use Rattle.discovery.specs.Inner.Bodies.{TooLarge, counted, AddsBody}
use Rattle.discovery.specs.Inner.Discovering.{ByNumbers, Empty, Found, Adds, AddsAll, Discovers}
use Rattle.discovery.proofs.Finished.{found_layout, found_packed, found_met}
use Rattle.discovery.proofs.Stages.{found_initial}
use Rattle.discovery.proofs.TooLarge.{initial_over}

-- ---- whether there is an answer
pub none_counted : {A : Type 0} {r : Option A} (n : ℕ) → r ≡ None → counted r n ≡ None
none_counted {r = None} n e = refl
none_counted {r = Some a} n e = conflict (cc)

pub some_counted : {A : Type 0} {r : Option A} {a : A} {n : ℕ} → r ≡ Some a → counted r n ≡ Some n
some_counted {r = None} e = conflict (cc)
some_counted {r = Some a} e = refl

-- ---- the bodies of E
module _ {ins outs : List ℕ} {w : ℕ} {E : Transducer ℕ} {starts out list place : List ℕ} where
  -- those of some states
  pub adds_none : {p : ℕ} → TooLarge ins outs E → Adds ins outs E w p starts out list place None
  adds_none L = record { over = λ e. L; found = λ n e. conflict (cc) }

  pub adds_some : {p n : ℕ} → Found ins E w p starts out list place n → Adds ins outs E w p starts out list place (Some n)
  adds_some {n = n} F = record { over = λ e. conflict (cc); found = λ m e. let z : n ≡ m = cc in rw (← z) F }

  -- of all states
  pub none_all : TooLarge ins outs E → AddsAll ins outs E w starts out list place None
  none_all L = record { over = λ e. L; found = λ n e. conflict (cc) }

  pub adds_all : {n : ℕ} → Found ins E w n starts out list place n → AddsAll ins outs E w starts out list place (Some n)
  adds_all {n} F = record { over = λ e. conflict (cc); found = λ m e. let z : n ≡ m = cc in rw (← z) F }

-- the whole form
pub form_over : {ins outs : List ℕ} {E : Transducer ℕ} {starts out : List ℕ} → TooLarge ins outs E → Discovers ins outs E starts out None
form_over L = record { over = λ e. L; layout = λ n e. conflict (cc); packed = λ n e. conflict (cc); met = λ n e. conflict (cc) }

module _ {ins outs : List ℕ} {w : ℕ} {E : Transducer ℕ} {Valid : ℕ → Type 0} (X : ByNumbers ins outs w E Valid) (l : Leaf ins) where
  pub form_discovered : {starts out list place : List ℕ} {r : Option ℕ} → AddsAll ins outs E w starts out list place r → Discovers ins outs E starts out r
  form_discovered A = record {
    over = A.over;
    layout = λ n e. found_layout X l (A.found n e);
    packed = λ n e. found_packed X l (A.found n e);
    met = λ n e. found_met X l (A.found n e);
  }

  -- the initial term was added, or is over the limits
  pub adds_initial : {starts out list place starts' out' list' place' s : List ℕ} {r : Option ℕ} → Empty w starts out list place → AddsBody s 0 starts out list place 0 starts' out' list' place' r → s ≡ spelt E.initial → Adds ins outs E w 0 starts' out' list' place' r
  adds_initial M A e = record {
    over = λ z. initial_over X M e (A.over z);
    found = λ n z. found_initial X l M (rw z at A) e;
  }
