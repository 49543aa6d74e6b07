-- The earliest form with the states that are met alone, in the order of first meeting (01: trimmed sheet).
use Rattle.std.specs.Prelude.{ℕ, List, length}
use Rattle.theory.specs.Discovered.{Discovered}
use Rattle.theory.specs.EarliestForm.{earliest_form}
use Rattle.theory.specs.Grammar.{Grammar}
use Rattle.theory.specs.Listing.{Indexes, listed}
use Rattle.theory.specs.NormalForm.{Identical}
use Rattle.theory.specs.Pref.{Prefs}
use Rattle.theory.specs.Prefix.{Pattern}
use Rattle.theory.specs.Transducer.{Transducer}

-- N, with the states below k, is the earliest form of M: its states are the ⊤ of the pref(q) that are met, numbered as they are
pub record Trimmed {Q : Type 0} (G : Grammar) (M : Transducer Q) (Valid : Q → Type 0) (N : Transducer ℕ) (k : ℕ) : Type 0 where
  pub prefix : Q → Pattern
  pub prefs : Prefs G M Valid prefix
  pub states : List (Q × List ℕ)
  pub number : Q × List ℕ → ℕ
  pub numbers : Indexes states number
  pub met : Discovered G (earliest_form M prefix) states
  pub form : Identical G N (listed (earliest_form M prefix) states number) k (length states)
