-- The accessible part of a transducer: the states that are met alone, in the order of first meeting.
use Rattle.std.specs.Prelude.{ℕ, List, length}
use Rattle.theory.specs.Discovered.{Discovered}
use Rattle.theory.specs.Grammar.{Grammar}
use Rattle.theory.specs.Listing.{Indexes, listed}
use Rattle.theory.specs.NormalForm.{Identical}
use Rattle.theory.specs.Transducer.{Transducer, renamed}

-- N, with the states below k, is the accessible part of M: its states are those of M that are met, numbered as they are
pub record Accessible {Q : Type 0} (G : Grammar) (M : Transducer Q) (N : Transducer ℕ) (k : ℕ) : Type 0 where
  pub states : List Q
  pub number : Q → ℕ
  pub numbers : Indexes states number
  pub met : Discovered G M states
  pub form : Identical G N (listed M states number) k (length states)

-- M with a number for each state, code q, and the state name c for each number c
unfoldable pub coded : {Q : Type 0} → Transducer Q → (Q → ℕ) → (ℕ → Q) → Transducer ℕ
coded M code name = record {
  sort = λ c. M.sort (name c);
  initial = renamed code M.initial;
  rhs = λ c a. renamed code (M.rhs (name c) a);
}
