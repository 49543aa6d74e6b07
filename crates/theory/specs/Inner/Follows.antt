-- A transducer that agrees with what was listed so far of another.
use Rattle.std.specs.Prelude.{ℕ, ◌≤◌, ◌≡◌, List, length}
use Rattle.std.proofs.Math.Option.{some}
use Rattle.std.proofs.Math.ListN.{get_elem?}
use Rattle.theory.specs.Grammar.{Grammar}
use Rattle.theory.specs.Transducer.{Transducer, renamed}

-- N goes on from what is listed: its states below the length of L have the right-hand sides of those of L, renamed
pub record Follows (G : Grammar) (E : Transducer ℕ) (L : List ℕ) (N : Transducer ℕ) (k : ℕ) : Type 0 where
  pub name : ℕ → ℕ
  pub few : length L ≤ k
  pub initial : N.initial ≡ renamed name E.initial
  pub rhs : (j c b : ℕ) (sorts : List ℕ) → get_elem? L j ≡ some c → G.children (E.sort c) b ≡ some sorts → N.rhs j b ≡ renamed name (E.rhs c b)
