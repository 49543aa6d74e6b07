-- What is said of the tables that a right-hand side is written by, as one value.
use Rattle.std.specs.Prelude.{ℕ, List}
use Rattle.runs.specs.declared.walk.Tables.{Tables}
use Rattle.runs.specs.Inner.Walked.{Ready, Walkable, applied, walked}

-- what state p writes on the term at mark number k, and what marks write, over the terms from mark number `below` on
abbrev pub applied_by : Tables → ℕ → ℕ → List ℕ
applied_by t p k = applied t.stock.now t.starts.now t.marks.now t.s.now p k

abbrev pub walked_by : Tables → ℕ → ℕ → ℕ → List ℕ
walked_by t below from to = walked t.stock.now t.starts.now t.marks.now t.s.now below from to

-- that can be done
abbrev pub CanApply : Tables → ℕ → ℕ → Type 0
CanApply t p k = Ready t.stock.now t.starts.now t.marks.now t.s.now t.ends.now p k

abbrev pub CanWalk : Tables → ℕ → ℕ → ℕ → Type 0
CanWalk t from to below = Walkable t.stock.now t.starts.now t.marks.now t.s.now t.ends.now from to below
