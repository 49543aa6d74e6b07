-- The invariant of `find`: no body before is these bytes. Assumes nothing.
use Rattle.std.proofs.Common.{◌≡◌, ℕ, ◌≤◌, ◌<◌}
use Rattle.records.specs.Book.{body}
use Rattle.registry.proofs.lent.find.Given as goal

abbrev pub invariant-loop-number : goal.invariant-loop-number
invariant-loop-number l = (m : ℕ) → 1 ≤ m → m < l.number → body l.records l.area m ≡ l.bytes → ⊥
