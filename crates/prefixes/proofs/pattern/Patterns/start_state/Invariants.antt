-- `start_state` meets its contract. The invariant: writing the names of the marks from j on ends as writing all of them from the start. Assumes nothing.
use Prim.Native.Nat.{◌*◌, ◌≤◌}
use Rattle.formats.proofs.Writing.{Writing}
use mathlib.Core.Path.{◌≡◌}
use Rattle.prefixes.specs.Inner.Heads.{Stays, names}
use Rattle.prefixes.proofs.pattern.Patterns.start_state.Given as goal

abbrev pub invariant-loop-j : goal.invariant-loop-j
invariant-loop-j l = (l.j ≤ l.body.to) × Writing (names l.tables.marks.now l.body.from l.body.to) (64 * l.q) l.initial.self.heads.now (names l.tables.marks.now l.j l.body.to) l.w l.self.heads.now × (l.self.sizes.now ≡ l.initial.self.sizes.now) × Stays l.initial.self l.self
