-- `note_depths` meets its contract. The loop's invariant: writing the depths that are left from here on ends as writing all from the start. Assumes nothing.
use Prim.Native.Nat.{◌+◌, ◌≤◌}
use mathlib.Core.List.{[]}
use mathlib.Core.Path.{◌≡◌}
use lib.ListN.{length}
use lib.Seq.{slice}
use Rattle.formats.specs.Inner.Layout.{pairs}
use Rattle.formats.proofs.Writing.{Writing}
use Rattle.transducer.specs.Inner.Depth.{depths_of, stack}
use Rattle.transducer.proofs.depth.note_depths.Given as goal

abbrev pub invariant-loop-j : goal.invariant-loop-j
invariant-loop-j l = (l.from + l.d ≤ l.j) × (length l.owed ≡ 64) × Writing (depths_of l.outs [] (slice l.from l.to (pairs l.marks))) l.from l.initial.depths (depths_of l.outs (stack l.owed l.d) (slice l.j l.to (pairs l.marks))) l.j l.depths
