-- `measure_marks` meets its contract. The loop's invariant is `Measuring`; with each call the levels left fall. Assumes nothing.
use Prim.Native.Nat.{◌-◌}
use lib.ListN.{take}
use Rattle.trees.proofs.Extents.{Measuring}
use Rattle.formats.specs.Inner.Layout.{mark_of, pairs}
use Rattle.formats.proofs.bodies.+measure_marks.Given as goal

abbrev pub decreases-measure_marks : goal.decreases-measure_marks
decreases-measure_marks l = l.room

abbrev pub invariant-loop : goal.invariant-loop
invariant-loop l = Measuring (mark_of l.outs l.n l.r) (take l.to (pairs l.marks)) l.at l.room (l.end - l.counter) l.end-2 l.levels
