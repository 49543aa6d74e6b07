-- `apply` and `walk` meet their contracts. What falls from call to call is levels left times marks. The loop's invariant: writing what is left from here ends as writing all from the start, if there is room, what is noted to stand stands, and the levels seen so far and those of what is left are those of all. Assumes nothing.
use Prim.Native.Nat.{◌-◌}
use Rattle.transducer.specs.Inner.Written.{levels_times_marks}
use Rattle.transducer.specs.Inner.Tables.{walked_by, walked_levels_by, Stands}
use Rattle.transducer.proofs.Filling.{Filling, Deepening}
use Rattle.transducer.proofs.translate.Tables.+apply_walk.Given as goal

abbrev pub decreases-apply : goal.decreases-apply
decreases-apply l = levels_times_marks l.left 0

abbrev pub decreases-walk : goal.decreases-walk
decreases-walk l = levels_times_marks l.left (l.to - l.from)

abbrev pub invariant-walk-loop-j : goal.invariant-walk-loop-j
invariant-walk-loop-j l = Filling (walked_by l.self l.below l.from l.to) l.at l.limit l.initial.out (walked_by l.self l.below l.j l.to) l.end l.out × Deepening (walked_levels_by l.self l.below l.from l.to) (walked_levels_by l.self l.below l.j l.to) l.levels × Stands l.self l.notes l.out l.end
