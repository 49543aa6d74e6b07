-- `apply` and `walk` meet their contracts. What falls from call to call: the marks of the first transducer's body from here on, 65 times, and the marks of the second's that are left. The loop's invariant: writing what is left from here ends as writing all from the start. Assumes nothing.
use Prim.Native.Nat.{◌+◌, ◌-◌, ◌*◌}
use Rattle.runs.specs.Inner.Tables.{walked_by}
use Rattle.runs.proofs.Lettering.{Lettering}
use Rattle.runs.proofs.walk.Tables.+apply_walk.Given as goal

abbrev pub decreases-apply : goal.decreases-apply
decreases-apply l = 65 * (64 - l.k)

abbrev pub decreases-walk : goal.decreases-walk
decreases-walk l = 65 * (64 - l.below) + (l.to - l.from)

abbrev pub invariant-walk-loop-j : goal.invariant-walk-loop-j
invariant-walk-loop-j l = Lettering (walked_by l.self l.below l.from l.to) l.at l.initial.letters (walked_by l.self l.below l.j l.to) l.end l.letters
