-- `skip_marks` meets its contract. Assumes nothing.
use Prim.Native.Nat.{◌<◌, ◌-◌}
use mathlib.Core.Path.{◌≡◌}
use Rattle.theory.specs.Term.{count}
use Rattle.trees.specs.Inner.Decode.{forest, rests}
use Rattle.formats.specs.Inner.Layout.{mark_of}
use Rattle.formats.specs.Inner.Marked.{part}
use Rattle.queries.proofs.address.skip_marks.Given as goal

abbrev pub invariant-loop : goal.invariant-loop
invariant-loop l = (l.c - l.counter < count (forest (mark_of l.outs l.n l.r) (part l.marks l.p l.to))) × (rests (l.c - l.counter) (forest (mark_of l.outs l.n l.r) (part l.marks l.p l.to)) ≡ rests l.c (forest (mark_of l.outs l.n l.r) (part l.marks l.at l.to)))
