-- `walk_pairs` meets its contract. The invariant is `AllLoop`; there are at most 255 pairs. Assumes nothing.
use Prim.Native.Nat.{◌-◌}
use Rattle.pairs.specs.Inner.Pairs.{sides_of, table}
use Rattle.pairs.proofs.Searching.{AllLoop}
use Rattle.pairs.proofs.pairs.walk_pairs.Given as goal

abbrev pub invariant-loop-p : goal.invariant-loop-p
invariant-loop-p l =
    AllLoop (sides_of l.ins l.left l.right) (table l.initial.classes1 l.initial.classes2 l.initial.pairs l.count) (table l.classes1 l.classes2 l.pairs l.n) l.p

abbrev pub decreases-loop-p : goal.decreases-loop-p
decreases-loop-p l = 256 - l.p
