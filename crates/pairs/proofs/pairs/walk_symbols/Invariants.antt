-- `walk_symbols` meets its contract. The invariant is `PairLoop`. Assumes nothing.
use Rattle.pairs.specs.Inner.Pairs.{sides_of, table}
use Rattle.pairs.proofs.Searching.{PairLoop}
use Rattle.pairs.proofs.pairs.walk_symbols.Given as goal

abbrev pub invariant-loop-a : goal.invariant-loop-a
invariant-loop-a l =
    PairLoop (sides_of l.ins l.left l.right) (table l.initial.classes1 l.initial.classes2 l.initial.pairs l.count) (table l.classes1 l.classes2 l.pairs l.n) l.p l.a
