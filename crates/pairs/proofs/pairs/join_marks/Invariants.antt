-- `join_marks` meets its contract. The invariant: what the contract says, of the marks passed. Assumes nothing.
use Rattle.pairs.specs.Inner.Pairs.{table, JoinsMarks}
use Rattle.pairs.proofs.pairs.join_marks.Given as goal

abbrev pub invariant-loop-k : goal.invariant-loop-k
invariant-loop-k l =
    JoinsMarks (table l.initial.classes1 l.initial.classes2 l.initial.pairs l.count) (table l.classes1 l.classes2 l.pairs l.r) l.marks1 l.marks2 l.i l.j l.k l.parent l.a
