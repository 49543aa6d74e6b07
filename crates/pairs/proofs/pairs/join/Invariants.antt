-- `join` meets its contract. The invariant is `JoinLoop`. Assumes nothing.
use Rattle.pairs.proofs.Joining.{JoinLoop}
use Rattle.pairs.proofs.pairs.join.Given as goal

abbrev pub invariant-loop-class : goal.invariant-loop-class
invariant-loop-class l = JoinLoop l.initial.classes l.classes l.c l.d l.class-index
