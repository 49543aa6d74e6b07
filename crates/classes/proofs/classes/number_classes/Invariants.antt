-- `number_classes` meets its contract. The invariant is `NumberLoop`. Assumes nothing.
use Rattle.classes.proofs.Numbering.{NumberLoop}
use Rattle.classes.proofs.classes.number_classes.Given as goal

abbrev pub invariant-loop-p : goal.invariant-loop-p
invariant-loop-p l = NumberLoop l.old l.initial.new l.initial.least l.new l.least l.numbers l.count l.p
