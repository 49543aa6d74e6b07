-- `pattern_classes` meets its contract. The invariant is `BytesLoop`. Assumes nothing.
use Rattle.classes.proofs.Patterns.{BytesLoop}
use Rattle.classes.proofs.classes.pattern_classes.Given as goal

abbrev pub invariant-loop-p : goal.invariant-loop-p
invariant-loop-p l = BytesLoop l.ins l.starts l.marks l.initial.classes l.classes l.p
