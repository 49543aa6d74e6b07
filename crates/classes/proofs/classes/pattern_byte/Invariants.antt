-- `pattern_byte` meets its contract. The invariant: the marks passed are mixed in. Assumes nothing.
use Rattle.classes.proofs.Patterns.{PatternLoop}
use Rattle.classes.proofs.classes.pattern_byte.Given as goal

abbrev pub invariant-loop-j : goal.invariant-loop-j
invariant-loop-j l = PatternLoop l.marks l.from l.to l.h l.j
