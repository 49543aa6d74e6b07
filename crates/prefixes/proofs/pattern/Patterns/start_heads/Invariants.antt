-- `start_heads` meets its contract. The invariant is `StartLoop`. Assumes nothing.
use Rattle.prefixes.proofs.Starting.{StartLoop}
use Rattle.prefixes.proofs.pattern.Patterns.start_heads.Given as goal

abbrev pub invariant-loop-q : goal.invariant-loop-q
invariant-loop-q l = StartLoop l.tables.ins.now l.tables.starts.now l.tables.marks.now l.tables.leaf l.initial.self l.self l.q
