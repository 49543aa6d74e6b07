-- `sweep` meets its contract. The invariant is `SweepLoop`. Assumes nothing.
use Rattle.prefixes.proofs.Settling.{SweepLoop}
use Rattle.prefixes.proofs.pattern.Patterns.sweep.Given as goal

abbrev pub invariant-loop-q : goal.invariant-loop-q
invariant-loop-q l = SweepLoop l.tables.ins.now l.tables.outs.now l.tables.starts.now l.tables.marks.now l.tables.leaf l.initial.self l.initial.other l.self l.other l.any l.q
