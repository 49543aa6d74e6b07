-- `cut_state` meets its contract: ⊤ stays, and for any other pattern the invariant is `StateLoop`. Assumes nothing.
use Rattle.prefixes.proofs.Settling.{StateLoop}
use Rattle.prefixes.proofs.pattern.Patterns.cut_state.Given as goal

abbrev pub invariant-loop-a : goal.invariant-loop-a
invariant-loop-a l = StateLoop l.tables.ins.now l.tables.outs.now l.tables.starts.now l.tables.marks.now l.tables.leaf l.q l.initial.self l.initial.other l.self l.other l.any l.a
