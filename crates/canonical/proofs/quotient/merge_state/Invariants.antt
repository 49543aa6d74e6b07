-- `merge_state` meets its contract. The invariant is `StateLoop`. Assumes nothing.
use Rattle.canonical.proofs.Quotients.{StateLoop}
use Rattle.canonical.proofs.quotient.merge_state.Given as goal

abbrev pub invariant-loop-a : goal.invariant-loop-a
invariant-loop-a l = StateLoop l.ins l.starts l.marks l.classes l.least l.k l.initial.starts2 l.initial.out l.starts2 l.out l.a
