-- `sweep` meets its contract. The invariant is `SweepLoop`. Assumes nothing.
use native.Mathlib.Omega.{arith}
use Rattle.prefixes.proofs.Settling.{sweep_start, sweep_next}
use Rattle.prefixes.proofs.pattern.Patterns.sweep.Goals as goal

pub loop-q-init : goal.loop-q-init
loop-q-init c = sweep_start c.args.tables.now.leaf c.requires.table

pub loop-q-preserved : goal.loop-q-preserved
loop-q-preserved c = let k = c.cut_state-any in sweep_next c.requires c.loop-q.invariant (omega arith) k.ensures.cut k.ensures.same k.auto.other
