-- `Placing::all_pending` meets its contract. The invariant is `AllLoop`. Assumes nothing.
use Rattle.merging.proofs.Worklist.{no_standing, all_end}
use mathlib.Core.Path.{refl}
use native.Mathlib.Omega.{arith}
use Rattle.merging.proofs.refining.Placing.all_pending.Goals as goal

pub returns : goal.returns
returns c = (all_end c.loop-q.invariant refl (no_standing 128) c.requires c.loop-q-test.false, omega (arith, c.loop-q.invariant.counted, c.loop-q-test.false))
