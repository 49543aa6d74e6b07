-- `trace_back` meets its contract. The invariant is `WayLoop`. Assumes nothing.
use Prim.Native.Nat.{◌-◌}
use native.Mathlib.Omega.{arith}
use Rattle.witness.proofs.WayBack.{way_next, way_end}
use Rattle.witness.proofs.witness.trace_back.Goals as goal

pub loop-r-preserved : goal.loop-r-preserved
loop-r-preserved c = way_next c.requires.0 c.requires.1 c.loop-r.invariant (c.loop-r.r - 1) (omega (arith, c.loop-r-test.true)) c.from-r.ensures c.step_back-placed.auto.buffer c.step_back-placed.auto.place c.step_back-placed.ensures

pub returns : goal.returns
returns c = way_end c.requires.0 c.requires.1 c.loop-r.invariant (omega (arith, c.loop-r-test.false))
