-- `step_up` meets its contract. Assumes nothing.
use native.Mathlib.Omega.{arith}
use Rattle.witness.proofs.WayBack.{up_none, up_step}
use Rattle.witness.proofs.witness.step_up.Goals as goal

pub returns-then-q-gt0 : goal.returns-then-q-gt0
returns-then-q-gt0 c = up_step c.args.q c.if-q-gt0.true c.add_step.ensures

pub returns : goal.returns
returns c = up_none c.args.q (omega (arith, c.if-q-gt0.false)) c.requires
