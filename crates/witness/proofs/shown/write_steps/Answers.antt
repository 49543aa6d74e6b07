-- `write_steps` meets its contract. The invariant: the steps from number k on stand in the buffer. Assumes nothing.
use native.Mathlib.Omega.{arith}
use mathlib.Core.Path.{refl}
use Rattle.witness.proofs.Wrapping.{steps_loop_start, steps_loop_asks, steps_loop_next, steps_loop_done}
use Rattle.witness.proofs.shown.write_steps.Goals as goal

pub loop-k-init : goal.loop-k-init
loop-k-init c = steps_loop_start c.requires refl

pub add_step-span-requires : goal.add_step-span-requires
add_step-span-requires c = steps_loop_asks c.requires c.loop-k.invariant c.loop-k-test.true c.from-a.ensures c.from-i.ensures

pub loop-k-preserved : goal.loop-k-preserved
loop-k-preserved c = steps_loop_next c.requires c.loop-k.invariant c.loop-k-test.true c.from-a.ensures c.from-i.ensures c.add_step-span.auto.buffer c.add_step-span.ensures

pub returns : goal.returns
returns c = steps_loop_done c.requires c.loop-k.invariant (omega (arith, c.loop-k-test.false))
