-- `Queue::enter` meets its contract: a state that has a place stands there, and another gets the next. Assumes nothing.
use native.Mathlib.Omega.{arith}
use Rattle.discovery.proofs.Queues.{enter_old, enter_new}
use Rattle.discovery.proofs.queue.Queue.enter.Goals as goal

pub returns-then-self-c-gt0 : goal.returns-then-self-c-gt0
returns-then-self-c-gt0 g c = enter_old c.requires.0 c.args.c (omega (arith, c.if-self-c-gt0.true))

pub returns : goal.returns
returns g c = enter_new c.requires.0 c.args.c c.requires.1 c.requires.2 (omega (arith, c.if-self-c-gt0.false))
