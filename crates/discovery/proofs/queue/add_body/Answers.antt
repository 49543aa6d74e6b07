-- `add_body` meets its contract: the letters are copied and the body ends behind them, or one of three counts is over. Assumes nothing.
use mathlib.Core.Logic.{inr}
use native.Mathlib.Omega.{arith}
use Rattle.discovery.proofs.Queues.{adds_over, over_states}
use Rattle.discovery.proofs.queue.add_body.Goals as goal

pub returns-then-queue-gt128 : goal.returns-then-queue-gt128
returns-then-queue-gt128 g c = adds_over (inr (inr (over_states c.copy_marks.ensures (omega (arith, c.if-queue-gt128.true)))))
