-- `copy_mark` meets its contract: a symbol is written as it is, a call by the place of the state that is entered. Assumes nothing.
use native.Mathlib.Omega.{arith}
use Rattle.discovery.proofs.Queues.{copied_symbol, copied_call, child_small}
use Rattle.discovery.proofs.queue.copy_mark.Goals as goal

pub returns-then-x-lt-CALL : goal.returns-then-x-lt-CALL
returns-then-x-lt-CALL g c = copied_symbol c.args.x c.requires.0 c.if-x-lt-CALL.true

pub overflow_cast-out-2 : goal.overflow_cast-out-2
overflow_cast-out-2 g c = omega (arith, child_small c.args.x c.requires.2)

pub returns : goal.returns
returns g c = copied_call c.args.x c.enter.ensures c.if-x-lt-CALL.false
