-- `close` meets its contract. The loop's invariant: nothing is changed so far, and what is left to close has the same end. Assumes nothing.
use mathlib.Core.Path.{◌≡◌}
use Rattle.transducer.specs.Inner.Depth.{closed, stack}
use Rattle.transducer.proofs.depth.close.Given as goal

abbrev pub invariant-loop-k : goal.invariant-loop-k
invariant-loop-k l = (l.owed ≡ l.initial.owed) × (closed (stack l.initial.owed l.d) ≡ closed (stack l.owed l.k))
