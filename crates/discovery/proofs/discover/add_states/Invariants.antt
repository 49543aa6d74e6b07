-- `add_states` meets its contract. The invariant: the right-hand sides of the first p states were added. Assumes nothing.
use Prim.Native.Nat.{◌-◌}
use mathlib.Core.Path.{◌≡◌}
use lib.ListN.{length}
use Rattle.discovery.specs.Inner.Discovering.{Found}
use Rattle.discovery.proofs.discover.add_states.Given as goal

abbrev pub invariant-loop-p : goal.invariant-loop-p
invariant-loop-p g l = record {
  starts : length l.starts ≡ length l.initial.starts;
  found : Found (g.S.Spelled.ins l.source) (g.S.Spelled.transducer l.source) g.row.W l.p l.starts l.out l.queue.list l.queue.place l.queue.met;
}

abbrev pub decreases-loop-p : goal.decreases-loop-p
decreases-loop-p g l = 128 - l.p
