-- `add_state` meets its contract. The invariant: the right-hand sides of the state for the symbols below a were added. Assumes nothing.
use mathlib.Core.Path.{◌≡◌}
use lib.ListN.{length}
use Rattle.discovery.specs.Inner.Queue.{met_of}
use Rattle.discovery.proofs.Stages.{Stage}
use Rattle.discovery.proofs.discover.add_state.Given as goal

abbrev pub invariant-loop-a : goal.invariant-loop-a
invariant-loop-a g l = record {
  starts : length l.starts ≡ length l.initial.starts;
  stage : Stage (g.S.Spelled.ins l.source) (g.S.Spelled.transducer l.source) g.row.W l.p l.c l.a (met_of l.initial.queue.list l.initial.queue.met) l.starts l.out l.queue.list l.queue.place l.queue.met;
}
