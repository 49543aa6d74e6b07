-- `sweep_distances` meets its contract. The invariant is `SweepLoop`. Assumes nothing.
use Rattle.witness.proofs.Distances.{sweep_settable, sweep_set, sweep_kept, sweep_end}
use Rattle.witness.proofs.other.sweep_distances.Goals as goal
use Rattle.witness.proofs.other.sweep_distances.Goals.{then-set_distance, else-set_distance}

pub set_distance-requires : goal.set_distance-requires
set_distance-requires c = sweep_settable c.requires c.loop-q.invariant c.loop-q-test.true

pub loop-q-preserved : goal.loop-q-preserved
loop-q-preserved c =
    let k = c.set_distance in
    elim c.if-set_distance.branch [
      | then-set_distance w ↦ sweep_set c.requires c.loop-q.invariant c.loop-q-test.true k.ensures k.auto.dist w.if-set_distance.true w.any-is
      | else-set_distance w ↦ sweep_kept c.requires c.loop-q.invariant c.loop-q-test.true k.ensures k.auto.dist w.if-set_distance.false w.any-is
    ]

pub returns : goal.returns
returns c = sweep_end c.requires c.loop-q.invariant c.loop-q-test.false
