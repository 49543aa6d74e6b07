-- `fill_distances` meets its contract. The invariant is `FillLoop`; the states without a distance get fewer. Assumes nothing.
use Rattle.witness.proofs.Distances.{fill_next, fill_less, fill_end}
use Rattle.witness.proofs.other.fill_distances.Goals as goal

pub loop-more-smaller : goal.loop-more-smaller
loop-more-smaller c = fill_less c.requires c.loop-more.invariant c.sweep_distances-more.ensures c.loop-more-test.true

pub loop-more-preserved : goal.loop-more-preserved
loop-more-preserved c = fill_next c.requires c.loop-more.invariant c.sweep_distances-more.ensures c.sweep_distances-more.auto.dist

pub returns : goal.returns
returns c = fill_end c.requires c.loop-more.invariant c.loop-more-test.false
