-- `fill_distances` meets its contract. The invariant is `FillLoop`; the states without a distance get fewer. Assumes nothing.
use Rattle.witness.proofs.Distances.{FillLoop, left}
use Rattle.witness.proofs.other.fill_distances.Given as goal

abbrev pub invariant-loop-more : goal.invariant-loop-more
invariant-loop-more l = FillLoop l.ins l.form.starts.now l.form.marks.now l.form.states l.b l.initial.dist l.dist l.more

abbrev pub decreases-loop-more : goal.decreases-loop-more
decreases-loop-more l = left l.dist l.form.states l.more
