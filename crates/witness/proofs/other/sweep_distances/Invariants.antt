-- `sweep_distances` meets its contract. The invariant is `SweepLoop`. Assumes nothing.
use Rattle.witness.proofs.Distances.{SweepLoop}
use Rattle.witness.proofs.other.sweep_distances.Given as goal

abbrev pub invariant-loop-q : goal.invariant-loop-q
invariant-loop-q l = SweepLoop l.ins l.form.starts.now l.form.marks.now l.form.states l.b l.initial.dist l.dist l.any l.q
