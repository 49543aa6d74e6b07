-- `find_distance` meets its contract. The invariant: no right-hand side for a symbol before a has a distance. Assumes nothing.
use Rattle.witness.proofs.Distances.{Passed}
use Rattle.witness.proofs.other.find_distance.Given as goal

abbrev pub invariant-loop-a : goal.invariant-loop-a
invariant-loop-a l = Passed l.ins l.form.starts.now l.form.marks.now l.dist l.q l.b l.a
