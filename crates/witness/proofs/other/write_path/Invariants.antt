-- `write_path` meets its contract. The invariant is `PathLoop`. Assumes nothing.
use Rattle.witness.proofs.Decreasing.{PathLoop}
use Rattle.witness.proofs.other.write_path.Given as goal

abbrev pub invariant-loop-k : goal.invariant-loop-k
invariant-loop-k l = PathLoop l.ins l.form.starts.now l.form.marks.now l.dist l.q l.b l.initial.steps l.steps l.count l.p l.k
