-- `collect` meets its contract. The invariant: the symbols of the tags passed stand in the table. Assumes nothing.
use Rattle.xml.proofs.Collecting.{Collected}
use Rattle.xml.proofs.read.collect.Given as goal

abbrev pub invariant-loop-i : goal.invariant-loop-i
invariant-loop-i l = Collected l.text l.table l.n l.i
