-- `write_separated` meets its contract: the first number, and the others with a byte in front. Assumes nothing.
use Rattle.report.proofs.Pieces.{Separating}
use Rattle.report.proofs.text.write_separated.Given as goal

abbrev pub invariant-loop-item : goal.invariant-loop-item
invariant-loop-item l = Separating l.s l.items l.initial.text l.initial.to l.item-index l.to l.text
