-- `text_size` meets its contract. The invariant: the tags of the symbols passed have this size. Assumes nothing.
use Rattle.xml.proofs.Lengths.{Added}
use Rattle.xml.proofs.write.text_size.Given as goal

abbrev pub invariant-loop-symbol : goal.invariant-loop-symbol
invariant-loop-symbol l = Added l.ranks l.s l.size l.symbol-index
