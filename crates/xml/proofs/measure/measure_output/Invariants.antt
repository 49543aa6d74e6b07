-- `measure_output` meets its contract. The invariant: the symbols behind those still to be read are `behind` trees, whose levels the table has. Assumes nothing.
use Rattle.xml.proofs.Standing.{OutputStanding}
use Rattle.xml.proofs.measure.measure_output.Given as goal

abbrev pub invariant-loop-symbol : goal.invariant-loop-symbol
invariant-loop-symbol l = OutputStanding l.ranks l.s l.levels l.symbol-iterator.iter.rest.now l.behind
