-- `Placing::find_placed` meets its contract. The invariant: no state passed is placed and of the class. Assumes nothing.
use Rattle.merging.specs.Inner.Refining.{NonePlacedIn}
use Rattle.merging.proofs.refining.Placing.find_placed.Given as goal

abbrev pub invariant-loop-q : goal.invariant-loop-q
invariant-loop-q l = NonePlacedIn l.classes l.self.pending l.c l.from l.q
