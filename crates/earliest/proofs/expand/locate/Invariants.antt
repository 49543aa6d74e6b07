-- `locate` meets its contract. The invariant: letter i of the prefix stands for the tree at position p. Assumes nothing.
use Rattle.earliest.proofs.Locating.{Locating}
use Rattle.earliest.proofs.expand.locate.Given as goal

abbrev pub invariant-loop-x : goal.invariant-loop-x
invariant-loop-x l = Locating l.outs l.head l.s l.m l.x-index l.p
