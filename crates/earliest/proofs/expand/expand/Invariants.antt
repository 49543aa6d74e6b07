-- `expand` meets its contract. The invariant: writing what the marks from j on give ends as writing all of it from the start. Assumes nothing.
use Rattle.formats.proofs.Writing.{Writing}
use Rattle.earliest.specs.Inner.Letters.{expanded}
use Rattle.earliest.proofs.expand.expand.Given as goal

abbrev pub invariant-loop-j : goal.invariant-loop-j
invariant-loop-j l = Writing (expanded l.heads l.sizes l.marks l.from l.to) 0 l.initial.out (expanded l.heads l.sizes l.marks l.j l.to) l.w l.out
