-- `fill_ends` meets its contract. The loop's invariant: the ends from position k on are noted. Assumes nothing.
use Rattle.transducer.proofs.Subtrees.{NotedFrom}
use Rattle.transducer.proofs.children.fill_ends.Given as goal

abbrev pub invariant-loop-k : goal.invariant-loop-k
invariant-loop-k l = NotedFrom l.ins l.s l.ends l.k
