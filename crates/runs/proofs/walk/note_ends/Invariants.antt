-- `note_ends` meets its contract. The loop's invariant: the ends from mark number k on are noted. Assumes nothing.
use Rattle.trees.specs.Alphabets.{inputs}
use Rattle.runs.proofs.Marks.{NotedFrom}
use Rattle.runs.proofs.walk.note_ends.Given as goal

abbrev pub invariant-loop-k : goal.invariant-loop-k
invariant-loop-k l = NotedFrom (inputs l.stock) l.s l.ends l.k
