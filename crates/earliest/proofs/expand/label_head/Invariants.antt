-- `label_head` meets its contract. The invariant: writing the letters of the bytes from m on ends as writing all of them from the start. Assumes nothing.
use Prim.Native.Nat.{◌+◌}
use lib.ListN.{drop}
use Rattle.formats.proofs.Writing.{Writing}
use Rattle.earliest.specs.Inner.Letters.{labeled}
use Rattle.earliest.proofs.expand.label_head.Given as goal

abbrev pub invariant-loop-m : goal.invariant-loop-m
invariant-loop-m l = Writing (labeled l.base l.head) l.at l.initial.out (labeled (l.base + l.m) (drop l.m l.head)) (l.at + l.m) l.out
