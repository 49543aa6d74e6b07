-- `tree_end` meets its contract. Assumes nothing.
use Prim.Native.Nat.{◌-◌}
use lib.ListN.{length}
use Rattle.prefixes.proofs.Ends.{Owing}
use Rattle.prefixes.proofs.pattern.tree_end.Given as goal

abbrev pub invariant-loop-owed : goal.invariant-loop-owed
invariant-loop-owed g l = Owing l.outs g.L.Letter.number l.s l.at l.owed l.p

abbrev pub decreases-loop-owed : goal.decreases-loop-owed
decreases-loop-owed g l = length l.s - l.p
