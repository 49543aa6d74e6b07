-- `follow` meets its contract. The invariant: the symbol sought stands at the rest of the address in what the term at mark j gives over the trees from below on.
-- Assumes nothing.
use Prim.Native.Nat.{◌+◌, ◌-◌}
use lib.ListN.{length}
use Rattle.queries.proofs.Following.{Following}
use Rattle.queries.proofs.address.follow.Given as goal

abbrev pub invariant-loop-j : goal.invariant-loop-j
invariant-loop-j l = Following l.ins l.outs l.n l.starts l.marks l.s l.v l.j l.to l.r l.below l.k

abbrev pub decreases-loop-j : goal.decreases-loop-j
decreases-loop-j l = (length l.v - l.k) + (length l.s - l.below)
