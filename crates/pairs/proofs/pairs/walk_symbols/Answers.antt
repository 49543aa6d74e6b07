-- `walk_symbols` meets its contract. The invariant is `PairLoop`. Assumes nothing.
use native.Mathlib.Omega.{arith}
use Rattle.pairs.proofs.Searching.{pair_walkable, pair_next, pair_end}
use Rattle.pairs.proofs.pairs.walk_symbols.Goals as goal

pub walk_pair-requires : goal.walk_pair-requires
walk_pair-requires c = pair_walkable c.loop-a.invariant c.requires.1 c.loop-a-test.true c.from-x.ensures c.from-y.ensures

pub loop-a-preserved : goal.loop-a-preserved
loop-a-preserved c = pair_next c.loop-a.invariant c.requires.1 c.from-x.ensures c.from-y.ensures c.loop-a-test.true c.walk_pair.ensures _ c.in_ok-n.was

pub returns : goal.returns
returns c = pair_end c.loop-a.invariant (omega arith)
