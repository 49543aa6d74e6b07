-- `walk_pairs` meets its contract. The invariant is `AllLoop`; there are at most 255 pairs. Assumes nothing.
use native.Mathlib.Omega.{arith}
use Rattle.pairs.proofs.Searching.{all_next, all_end}
use Rattle.pairs.proofs.pairs.walk_pairs.Goals as goal

pub loop-p-preserved : goal.loop-p-preserved
loop-p-preserved c = all_next c.loop-p.invariant c.loop-p-test.true c.walk_symbols.ensures _ c.in_ok-n.was

pub returns : goal.returns
returns c = all_end c.loop-p.invariant (omega arith)
