-- `fill_ends` meets its contract. The loop's invariant: the ends from position k on are noted. Assumes nothing.
use native.Mathlib.Omega.{arith}
use mathlib.Core.Path.{◌≡◌}
use Rattle.transducer.proofs.Subtrees.{all_noted, symbol_known, child_inside, end_fits, one_noted}
use Rattle.transducer.proofs.children.fill_ends.Goals as goal

pub bounds-ins-from : goal.bounds-ins-from
bounds-ins-from c = symbol_known c.loop-k.invariant c.loop-k-test.true c.from.ensures

pub skip-requires : goal.skip-requires
skip-requires c = child_inside c.loop-k.invariant c.loop-k-test.true c.from.ensures c.from-rank.ensures

pub overflow_cast-ends : goal.overflow_cast-ends
overflow_cast-ends c = let l = c.loop-k in omega (arith, end_fits l.invariant c.loop-k-test.true c.from.ensures c.from-rank.ensures c.skip.ensures)

pub loop-k-preserved : goal.loop-k-preserved
loop-k-preserved c =
    let l = c.loop-k in
    one_noted l.invariant c.loop-k-test.true c.from.ensures c.from-rank.ensures c.skip.ensures

pub returns : goal.returns
returns c = let z : c.loop-k.k ≡ 0 = omega (arith, c.loop-k-test.false) in all_noted (rw z at c.loop-k.invariant)
