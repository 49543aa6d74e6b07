-- `refine_more` meets its contract. The invariant is `RefineLoop`; each round but the last makes more classes. Assumes nothing.
use Rattle.merging.proofs.Stable.{refined_stable, next_asks, next_refined, next_less}
use lib.ListN.{length}
use mathlib.Core.Path.{sym, ◌∙◌}
use native.Mathlib.Omega.{arith}
use Rattle.merging.proofs.refining.refine_more.Goals as goal

pub refine_round-base-requires : goal.refine_round-base-requires
refine_round-base-requires c =
    let L = c.loop-moved.invariant in
    let N = c.next_round in
    next_asks L.refined (rw L.long L.calls) N.ensures N.auto.old

pub loop-moved-smaller : goal.loop-moved-smaller
loop-moved-smaller c =
    let L = c.loop-moved.invariant in
    let N = c.next_round in
    let R = c.refine_round-base in
    next_less L.refined (rw L.long L.calls) N.ensures N.auto.old R.ensures (length c.args.old.now) (sym L.long) c.loop-moved-test.true

pub loop-moved-preserved : goal.loop-moved-preserved
loop-moved-preserved c =
    let L = c.loop-moved.invariant in
    let N = c.next_round in
    record {
      calls = L.calls;
      long = N.auto.old ∙ L.long;
      refined = next_refined L.refined (rw L.long L.calls) N.ensures N.auto.old c.refine_round-base.ensures;
    }

pub returns : goal.returns
returns c = rw c.loop-moved.invariant.long at (refined_stable c.loop-moved.invariant.refined (omega arith))
