-- `skip` meets its contract. The invariant: what is left to skip from here ends as all from the start, and no step leaves the table. Assumes nothing.
use Prim.Native.Nat.{◌+◌, ◌-◌}
use mathlib.Core.Path.{◌≡◌, sym, ap, ◌∙◌}
use native.Mathlib.Omega.{arith}
use Rattle.transducer.specs.Inner.Written.{hop}
use Rattle.transducer.proofs.Walks.{hop_next, hop_more}
use Rattle.transducer.proofs.children.skip.Goals as goal

pub offset_bounds-ends-p : goal.offset_bounds-ends-p
unfolding hop
offset_bounds-ends-p c = omega (arith, c.loop.invariant.1 0 (omega (arith, c.loop-test.true)), c.well_formed)

pub bounds-ends-p : goal.bounds-ends-p
unfolding hop
bounds-ends-p c = c.loop.invariant.1 0 (omega (arith, c.loop-test.true))

pub loop-preserved : goal.loop-preserved
loop-preserved c =
    let l = c.loop in
    let ends = c.args.ends.now in
    let left = c.args.n - l.counter in
    let z : c.args.n - (l.counter + 1) ≡ left - 1 = omega arith in
    let e = c.from-p.ensures in
    rw z (l.invariant.0 ∙ hop_next ends left l.p (omega (arith, c.loop-test.true)) ∙ ap (hop ends (left - 1)) (sym e), λ k h. rw e (hop_more ends left k l.p h l.invariant.1))

pub returns : goal.returns
unfolding hop
returns c =
    let l = c.loop in
    let z : c.args.n - l.counter ≡ 0 = omega arith in
    sym (l.invariant.0 ∙ ap (λ n. hop c.args.ends.now n l.p) z)
