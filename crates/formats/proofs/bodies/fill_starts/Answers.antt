-- `fill_starts` meets its contract. The invariant: the sum is the offset, the starts so far are noted, and what stands behind them is as it was. Assumes nothing.
use Prim.Native.Nat.{◌+◌, ◌<◌}
use mathlib.Core.Path.{◌≡◌, refl}
use native.Mathlib.Omega.{arith}
use lib.ListN.{length, set, length-set}
use Rattle.formats.specs.Inner.Layout.{offset}
use Rattle.formats.proofs.Offsets.{next_fits, starts_none, starts_more, kept_more}
use Rattle.formats.proofs.bodies.fill_starts.Goals as goal

pub loop-j-init : goal.loop-j-init
unfolding offset
loop-j-init c = (refl, starts_none c.args.counts.now c.args.starts.now (omega arith), λ k h. refl)

pub overflow_add-sum : goal.overflow_add-sum
overflow_add-sum c = omega (arith, next_fits c.args.counts.now c.loop-j.j c.args.bodies c.loop-j-test.true c.requires.0 c.requires.2)

pub overflow_cast-starts : goal.overflow_cast-starts
overflow_cast-starts c = omega (arith, next_fits c.args.counts.now c.loop-j.j c.args.bodies c.loop-j-test.true c.requires.0 c.requires.2)

pub loop-j-preserved : goal.loop-j-preserved
loop-j-preserved c =
    let l = c.loop-j in
    let counts = c.args.counts.now in
    let w = next_fits counts l.j c.args.bodies c.loop-j-test.true c.requires.0 c.requires.2 in
    let v : l.sum + c.count-sum.result ≡ offset counts (l.j + 1) = omega (arith, w) in
    let room : l.j + 1 < length l.starts = omega (arith, length-set c.args.starts.now 0 0) in
    (v, starts_more counts l.starts l.j (l.sum + c.count-sum.result) room v l.invariant.1, kept_more (set c.args.starts.now 0 0) l.starts l.j (l.sum + c.count-sum.result) l.invariant.2)
