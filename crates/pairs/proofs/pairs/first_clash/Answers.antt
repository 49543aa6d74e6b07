-- `first_clash` meets its contract. The invariant: the marks passed go in step. Assumes nothing.
use Prim.Native.Nat.{◌+◌}
use native.Mathlib.Omega.{arith}
use mathlib.Core.Path.{◌≡◌}
use borrow.Author.Count.{below_more}
use Rattle.pairs.specs.Inner.Pairs.{InStep}
use Rattle.pairs.proofs.Stepping.{clash_first, clash_second, clashes_at, no_clash}
use Rattle.pairs.proofs.pairs.first_clash.Goals as goal
use Rattle.pairs.proofs.pairs.first_clash.Goals.{else-c-eq0-via-then-c-eq0+else-marks1-i, else-c-eq0-via-else-c-eq0}

pub returns-then-c-marks2 : goal.returns-then-c-marks2
returns-then-c-marks2 c =
    let a = c.args in
    let k = c.loop-k.k in
    clashes_at k (omega arith) c.loop-k.invariant (clash_first a.marks1.now a.marks2.now (a.i + k) (a.j + k) c.if-c-marks2.true)

pub returns-then-marks1-i : goal.returns-then-marks1-i
returns-then-marks1-i c =
    let a = c.args in
    let k = c.loop-k.k in
    clashes_at k (omega arith) c.loop-k.invariant (clash_second a.marks1.now a.marks2.now (a.i + k) (a.j + k) c.if-c-marks2.false c.if-c-eq0.true c.if-marks1-i.true)

pub loop-k-preserved : goal.loop-k-preserved
loop-k-preserved c =
    let a = c.args in
    let k = c.loop-k.k in
    below_more (λ h. InStep a.marks1.now a.marks2.now (a.i + h) (a.j + h)) k c.loop-k.invariant (record { first = c.if-c-marks2.false; second = λ z. elim c.else-c-eq0.branch [ else-c-eq0-via-then-c-eq0+else-marks1-i w ↦ w.if-marks1-i.false | else-c-eq0-via-else-c-eq0 w ↦ absurd (w.if-c-eq0.false z) ] })

pub returns : goal.returns
returns c = let e : c.loop-k.k ≡ c.args.n = omega arith in rw e at (no_clash c.loop-k.invariant)
