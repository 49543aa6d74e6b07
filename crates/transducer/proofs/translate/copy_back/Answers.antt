-- `copy_back` meets its contract. The loop's invariant: the first k are copied. Assumes nothing.
use mathlib.Core.Path.{◌≡◌, refl}
use native.Mathlib.Omega.{arith}
use Rattle.transducer.proofs.Noting.{copy_more}
use Rattle.transducer.proofs.translate.copy_back.Goals as goal

pub loop-k-preserved : goal.loop-k-preserved
loop-k-preserved c =
    let a = c.args in
    let l = c.loop-k in
    copy_more a.out.now a.from a.n a.at l.k c.requires.0 c.requires.1 c.loop-k-test.true l.invariant refl

pub returns : goal.returns
returns c =
    let a = c.args in
    let l = c.loop-k in
    let e : l.k ≡ a.n = omega (arith, c.loop-k-test.false) in
    rw e at l.invariant
