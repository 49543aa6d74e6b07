-- `close` meets its contract. The loop's invariant: nothing is changed so far, and what is left to close has the same end. Assumes nothing.
use Prim.Native.Nat.{◌+◌, ◌-◌}
use native.Mathlib.Omega.{arith}
use mathlib.Core.Path.{◌≡◌, sym, ap, ◌∙◌}
use lib.ListN.{length}
use Rattle.transducer.proofs.Depths.{closes, stays_open, closed_none}
use Rattle.transducer.proofs.depth.close.Goals as goal

pub returns-then-owed-k-gt1-clause-owes : goal.returns-then-owed-k-gt1-clause-owes
returns-then-owed-k-gt1-clause-owes c =
    let l = c.loop-k in
    let z : l.k - 1 + 1 ≡ l.k = omega arith in
    rw z (stays_open l.owed l.k c.loop-k-test.true (omega (arith, ap length l.invariant.0)) c.if-owed-k-gt1.true ∙ sym l.invariant.1)

pub loop-k-preserved : goal.loop-k-preserved
loop-k-preserved c =
    let l = c.loop-k in
    (l.invariant.0, l.invariant.1 ∙ closes l.owed l.k c.loop-k-test.true c.if-owed-k-gt1.false)

pub returns-clause-owes : goal.returns-clause-owes
returns-clause-owes c =
    let l = c.loop-k in
    closed_none l.owed l.k (omega (arith, c.loop-k-test.false)) ∙ sym l.invariant.1
