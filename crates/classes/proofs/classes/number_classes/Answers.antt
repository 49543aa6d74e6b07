-- `number_classes` meets its contract. The invariant is `NumberLoop`. Assumes nothing.
use Rattle.classes.proofs.Numbering.{number_start, number_few, number_new, number_old, number_end}
use Rattle.classes.specs.Inner.Classes.{at}
use native.Mathlib.Omega.{arith}
use Prim.Native.Nat.{◌<◌}
use Rattle.classes.proofs.classes.number_classes.Goals as goal
use Rattle.classes.proofs.classes.number_classes.Goals.{in-Some, in-None}

pub loop-p-init : goal.loop-p-init
loop-p-init c = number_start _ _ _

pub overflow_cast-number : goal.overflow_cast-number
overflow_cast-number c = omega (arith, number_few c.loop-p.invariant c.requires.0 c.loop-p-test.true c.from-c.ensures (omega (arith, c.type_inv.old c.loop-p.p)) c.requires.1)

pub bounds-least-count : goal.bounds-least-count
bounds-least-count c = omega (arith, number_few c.loop-p.invariant c.requires.0 c.loop-p-test.true c.from-c.ensures (omega (arith, c.type_inv.old c.loop-p.p)) c.requires.1, c.loop-p.invariant.same_least, c.requires.2)

pub overflow_add-count : goal.overflow_add-count
overflow_add-count c = omega (arith, number_few c.loop-p.invariant c.requires.0 c.loop-p-test.true c.from-c.ensures (omega (arith, c.type_inv.old c.loop-p.p)) c.requires.1)

pub loop-p-preserved : goal.loop-p-preserved
loop-p-preserved c =
    let L = c.loop-p.invariant in
    let pre = c.requires in
    let t = c.loop-p-test.true in
    let e = c.from-c.ensures in
    let b : at c.args.old.now c.loop-p.p < 256 = omega (arith, c.type_inv.old c.loop-p.p) in
    elim c.match-numbers-c.branch [
      | in-Some w ↦ rw (w.least-is, w.numbers-is, w.count-is, w.new-is) (number_old L pre.0 t e b pre.1 w.in-Some.is)
      | in-None w ↦ rw (w.least-is, w.numbers-is, w.count-is, w.new-is) (number_new L pre.0 t e b pre.1 w.in-None.is pre.2)
    ]

pub returns : goal.returns
returns c = number_end c.loop-p.invariant (omega arith) (λ q. omega (arith, c.type_inv.old q))
