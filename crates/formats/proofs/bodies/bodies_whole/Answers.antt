-- `bodies_whole` meets its contract. The invariants: the bodies passed are whole. Assumes nothing.
use mathlib.Core.Path.{refl, sym, ◌∙◌}
use native.Mathlib.Omega.{arith}
use borrow.Author.Tests.{not-true, not-false}
use lib.ListN.{get_or}
use Rattle.formats.specs.Inner.Layout.{body_number}
use Rattle.formats.proofs.Pairs.{number_less}
use Rattle.theory.proofs.Terms.{conflict}
use Rattle.formats.proofs.Marks.{to_body, next_body, next_state, bounds_part}
use Rattle.formats.proofs.bodies.bodies_whole.Goals as goal

pub returns-then-not-one_body : goal.returns-then-not-one_body
returns-then-not-one_body c =
    let a = c.args in
    let D = to_body a.outs.now a.n (λ j. get_or a.starts.now j 0) a.marks.now 0 refl c.from.ensures c.from-2.ensures c.one_body.ensures in
    record { sound = λ e. conflict (cc); complete = λ W. sym (not-true c.one_body.result c.if-not-one_body.true-raw) ∙ D.complete W.initial }

pub loop-q-init : goal.loop-q-init
loop-q-init c =
    let a = c.args in
    let D = to_body a.outs.now a.n (λ j. get_or a.starts.now j 0) a.marks.now 0 refl c.from.ensures c.from-2.ensures c.one_body.ensures in
    (D.sound (not-false c.one_body.result c.if-not-one_body.false-raw), λ p b h g. absurd (omega arith))

pub one_body-requires-in-loop-a : goal.one_body-requires-in-loop-a
one_body-requires-in-loop-a c = bounds_part {j = body_number c.args.ins.now c.loop-q.q c.loop-a.a} c.requires.0 c.requires.1 (number_less c.args.ins.now c.loop-q.q c.args.n c.loop-a.a c.loop-q-test.true c.loop-a-test.true) c.from-from.ensures c.from-to.ensures

pub returns-then-not-one_body-2 : goal.returns-then-not-one_body-2
returns-then-not-one_body-2 c =
    let a = c.args in
    let D = to_body a.outs.now a.n (λ j. get_or a.starts.now j 0) a.marks.now (body_number a.ins.now c.loop-q.q c.loop-a.a) c.from-in-loop-a.ensures c.from-from.ensures c.from-to.ensures c.one_body-in-loop-a.ensures in
    record { sound = λ e. conflict (cc); complete = λ W. sym (not-true c.one_body-in-loop-a.result c.if-not-one_body-2.true-raw) ∙ D.complete (W.rhs c.loop-q.q c.loop-a.a c.loop-q-test.true c.loop-a-test.true) }

pub loop-a-preserved : goal.loop-a-preserved
loop-a-preserved c =
    let a = c.args in
    let D = to_body a.outs.now a.n (λ j. get_or a.starts.now j 0) a.marks.now (body_number a.ins.now c.loop-q.q c.loop-a.a) c.from-in-loop-a.ensures c.from-from.ensures c.from-to.ensures c.one_body-in-loop-a.ensures in
    next_body a.ins.now a.outs.now a.n (λ j. get_or a.starts.now j 0) a.marks.now c.loop-q.q c.loop-a.a c.loop-a.invariant (D.sound (not-false c.one_body-in-loop-a.result c.if-not-one_body-2.false-raw))

pub loop-q-preserved : goal.loop-q-preserved
loop-q-preserved c =
    let a = c.args in
    let l = c.loop-q in
    (l.invariant.0, next_state a.ins.now a.outs.now a.n (λ j. get_or a.starts.now j 0) a.marks.now l.q c.loop-a.a c.loop-a-test.false l.invariant.1 c.loop-a.invariant)

pub returns : goal.returns
returns c =
    let l = c.loop-q in
    record { sound = λ e. record { initial = l.invariant.0; rhs = λ q b h g. l.invariant.1 q b (omega arith) g }; complete = λ W. refl }
