-- `measure_marks` meets its contract. The loop's invariant is `Measuring`; with each call the levels left fall. Assumes nothing.
use Prim.Native.Nat.{◌+◌, ◌-◌}
use mathlib.Core.Logic.{⊎_elim}
use mathlib.Core.Path.{◌≡◌, sym, ◌∙◌}
use native.Mathlib.Omega.{arith}
use lib.ListN.{get_or, take}
use Rattle.trees.proofs.Extents.{past_end, no_letter, one_call, no_room, first_child_lem, next_child, no_child, node_done}
use Rattle.formats.specs.Inner.Layout.{mark_of, pairs}
use Rattle.formats.proofs.Letters.{call_made}
use Rattle.formats.proofs.Marks.{letter_no_call, letter_call, letter_no_symbol, letter_symbol, marks_length, next_mark}
use Rattle.trees.proofs.Numbers.{max_is}
use Rattle.formats.proofs.bodies.+measure_marks.Goals as goal

pub returns-then-at-to : goal.returns-then-at-to
returns-then-at-to t c =
    let a = c.args in
    sym (past_end (mark_of a.outs.now a.n a.r) (take a.to (pairs a.marks.now)) a.at a.room (omega (arith, c.if-at-to.true, marks_length a.marks.now a.to c.requires)))

pub returns-then-i-r : goal.returns-then-i-r
returns-then-i-r t c =
    let a = c.args in
    let w = c.from-i in
    let v = c.from-x in
    let here = next_mark a.marks.now a.at a.to w.result v.result c.if-at-to.false c.requires w.ensures v.ensures in
    sym (no_letter (mark_of a.outs.now a.n a.r) (take a.to (pairs a.marks.now)) a.at a.room here (letter_no_call a.outs.now a.n a.r w.result v.result c.if-i-gt0.true c.then-i-r.either))

pub returns-then-i-gt0 : goal.returns-then-i-gt0
returns-then-i-gt0 t c =
    let a = c.args in
    let w = c.from-i in
    let v = c.from-x in
    let here = next_mark a.marks.now a.at a.to w.result v.result c.if-at-to.false c.requires w.ensures v.ensures in
    sym (one_call (mark_of a.outs.now a.n a.r) (take a.to (pairs a.marks.now)) a.at a.room here (letter_call a.outs.now a.n a.r w.result v.result c.if-i-gt0.true c.if-i-r.false c.if-x-n.false))

pub returns-then-room-eq0 : goal.returns-then-room-eq0
returns-then-room-eq0 t c =
    let a = c.args in
    let w = c.from-i in
    let v = c.from-x in
    let here = next_mark a.marks.now a.at a.to w.result v.result c.if-at-to.false c.requires w.ensures v.ensures in
    sym (⊎_elim (λ z. no_room (mark_of a.outs.now a.n a.r) (take a.to (pairs a.marks.now)) a.at a.room here (λ e q. omega (arith, (call_made a.outs.now a.n a.r w.result v.result e q).0.from_one)) z) (λ g. no_letter (mark_of a.outs.now a.n a.r) (take a.to (pairs a.marks.now)) a.at a.room here (letter_no_symbol a.outs.now a.n a.r w.result v.result (omega arith) g.1)) c.then-room-eq0.either)

pub loop-init : goal.loop-init
loop-init t c =
    let a = c.args in
    let w = c.from-i in
    let v = c.from-x in
    let here = next_mark a.marks.now a.at a.to w.result v.result c.if-at-to.false c.requires w.ensures v.ensures in
    let z : get_or a.outs.now v.result 0 - 0 ≡ get_or a.outs.now v.result 0 = omega arith in
    rw z (first_child_lem here (letter_symbol a.outs.now a.n a.r w.result v.result (omega arith) c.if-x-outs.false) (omega arith))

pub loop-preserved : goal.loop-preserved
loop-preserved t c =
    let e : get_or c.args.outs.now c.from-x.result 0 - c.loop.counter - 1 ≡ get_or c.args.outs.now c.from-x.result 0 - (c.loop.counter + 1) = omega arith in
    rw e at (next_child c.loop.invariant (omega (arith, c.loop-test.true)) c.measure_marks.ensures (0, 0) c.in_ok-child.was (c.max-levels.ensures ∙ max_is _ _))

pub returns-in_err-child : goal.returns-in_err-child
returns-in_err-child t c = c.from_residual.ensures ∙ no_child c.loop.invariant (omega (arith, c.loop-test.true)) c.measure_marks.ensures c.in_err-child.was

pub returns : goal.returns
returns t c = node_done c.loop.invariant (omega arith)
