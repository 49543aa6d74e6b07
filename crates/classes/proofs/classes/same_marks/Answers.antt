-- `same_marks` meets its contract. The invariant: the marks passed have the same keys. Assumes nothing.
use native.Mathlib.Omega.{arith}
use mathlib.Core.Path.{◌∙◌, sym, ap}
use Rattle.classes.specs.Inner.Classes.{at}
use Rattle.classes.proofs.Keys.{all_same, first_there, second_there, other_child, other_symbol, other_class, next_mark, next_call}
use Rattle.classes.proofs.classes.same_marks.Goals as goal
use Rattle.classes.proofs.classes.same_marks.Goals.{then-x-y+else-c-eq0+else-classes-from, else-x-y}

pub returns-then-c-marks : goal.returns-then-c-marks
returns-then-c-marks c = other_child c.requires c.loop-k-test.true (λ e. omega (arith, c.if-c-marks.true, e))

pub returns-then-c-eq0 : goal.returns-then-c-eq0
returns-then-c-eq0 c = other_symbol c.requires c.loop-k-test.true c.if-c-eq0.true c.if-x-y.true

pub bounds-classes-from : goal.bounds-classes-from
bounds-classes-from c = first_there c.requires c.loop-k-test.true (omega (arith, c.if-c-eq0.false)) c.from.ensures

pub bounds-classes-from-then-x-y : goal.bounds-classes-from-then-x-y
bounds-classes-from-then-x-y c = second_there c.requires c.loop-k-test.true (omega (arith, c.if-c-eq0.false, c.if-c-marks.false)) c.from-then-x-y.ensures

pub returns-then-classes-from : goal.returns-then-classes-from
returns-then-classes-from c =
    let l = c.args.classes.now in
    other_class c.requires c.loop-k-test.true (omega (arith, c.if-c-eq0.false)) (λ e. c.if-classes-from.true (ap (at l) c.from.ensures ∙ e ∙ sym (ap (at l) c.from-then-x-y.ensures)))

pub loop-k-preserved : goal.loop-k-preserved
loop-k-preserved c =
    let l = c.args.classes.now in
    elim c.if-x-y.branch [
      | then-x-y+else-c-eq0+else-classes-from w ↦ (omega arith, next_call c.requires c.loop-k-test.true c.if-c-marks.false c.loop-k.invariant.1 (omega (arith, w.if-c-eq0.false)) (sym (ap (at l) w.from.ensures) ∙ w.if-classes-from.false ∙ ap (at l) w.from-then-x-y.ensures))
      | else-x-y w ↦ (omega arith, next_mark c.requires c.loop-k-test.true c.if-c-marks.false c.loop-k.invariant.1 w.if-x-y.false)
    ]

pub returns : goal.returns
returns c = all_same c.requires (λ m h. c.loop-k.invariant.1 m (omega arith))
