-- `skip_marks` meets its contract. Assumes nothing.
use Prim.Native.Nat.{◌+◌, ◌-◌}
use mathlib.Core.Path.{◌≡◌, sym, ap, ◌∙◌}
use native.Mathlib.Omega.{arith}
use lib.ListN.{take}
use Rattle.trees.specs.Inner.Decode.{forest, rests}
use Rattle.formats.specs.Inner.Layout.{mark_of, pairs}
use Rattle.formats.specs.Inner.Marked.{part}
use Rattle.trees.proofs.Extents.{enough_room}
use Rattle.formats.proofs.Marks.{marks_length}
use Rattle.queries.proofs.Following.{in_part, next_mark, some_there}
use Rattle.queries.proofs.address.skip_marks.Goals as goal

pub overflow_sub-to : goal.overflow_sub-to
overflow_sub-to c =
    let a = c.args in
    let l = c.loop in
    omega (arith, in_part a.outs.now a.n a.r a.marks.now l.p a.to c.requires.0 (omega (arith, l.invariant.0)))

pub unwrap-p-requires : goal.unwrap-p-requires
unwrap-p-requires c =
    let a = c.args in
    let l = c.loop in
    let z = marks_length a.marks.now a.to c.requires.0 in
    some_there (λ e. enough_room (mark_of a.outs.now a.n a.r) (0, 0) (take a.to (pairs a.marks.now)) l.p (a.to - l.p) (omega (arith, l.invariant.0)) (omega arith) (sym c.measure_marks.ensures ∙ e))

pub loop-preserved : goal.loop-preserved
loop-preserved c =
    let a = c.args in
    let l = c.loop in
    let w = next_mark (mark_of a.outs.now a.n a.r) (take a.to (pairs a.marks.now)) (a.to - l.p) l.p (a.c - l.counter) _ _ (omega arith) l.invariant.0 (sym c.measure_marks.ensures ∙ c.unwrap-p.ensures) in
    let z : a.c - (l.counter + 1) ≡ a.c - l.counter - 1 = omega arith in
    rw z (w.0, w.1 ∙ l.invariant.1)

pub returns : goal.returns
unfolding rests
returns c =
    let a = c.args in
    let l = c.loop in
    let z : a.c - l.counter ≡ 0 = omega arith in
    sym (ap (λ k. rests k (forest (mark_of a.outs.now a.n a.r) (part a.marks.now l.p a.to))) z) ∙ l.invariant.1
