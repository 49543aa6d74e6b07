-- `note_depths` meets its contract. The loop's invariant: writing the depths that are left from here on ends as writing all from the start. Assumes nothing.
use Prim.Native.Nat.{◌+◌}
use native.Mathlib.Omega.{arith}
use mathlib.Core.List.{[]}
use mathlib.Core.Path.{refl, ◌∙◌}
use lib.ListN.{set, length-set}
use lib.Seq.{slice}
use Rattle.formats.specs.Inner.Layout.{pairs}
use Rattle.formats.proofs.Writing.{begin, one_more_lem, finish}
use Rattle.transducer.specs.Inner.Depth.{depths_of, stack}
use Rattle.transducer.proofs.Depths.{opened_none, opened_some, stack_more, next_depth, no_depths}
use Rattle.transducer.proofs.depth.note_depths.Goals as goal
use Rattle.transducer.proofs.depth.note_depths.Goals.{then-n-eq0, else-n-eq0}

pub loop-j-init : goal.loop-j-init
unfolding stack
loop-j-init c = let a = c.args in (omega arith, refl, begin (depths_of a.outs.now [] (slice a.from a.to (pairs a.marks.now))) a.depths.now a.from)

pub loop-j-preserved : goal.loop-j-preserved
loop-j-preserved c =
    let a = c.args in
    let l = c.loop-j in
    elim c.if-n-eq0.branch [
      | then-n-eq0 w ↦
          let C = w.close-d in
          let n = next_depth a.outs.now a.marks.now l.owed C.new.owed l.d C.result l.j a.to c.loop-j-test.true c.requires.3 c.children-n.ensures (opened_none (stack l.owed l.d) w.if-n-eq0.true C.ensures.owes) in
          rw (w.owed-is, w.d-is) (omega (arith, l.invariant.0, C.ensures.few), C.ensures.long, one_more_lem l.invariant.2 l.d (depths_of a.outs.now (stack C.new.owed C.result) (slice (l.j + 1) a.to (pairs a.marks.now))) n refl refl)
      | else-n-eq0 w ↦
          let x = c.children-n.result in
          let n = next_depth a.outs.now a.marks.now l.owed (set l.owed l.d x) l.d (l.d + 1) l.j a.to c.loop-j-test.true c.requires.3 c.children-n.ensures (opened_some x (omega (arith, w.if-n-eq0.false)) (stack_more l.owed l.d x (omega (arith, l.invariant.0, l.invariant.1, c.requires.1, c.loop-j-test.true)))) in
          rw (w.owed-is, w.d-is) (omega (arith, l.invariant.0), length-set l.owed l.d x ∙ l.invariant.1, one_more_lem l.invariant.2 l.d (depths_of a.outs.now (stack (set l.owed l.d x) (l.d + 1)) (slice (l.j + 1) a.to (pairs a.marks.now))) n refl refl)
    ]

pub returns : goal.returns
returns c =
    let a = c.args in
    let l = c.loop-j in
    (finish l.invariant.2 (no_depths a.outs.now (stack l.owed l.d) (pairs a.marks.now) l.j a.to (omega (arith, c.loop-j-test.false)))).1
