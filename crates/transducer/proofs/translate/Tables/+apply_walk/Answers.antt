-- `apply` and `walk` meet their contracts. What falls from call to call is levels left times marks. The loop's invariant: writing what is left from here ends as writing all from the start, if there is room, what is noted to stand stands, and the levels seen so far and those of what is left are those of all. Assumes nothing.
use Prim.Native.Nat.{◌+◌, ◌-◌, ◌*◌}
use mathlib.Core.List.{[], ◌∷◌}
use mathlib.Core.Path.{refl, sym, ap, ◌∙◌}
use native.Mathlib.Omega.{arith}
use lib.ListN.{length, get_or, length-set}
use Rattle.transducer.specs.Inner.Written.{few_levels}
use Rattle.transducer.specs.Inner.Tables.{applied_by, walked_by, applied_levels_by, walked_levels_by}
use Rattle.transducer.proofs.Filling.{piece_more, piece_over, one_wrote, wrote_as, finish, levels_more, levels_done, emitted_some, emitted_none}
use Rattle.transducer.proofs.Noting.{standing_on, one_standing, size_there, no_room, copy_fits, copied_again}
use Rattle.transducer.proofs.Walks.{walk_symbol, levels_symbol, to_skip, to_apply, walk_end, levels_end, body_fits, body_walk, some_left, few_noted}
use Rattle.transducer.proofs.translate.Tables.+apply_walk.Goals as goal

pub apply-returns-in_err-end : goal.apply-returns-in_err-end
apply-returns-in_err-end t c =
    let P = c.requires in
    let a = c.args in
    let z = size_there P.1 c.slot-k.result a.q a.p (few_noted P.0.0).1 (c.if-note-key.true ∙ c.note_key-key.ensures) refl in
    rw c.from_residual.ensures (emitted_none (omega (arith, z, c.added.ensures.over c.in_err-end.was)))

pub apply-returns-then-end-out : goal.apply-returns-then-end-out
apply-returns-then-end-out t c =
    let P = c.requires in
    let a = c.args in
    let k = c.slot-k.result in
    let e = c.if-note-key.true ∙ c.note_key-key.ensures in
    let h = (few_noted P.0.0).1 in
    let n = no_room P.1 k a.q a.p h e refl (c.added.ensures.end _ c.in_ok-end.was) c.if-end-out.true in
    emitted_some n.0 (P.1.noted.levels k a.q a.p h e) n.1

pub apply-overflow_sub-place : goal.apply-overflow_sub-place
apply-overflow_sub-place t c =
    let P = c.requires in
    (copy_fits P.1 c.slot-k.result c.args.q c.args.p (few_noted P.0.0).1 (c.if-note-key.true ∙ c.note_key-key.ensures) refl (c.added.ensures.end _ c.in_ok-end.was) c.if-end-out.false refl c.if-place-gt0.true).0

pub apply-copy_back-requires : goal.apply-copy_back-requires
apply-copy_back-requires t c =
    let P = c.requires in
    let f = copy_fits P.1 c.slot-k.result c.args.q c.args.p (few_noted P.0.0).1 (c.if-note-key.true ∙ c.note_key-key.ensures) refl (c.added.ensures.end _ c.in_ok-end.was) c.if-end-out.false refl c.if-place-gt0.true in
    (f.1, f.2)

pub apply-returns-then-place-gt0 : goal.apply-returns-then-place-gt0
apply-returns-then-place-gt0 t c =
    let P = c.requires in
    let a = c.args in
    let k = c.slot-k.result in
    let h = (few_noted P.0.0).1 in
    let e = c.if-note-key.true ∙ c.note_key-key.ensures in
    let r = c.added.ensures.end _ c.in_ok-end.was in
    let n = copied_again P.1 k a.q a.p h e refl r c.if-end-out.false refl c.if-place-gt0.true c.copy_back.ensures in
    emitted_some n.0 (P.1.noted.levels k a.q a.p h e) n.1

pub apply-body_at-b-requires : goal.apply-body_at-b-requires
apply-body_at-b-requires t c = let R = c.requires.0.0 in (R.place, omega (arith, body_fits R, R.all_starts))

pub apply-offset_bounds-self-b : goal.apply-offset_bounds-self-b
apply-offset_bounds-self-b t c = let R = c.requires.0.0 in omega (arith, c.body_at-b.ensures, body_fits R, R.all_starts)

pub apply-bounds-self-b : goal.apply-bounds-self-b
apply-bounds-self-b t c = let R = c.requires.0.0 in omega (arith, c.body_at-b.ensures, body_fits R, R.all_starts)

pub apply-overflow_add-b : goal.apply-overflow_add-b
apply-overflow_add-b t c = let R = c.requires.0.0 in omega (arith, c.body_at-b.ensures, body_fits R, R.all_starts)

pub apply-offset_bounds-self-b-2 : goal.apply-offset_bounds-self-b-2
apply-offset_bounds-self-b-2 t c = let R = c.requires.0.0 in omega (arith, c.body_at-b.ensures, body_fits R, R.all_starts)

pub apply-bounds-self-b-2 : goal.apply-bounds-self-b-2
apply-bounds-self-b-2 t c = let R = c.requires.0.0 in omega (arith, c.body_at-b.ensures, body_fits R, R.all_starts)

pub apply-overflow_sub-left : goal.apply-overflow_sub-left
apply-overflow_sub-left t c = omega (arith, some_left c.requires.0.0)

pub apply-walk-requires : goal.apply-walk-requires
apply-walk-requires t c =
    let P = c.requires in
    let w = body_walk P.0.0 c.body_at-b.ensures c.from-from.ensures c.from-to.ensures in
    (omega (arith, w.3, some_left P.0.0), ((w.0, P.0.1), P.1, P.2))

pub apply-returns-in_err-w : goal.apply-returns-in_err-w
apply-returns-in_err-w t c =
    let w = body_walk c.requires.0.0 c.body_at-b.ensures c.from-from.ensures c.from-to.ensures in
    rw c.from_residual-in_err-w.ensures (emitted_none (omega (arith, c.walk.ensures.over c.in_err-w.was, ap length w.1)))

pub apply-returns-then-w : goal.apply-returns-then-w
apply-returns-then-w t c =
    let a = c.args in
    let P = c.requires in
    let w = body_walk P.0.0 c.body_at-b.ensures c.from-from.ensures c.from-to.ensures in
    let E = c.walk.ensures in
    let W = wrote_as w.1 (E.wrote _ c.in_ok-w.was) in
    let L = E.levels _ c.in_ok-w.was ∙ ap few_levels (sym (w.2 a.self.now.depths.now)) in
    let N = c.noted.ensures in
    emitted_some W L (one_standing a.out.now (E.standing _ c.in_ok-w.was) c.slot-k.result a.q a.p (c.in_ok-w.w.end - a.at) a.at c.noted.result c.slot-k.ensures (few_noted P.0.0).1 c.walk.auto.out W.end W.wrote refl (N.0 ∙ c.note_key-key.ensures) (N.1 ∙ L) refl refl refl)

pub apply-returns-else-w : goal.apply-returns-else-w
apply-returns-else-w t c =
    let w = body_walk c.requires.0.0 c.body_at-b.ensures c.from-from.ensures c.from-to.ensures in
    let E = c.walk.ensures in
    emitted_some (wrote_as w.1 (E.wrote _ c.in_ok-w.was)) (E.levels _ c.in_ok-w.was ∙ ap few_levels (sym (w.2 c.args.self.now.depths.now))) (E.standing _ c.in_ok-w.was)

pub walk-added-requires : goal.walk-added-requires
walk-added-requires t c = c.loop-j.invariant.0.low

pub walk-returns-in_err-end : goal.walk-returns-in_err-end
walk-returns-in_err-end t c =
    let a = c.args in
    let s = a.self.now in
    let l = c.loop-j in
    let e = walk_symbol s.ins.now s.starts.now s.marks.now s.s.now a.below l.j a.to c.loop-j-test.true c.requires.0.0.inside (sym c.from-i.ensures ∙ c.if-i-eq0.true) in
    rw c.from_residual.ensures (emitted_none (piece_over l.invariant.0 (get_or s.marks.now (2 * l.j + 1) 0 ∷ []) (walked_by s a.below (l.j + 1) a.to) e (c.added.ensures.over c.in_err-end.was)))

pub walk-loop-j-preserved-then-i-eq0 : goal.walk-loop-j-preserved-then-i-eq0
walk-loop-j-preserved-then-i-eq0 t c =
    let a = c.args in
    let s = a.self.now in
    let P = c.requires in
    let l = c.loop-j in
    let less = c.loop-j-test.true in
    let z = sym c.from-i.ensures ∙ c.if-i-eq0.true in
    let e = walk_symbol s.ins.now s.starts.now s.marks.now s.s.now a.below l.j a.to less P.0.0.inside z in
    let f = levels_symbol s.ins.now s.starts.now s.marks.now s.s.now a.below l.j a.to less P.0.0.inside s.depths.now (omega (arith, P.0.0.inside, P.0.1.few_marks, P.0.1.all_depths)) z in
    let x = get_or s.marks.now (2 * l.j + 1) 0 in
    let n = c.added.ensures.end _ c.in_ok-end.was in
    (piece_more l.invariant.0 (x ∷ []) (walked_by s a.below (l.j + 1) a.to) e (ap length c.put.ensures ∙ length-set l.out l.end x) (one_wrote x c.put.ensures n), levels_more l.invariant.1 (get_or s.depths.now l.j 0) 1 1 (walked_levels_by s a.below (l.j + 1) a.to) f refl c.deeper-levels.ensures, standing_on (x ∷ []) l.invariant.2 c.put.ensures n.0)

pub walk-skip-p-requires : goal.walk-skip-p-requires
walk-skip-p-requires t c =
    let l = c.loop-j in
    λ k h. to_skip c.requires.0.0 l.j l.auto.j c.loop-j-test.true c.from-i.ensures c.if-i-eq0.false k (omega arith)

pub walk-apply-requires : goal.walk-apply-requires
walk-apply-requires t c =
    let P = c.requires in
    let l = c.loop-j in
    let less = c.loop-j-test.true in
    let w = to_apply P.0.0 l.j l.auto.j less c.from-i.ensures c.if-i-eq0.false c.from.ensures c.skip-p.ensures in
    (omega (arith, l.auto.j, less), ((w.0, P.0.1), l.invariant.2, l.invariant.0.low))

pub walk-returns-in_err-part : goal.walk-returns-in_err-part
walk-returns-in_err-part t c =
    let a = c.args in
    let s = a.self.now in
    let l = c.loop-j in
    let w = to_apply c.requires.0.0 l.j l.auto.j c.loop-j-test.true c.from-i.ensures c.if-i-eq0.false c.from.ensures c.skip-p.ensures in
    rw c.from_residual-in_err-part.ensures (emitted_none (piece_over l.invariant.0 (applied_by s c.from.result c.skip-p.result) (walked_by s a.below (l.j + 1) a.to) w.1 (c.apply.ensures.over c.in_err-part.was)))

pub walk-loop-j-preserved : goal.walk-loop-j-preserved
walk-loop-j-preserved t c =
    let a = c.args in
    let s = a.self.now in
    let P = c.requires in
    let l = c.loop-j in
    let w = to_apply P.0.0 l.j l.auto.j c.loop-j-test.true c.from-i.ensures c.if-i-eq0.false c.from.ensures c.skip-p.ensures in
    let q = c.from.result in
    let p = c.skip-p.result in
    let A = c.apply.ensures in
    let e = c.in_ok-part.was in
    let f = w.2 s.depths.now (omega (arith, P.0.0.inside, P.0.1.few_marks, P.0.1.all_depths)) in
    (piece_more l.invariant.0 (applied_by s q p) (walked_by s a.below (l.j + 1) a.to) w.1 c.apply.auto.out (A.wrote _ e), levels_more l.invariant.1 (get_or s.depths.now l.j 0) (applied_levels_by s q p) c.in_ok-part.part.levels (walked_levels_by s a.below (l.j + 1) a.to) f (A.levels _ e) c.deeper-levels-in-loop-j.ensures, A.standing _ e)

pub walk-returns : goal.walk-returns
walk-returns t c =
    let a = c.args in
    let s = a.self.now in
    let l = c.loop-j in
    let e = l.auto.j-end c.requires.0.0.ordered in
    emitted_some (finish l.invariant.0 (walk_end s.ins.now s.starts.now s.marks.now s.s.now a.below l.j a.to e c.loop-j-test.false)) (levels_done l.invariant.1 (levels_end s.ins.now s.starts.now s.marks.now s.depths.now s.s.now a.below l.j a.to e c.loop-j-test.false)) l.invariant.2
