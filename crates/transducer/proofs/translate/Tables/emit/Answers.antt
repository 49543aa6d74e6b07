-- `emit` meets its contract. Assumes nothing.
use Prim.Native.Nat.{ℕ}
use native.Mathlib.Omega.{arith}
use mathlib.Core.Path.{refl}
use lib.ListN.{length-replicate}
use Rattle.std.proofs.lemmas.Result.{err_from_is_err_and}
use Rattle.trees.proofs.Judging.{refuse, pass, accept}
use Rattle.trees.proofs.Tried.{none_refused, some_given}
use Rattle.transducer.specs.Inner.Tables.{walked_by, walked_levels_by}
use Rattle.transducer.proofs.Filling.{copied, emitted_long}
use Rattle.transducer.proofs.Noting.{nothing_noted}
use Rattle.transducer.proofs.translate.Tables.emit.Goals as goal

pub fill-requires : goal.fill-requires
fill-requires c =
    let s = c.args.self.now in
    (c.requires, nothing_noted s.ins.now s.starts.now s.marks.now s.depths.now s.s.now, refl)

pub returns-in_err-w : goal.returns-in_err-w
returns-in_err-w c =
    let a = c.args in
    let p = err_from_is_err_and c.from_residual.result c.from_residual.ensures.1 in
    let w = none_refused c.ok_or.ensures.value c.in_err-w.was in
    let o = c.fill.ensures.over w.0 in
    rw (p.1, p.2, w.1) (emitted_long (walked_by a.self.now 0 0 a.to) a.out.now (walked_levels_by a.self.now 0 0 a.to) (omega (arith, o, c.max.ensures)))

pub returns-then-w-out : goal.returns-then-w-out
returns-then-w-out c =
    let W = c.fill.ensures.wrote _ (some_given _ c.ok_or.ensures.value c.in_ok-w.was) in
    refuse (λ h. omega (arith, h, W.end, c.if-w-out.true)) refl

pub returns-then-w-gt256 : goal.returns-then-w-gt256
returns-then-w-gt256 c =
    let e = some_given _ c.ok_or.ensures.value c.in_ok-w.was in
    let W = c.fill.ensures.wrote _ e in
    pass (omega (arith, W.end, c.if-w-out.false)) (refuse (λ h. omega (arith, h, c.fill.ensures.levels _ e, c.if-w-gt256.true)) refl)

pub returns-then-w-le8192 : goal.returns-then-w-le8192
returns-then-w-le8192 c =
    let e = some_given _ c.ok_or.ensures.value c.in_ok-w.was in
    let W = c.fill.ensures.wrote _ e in
    pass (omega (arith, W.end, c.if-w-out.false)) (pass (omega (arith, c.fill.ensures.levels _ e, c.if-w-gt256.false)) (accept (omega (arith, W.end), copied c.args.out.now W (omega (arith, c.if-w-le8192.true, length-replicate {A = ℕ} 8192 0)) c.copy_at.ensures)))

pub fill-requires-2 : goal.fill-requires-2
fill-requires-2 c = (c.requires, (c.fill.ensures.standing _ (some_given _ c.ok_or.ensures.value c.in_ok-w.was)).noted, refl)

pub returns-in_err-again : goal.returns-in_err-again
returns-in_err-again c =
    let W = c.fill.ensures.wrote _ (some_given _ c.ok_or.ensures.value c.in_ok-w.was) in
    let o = c.fill-2.ensures.over (none_refused c.ok_or-2.ensures.value c.in_err-again.was).0 in
    absurd (omega (arith, W.end, c.if-w-out.false, o))

pub returns : goal.returns
returns c =
    let e = some_given _ c.ok_or.ensures.value c.in_ok-w.was in
    let f = some_given _ c.ok_or-2.ensures.value c.in_ok-again.was in
    let W = c.fill.ensures.wrote _ e in
    let V = c.fill-2.ensures.wrote _ f in
    pass (omega (arith, W.end, c.if-w-out.false)) (pass (omega (arith, c.fill.ensures.levels _ e, c.if-w-gt256.false)) (accept (omega (arith, V.end), V.wrote (omega (arith, W.end, c.if-w-out.false)))))
