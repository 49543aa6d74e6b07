-- `judge_file` meets its contract. Assumes nothing.
use Prim.Native.Nat.{◌<◌}
use native.Mathlib.Omega.{arith}
use mathlib.Core.Logic.{⊎_elim}
use mathlib.Core.Path.{◌∙◌}
use lib.ListN.{length}
use Rattle.std.proofs.lemmas.Result.{err_from_is_err_and}
use Rattle.trees.proofs.Tried.{none_refused, some_given}
use Rattle.formats.proofs.Verdicts.{empty_file, short_file, file_verdict}
use Rattle.formats.proofs.file.judge_file.Goals as goal

pub returns-in_err-first : goal.returns-in_err-first
returns-in_err-first c =
    let p = err_from_is_err_and c.from_residual.result c.from_residual.ensures.1 in
    let w = none_refused c.ok_or.ensures.value c.in_err-first.was in
    let none = (rw w.0 at c.first.ensures.item).3 in
    rw (p.1, p.2, w.1) (empty_file c.args.stock.now c.args.sheet.now c.requires (omega (arith, none)))

pub returns-in_err-marks : goal.returns-in_err-marks
returns-in_err-marks c =
    let s = c.args.sheet.now in
    let p = err_from_is_err_and c.from_residual-in_err-marks.result c.from_residual-in_err-marks.ensures.1 in
    let w = none_refused c.ok_or-2.ensures.value c.in_err-marks.was in
    let n = (rw (some_given _ c.ok_or.ensures.value c.in_ok-first.was) at c.first.ensures.item).4 (omega arith) 0 in
    let short : length s < c.counts_end-from.result = ⊎_elim (λ h. omega arith) (λ h. omega arith) (rw w.0 at c.get.ensures.lookup).0 in
    rw (p.1, p.2, w.1) (short_file c.args.stock.now s c.requires c.from-n.result c.counts_end-from.result (c.from-n.ensures ∙ n) c.counts_end-from.ensures short)

pub returns : goal.returns
returns c =
    let s = c.args.sheet.now in
    let n = (rw (some_given _ c.ok_or.ensures.value c.in_ok-first.was) at c.first.ensures.item).4 (omega arith) 0 in
    let part = (rw (some_given _ c.ok_or-2.ensures.value c.in_ok-marks.was) at c.get.ensures.lookup).0 in
    file_verdict c.args.stock.now s c.requires c.from-n.result c.counts_end-from.result (c.from-n.ensures ∙ n) c.counts_end-from.ensures part.0 c.judge_parts.result (rw part.2 at c.judge_parts.ensures)
