-- `reply` meets its contract: the editor's area, and then the number, or the refusal. Assumes nothing.
use Rattle.std.proofs.lemmas.Result.{err_from_is_err_and}
use Rattle.records.proofs.Entering.{no_place, answers, unanswered, too_short}
use Rattle.records.proofs.entry.reply.Goals as goal

pub returns-in_err-takes_file : goal.returns-in_err-takes_file
returns-in_err-takes_file c =
    let p = err_from_is_err_and c.from_residual.result c.from_residual.ensures.1 in
    λ s rs K F. rw (p.1, p.2) (too_short c.in_err-takes_file.field-0.0 c.in_err-takes_file.ensures)

pub returns-in_err-number : goal.returns-in_err-number
returns-in_err-number c =
    let r = c.from_residual-in_err-number in
    let p = err_from_is_err_and r.result r.ensures.1 in
    λ s rs K F. rw (p.1, p.2) (unanswered c.in_err-number.field-0.0 c.in_ok-takes_file.ensures (no_place K c.in_err-number.field-0.0 (c.in_err-number.ensures rs F)))

pub returns : goal.returns
returns c = λ s rs K F. answers K c.in_ok-takes_file.ensures (c.in_ok-number.ensures rs F) c.copy_at.ensures
