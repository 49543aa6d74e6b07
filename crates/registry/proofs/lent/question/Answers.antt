-- `question` meets its contract: a refusal before the search is one of the editor's area or of the entry, and the bodies that are searched are those of a registry. Assumes nothing.
use Rattle.std.proofs.lemmas.Result.{err_from_is_err_and}
use Rattle.records.proofs.Entering.{chained_placed, unanswered, too_short}
use Rattle.registry.proofs.lent.question.Goals as goal

pub returns-in_err-takes_file : goal.returns-in_err-takes_file
returns-in_err-takes_file c =
    let p = err_from_is_err_and c.from_residual.result c.from_residual.ensures.1 in
    rw (p.1, p.2) (too_short c.in_err-takes_file.field-0.0 c.in_err-takes_file.ensures)

pub returns-in_err-size : goal.returns-in_err-size
returns-in_err-size c =
    let r = c.from_residual-in_err-size in
    let p = err_from_is_err_and r.result r.ensures.1 in
    rw (p.1, p.2) (unanswered c.in_err-size.field-0.0 c.in_ok-takes_file.ensures c.in_err-size.ensures)

pub find-found-requires : goal.find-found-requires
find-found-requires c = chained_placed c.in_ok-size.ensures.1.chained
