-- `enter` meets its contract: a refusal before the search is one of the entry or commit, and the bodies that are searched are those of a registry. Assumes nothing.
use Rattle.std.proofs.lemmas.Result.{err_from_is_err_and}
use Rattle.records.proofs.Entering.{chained_placed, refused_by}
use Rattle.registry.proofs.lent.enter.Goals as goal

pub returns-in_err-size : goal.returns-in_err-size
returns-in_err-size c =
    let p = err_from_is_err_and c.from_residual.result c.from_residual.ensures.1 in
    rw (p.1, p.2) (refused_by c.args.submission.claim c.in_err-size.field-0.0 c.in_err-size.ensures)

pub find-found-requires : goal.find-found-requires
find-found-requires c = chained_placed c.in_ok-size.ensures.1.chained
