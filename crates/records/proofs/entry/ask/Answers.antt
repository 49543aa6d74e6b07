-- `ask` meets its contract: a registry, and then what cleaning answers. Assumes nothing.
use Rattle.std.proofs.Common.{arith}
use Rattle.std.proofs.lemmas.Result.{err_from_is_err_and}
use Rattle.trees.proofs.Deciding.{refuted, held}
use Rattle.records.proofs.Entering.{chained_end, no_registry, not_clean, is_clean}
use Rattle.records.proofs.entry.ask.Goals as goal

pub returns-then-not-chained : goal.returns-then-not-chained
returns-then-not-chained c = no_registry c.args.file.now (λ C. refuted c.chained.ensures c.if-not-chained.true-raw C)

pub body_of-requires : goal.body_of-requires
body_of-requires c = chained_end (held c.chained.ensures c.if-not-chained.false-raw) 0 (omega arith)

pub returns-in_err-form : goal.returns-in_err-form
returns-in_err-form c =
    let p = err_from_is_err_and c.from_residual.result c.from_residual.ensures.1 in
    rw (p.1, p.2) (not_clean (held c.chained.ensures c.if-not-chained.false-raw) c.body_of.ensures c.requires c.clean.result c.clean.ensures c.in_err-form.field-0.0 c.in_err-form.was)

pub returns : goal.returns
returns c = is_clean (held c.chained.ensures c.if-not-chained.false-raw) c.body_of.ensures c.requires c.clean.result c.clean.ensures c.in_ok-form.form c.in_ok-form.was
