-- `place` meets its contract: question, claim and commit. Assumes nothing.
use Rattle.std.proofs.Common.{Err, sym, subst}
use Rattle.std.proofs.lemmas.Result.{err_from_is_err_and}
use Rattle.records.specs.Inner.Steps.{Numbers}
use Rattle.records.proofs.Entering.{no_place, refused_by, other_claim, countable, places_known, places_new}
use Rattle.records.proofs.entry.place.Goals as goal

pub returns-in_err-would : goal.returns-in_err-would
returns-in_err-would c =
    let p = err_from_is_err_and c.from_residual.result c.from_residual.ensures.1 in
    let a = c.args in
    let q = c.in_err-would.field-0.0 in
    let N : Numbers a.h a.records.now a.area.now a.bytes.now (Err q) = subst (λ r. Numbers a.h a.records.now a.area.now a.bytes.now r) c.in_err-would.was (c.number_for.ensures a.records.now c.requires.1) in
    λ s K. rw (p.1, p.2) (refused_by a.submission.claim q (no_place K q N))

pub returns-in_err-number : goal.returns-in_err-number
returns-in_err-number c =
    let r = c.from_residual-in_err-number in
    let p = err_from_is_err_and r.result r.ensures.1 in
    λ s K. rw (p.1, p.2) (other_claim K c.args.submission.claim c.in_err-number.field-0.0 (c.in_ok-would.ensures c.args.records.now c.requires.1) (sym c.in_err-number.ensures))

pub count-requires : goal.count-requires
count-requires c = countable c.args.submission.claim c.requires.0 (rw c.in-Some.is at c.requires.1) (c.in_ok-would.ensures c.args.records.now c.requires.1) (sym c.in_ok-number.ensures)

pub returns-in-Some : goal.returns-in-Some
returns-in-Some c = λ s K. places_known K c.args.submission (rw c.in-Some.is at c.requires.1) (c.in_ok-would.ensures c.args.records.now c.requires.1) (sym c.in_ok-number.ensures) c.count.ensures

pub returns-in-None : goal.returns-in-None
returns-in-None c = λ s K. places_new K c.args.submission (rw c.in-None.is at c.requires.1) (c.in_ok-would.ensures c.args.records.now c.requires.1) (sym c.in_ok-number.ensures) c.append.ensures.0 c.append.ensures.1
