-- `write_transducer` meets its contract. Assumes nothing.
use native.Mathlib.Omega.{arith}
use mathlib.Core.Path.{refl}
use Rattle.std.proofs.lemmas.Result.{err_from_is_err_and}
use Rattle.trees.proofs.Deciding.{refuted, held}
use Rattle.trees.proofs.Judging.{refuse, pass}
use Rattle.formats.proofs.Verdicts.{file_fits, file_written_lem, not_written}
use Rattle.formats.proofs.file.write_transducer.Goals as goal

pub returns-then-area-lt20483 : goal.returns-then-area-lt20483
returns-then-area-lt20483 c = refuse (λ h. omega (arith, c.if-area-lt20483.true)) refl

pub returns-then-not-alphabets_right : goal.returns-then-not-alphabets_right
returns-then-not-alphabets_right c = pass (omega (arith, c.if-area-lt20483.false)) (refuse (refuted c.alphabets_right.ensures c.if-not-alphabets_right.true-raw) refl)

pub judge_parts-requires : goal.judge_parts-requires
judge_parts-requires c = held c.alphabets_right.ensures c.if-not-alphabets_right.false-raw

pub put_file-requires : goal.put_file-requires
put_file-requires c =
    let w = file_fits c.args.stock.now c.args.n c.args.counts.now c.args.marks.now (held c.alphabets_right.ensures c.if-not-alphabets_right.false-raw) c.judge_parts.ensures c.in_ok-states.states c.in_ok-states.was in
    (w.0, omega (arith, w.1, c.if-area-lt20483.false))

pub returns : goal.returns
returns c = file_written_lem c.args.stock.now c.args.n c.args.counts.now c.args.marks.now (held c.alphabets_right.ensures c.if-not-alphabets_right.false-raw) c.judge_parts.ensures c.in_ok-states.states c.in_ok-states.was (omega (arith, c.if-area-lt20483.false)) c.put_file.ensures

pub returns-in_err-states : goal.returns-in_err-states
returns-in_err-states c =
    let p = err_from_is_err_and c.from_residual.result c.from_residual.ensures.1 in
    rw (p.1, p.2) (not_written c.args.stock.now c.args.n c.args.counts.now c.args.marks.now (held c.alphabets_right.ensures c.if-not-alphabets_right.false-raw) c.judge_parts.ensures c.in_err-states.field-0.0 c.in_err-states.was (omega (arith, c.if-area-lt20483.false)))
