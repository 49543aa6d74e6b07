-- `form_of_file` meets its contract: the room, the parts of the file, and then what is answered of them. Assumes nothing.
use native.Mathlib.Omega.{arith}
use mathlib.Core.Path.{refl}
use Rattle.trees.specs.Refusal.{done}
use Rattle.trees.proofs.Judging.{refuse, pass}
use Rattle.std.proofs.lemmas.Result.{err_from_is_err_and}
use Rattle.formats.proofs.Verdicts.{accepted_alphabets, accepted_states, accepted_long}
use Rattle.transducer.proofs.Opening.{opened_at, opened_machine, not_opened}
use Rattle.earliest.specs.Answers.{form_check}
use Rattle.earliest.proofs.Forming.{file_made}
use Rattle.earliest.proofs.kinds.form_of_file.Goals as goal

pub returns-then-area-lt20483 : goal.returns-then-area-lt20483
returns-then-area-lt20483 g c = refuse (λ h. omega (arith, c.if-area-lt20483.true)) refl

pub counts_end-from-requires : goal.counts_end-from-requires
counts_end-from-requires g c = (accepted_alphabets c.args.stock.now c.args.sheet.now c.in_ok-n.n c.read_transducer.ensures c.in_ok-n.was, omega (arith, accepted_states c.args.stock.now c.args.sheet.now c.in_ok-n.n c.read_transducer.ensures c.in_ok-n.was))

pub slice_bounds-form_file-end : goal.slice_bounds-form_file-end
slice_bounds-form_file-end g c = omega (arith, c.counts_end-from.ensures, accepted_long c.args.stock.now c.args.sheet.now c.in_ok-n.n c.read_transducer.ensures c.in_ok-n.was)

pub slice_bounds-form_file-count : goal.slice_bounds-form_file-count
slice_bounds-form_file-count g c = omega (arith, c.counts_end-from.ensures, accepted_long c.args.stock.now c.args.sheet.now c.in_ok-n.n c.read_transducer.ensures c.in_ok-n.was)

pub slice_bounds-form_file-start : goal.slice_bounds-form_file-start
slice_bounds-form_file-start g c = omega (arith, c.counts_end-from.ensures, accepted_long c.args.stock.now c.args.sheet.now c.in_ok-n.n c.read_transducer.ensures c.in_ok-n.was)

pub form_file-requires : goal.form_file-requires
form_file-requires g c = (opened_machine (opened_at c.args.stock.now c.args.sheet.now c.in_ok-n.n c.read_transducer.ensures c.in_ok-n.was c.counts_end-from.result c.counts_end-from.ensures refl), omega (arith, c.if-area-lt20483.false))

pub returns : goal.returns
returns g c = file_made (opened_at c.args.stock.now c.args.sheet.now c.in_ok-n.n c.read_transducer.ensures c.in_ok-n.was c.counts_end-from.result c.counts_end-from.ensures refl) g.met.F.FormKind.whole (omega (arith, c.if-area-lt20483.false)) c.form_file.result c.form_file.ensures

pub returns-in_err-n : goal.returns-in_err-n
returns-in_err-n g c =
    let p = err_from_is_err_and c.from_residual.result c.from_residual.ensures.1 in
    rw (p.1, p.2) (pass (omega (arith, c.if-area-lt20483.false)) (not_opened c.args.stock.now c.args.sheet.now (form_check c.args.stock.now c.args.sheet.now done) refl c.read_transducer.ensures c.in_err-n.was))
