-- `compare` meets its contract: the rooms, the parts of the two files, and then what is answered of them. Assumes nothing.
use native.Mathlib.Omega.{arith}
use mathlib.Core.Path.{refl}
use Rattle.trees.specs.Refusal.{done}
use Rattle.std.proofs.lemmas.Result.{err_from_is_err_and}
use Rattle.formats.specs.Sheet.{sheet_check}
use Rattle.trees.proofs.Judging.{refuse, pass}
use Rattle.formats.proofs.Verdicts.{accepted_alphabets, accepted_states, accepted_long}
use Rattle.transducer.proofs.Opening.{opened_at, opened_machine, not_opened}
use Rattle.earliest.specs.Answers.{form_check}
use Rattle.comparison.proofs.Comparing.{second_refused, files_compared}
use Rattle.comparison.proofs.compare.compare.Goals as goal

pub returns-then-tree-lt1536 : goal.returns-then-tree-lt1536
returns-then-tree-lt1536 c = refuse (λ h. omega (arith, c.if-tree-lt1536.true, h.0)) (refl, refl)

pub returns-then-address-lt16128 : goal.returns-then-address-lt16128
returns-then-address-lt16128 c = refuse (λ h. omega (arith, c.if-address-lt16128.true, h.1)) (refl, refl)

pub counts_end-from1-requires : goal.counts_end-from1-requires
counts_end-from1-requires c = (accepted_alphabets c.args.stock.now c.args.first.now c.in_ok-n1.n1 c.read_transducer.ensures c.in_ok-n1.was, omega (arith, accepted_states c.args.stock.now c.args.first.now c.in_ok-n1.n1 c.read_transducer.ensures c.in_ok-n1.was))

pub counts_end-from2-requires : goal.counts_end-from2-requires
counts_end-from2-requires c = (accepted_alphabets c.args.stock.now c.args.second.now c.in_ok-n2.n2 c.read_transducer-2.ensures c.in_ok-n2.was, omega (arith, accepted_states c.args.stock.now c.args.second.now c.in_ok-n2.n2 c.read_transducer-2.ensures c.in_ok-n2.was))

pub slice_bounds-compare_parts-end : goal.slice_bounds-compare_parts-end
slice_bounds-compare_parts-end c = omega (arith, c.counts_end-from1.ensures, accepted_long c.args.stock.now c.args.first.now c.in_ok-n1.n1 c.read_transducer.ensures c.in_ok-n1.was)

pub slice_bounds-compare_parts-count : goal.slice_bounds-compare_parts-count
slice_bounds-compare_parts-count c = omega (arith, c.counts_end-from1.ensures, accepted_long c.args.stock.now c.args.first.now c.in_ok-n1.n1 c.read_transducer.ensures c.in_ok-n1.was)

pub slice_bounds-compare_parts-start : goal.slice_bounds-compare_parts-start
slice_bounds-compare_parts-start c = omega (arith, c.counts_end-from1.ensures, accepted_long c.args.stock.now c.args.first.now c.in_ok-n1.n1 c.read_transducer.ensures c.in_ok-n1.was)

pub slice_bounds-compare_parts-end-3 : goal.slice_bounds-compare_parts-end-3
slice_bounds-compare_parts-end-3 c = omega (arith, c.counts_end-from2.ensures, accepted_long c.args.stock.now c.args.second.now c.in_ok-n2.n2 c.read_transducer-2.ensures c.in_ok-n2.was)

pub slice_bounds-compare_parts-count-3 : goal.slice_bounds-compare_parts-count-3
slice_bounds-compare_parts-count-3 c = omega (arith, c.counts_end-from2.ensures, accepted_long c.args.stock.now c.args.second.now c.in_ok-n2.n2 c.read_transducer-2.ensures c.in_ok-n2.was)

pub slice_bounds-compare_parts-start-3 : goal.slice_bounds-compare_parts-start-3
slice_bounds-compare_parts-start-3 c = omega (arith, c.counts_end-from2.ensures, accepted_long c.args.stock.now c.args.second.now c.in_ok-n2.n2 c.read_transducer-2.ensures c.in_ok-n2.was)

pub compare_parts-requires : goal.compare_parts-requires
compare_parts-requires c = (opened_machine (opened_at c.args.stock.now c.args.first.now c.in_ok-n1.n1 c.read_transducer.ensures c.in_ok-n1.was c.counts_end-from1.result c.counts_end-from1.ensures refl), opened_machine (opened_at c.args.stock.now c.args.second.now c.in_ok-n2.n2 c.read_transducer-2.ensures c.in_ok-n2.was c.counts_end-from2.result c.counts_end-from2.ensures refl), omega (arith, c.if-tree-lt1536.false), omega (arith, c.if-address-lt16128.false))

pub returns : goal.returns
returns c = files_compared (opened_at c.args.stock.now c.args.first.now c.in_ok-n1.n1 c.read_transducer.ensures c.in_ok-n1.was c.counts_end-from1.result c.counts_end-from1.ensures refl) (opened_at c.args.stock.now c.args.second.now c.in_ok-n2.n2 c.read_transducer-2.ensures c.in_ok-n2.was c.counts_end-from2.result c.counts_end-from2.ensures refl) (omega (arith, c.if-tree-lt1536.false)) (omega (arith, c.if-address-lt16128.false)) c.compare_parts.result c.compare_parts.ensures

pub returns-in_err-n2 : goal.returns-in_err-n2
returns-in_err-n2 c =
    let p = err_from_is_err_and c.from_residual-in_err-n2.result c.from_residual-in_err-n2.ensures.1 in
    rw (p.1, p.2) (pass (omega (arith, c.if-tree-lt1536.false), omega (arith, c.if-address-lt16128.false)) (second_refused (opened_at c.args.stock.now c.args.first.now c.in_ok-n1.n1 c.read_transducer.ensures c.in_ok-n1.was _ refl refl) c.args.second.now (form_check c.args.stock.now c.args.first.now (form_check c.args.stock.now c.args.second.now done)) (refl, refl) c.read_transducer-2.ensures c.in_err-n2.was))

pub returns-in_err-n1 : goal.returns-in_err-n1
returns-in_err-n1 c =
    let p = err_from_is_err_and c.from_residual.result c.from_residual.ensures.1 in
    rw (p.1, p.2) (pass (omega (arith, c.if-tree-lt1536.false), omega (arith, c.if-address-lt16128.false)) (not_opened c.args.stock.now c.args.first.now (sheet_check c.args.stock.now c.args.second.now (form_check c.args.stock.now c.args.first.now (form_check c.args.stock.now c.args.second.now done))) (refl, refl) c.read_transducer.ensures c.in_err-n1.was))
