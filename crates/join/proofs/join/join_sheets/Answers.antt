-- `join_sheets` meets its contract: both files are read, and then what is answered of their parts. Assumes nothing.
use native.Mathlib.Omega.{arith}
use mathlib.Core.Path.{refl}
use Rattle.std.proofs.lemmas.Result.{err_from_is_err_and}
use Rattle.formats.proofs.Verdicts.{accepted_states, accepted_long}
use Rattle.transducer.proofs.Opening.{opened_at}
use Rattle.join.proofs.Entering.{both_opened, first_refused, second_refused}
use Rattle.join.proofs.Forming.{sheets_joined}
use Rattle.join.proofs.join.join_sheets.Goals as goal

-- the refusal of the first file comes before that of the second (first here: it is what the edit second_before_first breaks)
pub returns-in_err-n1 : goal.returns-in_err-n1
returns-in_err-n1 c =
    let a = c.args in
    let p = err_from_is_err_and c.from_residual.result c.from_residual.ensures.1 in
    rw (p.1, p.2) (first_refused a.first.now a.second.now a.sheet1.now a.sheet2.now a.area.now c.requires.0 c.read_transducer.ensures c.in_err-n1.was)

pub counts_end-from1-requires : goal.counts_end-from1-requires
counts_end-from1-requires c = (c.requires.0, omega (arith, accepted_states c.args.first.now c.args.sheet1.now c.in_ok-n1.n1 c.read_transducer.ensures c.in_ok-n1.was))

pub counts_end-from2-requires : goal.counts_end-from2-requires
counts_end-from2-requires c = (c.requires.1, omega (arith, accepted_states c.args.second.now c.args.sheet2.now c.in_ok-n2.n2 c.read_transducer-2.ensures c.in_ok-n2.was))

pub slice_bounds-join_file-end : goal.slice_bounds-join_file-end
slice_bounds-join_file-end c = omega (arith, c.counts_end-from1.ensures, accepted_long c.args.first.now c.args.sheet1.now c.in_ok-n1.n1 c.read_transducer.ensures c.in_ok-n1.was)

pub slice_bounds-join_file-end-3 : goal.slice_bounds-join_file-end-3
slice_bounds-join_file-end-3 c = omega (arith, c.counts_end-from2.ensures, accepted_long c.args.second.now c.args.sheet2.now c.in_ok-n2.n2 c.read_transducer-2.ensures c.in_ok-n2.was)

pub join_file-requires : goal.join_file-requires
join_file-requires c =
    let O = opened_at c.args.first.now c.args.sheet1.now c.in_ok-n1.n1 c.read_transducer.ensures c.in_ok-n1.was c.counts_end-from1.result c.counts_end-from1.ensures refl in
    let O' = opened_at c.args.second.now c.args.sheet2.now c.in_ok-n2.n2 c.read_transducer-2.ensures c.in_ok-n2.was c.counts_end-from2.result c.counts_end-from2.ensures refl in
    (both_opened O O' c.requires.2, c.requires.3)

pub returns : goal.returns
returns c =
    let O = opened_at c.args.first.now c.args.sheet1.now c.in_ok-n1.n1 c.read_transducer.ensures c.in_ok-n1.was c.counts_end-from1.result c.counts_end-from1.ensures refl in
    let O' = opened_at c.args.second.now c.args.sheet2.now c.in_ok-n2.n2 c.read_transducer-2.ensures c.in_ok-n2.was c.counts_end-from2.result c.counts_end-from2.ensures refl in
    sheets_joined O O' c.join_file.result c.join_file.ensures

pub returns-in_err-n2 : goal.returns-in_err-n2
returns-in_err-n2 c =
    let a = c.args in
    let p = err_from_is_err_and c.from_residual-in_err-n2.result c.from_residual-in_err-n2.ensures.1 in
    rw (p.1, p.2) (second_refused a.first.now a.second.now a.sheet1.now a.sheet2.now a.area.now c.read_transducer.ensures c.in_ok-n1.was c.requires.1 c.read_transducer-2.ensures c.in_err-n2.was)
