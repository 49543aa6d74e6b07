-- `symbol_at` meets its contract: the parts of the file, and then what is answered of them. Assumes nothing.
use native.Mathlib.Omega.{arith}
use mathlib.Core.Path.{refl}
use Rattle.std.proofs.lemmas.Result.{err_from_is_err_and}
use Rattle.trees.specs.Refusal.{done as no_more}
use Rattle.trees.specs.Tree.{tree_check}
use Rattle.formats.proofs.Verdicts.{accepted_alphabets, accepted_states, accepted_long}
use Rattle.transducer.proofs.Opening.{opened_at, opened_machine, not_opened}
use Rattle.queries.proofs.Following.{file_finds}
use Rattle.queries.proofs.address.symbol_at.Goals as goal

pub counts_end-from-requires : goal.counts_end-from-requires
counts_end-from-requires c = (accepted_alphabets c.args.stock.now c.args.sheet.now c.in_ok-n.n c.read_transducer.ensures c.in_ok-n.was, omega (arith, accepted_states c.args.stock.now c.args.sheet.now c.in_ok-n.n c.read_transducer.ensures c.in_ok-n.was))

pub slice_bounds-symbol_by-end : goal.slice_bounds-symbol_by-end
slice_bounds-symbol_by-end c = omega (arith, c.counts_end-from.ensures, accepted_long c.args.stock.now c.args.sheet.now c.in_ok-n.n c.read_transducer.ensures c.in_ok-n.was)

pub symbol_by-requires : goal.symbol_by-requires
symbol_by-requires c = opened_machine (opened_at c.args.stock.now c.args.sheet.now c.in_ok-n.n c.read_transducer.ensures c.in_ok-n.was c.counts_end-from.result c.counts_end-from.ensures refl)

pub returns : goal.returns
returns c = file_finds (opened_at c.args.stock.now c.args.sheet.now c.in_ok-n.n c.read_transducer.ensures c.in_ok-n.was c.counts_end-from.result c.counts_end-from.ensures refl) c.args.address.now c.symbol_by.result c.symbol_by.ensures

pub returns-in_err-n : goal.returns-in_err-n
returns-in_err-n c =
    let a = c.args in
    let p = err_from_is_err_and c.from_residual.result c.from_residual.ensures.1 in
    rw (p.1, p.2) (not_opened a.stock.now a.sheet.now (tree_check a.stock.now a.design.now no_more) tt c.read_transducer.ensures c.in_err-n.was)
