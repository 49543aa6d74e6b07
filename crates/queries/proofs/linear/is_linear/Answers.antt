-- `is_linear` meets its contract. Assumes nothing.
use Prim.Native.Nat.{ℕ}
use native.Mathlib.Omega.{arith}
use mathlib.Core.Path.{◌∙◌}
use lib.ListN.{length-replicate}
use Rattle.std.proofs.lemmas.Result.{err_from_is_err_and}
use Rattle.trees.specs.Refusal.{done as no_more}
use Rattle.formats.proofs.Verdicts.{accepted_alphabets, accepted_states, accepted_long}
use Rattle.transducer.proofs.Opening.{opened_at, not_opened, starts_fit}
use Rattle.queries.proofs.Reached.{opened_bodies, tested}
use Rattle.queries.proofs.linear.is_linear.Goals as goal

pub counts_end-from-requires : goal.counts_end-from-requires
counts_end-from-requires c = (accepted_alphabets c.args.stock.now c.args.sheet.now c.in_ok-n.n c.read_transducer.ensures c.in_ok-n.was, omega (arith, accepted_states c.args.stock.now c.args.sheet.now c.in_ok-n.n c.read_transducer.ensures c.in_ok-n.was))

pub input_ranks-inputs-requires : goal.input_ranks-inputs-requires
input_ranks-inputs-requires c = accepted_alphabets c.args.stock.now c.args.sheet.now c.in_ok-n.n c.read_transducer.ensures c.in_ok-n.was

pub slice_bounds-fill_starts-end : goal.slice_bounds-fill_starts-end
slice_bounds-fill_starts-end c = omega (arith, c.counts_end-from.ensures, accepted_long c.args.stock.now c.args.sheet.now c.in_ok-n.n c.read_transducer.ensures c.in_ok-n.was)

pub fill_starts-requires : goal.fill_starts-requires
fill_starts-requires c = starts_fit (opened_at c.args.stock.now c.args.sheet.now c.in_ok-n.n c.read_transducer.ensures c.in_ok-n.was c.counts_end-from.result c.counts_end-from.ensures c.input_ranks-inputs.ensures)

pub read_reached-requires : goal.read_reached-requires
read_reached-requires c = let F = c.fill_starts in opened_bodies (opened_at c.args.stock.now c.args.sheet.now c.in_ok-n.n c.read_transducer.ensures c.in_ok-n.was c.counts_end-from.result c.counts_end-from.ensures c.input_ranks-inputs.ensures) F.new.starts F.ensures.starts (F.auto.starts ∙ length-replicate {A = ℕ} 2050 0)

pub returns : goal.returns
returns c = let F = c.fill_starts in tested (opened_at c.args.stock.now c.args.sheet.now c.in_ok-n.n c.read_transducer.ensures c.in_ok-n.was c.counts_end-from.result c.counts_end-from.ensures c.input_ranks-inputs.ensures) F.new.starts F.ensures.starts c.read_reached.result c.read_reached.ensures

pub returns-in_err-n : goal.returns-in_err-n
returns-in_err-n c =
    let p = err_from_is_err_and c.from_residual.result c.from_residual.ensures.1 in
    rw (p.1, p.2) (not_opened c.args.stock.now c.args.sheet.now no_more tt c.read_transducer.ensures c.in_err-n.was)
