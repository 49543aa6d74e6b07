-- `symbol_by` meets its contract. Assumes nothing.
use Prim.Native.Nat.{ℕ}
use native.Mathlib.Omega.{arith}
use mathlib.Core.Path.{◌∙◌}
use lib.ListN.{length-replicate}
use Rattle.std.proofs.lemmas.Result.{err_from_is_err_and}
use Rattle.trees.proofs.Tried.{none_refused, some_given}
use Rattle.transducer.proofs.Translating.{starts_fit}
use Rattle.queries.proofs.Following.{no_tree, can_follow, symbol_found}
use Rattle.queries.proofs.address.symbol_by.Goals as goal

pub fill_starts-requires : goal.fill_starts-requires
fill_starts-requires c = starts_fit c.requires c.input_ranks-ins.ensures

pub fill_ends-requires : goal.fill_ends-requires
fill_ends-requires c = ((c.measure_all.ensures.whole _ _ (some_given _ c.ok_or.ensures.value c.in_ok-ok_or.was)).0, omega (arith, length-replicate {A = ℕ} 4096 0))

pub follow-requires : goal.follow-requires
follow-requires c =
    let F = c.fill_starts in
    can_follow c.requires c.input_ranks-ins.ensures c.measure_all.ensures (some_given _ c.ok_or.ensures.value c.in_ok-ok_or.was) c.output_ranks.ensures F.new.starts F.ensures.starts (F.auto.starts ∙ length-replicate {A = ℕ} 2050 0) c.fill_ends.ensures

pub returns : goal.returns
returns c =
    let F = c.fill_starts in
    symbol_found c.requires c.input_ranks-ins.ensures c.measure_all.ensures (some_given _ c.ok_or.ensures.value c.in_ok-ok_or.was) c.output_ranks.ensures F.new.starts F.ensures.starts (F.auto.starts ∙ length-replicate {A = ℕ} 2050 0) c.args.address.now c.follow.ensures

pub returns-in_err-ok_or : goal.returns-in_err-ok_or
returns-in_err-ok_or c =
    let p = err_from_is_err_and c.from_residual.result c.from_residual.ensures.1 in
    let w = none_refused c.ok_or.ensures.value c.in_err-ok_or.was in
    rw (p.1, p.2, w.1) (no_tree c.requires c.input_ranks-ins.ensures c.measure_all.ensures c.args.address.now w.0)
