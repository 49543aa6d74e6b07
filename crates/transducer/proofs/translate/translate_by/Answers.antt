-- `translate_by` meets its contract. Assumes nothing.
use Prim.Native.Nat.{ℕ}
use native.Mathlib.Omega.{arith}
use mathlib.Core.Path.{refl, ◌∙◌}
use lib.ListN.{length-replicate}
use Rattle.std.proofs.lemmas.Result.{err_from_is_err_and}
use Rattle.trees.proofs.Tried.{none_refused, some_given}
use Rattle.transducer.proofs.Translating.{starts_fit, not_tree, can_walk, bodies_there, depths_fit, parts_translate}
use Rattle.transducer.proofs.translate.translate_by.Goals as goal

pub fill_starts-requires : goal.fill_starts-requires
fill_starts-requires c = starts_fit c.requires c.input_ranks-ins.ensures

pub fill_ends-requires : goal.fill_ends-requires
fill_ends-requires c = ((c.measure_all.ensures.whole _ _ (some_given _ c.ok_or.ensures.value c.in_ok-tree.was)).0, omega (arith, length-replicate {A = ℕ} 4096 0))

pub fill_depths-requires : goal.fill_depths-requires
fill_depths-requires c =
    let F = c.fill_starts in
    (bodies_there c.requires c.input_ranks-ins.ensures c.measure_all.ensures (some_given _ c.ok_or.ensures.value c.in_ok-tree.was) F.new.starts F.ensures.starts (F.auto.starts ∙ length-replicate {A = ℕ} 2050 0) _ refl c.output_ranks.ensures, length-replicate {A = ℕ} 8192 0)

pub emit-requires : goal.emit-requires
emit-requires c =
    let F = c.fill_starts in
    let E = c.fill_ends in
    (can_walk c.requires c.input_ranks-ins.ensures c.measure_all.ensures (some_given _ c.ok_or.ensures.value c.in_ok-tree.was) F.new.starts F.ensures.starts (F.auto.starts ∙ length-replicate {A = ℕ} 2050 0) c.from-to.result c.from-to.ensures E.ensures (E.auto.ends ∙ length-replicate {A = ℕ} 4096 0), depths_fit c.requires c.fill_depths.ensures.long)

pub returns : goal.returns
returns c =
    let F = c.fill_starts in
    let D = c.fill_depths in
    parts_translate c.requires c.input_ranks-ins.ensures c.measure_all.ensures (some_given _ c.ok_or.ensures.value c.in_ok-tree.was) F.new.starts F.ensures.starts (F.auto.starts ∙ length-replicate {A = ℕ} 2050 0) c.from-to.result c.from-to.ensures c.output_ranks.ensures D.new.depths D.ensures.noted c.emit.result c.emit.ensures

pub returns-in_err-tree : goal.returns-in_err-tree
returns-in_err-tree c =
    let p = err_from_is_err_and c.from_residual.result c.from_residual.ensures.1 in
    let w = none_refused c.ok_or.ensures.value c.in_err-tree.was in
    rw (p.1, p.2, w.1) (not_tree c.requires c.input_ranks-ins.ensures c.measure_all.ensures w.0)
