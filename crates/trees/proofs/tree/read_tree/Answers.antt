-- `read_tree` meets its contract: the first check that fails refuses. Assumes nothing.
use mathlib.Core.Path.{subst}
use Rattle.trees.specs.Inner.Measured.{MeasuredAll}
use Rattle.trees.proofs.Deciding.{refuted, held}
use Rattle.trees.proofs.Judging.{refuse, pass, accept}
use Rattle.trees.proofs.Trees.{measured_tree, measured_none}
use Rattle.std.proofs.lemmas.Result.{err_from_is_err_and}
use Rattle.trees.proofs.Tried.{none_refused, some_given}
use Rattle.trees.proofs.tree.read_tree.Goals as goal

pub returns-then-not-alphabets_right : goal.returns-then-not-alphabets_right
returns-then-not-alphabets_right c =
    refuse (refuted c.alphabets_right.ensures c.if-not-alphabets_right.true-raw) tt

pub input_ranks-requires : goal.input_ranks-requires
input_ranks-requires c = held c.alphabets_right.ensures c.if-not-alphabets_right.false-raw

pub returns : goal.returns
returns c =
    let s = c.args.design.now in
    let m = c.measure_all in
    let M = subst (λ ins. MeasuredAll ins s m.result) c.input_ranks.ensures m.ensures in
    let w = measured_tree M (some_given _ c.ok_or.ensures.value c.in_ok-tree.was) in
    pass (held c.alphabets_right.ensures c.if-not-alphabets_right.false-raw) (pass (w.0, w.1.0) (accept w))

pub returns-in_err-tree : goal.returns-in_err-tree
returns-in_err-tree c =
    let s = c.args.design.now in
    let m = c.measure_all in
    let M = subst (λ ins. MeasuredAll ins s m.result) c.input_ranks.ensures m.ensures in
    let p = err_from_is_err_and c.from_residual.result c.from_residual.ensures.1 in
    let w = none_refused c.ok_or.ensures.value c.in_err-tree.was in
    rw (p.1, p.2, w.1) (pass (held c.alphabets_right.ensures c.if-not-alphabets_right.false-raw) (refuse (measured_none M w.0) tt))
