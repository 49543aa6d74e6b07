-- `locate` meets its contract. The invariant: letter i of the prefix stands for the tree at position p. Assumes nothing.
use native.Mathlib.Omega.{arith}
use Prim.Native.Nat.{◌<◌}
use mathlib.Core.Path.{◌∙◌}
use lib.Seq.{length-take-le, get_or-take}
use Rattle.prefixes.proofs.Ends.{end_there, end_right}
use Rattle.earliest.proofs.Locating.{letter_ranks, locating_start, tree_there, tree_inside, locating_done, next_symbol, next_top}
use Rattle.earliest.proofs.expand.locate.Goals as goal
use Rattle.earliest.proofs.expand.locate.Goals.{then-from-outs, else-from-outs}

pub loop-x-init : goal.loop-x-init
loop-x-init c = locating_start c.requires

pub overflow_add-p : goal.overflow_add-p
overflow_add-p c = omega (arith, tree_inside c.requires c.loop-x.invariant)

pub tree_end-p-requires : goal.tree_end-p-requires
tree_end-p-requires c = end_there (letter_ranks _) _ _ (tree_there c.requires c.loop-x.invariant)

pub loop-x-preserved : goal.loop-x-preserved
loop-x-preserved c =
    let L = c.requires in
    let W = c.loop-x.invariant in
    let i = c.loop-x.x-index in
    let there : i < c.args.m = omega (arith, length-take-le c.args.m c.args.head.now (omega (arith, L.there)), c.loop-x-test.true) in
    let here = c.from.ensures ∙ get_or-take c.args.m c.args.head.now i 0 there in
    elim c.if-from-outs.branch [
      | then-from-outs w ↦ next_symbol L W there here w.if-from-outs.true w.p-is
      | else-from-outs w ↦ next_top L W there here (omega arith) (end_right (letter_ranks _) _ _ (tree_there L W) w.tree_end-p.ensures) w.p-is
    ]

pub returns : goal.returns
returns c = locating_done c.requires c.loop-x.invariant (omega (arith, length-take-le c.args.m c.args.head.now (omega (arith, c.requires.there)), c.loop-x-test.false))
