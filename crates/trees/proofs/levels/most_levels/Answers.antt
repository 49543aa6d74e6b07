-- `most_levels` meets its contract. The invariant: the largest of those passed. Assumes nothing.
use Prim.Native.Nat.{◌+◌, ◌-◌, max}
use native.Mathlib.Omega.{arith}
use mathlib.Core.Path.{◌≡◌, ◌∙◌, ap, refl}
use lib.ListN.{get_or, take, drop}
use Rattle.std.proofs.lemmas.Grind.{common_steps}
use Rattle.trees.specs.Inner.Measured.{most}
use Rattle.trees.proofs.Standing.{most_next}
use Rattle.trees.proofs.Numbers.{max_is}
use Rattle.trees.proofs.levels.most_levels.Goals as goal

pub loop-level-init : goal.loop-level-init
unfolding most
loop-level-init c = refl

pub loop-level-preserved : goal.loop-level-preserved
loop-level-preserved c =
    let l = c.loop-level in
    let from = c.args.behind - c.args.n in
    let t = c.args.levels.now in
    let here : get_or (take (c.args.behind - from) (drop from t)) l.level-index 0 ≡ get_or t (from + l.level-index) 0 = grind (arith, common_steps) in
    most_next t from l.level-index l.deep c.max-deep.result l.invariant (c.max-deep.ensures ∙ max_is _ _ ∙ ap (max l.deep) (c.from.ensures ∙ here))
