-- `settle_classes` meets its contract. Assumes nothing.
use Rattle.merging.proofs.Stable.{numbered_start, stable_settles, kept_settles}
use mathlib.Core.Path.{◌∙◌}
use Rattle.merging.proofs.refining.settle_classes.Goals as goal

pub refine_classes-requires : goal.refine_classes-requires
refine_classes-requires c = numbered_start c.requires.0 c.pattern_classes.auto.classes c.pattern_classes.ensures c.number_classes-count.ensures (c.number_classes-count.auto.new ∙ c.requires.1) c.copy_at.ensures

pub returns-then-refine_classes : goal.returns-then-refine_classes
returns-then-refine_classes c =
    let copy = c.copy_at.auto.area ∙ c.pattern_classes.auto.classes in
    stable_settles (rw copy at c.refine_classes.ensures.stable) (c.refine_classes.auto.old ∙ copy) (c.number_classes.auto.new ∙ c.refine_classes.auto.new ∙ c.number_classes-count.auto.new ∙ c.requires.1) c.number_classes.ensures

pub returns : goal.returns
returns c =
    let new = c.number_classes-count.auto.new ∙ c.requires.1 in
    kept_settles c.refine_classes.ensures c.if-refine_classes.false c.number_classes-count.ensures c.pattern_classes.auto.classes new c.copy_at.ensures (c.refine_classes.auto.new ∙ new)
