-- `root_on_leaf` meets its contract. Assumes nothing.
use native.Mathlib.Omega.{arith}
use Rattle.witness.proofs.Bottoms.{leaf_mark_inside, leaf_root}
use Rattle.witness.proofs.witness.root_on_leaf.Goals as goal

pub bounds-form-at : goal.bounds-form-at
bounds-form-at c = leaf_mark_inside c.requires (omega (arith, c.if-mark-eq0.false)) c.from-at.ensures

pub returns : goal.returns
returns c = leaf_root c.requires (omega (arith, c.if-mark-eq0.false)) c.from-at.ensures c.from.ensures
