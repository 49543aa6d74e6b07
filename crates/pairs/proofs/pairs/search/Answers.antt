-- `search` meets its contract: at first each state is in a class of its own, and then the pairs are walked. Assumes nothing.
use native.Mathlib.Nat.{zero-add}
use native.Mathlib.Omega.{arith}
use mathlib.Core.Path.{◌∙◌}
use Rattle.std.proofs.lemmas.Result.{err_from_is_err_and}
use Rattle.pairs.proofs.Searching.{search_start, search_clash, search_end}
use Rattle.pairs.proofs.pairs.search.Goals as goal

pub walk_pair-requires : goal.walk_pair-requires
walk_pair-requires c = search_start (rw (c.start_classes.auto.classes, c.start_classes-2.auto.classes) c.requires.0) c.requires.1 (λ x h. c.start_classes.ensures x (omega (arith, h, c.start_classes.auto.classes)) ∙ zero-add x) (λ y h. c.start_classes-2.ensures y (omega (arith, h, c.start_classes-2.auto.classes)))

pub returns : goal.returns
returns c = search_end c.walk_pair.ensures _ c.in_ok-n.was c.walk_pairs.ensures (c.walk_pairs.auto.classes1 ∙ c.walk_pair.auto.classes1 ∙ c.start_classes.auto.classes) (c.walk_pairs.auto.classes2 ∙ c.walk_pair.auto.classes2 ∙ c.start_classes-2.auto.classes) (c.walk_pair.auto.classes1 ∙ c.start_classes.auto.classes) (c.walk_pair.auto.classes2 ∙ c.start_classes-2.auto.classes)

pub returns-in_err-n : goal.returns-in_err-n
returns-in_err-n c =
    let p = err_from_is_err_and c.from_residual.result c.from_residual.ensures.1 in
    rw (p.1, p.2) (search_clash c.walk_pair.ensures c.start_classes.auto.classes c.start_classes-2.auto.classes _ c.in_err-n.was)
