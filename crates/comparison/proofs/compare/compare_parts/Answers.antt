-- `compare_parts` meets its contract: the first earliest form, and then what is answered of it and of the second. Assumes nothing.
use Rattle.std.proofs.lemmas.Result.{err_from_is_err_and}
use Rattle.trees.proofs.Tried.{none_refused, some_given}
use Rattle.comparison.proofs.Comparing.{parts_over, early_form, parts_with}
use Rattle.comparison.proofs.compare.compare_parts.Goals as goal

pub compare_with-requires : goal.compare_with-requires
compare_with-requires c = (early_form c.requires.0 c.form_of_parts.ensures (some_given _ c.ok_or.ensures.value c.in_ok-k1.was), c.requires.1, c.requires.2, c.requires.3)

pub returns : goal.returns
returns c = parts_with c.requires.0 c.form_of_parts.ensures (some_given _ c.ok_or.ensures.value c.in_ok-k1.was) c.compare_with.result c.compare_with.ensures

pub returns-in_err-k1 : goal.returns-in_err-k1
returns-in_err-k1 c =
    let p = err_from_is_err_and c.from_residual.result c.from_residual.ensures.1 in
    let w = none_refused c.ok_or.ensures.value c.in_err-k1.was in
    rw (p.1, p.2, w.1) (parts_over c.requires.0 c.form_of_parts.ensures w.0)
