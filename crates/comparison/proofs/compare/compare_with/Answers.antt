-- `compare_with` meets its contract: the second earliest form, and then what is answered of the two. Assumes nothing.
use mathlib.Core.Path.{refl}
use Rattle.std.proofs.lemmas.Result.{err_from_is_err_and}
use Rattle.trees.proofs.Tried.{none_refused, some_given}
use Rattle.comparison.proofs.Comparing.{parts_second_over, parts_comparable, parts_compared}
use Rattle.comparison.proofs.compare.compare_with.Goals as goal

pub compare_forms-requires : goal.compare_forms-requires
compare_forms-requires c = (parts_comparable c.requires.0.machine c.requires.0.earliest c.requires.1 c.form_of_parts.ensures refl (some_given _ c.ok_or.ensures.value c.in_ok-k2.was) c.input_ranks.ensures c.output_ranks.ensures, c.requires.2, c.requires.3)

pub returns : goal.returns
returns c = λ n counts bytes X B. parts_compared X B c.requires.1 c.form_of_parts.ensures refl (some_given _ c.ok_or.ensures.value c.in_ok-k2.was) c.input_ranks.ensures c.output_ranks.ensures c.compare_forms.result c.compare_forms.ensures

pub returns-in_err-k2 : goal.returns-in_err-k2
returns-in_err-k2 c =
    let p = err_from_is_err_and c.from_residual.result c.from_residual.ensures.1 in
    let w = none_refused c.ok_or.ensures.value c.in_err-k2.was in
    rw (p.1, p.2, w.1) (λ n counts bytes X B. parts_second_over X B c.requires.1 c.form_of_parts.ensures refl w.0)
