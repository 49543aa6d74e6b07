-- `write_found` meets its contract: the file of the form, or the refusal. Assumes nothing.
use native.Mathlib.Omega.{arith}
use Rattle.std.proofs.lemmas.Result.{err_from_is_err_and}
use Rattle.trees.proofs.Tried.{none_refused, some_given}
use Rattle.forms.proofs.Filing.{form_bounds, writes_form, writes_over}
use Rattle.forms.proofs.write.write_found.Goals as goal

pub write_form-bytes-requires : goal.write_form-bytes-requires
write_form-bytes-requires c = c.requires.each c.in_ok-states.states (some_given _ c.ok_or.ensures.value c.in_ok-states.was)

pub input_ranks-requires : goal.input_ranks-requires
input_ranks-requires c = (c.requires.each c.in_ok-states.states (some_given _ c.ok_or.ensures.value c.in_ok-states.was)).alphabets

pub overflow_mul-bodies : goal.overflow_mul-bodies
overflow_mul-bodies c = omega (arith, (form_bounds (c.requires.each c.in_ok-states.states (some_given _ c.ok_or.ensures.value c.in_ok-states.was)) c.input_ranks.ensures).0)

pub overflow_add-bodies : goal.overflow_add-bodies
overflow_add-bodies c = omega (arith, (form_bounds (c.requires.each c.in_ok-states.states (some_given _ c.ok_or.ensures.value c.in_ok-states.was)) c.input_ranks.ensures).0)

pub offset_bounds-starts-bodies : goal.offset_bounds-starts-bodies
offset_bounds-starts-bodies c = omega (arith, (form_bounds (c.requires.each c.in_ok-states.states (some_given _ c.ok_or.ensures.value c.in_ok-states.was)) c.input_ranks.ensures).0)

pub bounds-starts-bodies : goal.bounds-starts-bodies
bounds-starts-bodies c = (form_bounds (c.requires.each c.in_ok-states.states (some_given _ c.ok_or.ensures.value c.in_ok-states.was)) c.input_ranks.ensures).1

pub returns : goal.returns
returns c = writes_form (some_given _ c.ok_or.ensures.value c.in_ok-states.was) c.input_ranks.ensures c.from.ensures c.write_form-bytes.ensures

pub returns-in_err-states : goal.returns-in_err-states
returns-in_err-states c =
    let p = err_from_is_err_and c.from_residual.result c.from_residual.ensures.1 in
    let w = none_refused c.ok_or.ensures.value c.in_err-states.was in
    rw (p.1, p.2, w.1) (writes_over w.0)
