-- `merge` meets its contract. The invariant is `MergeLoop`. Assumes nothing.
use native.Mathlib.Omega.{arith}
use mathlib.Core.Path.{refl, ◌∙◌}
use lib.ListN.{length-set}
use Rattle.canonical.proofs.Quotients.{initial_copyable, merge_none, state_mergeable, merge_next, merge_end}
use Rattle.canonical.proofs.quotient.merge.Goals as goal

pub bounds-starts2-0 : goal.bounds-starts2-0
bounds-starts2-0 c = omega (arith, c.requires.starts_room)

pub add_keys-requires : goal.add_keys-requires
add_keys-requires c = initial_copyable c.requires

pub loop-k-init : goal.loop-k-init
loop-k-init c = (refl, refl, merge_none c.requires c.add_keys.ensures)

pub merge_state-requires : goal.merge_state-requires
merge_state-requires c = state_mergeable c.requires c.loop-k.invariant.2 c.loop-k-test.true

pub loop-k-preserved : goal.loop-k-preserved
loop-k-preserved c =
    let s = c.merge_state.auto.starts2 in
    let o = c.merge_state.auto.out in
    (s ∙ c.loop-k.invariant.0, o ∙ c.loop-k.invariant.1, merge_next c.requires c.loop-k.invariant.2 c.loop-k-test.true s o c.merge_state.ensures)

pub shape_of-starts2 : goal.shape_of-starts2
shape_of-starts2 c = c.loop-k.invariant.0 ∙ c.add_keys.auto.starts2 ∙ length-set c.args.starts2.now 0 0

pub shape_of-out : goal.shape_of-out
shape_of-out c = c.loop-k.invariant.1 ∙ c.add_keys.auto.out

pub returns : goal.returns
returns c = merge_end c.requires c.loop-k.invariant.2 c.loop-k-test.false
