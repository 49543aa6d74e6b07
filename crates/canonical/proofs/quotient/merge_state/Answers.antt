-- `merge_state` meets its contract. The invariant is `StateLoop`. Assumes nothing.
use native.Mathlib.Omega.{arith}
use Rattle.canonical.proofs.Quotients.{class_state, state_none, state_numbers, state_copyable, state_next, state_end}
use Rattle.canonical.proofs.quotient.merge_state.Goals as goal

pub bounds-least-k : goal.bounds-least-k
bounds-least-k c = (class_state c.requires.whole c.requires.class).2

pub loop-a-init : goal.loop-a-init
loop-a-init c = state_none c.requires

pub overflow_mul-j : goal.overflow_mul-j
overflow_mul-j c = omega (arith, state_numbers c.requires c.from-p.ensures c.loop-a-test.true)

pub overflow_add-j : goal.overflow_add-j
overflow_add-j c = omega (arith, state_numbers c.requires c.from-p.ensures c.loop-a-test.true)

pub overflow_add-j-in-loop-a : goal.overflow_add-j-in-loop-a
overflow_add-j-in-loop-a c = omega (arith, state_numbers c.requires c.from-p.ensures c.loop-a-test.true)

pub overflow_mul-b : goal.overflow_mul-b
overflow_mul-b c = omega (arith, state_numbers c.requires c.from-p.ensures c.loop-a-test.true)

pub overflow_add-b : goal.overflow_add-b
overflow_add-b c = omega (arith, state_numbers c.requires c.from-p.ensures c.loop-a-test.true)

pub overflow_add-b-in-loop-a : goal.overflow_add-b-in-loop-a
overflow_add-b-in-loop-a c = omega (arith, state_numbers c.requires c.from-p.ensures c.loop-a-test.true)

pub add_keys-requires : goal.add_keys-requires
add_keys-requires c = state_copyable c.requires c.loop-a.invariant c.loop-a-test.true c.from-p.ensures

pub loop-a-preserved : goal.loop-a-preserved
loop-a-preserved c = state_next c.requires c.loop-a.invariant c.loop-a-test.true c.from-p.ensures c.add_keys.ensures

pub shape_of-starts2 : goal.shape_of-starts2
shape_of-starts2 c = c.loop-a.invariant.same_starts

pub shape_of-out : goal.shape_of-out
shape_of-out c = c.loop-a.invariant.same_bytes

pub returns : goal.returns
returns c = state_end c.requires c.loop-a.invariant c.loop-a-test.false
