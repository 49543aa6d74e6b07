-- `note_ends` meets its contract. The loop's invariant: the ends from mark number k on are noted. Assumes nothing.
use native.Mathlib.Omega.{arith}
use mathlib.Core.Path.{refl, ap, ◌∙◌}
use lib.ListN.{length}
use Rattle.runs.proofs.Marks.{next_known, child_inside, end_fits, one_noted}
use Rattle.runs.proofs.walk.note_ends.Goals as goal

pub children-requires : goal.children-requires
children-requires c = λ e. omega (arith, next_known c.loop-k.invariant c.loop-k-test.true refl refl e, ap length c.input_ranks-ranks.ensures)

pub skip-requires : goal.skip-requires
skip-requires c = child_inside c.loop-k.invariant c.loop-k-test.true (rw c.input_ranks-ranks.ensures at (c.from-n.ensures ∙ c.children.ensures))

pub overflow_cast-ends : goal.overflow_cast-ends
overflow_cast-ends c = omega (arith, end_fits c.loop-k.invariant c.loop-k-test.true (rw c.input_ranks-ranks.ensures at (c.from-n.ensures ∙ c.children.ensures)) c.skip.ensures)

pub loop-k-preserved : goal.loop-k-preserved
loop-k-preserved c = one_noted c.loop-k.invariant c.loop-k-test.true (rw c.input_ranks-ranks.ensures at (c.from-n.ensures ∙ c.children.ensures)) c.skip.ensures
