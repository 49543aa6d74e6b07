-- `put_step` meets its contract. Assumes nothing.
use native.Mathlib.Omega.{arith}
use Rattle.witness.proofs.Distances.{mark_there, step_put}
use Rattle.witness.proofs.other.put_step.Goals as goal

pub bounds-form-at : goal.bounds-form-at
bounds-form-at c = omega (arith, mark_there c.requires.0.at c.find_step-a.ensures.there c.from-at.ensures)

pub bounds-form-at-2 : goal.bounds-form-at-2
bounds-form-at-2 c = omega (arith, mark_there c.requires.0.at c.find_step-a.ensures.there c.from-at.ensures)

pub returns : goal.returns
returns c = step_put c.requires.0.at c.find_step-a.ensures.there c.from-at.ensures c.args.b c.from.ensures c.args.steps.now c.args.k c.find_step-a.ensures
