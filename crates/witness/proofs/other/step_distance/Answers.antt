-- `step_distance` meets its contract. Assumes nothing.
use native.Mathlib.Omega.{arith}
use Rattle.witness.proofs.Distances.{mark_there, callee, step_same, step_other, step_none, step_call, distance_here, distance_none}
use Rattle.witness.proofs.other.step_distance.Goals as goal

pub bounds-form-at : goal.bounds-form-at
bounds-form-at c = mark_there c.requires.0 c.requires.1 c.from-at.ensures

pub bounds-form-at-2 : goal.bounds-form-at-2
bounds-form-at-2 c = omega (arith, mark_there c.requires.0 c.requires.1 c.from-at.ensures)

pub returns-then-x-b : goal.returns-then-x-b
returns-then-x-b c = distance_none (step_same c.requires.0 c.requires.1 c.from-at.ensures c.args.b c.from-x.ensures c.if-form-at-eq0.true c.if-x-b.true)

pub returns-then-form-at-eq0 : goal.returns-then-form-at-eq0
returns-then-form-at-eq0 c = distance_here (step_other c.requires.0 c.requires.1 c.from-at.ensures c.args.b c.from-x.ensures c.if-form-at-eq0.true c.if-x-b.false) (omega arith) (omega arith)

pub bounds-dist-x : goal.bounds-dist-x
bounds-dist-x c = omega (arith, callee c.requires.0 c.requires.1 c.from-at.ensures c.if-form-at-eq0.false, c.from-x.ensures, c.requires.0.table.long)

pub returns-then-d-eq0 : goal.returns-then-d-eq0
returns-then-d-eq0 c = distance_none (step_none c.requires.0 c.requires.1 c.from-at.ensures c.args.b c.from-x.ensures c.if-form-at-eq0.false c.from-d.ensures c.if-d-eq0.true)

pub returns : goal.returns
returns c = distance_here (step_call c.requires.0 c.requires.1 c.from-at.ensures c.args.b c.from-x.ensures c.if-form-at-eq0.false c.from-d.ensures c.if-d-eq0.false) (omega arith) (omega (arith, c.type_inv.dist c.from-x.result, c.from-d.ensures))
