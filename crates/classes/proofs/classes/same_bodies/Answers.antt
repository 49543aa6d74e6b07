-- `same_bodies` meets its contract. Assumes nothing.
use mathlib.Core.Path.{refl}
use native.Mathlib.Omega.{arith}
use Rattle.classes.proofs.Keys.{body_keyable, other_size}
use Rattle.classes.proofs.classes.same_bodies.Goals as goal

pub returns-then-from-other : goal.returns-then-from-other
returns-then-from-other c = other_size c.requires.0 c.args.i c.args.j c.requires.1 c.requires.2 c.from-from.ensures c.from-other.ensures c.from.ensures c.from-2.ensures c.if-from-other.true

pub same_marks-requires : goal.same_marks-requires
same_marks-requires c = (body_keyable c.requires.0 c.args.i c.requires.1 c.from-from.ensures c.from.ensures refl, body_keyable c.requires.0 c.args.j c.requires.2 c.from-other.ensures c.from-2.ensures (omega arith))
