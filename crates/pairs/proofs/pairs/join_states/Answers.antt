-- `join_states` meets its contract: two states of one class stay as they are, and two classes are joined. Assumes nothing.
use native.Mathlib.Omega.{arith}
use mathlib.Core.Path.{sym, ap, ◌∙◌}
use Rattle.classes.specs.Inner.Classes.{at}
use Rattle.pairs.proofs.Joining.{added, pair_room, joins_old, joins_new}
use Rattle.pairs.proofs.pairs.join_states.Goals as goal

pub returns-then-c-d : goal.returns-then-c-d
returns-then-c-d c = joins_old c.requires.0 (sym (ap (at c.args.classes1.now) c.from.ensures) ∙ c.if-c-d.true ∙ ap (at c.args.classes2.now) c.from-2.ensures)

pub returns : goal.returns
returns c =
    let C = c.args.classes1.now in
    let D = c.args.classes2.now in
    let e = ap (at C) c.from.ensures in
    let f = ap (at D) c.from-2.ensures in
    joins_new c.requires.0 c.requires.1 c.requires.2 (λ g. c.if-c-d.false (e ∙ g ∙ sym f)) (rw (e, f) at c.join.ensures) (rw (e, f) at c.join-2.ensures) (added c.args.pairs.now c.args.count c.args.pair (omega (arith, pair_room c.requires.0 c.requires.1 c.requires.2 (λ g. c.if-c-d.false (e ∙ g ∙ sym f)), c.requires.0.room)))
