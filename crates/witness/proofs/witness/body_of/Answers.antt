-- `body_of` meets its contract. Assumes nothing.
use mathlib.Core.Path.{◌∙◌}
use Rattle.witness.proofs.Bottoms.{body_top, body_pair}
use Rattle.witness.proofs.witness.body_of.Goals as goal

pub returns-then-q-eq0 : goal.returns-then-q-eq0
returns-then-q-eq0 c = body_top c.args.ins.now c.args.pairs.now c.args.side c.args.a c.args.q c.if-q-eq0.true

pub returns : goal.returns
returns c = body_pair c.args.ins.now c.args.pairs.now c.args.side c.args.a c.args.q c.if-q-eq0.false (c.from-x.ensures ∙ c.state.ensures)
