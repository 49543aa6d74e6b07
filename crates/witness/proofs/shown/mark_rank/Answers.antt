-- `mark_rank` meets its contract: a call has no children, and a symbol as many as its rank says. Assumes nothing.
use mathlib.Core.Path.{◌∙◌}
use native.Mathlib.Omega.{arith}
use Rattle.witness.proofs.Addresses.{rank_call, rank_symbol, rank_unknown}
use Rattle.witness.proofs.shown.mark_rank.Goals as goal

pub returns-then-i-gt0 : goal.returns-then-i-gt0
returns-then-i-gt0 c = rank_call c.args.outs.now c.args.marks.now c.args.k c.requires c.from-i.ensures c.from-b.ensures c.if-i-gt0.true

pub returns-then-b-outs : goal.returns-then-b-outs
returns-then-b-outs c = rank_unknown c.args.outs.now c.args.marks.now c.args.k c.requires c.from-i.ensures c.from-b.ensures (omega arith) c.if-b-outs.true

pub returns : goal.returns
returns c = c.from.ensures ∙ rank_symbol c.args.outs.now c.args.marks.now c.args.k c.requires c.from-i.ensures c.from-b.ensures (omega arith)
