-- `caplune_shorter` meets its contract: the part is that of the first file if it is as long as its marks.
-- Assumes nothing.
use native.Mathlib.Omega.{arith}
use Rattle.exports.proofs.Parting.{told_empty, told_first, told_second}
use Rattle.exports.proofs.caplune_shorter.Goals as goal

pub returns-then-part-eq0 : goal.returns-then-part-eq0
returns-then-part-eq0 c = told_empty c.args.stock.now c.args.first.now c.args.second.now c.shorter-part.ensures (omega (arith, c.if-part-eq0.true))

pub returns-then-transducer_marks-part : goal.returns-then-transducer_marks-part
returns-then-transducer_marks-part c = told_first c.args.stock.now c.args.first.now c.args.second.now c.shorter-part.ensures c.transducer_marks.ensures (omega (arith, c.if-part-eq0.false)) (omega (arith, c.if-transducer_marks-part.true))

pub returns : goal.returns
returns c = told_second c.args.stock.now c.args.first.now c.args.second.now c.shorter-part.ensures c.transducer_marks.ensures (omega (arith, c.if-part-eq0.false)) (λ e. omega (arith, e, c.if-transducer_marks-part.false))
