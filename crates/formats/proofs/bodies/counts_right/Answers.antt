-- `counts_right` meets its contract. The invariant: the counts passed are right, and the sum is the offset. Assumes nothing.
use Rattle.formats.proofs.Counts.{count_none, count_many, count_more}
use Rattle.formats.proofs.bodies.counts_right.Goals as goal

pub loop-j-init : goal.loop-j-init
loop-j-init c = count_none c.args.counts.now

pub returns-then-sum-gt8192 : goal.returns-then-sum-gt8192
returns-then-sum-gt8192 c = count_many c.loop-j.invariant c.requires c.loop-j-test.true c.count-c.ensures c.if-sum-gt8192.true

pub loop-j-preserved : goal.loop-j-preserved
loop-j-preserved c = count_more c.loop-j.invariant c.requires c.loop-j-test.true c.count-c.ensures c.if-c-eq0.false c.if-c-gt64.false c.if-sum-gt8192.false
