-- `follow` meets its contract: the next body starts where the one before ends. Assumes nothing.
use Rattle.std.proofs.Common.{refl, arith}
use Rattle.trees.proofs.Deciding.{decides_no}
use Rattle.records.proofs.Chains.{passed_none, passed_more, next_size}
use Rattle.records.proofs.chain.follow.Goals as goal

pub loop-record-init : goal.loop-record-init
loop-record-init c = (passed_none, omega arith)

pub returns-then-record-used : goal.returns-then-record-used
returns-then-record-used c = decides_no (λ Q. omega (arith, next_size c.loop-record.invariant.0 c.loop-record-test.true Q))

pub loop-record-preserved : goal.loop-record-preserved
loop-record-preserved c = (passed_more c.loop-record.invariant.0 refl (omega arith), omega arith)
