-- `counted` meets its contract: a record adds its count. Assumes nothing.
use Rattle.records.proofs.Chains.{counts_none, counts_more}
use Rattle.records.proofs.chain.counted.Goals as goal

pub loop-record-init : goal.loop-record-init
loop-record-init c = counts_none c.args.records.now

pub loop-record-preserved : goal.loop-record-preserved
loop-record-preserved c = let e = counts_more c.args.records.now c.loop-record.record-index c.loop-record.invariant in cc
