-- What the loop of `settle` keeps: the patterns stay above the common prefixes. Each turn leaves less to cut. Assumes nothing.
use lib.ListN.{length}
use Rattle.theory.specs.Inner.Total.{total}
use Rattle.prefixes.specs.Inner.Heads.{head_of}
use Rattle.prefixes.proofs.Settling.{FollowLoop}
use Rattle.prefixes.proofs.pattern.Patterns.settle.Given as goal

abbrev pub invariant-loop-self : goal.invariant-loop-self
invariant-loop-self l = FollowLoop l.tables.ins.now l.tables.outs.now l.tables.starts.now l.tables.marks.now l.fn.self l.fn.other l.self l.other

abbrev pub decreases-loop-self : goal.decreases-loop-self
decreases-loop-self l = total (head_of l.tables.outs.now l.self.heads.now l.self.sizes.now) (length l.self.sizes.now)
