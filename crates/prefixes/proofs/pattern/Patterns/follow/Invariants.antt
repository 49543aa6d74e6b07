-- What the loop of `follow` keeps: any number of cuts. Each turn leaves less to cut, or takes away a flag. Assumes nothing.
use lib.ListN.{length}
use Rattle.prefixes.specs.Inner.Heads.{weight}
use Rattle.prefixes.proofs.Settling.{FollowLoop, ahead}
use Rattle.prefixes.proofs.pattern.Patterns.follow.Given as goal

abbrev pub invariant-loop-f : goal.invariant-loop-f
invariant-loop-f l = FollowLoop l.tables.ins.now l.tables.outs.now l.tables.starts.now l.tables.marks.now l.initial.self l.initial.other l.self l.other

abbrev pub decreases-loop-f : goal.decreases-loop-f
decreases-loop-f l = ahead l.tables.outs.now l.self.heads.now l.self.sizes.now (length l.initial.self.sizes.now) (weight l.flags.round l.flags.next)
