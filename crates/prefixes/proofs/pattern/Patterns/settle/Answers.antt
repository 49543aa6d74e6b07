-- `settle` meets its contract: a sweep that cuts nothing ends with the common prefixes. Assumes nothing.
use Rattle.prefixes.proofs.Settling.{follow_start, follow_next, settle_less, settle_end}
use Rattle.prefixes.proofs.pattern.Patterns.settle.Goals as goal

pub loop-self-init : goal.loop-self-init
loop-self-init c = let k = c.follow in follow_next c.requires (follow_start c.requires.table) k.ensures.cut.cuts k.ensures.cut.table k.ensures.same k.auto.other

pub loop-self-preserved : goal.loop-self-preserved
loop-self-preserved c =
    let z = c.sweep in
    let k = c.follow-in-loop-self in
    let L = follow_next c.requires c.loop-self.invariant z.ensures.cut.cuts z.ensures.cut.table z.ensures.same z.auto.other in
    follow_next c.requires L k.ensures.cut.cuts k.ensures.cut.table k.ensures.same k.auto.other

pub loop-self-smaller : goal.loop-self-smaller
loop-self-smaller c =
    let z = c.sweep in
    let k = c.follow-in-loop-self in
    settle_less c.requires c.loop-self.invariant z.ensures.cut z.ensures.same c.loop-self-test.true k.ensures.cut k.ensures.same

pub returns-clause-cut : goal.returns-clause-cut
returns-clause-cut c = let z = c.sweep in settle_end c.requires c.loop-self.invariant z.ensures.cut z.ensures.same c.loop-self-test.false
