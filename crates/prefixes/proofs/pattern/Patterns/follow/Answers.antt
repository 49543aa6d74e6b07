-- `follow` meets its contract: each turn is one more run of cuts. It leaves less to cut, or no more and one flag less. Assumes nothing.
use Rattle.prefixes.specs.Inner.Heads.{weight}
use Rattle.prefixes.proofs.Settling.{follow_start, follow_next, less_cut}
use Rattle.prefixes.proofs.pattern.Patterns.follow.Goals as goal

pub loop-f-init : goal.loop-f-init
loop-f-init c = follow_start c.requires.table

pub loop-f-smaller-then-cut_state : goal.loop-f-smaller-then-cut_state
loop-f-smaller-then-cut_state c =
    let o = c.loop-f.flags in
    less_cut c.requires c.loop-f.invariant c.cut_state.ensures.cut c.cut_state.ensures.same (weight o.round o.next) c.if-cut_state.true c.with-flags.ensures

pub loop-f-preserved-then-cut_state : goal.loop-f-preserved-then-cut_state
loop-f-preserved-then-cut_state c =
    let k = c.cut_state in
    follow_next c.requires c.loop-f.invariant k.ensures.cut.cuts k.ensures.cut.table k.ensures.same k.auto.other

pub loop-f-preserved : goal.loop-f-preserved
loop-f-preserved c =
    let k = c.cut_state in
    follow_next c.requires c.loop-f.invariant k.ensures.cut.cuts k.ensures.cut.table k.ensures.same k.auto.other
