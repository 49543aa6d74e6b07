-- `refine_round` meets its contract. The invariant is `RoundLoop`. Assumes nothing.
use Rattle.merging.proofs.Rounds.{turn_placed, turn_kept, turn_moved}
use Rattle.merging.proofs.refining.refine_round.Goals as goal
use Rattle.merging.proofs.refining.refine_round.Goals.{then-placing-p+then-new-p, then-placing-p+else-new-p, else-placing-p}

pub loop-i-preserved : goal.loop-i-preserved
loop-i-preserved c =
    let L = c.loop-i.invariant in
    let A = c.requires.2 in
    let t = c.loop-i-test.true in
    let e = c.from-p.ensures in
    elim c.if-placing-p.branch [
      | then-placing-p+then-new-p w ↦ rw (w.new-is, w.placing-is, w.moved-is, w.push.ensures, w.count-is) (turn_moved L A t e w.place-count.ensures w.if-new-p.true)
      | then-placing-p+else-new-p w ↦ rw (w.new-is, w.placing-is, w.moved-is, w.count-is) (turn_kept L A t e w.place-count.ensures w.if-new-p.false)
      | else-placing-p w ↦ rw (w.new-is, w.placing-is, w.moved-is, w.count-is) (turn_placed L A t e w.if-placing-p.false)
    ]
