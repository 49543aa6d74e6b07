-- `read_marks` meets its contract. The invariant: the marks passed call a child once where its flag is set, and the states they call are entered. Assumes nothing.
use native.Mathlib.Omega.{arith}
use Rattle.queries.proofs.Uses.{few_met, pass_all, child_low, state_low, again, pass_symbol, pass_call}
use Rattle.queries.proofs.linear.read_marks.Goals as goal
use Rattle.queries.proofs.linear.read_marks.Goals.{then-i-gt0+else-seen-i, else-i-gt0}

pub bounds-seen-i : goal.bounds-seen-i
bounds-seen-i c = child_low c.loop-j.invariant c.loop-j-test.true c.requires.2 c.from-i.ensures

pub returns-then-seen-i : goal.returns-then-seen-i
returns-then-seen-i c = again c.loop-j.invariant c.loop-j-test.true c.requires.2 c.from-i.ensures (omega (arith, c.if-i-gt0.true)) c.if-seen-i.true

pub bounds-seen-i-then-i-gt0 : goal.bounds-seen-i-then-i-gt0
bounds-seen-i-then-i-gt0 c = child_low c.loop-j.invariant c.loop-j-test.true c.requires.2 c.from-i.ensures

pub enter-requires : goal.enter-requires
enter-requires c =
    let I = c.loop-j.invariant in
    let s = state_low I c.loop-j-test.true c.requires.2 c.from-i.ensures (omega arith) c.from.ensures in
    (omega arith, (I.queue, few_met I, s, omega (arith, s, I.wide)))

pub loop-j-preserved : goal.loop-j-preserved
loop-j-preserved c =
    let l = c.loop-j.invariant in
    let t = c.loop-j-test.true in
    let p = c.requires.2 in
    let e = c.from-i.ensures in
    elim c.if-i-gt0.branch [
      | then-i-gt0+else-seen-i w ↦ rw (w.queue-is, w.seen-is) (pass_call l t p e w.if-i-gt0.true w.if-seen-i.false w.from.ensures w.enter.ensures)
      | else-i-gt0 w ↦ rw (w.queue-is, w.seen-is) (pass_symbol l t p e (omega (arith, w.if-i-gt0.false)))
    ]

pub returns : goal.returns
returns c = pass_all c.loop-j.invariant c.loop-j-test.false c.requires.2
