-- `flag_callers` meets its contract. The invariant: the callers passed are pending. Assumes nothing.
use Rattle.merging.proofs.Worklist.{flag_same, flag_room, flag_new}
use Rattle.merging.proofs.Rounds.{waits}
use native.Mathlib.Omega.{arith}
use Rattle.merging.proofs.refining.flag_callers.Goals as goal
use Rattle.merging.proofs.refining.flag_callers.Goals.{then-row-q+then-not-pending-q, else-row-q, else-row-q-via-then-row-q+else-not-pending-q, else-row-q-via-else-row-q}

pub push-requires : goal.push-requires
push-requires c = (flag_room c.loop-q.invariant c.requires.1 (omega (arith, c.min-q-end.ensures, c.loop-q-test.true)) c.if-not-pending-q.true, omega (arith, c.min-q-end.ensures, c.loop-q-test.true, c.requires.1))

pub loop-q-preserved : goal.loop-q-preserved
loop-q-preserved c =
    let L = c.loop-q.invariant in
    elim c.if-row-q.branch [
      | then-row-q+then-not-pending-q w ↦ rw (w.pending-is, w.list-is, w.push.ensures) (flag_new L c.requires.1 (omega (arith, c.min-q-end.ensures, c.loop-q-test.true)) w.if-not-pending-q.true)
      | else-row-q w ↦ rw (w.pending-is, w.list-is) (elim w.else-row-q.branch [
        | else-row-q-via-then-row-q+else-not-pending-q w' ↦ flag_same L (λ k. waits c.loop-q.pending c.loop-q.q w'.if-not-pending-q.false)
        | else-row-q-via-else-row-q w' ↦ flag_same L (λ k d. let y = k.flag in let x = w'.if-row-q.false in absurd (cc))
      ])
    ]
