-- `flag_calls` meets its contract. The invariant: the calls passed are flagged. Assumes nothing.
use Rattle.merging.proofs.Calling.{next_flagged, next_other}
use native.Mathlib.Omega.{arith}
use Rattle.merging.proofs.refining.flag_calls.Goals as goal
use Rattle.merging.proofs.refining.flag_calls.Goals.{then-marks-j-gt0+then-r-lt128, else-marks-j-gt0, else-marks-j-gt0-via-then-marks-j-gt0+else-r-lt128, else-marks-j-gt0-via-else-marks-j-gt0}

pub loop-j-preserved : goal.loop-j-preserved
loop-j-preserved c =
    let L = c.loop-j.invariant in
    let e = c.from-r.ensures in
    elim c.if-marks-j-gt0.branch [
      | then-marks-j-gt0+then-r-lt128 w ↦ rw w.callers-is (next_flagged L e w.flag_call.ensures)
      | else-marks-j-gt0 w ↦ rw w.callers-is (elim w.else-marks-j-gt0.branch [
        | else-marks-j-gt0-via-then-marks-j-gt0+else-r-lt128 w' ↦ next_other L (λ z x. omega (arith, w'.if-r-lt128.false))
        | else-marks-j-gt0-via-else-marks-j-gt0 w' ↦ next_other L (λ z x. omega (arith, w'.if-marks-j-gt0.false))
      ])
    ]
