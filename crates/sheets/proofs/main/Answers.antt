-- `main` is safe: the text fits its area. Assumes nothing.
use native.Mathlib.Omega.{arith}
use mathlib.Core.Path.{sym}
use lib.Seq.{length-take-le}
use Rattle.report.proofs.Laws.{text_inside}
use Rattle.sheets.proofs.main.Goals as goal

pub slice_bounds-area-end : goal.slice_bounds-area-end
slice_bounds-area-end c = omega (arith, text_inside c.report.ensures c.in-Ok.is, c.report.auto.area)

pub slice_bounds-write_all-end : goal.slice_bounds-write_all-end
slice_bounds-write_all-end c = sym (length-take-le _ _ (omega (arith, text_inside c.report.ensures c.in-Ok.is, c.report.auto.area)))
