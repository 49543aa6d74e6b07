-- `pattern_byte` meets its contract. The invariant: the marks passed are mixed in. Assumes nothing.
use Rattle.classes.proofs.Patterns.{next_symbol, next_called, pattern_end}
use mathlib.Core.Path.{◌∙◌}
use native.Mathlib.Omega.{arith}
use Rattle.classes.proofs.classes.pattern_byte.Goals as goal
use Rattle.classes.proofs.classes.pattern_byte.Goals.{then-i-gt0, else-i-gt0}

pub loop-j-preserved : goal.loop-j-preserved
loop-j-preserved c =
    let L = c.loop-j.invariant in
    let i = c.requires.1 in
    let t = c.loop-j-test.true in
    let e = c.from-i.ensures in
    elim c.if-i-gt0.branch [
      | then-i-gt0 w ↦ next_called L i t e (λ z. omega (arith, w.if-i-gt0.true)) w.x-is
      | else-i-gt0 w ↦ next_symbol L i t e (omega (arith, w.if-i-gt0.false)) (w.x-is ∙ w.from-x.ensures)
    ]

pub returns : goal.returns
returns c = pattern_end c.loop-j.invariant (omega arith)
