-- `equal_letters` meets its contract: the letters passed are equal. Assumes nothing.
use native.Mathlib.Omega.{arith}
use Rattle.prefixes.proofs.Patterns.{equal_word, equal_end}
use Rattle.prefixes.proofs.pattern.equal_letters.Goals as goal

pub loop-n-preserved : goal.loop-n-preserved
loop-n-preserved c =
    let x = c.args.x.now in
    let y = c.args.y.now in
    let n = c.loop-n.n in
    (omega arith, omega (arith, c.loop-n.invariant.1, equal_word x y n 8 (omega arith) (omega arith) c.starts_with.ensures.value c.if-starts_with.true))

pub returns-after-loop-n-2 : goal.returns-after-loop-n-2
returns-after-loop-n-2 c = omega (arith, c.loop-n-2.invariant.1, equal_end c.args.x.now c.args.y.now c.loop-n-2.n (omega (arith, c.min-len.ensures, c.loop-n-2-test.false)))
