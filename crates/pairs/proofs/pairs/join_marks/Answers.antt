-- `join_marks` meets its contract. The invariant: what the contract says, of the marks passed. Assumes nothing.
use native.Mathlib.Omega.{arith}
use mathlib.Core.Path.{◌≡◌}
use Rattle.pairs.proofs.Searching.{joins_symbol, joins_call}
use Rattle.pairs.proofs.pairs.join_marks.Goals as goal
use Rattle.pairs.proofs.pairs.join_marks.Goals.{then-c-gt0, else-c-gt0}

pub loop-k-preserved : goal.loop-k-preserved
loop-k-preserved c =
    let A = c.loop-k.invariant in
    let t = c.loop-k-test.true in
    elim c.if-c-gt0.branch [
      | then-c-gt0 w ↦ rw (w.classes1-is, w.classes2-is, w.pairs-is, w.r-is) (joins_call A c.requires.0 t w.if-c-gt0.true w.join_states-r.ensures)
      | else-c-gt0 w ↦ rw (w.classes1-is, w.classes2-is, w.pairs-is, w.r-is) (joins_symbol A (λ h. omega (arith, h, w.if-c-gt0.false)))
    ]

pub returns : goal.returns
returns c = let e : c.loop-k.k ≡ c.args.n = omega arith in rw e at c.loop-k.invariant
