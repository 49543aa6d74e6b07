-- `tree_end` meets its contract. Assumes nothing.
use Prim.Native.Nat.{◌+◌}
use native.Mathlib.Omega.{arith}
use lib.ListN.{get_or}
use mathlib.Core.Path.{refl, ap}
use Rattle.std.proofs.lemmas.List.{get_or_past}
use Rattle.prefixes.proofs.Ends.{owing_inside, owing_next, owing_done}
use Rattle.prefixes.proofs.pattern.tree_end.Goals as goal
use Rattle.prefixes.proofs.pattern.tree_end.Goals.{then-x-outs, else-x-outs}

pub bounds-s-p : goal.bounds-s-p
bounds-s-p g c = owing_inside c.loop-owed.invariant c.loop-owed-test.true

pub offset_bounds-s-p : goal.offset_bounds-s-p
offset_bounds-s-p g c = omega (arith, bounds-s-p g c)

pub overflow_add-owed : goal.overflow_add-owed
overflow_add-owed g c =
    let same = ap (λ k. get_or c.args.outs.now k 0) c.number-x.ensures in
    omega (arith, (owing_next {o = c.loop-owed.owed + c.from-owed.result} c.loop-owed.invariant c.loop-owed-test.true c.index-s-p.is (omega (arith, c.from-owed.ensures, same))).1)

pub overflow_add-p : goal.overflow_add-p
overflow_add-p g c = omega (arith, owing_inside c.loop-owed.invariant c.loop-owed-test.true)

pub loop-owed-init : goal.loop-owed-init
loop-owed-init g c = record { some = c.requires; same = refl }

pub loop-owed-preserved : goal.loop-owed-preserved
loop-owed-preserved g c =
    let same = ap (λ k. get_or c.args.outs.now k 0) c.number-x.ensures in
    (owing_next c.loop-owed.invariant c.loop-owed-test.true c.index-s-p.is
    (elim c.if-x-outs.branch [
      | then-x-outs w ↦ omega (arith, w.owed-is, w.from-owed.ensures, same)
      | else-x-outs w ↦ omega (arith, w.owed-is, get_or_past c.args.outs.now c.number-x.result 0 (omega arith), same)
    ])).0

pub loop-owed-smaller : goal.loop-owed-smaller
loop-owed-smaller g c = omega (arith, owing_inside c.loop-owed.invariant c.loop-owed-test.true)

pub returns : goal.returns
returns g c = owing_done c.loop-owed.invariant (omega arith)
