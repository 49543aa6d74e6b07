-- `measure_body` meets its contract. The invariant: the marks from j on are the code of `behind` trees, whose levels the table has. Assumes nothing.
use Prim.Native.Nat.{ℕ}
use native.Mathlib.Omega.{arith}
use lib.ListN.{replicate, length-replicate}
use Rattle.formats.proofs.Behind.{end_standing, one_measured, call_read, call_refused, symbol_refused, children_missing, few_levels_lem, symbol_read}
use Rattle.formats.proofs.bodies.measure_body.Goals as goal
use Rattle.formats.proofs.bodies.measure_body.Goals.{then-i-gt0+else-i-r+else-x-n, else-i-gt0+else-x-outs+else-m-behind}

pub loop-j-init : goal.loop-j-init
loop-j-init c = let p = c.requires in end_standing (replicate {A = ℕ} 64 0) (length-replicate {A = ℕ} 64 0) p.0 p.1 p.2

pub returns-then-i-r : goal.returns-then-i-r
returns-then-i-r c = call_refused c.loop-j.invariant c.loop-j-test.true c.from-i.ensures c.from-x.ensures c.if-i-gt0.true c.then-i-r.either

pub returns-then-x-outs : goal.returns-then-x-outs
returns-then-x-outs c = symbol_refused c.loop-j.invariant c.loop-j-test.true c.from-i.ensures c.from-x.ensures (omega arith) c.if-x-outs.true

pub returns-then-m-behind : goal.returns-then-m-behind
returns-then-m-behind c = children_missing c.loop-j.invariant c.loop-j-test.true c.from-i.ensures c.from-x.ensures (omega arith) c.if-x-outs.false c.from-m.ensures c.if-m-behind.true

pub overflow_cast-levels : goal.overflow_cast-levels
overflow_cast-levels c = omega (arith, few_levels_lem c.loop-j.invariant c.loop-j-test.true c.from-i.ensures c.from-x.ensures (omega arith) c.if-x-outs.false c.from-m.ensures c.most_levels-deep.ensures)

pub loop-j-preserved : goal.loop-j-preserved
loop-j-preserved c =
    elim c.if-i-gt0.branch [
      | then-i-gt0+else-i-r+else-x-n w ↦ rw (w.levels-is, w.behind-is) (call_read c.loop-j.invariant c.loop-j-test.true c.from-i.ensures c.from-x.ensures w.if-i-gt0.true w.if-i-r.false w.if-x-n.false)
      | else-i-gt0+else-x-outs+else-m-behind w ↦ rw (w.levels-is, w.behind-is) (symbol_read c.loop-j.invariant c.loop-j-test.true c.from-i.ensures c.from-x.ensures (omega arith) w.if-x-outs.false w.from-m.ensures w.if-m-behind.false w.most_levels-deep.ensures)
    ]

pub overflow_add-levels : goal.overflow_add-levels
overflow_add-levels c = omega (arith, overflow_cast-levels c)

pub returns : goal.returns
returns c = one_measured c.loop-j.invariant c.loop-j-test.false (omega arith) c.from.ensures
