-- `report` meets its contract: the comparison, and then the lines of what it answered. Assumes nothing.
use Prim.Native.Nat.{ℕ}
use native.Mathlib.Omega.{arith}
use mathlib.Core.Path.{refl, sym}
use lib.ListN.{length-replicate}
use Rattle.std.proofs.lemmas.List.{length-take-le}
use Rattle.trees.proofs.Judging.{refuse}
use Rattle.report.proofs.Reporting.{alike_holds, alike_reported, differ_holds, differ_bounded, nodes_few, numbers_few, differ_short, differ_reported, refusal_reported}
use Rattle.report.proofs.report.report.Goals as goal

pub returns-then-area-lt36911 : goal.returns-then-area-lt36911
returns-then-area-lt36911 c = refuse (λ h. omega (arith, c.if-area-lt36911.true)) refl

pub write_both-at-requires : goal.write_both-at-requires
write_both-at-requires c = (alike_holds c.compare.ensures (rw c.in-Ok-None.field-0-is at c.in-Ok-None.is), omega (arith, c.if-area-lt36911.false))

pub write_both-at-requires-in-Ok-Some : goal.write_both-at-requires-in-Ok-Some
write_both-at-requires-in-Ok-Some c = (differ_holds c.compare.ensures (rw c.in-Ok-Some.field-0-is at c.in-Ok-Some.is), omega (arith, c.if-area-lt36911.false))

pub slice_bounds-tree-end : goal.slice_bounds-tree-end
slice_bounds-tree-end c = omega (arith, nodes_few c.compare.ensures (rw c.in-Ok-Some.field-0-is at c.in-Ok-Some.is), c.compare.auto.tree, length-replicate {A = ℕ} 1536 0)

pub slice_bounds-write_differ-end : goal.slice_bounds-write_differ-end
slice_bounds-write_differ-end c = sym (length-take-le c.in-Ok-Some.shown.nodes c.compare.new.tree (omega (arith, nodes_few c.compare.ensures (rw c.in-Ok-Some.field-0-is at c.in-Ok-Some.is), c.compare.auto.tree, length-replicate {A = ℕ} 1536 0)))

pub slice_bounds-address-end : goal.slice_bounds-address-end
slice_bounds-address-end c = omega (arith, numbers_few c.compare.ensures (rw c.in-Ok-Some.field-0-is at c.in-Ok-Some.is), c.compare.auto.address, length-replicate {A = ℕ} 16128 0)

pub slice_bounds-write_differ-end-in-Ok-Some : goal.slice_bounds-write_differ-end-in-Ok-Some
slice_bounds-write_differ-end-in-Ok-Some c = sym (length-take-le c.in-Ok-Some.shown.numbers c.compare.new.address (omega (arith, numbers_few c.compare.ensures (rw c.in-Ok-Some.field-0-is at c.in-Ok-Some.is), c.compare.auto.address, length-replicate {A = ℕ} 16128 0)))

pub write_differ-requires : goal.write_differ-requires
write_differ-requires c =
    let J = c.compare.ensures in
    let e = rw c.in-Ok-Some.field-0-is at c.in-Ok-Some.is in
    let B = differ_bounded J e in
    let l = differ_short J e (omega (arith, length-replicate {A = ℕ} 1536 0)) (omega (arith, length-replicate {A = ℕ} 16128 0)) in
    (omega (arith, B.left, B.right), omega (arith, B.left, B.right), omega (arith, l, c.write_both-at-in-Ok-Some.ensures.short, c.write_both-at-in-Ok-Some.auto.text, c.if-area-lt36911.false))

pub returns-in-Ok-None : goal.returns-in-Ok-None
returns-in-Ok-None c = alike_reported c.compare.ensures (rw c.in-Ok-None.field-0-is at c.in-Ok-None.is) (omega (arith, c.if-area-lt36911.false)) c.write_both-at.ensures c.write_alike.ensures

pub returns-in-Ok-Some : goal.returns-in-Ok-Some
returns-in-Ok-Some c = differ_reported c.compare.ensures (rw c.in-Ok-Some.field-0-is at c.in-Ok-Some.is) (omega (arith, length-replicate {A = ℕ} 1536 0)) (omega (arith, length-replicate {A = ℕ} 16128 0)) (omega (arith, c.if-area-lt36911.false)) c.write_both-at-in-Ok-Some.ensures c.write_differ.ensures

pub returns-in-Err : goal.returns-in-Err
returns-in-Err c = refusal_reported c.compare.ensures c.in-Err.is (omega (arith, length-replicate {A = ℕ} 1536 0)) (omega (arith, length-replicate {A = ℕ} 16128 0)) (omega (arith, c.if-area-lt36911.false)) c.write_refused.ensures
