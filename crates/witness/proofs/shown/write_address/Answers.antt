-- `write_address` meets its contract. The invariant: of the trees that begin at letter j, letter m stands in the one number `between`, and its address there is written. Assumes nothing.
use Prim.Native.Nat.{◌+◌, ◌-◌}
use native.Mathlib.Omega.{arith}
use mathlib.Core.Path.{refl, ◌∙◌}
use lib.ListN.{length-set}
use Rattle.formats.specs.Inner.Layout.{mark_at}
use Rattle.witness.proofs.Addresses.{rank_low, address_start, address_room, address_few, address_up, address_past, address_done}
use Rattle.witness.proofs.shown.write_address.Goals as goal

pub loop-j-init : goal.loop-j-init
loop-j-init c = (refl, λ n r to B. address_start B)

pub overflow_sub-w : goal.overflow_sub-w
overflow_sub-w c =
    let P = c.requires in
    let l = c.loop-j in
    let C = l.invariant.1 P.states P.children P.to P.body in
    omega (arith, address_room P.body C, P.room)

pub overflow_cast-place : goal.overflow_cast-place
overflow_cast-place c =
    let a = c.args in
    omega (arith, rank_low a.outs.now (mark_at a.marks.now (a.from + (c.loop-j.j - 1))) c.requires.low, c.mark_rank-rank.ensures)

pub loop-j-preserved-then-between-rank : goal.loop-j-preserved-then-between-rank
loop-j-preserved-then-between-rank c =
    let P = c.requires in
    let l = c.loop-j in
    let C = l.invariant.1 P.states P.children P.to P.body in
    (length-set l.place (l.w - 1) (l.between + 1) ∙ l.invariant.0, λ n r to B. address_up B (l.invariant.1 n r to B) (omega (arith, c.loop-j-test.true)) c.mark_rank-rank.ensures c.if-between-rank.true refl (omega (arith, address_room P.body C, P.room)))

pub overflow_add-between : goal.overflow_add-between
overflow_add-between c =
    let P = c.requires in
    let l = c.loop-j in
    let C = l.invariant.1 P.states P.children P.to P.body in
    omega (arith, address_few P.body C)

pub loop-j-preserved : goal.loop-j-preserved
loop-j-preserved c =
    let l = c.loop-j in
    (l.invariant.0, λ n r to B. address_past B (l.invariant.1 n r to B) (omega (arith, c.loop-j-test.true)) c.mark_rank-rank.ensures c.if-between-rank.false)

pub returns : goal.returns
returns c =
    let P = c.requires in
    let l = c.loop-j in
    let C = l.invariant.1 P.states P.children P.to P.body in
    record { near = omega (arith, address_room P.body C); address = λ n r to B. address_done B (l.invariant.1 n r to B) (omega (arith, c.loop-j-test.false)) }
