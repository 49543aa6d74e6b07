-- `write_separated` meets its contract: the first number, and the others with a byte in front. Assumes nothing.
use native.Mathlib.Omega.{arith}
use mathlib.Core.Path.{ap}
use lib.ListN.{length, length-set}
use Rattle.report.specs.Text.{number_text}
use Rattle.formats.proofs.Writing.{wrote_as}
use Rattle.report.proofs.Pieces.{none_there, some_there, none_separated, first_room, next_room, all_separated, next_separated}
use Rattle.report.proofs.text.write_separated.Goals as goal

pub returns-then-is_empty : goal.returns-then-is_empty
returns-then-is_empty c = let a = c.args in none_separated a.s a.items.now a.text.now a.at (none_there c.args.items.now c.is_empty.ensures c.if-is_empty.true)

pub write_number-to-requires : goal.write_number-to-requires
write_number-to-requires c =
    let a = c.args in
    let e = c.from.ensures in
    (omega (arith, e, c.shared_slice_known-2-1.given 0), omega (arith, ap (λ n. length (number_text n)) e, first_room a.s a.items.now a.text.now a.at (some_there c.args.items.now c.is_empty.ensures c.if-is_empty.false) c.requires))

pub bounds-text-to : goal.bounds-text-to
bounds-text-to c =
    let a = c.args in
    omega (arith, next_room a.s a.items.now (some_there c.args.items.now c.is_empty.ensures c.if-is_empty.false) (wrote_as (ap number_text c.from.ensures) c.write_number-to.ensures) c.loop-item.invariant c.loop-item-test.true c.requires)

pub overflow_add-to : goal.overflow_add-to
overflow_add-to c =
    let a = c.args in
    omega (arith, next_room a.s a.items.now (some_there c.args.items.now c.is_empty.ensures c.if-is_empty.false) (wrote_as (ap number_text c.from.ensures) c.write_number-to.ensures) c.loop-item.invariant c.loop-item-test.true c.requires)

pub write_number-to-requires-in-loop-item : goal.write_number-to-requires-in-loop-item
write_number-to-requires-in-loop-item c =
    let a = c.args in
    let l = c.loop-item in
    let e = c.from-in-loop-item.ensures in
    let r = next_room a.s a.items.now (some_there c.args.items.now c.is_empty.ensures c.if-is_empty.false) (wrote_as (ap number_text c.from.ensures) c.write_number-to.ensures) l.invariant c.loop-item-test.true c.requires in
    (omega (arith, e, c.row_known-1.given), omega (arith, ap (λ n. length (number_text n)) e, length-set l.text l.to a.s, r))

pub loop-item-preserved : goal.loop-item-preserved
loop-item-preserved c = let a = c.args in next_separated a.s a.items.now c.loop-item.invariant c.loop-item-test.true (wrote_as (ap number_text c.from-in-loop-item.ensures) c.write_number-to-in-loop-item.ensures)

pub returns : goal.returns
returns c = let a = c.args in all_separated a.s a.items.now (some_there c.args.items.now c.is_empty.ensures c.if-is_empty.false) (wrote_as (ap number_text c.from.ensures) c.write_number-to.ensures) c.loop-item.invariant c.loop-item-test.false
