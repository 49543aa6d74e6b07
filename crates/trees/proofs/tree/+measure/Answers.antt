-- `measure` meets its contract. The loop's invariant is `Measuring`; with each call the bytes left fall. Assumes nothing.
use native.Mathlib.Omega.{arith}
use mathlib.Core.Path.{refl, sym, ◌∙◌}
use Rattle.trees.specs.Inner.Symbols.{symbol_of, trees}
use Rattle.trees.proofs.Extents.{letter_here, past_end, no_letter, no_room, first_child_lem, next_child, no_child, node_done}
use Rattle.trees.proofs.Letters.{symbol_there, symbol_missing}
use lib.ListN.{get_or}
use Prim.Native.Nat.{◌-◌, ◌+◌}
use mathlib.Core.Path.{◌≡◌}
use Rattle.trees.proofs.Numbers.{max_is}
use Rattle.trees.proofs.tree.+measure.Goals as goal

pub returns-then-at-s : goal.returns-then-at-s
unfolding trees
returns-then-at-s t c = let a = c.args in sym (past_end (symbol_of a.ranks.now) a.s.now a.at a.room c.if-at-s.true)

pub returns-then-room-eq0 : goal.returns-then-room-eq0
unfolding trees
returns-then-room-eq0 t c =
    let a = c.args in
    sym (no_room (symbol_of a.ranks.now) a.s.now a.at a.room (letter_here a.s.now a.at 0 c.if-at-s.false refl) (λ x. absurd x) c.if-room-eq0.true)

pub returns-then-symbol-ranks : goal.returns-then-symbol-ranks
unfolding trees
returns-then-symbol-ranks t c =
    let a = c.args in
    sym (no_letter (symbol_of a.ranks.now) a.s.now a.at a.room (letter_here a.s.now a.at 0 c.if-at-s.false c.from-symbol.ensures) (symbol_missing a.ranks.now c.from-symbol.result c.if-symbol-ranks.true))

pub loop-init : goal.loop-init
loop-init t c =
    let a = c.args in
    let k = c.from-symbol in
    let z : get_or c.args.ranks.now c.from-symbol.result 0 - 0 ≡ get_or c.args.ranks.now c.from-symbol.result 0 = omega arith in
    rw z (first_child_lem (letter_here a.s.now a.at 0 c.if-at-s.false k.ensures) (symbol_there a.ranks.now k.result (omega arith)) (omega arith))

pub loop-preserved : goal.loop-preserved
unfolding trees
loop-preserved t c =
    let e : get_or c.args.ranks.now c.from-symbol.result 0 - c.loop.counter - 1 ≡ get_or c.args.ranks.now c.from-symbol.result 0 - (c.loop.counter + 1) = omega arith in
    rw e at (next_child c.loop.invariant (omega (arith, c.loop-test.true)) c.measure.ensures 0 c.in_ok-child.was (c.max-levels.ensures ∙ max_is _ _))

pub returns-in_err-child : goal.returns-in_err-child
unfolding trees
returns-in_err-child t c = c.from_residual.ensures ∙ no_child c.loop.invariant (omega (arith, c.loop-test.true)) c.measure.ensures c.in_err-child.was

pub returns : goal.returns
unfolding trees
returns t c = node_done c.loop.invariant (omega arith)
