-- `alphabets_right` meets its contract: each test that fails rules two alphabets out, and the tests together make them. Assumes nothing.
use mathlib.Core.Path.{sym, ◌∙◌}
use native.Mathlib.Omega.{arith}
use Rattle.trees.proofs.Deciding.{decides_no, decides_same, refuted, held}
use Rattle.trees.proofs.Stock.{outputs_count, file_length, inputs_part, outputs_part, tested}
use Rattle.trees.proofs.alphabet.alphabets_right.Goals as goal

pub returns-then-stock-lt2 : goal.returns-then-stock-lt2
returns-then-stock-lt2 c = decides_no (λ A. omega (arith, file_length A))

pub overflow_add-p : goal.overflow_add-p
overflow_add-p c = omega (arith, c.from-p.ensures, c.type_inv.stock 0)

pub returns-then-stock-p : goal.returns-then-stock-p
returns-then-stock-p c = decides_no (λ A. omega (arith, file_length A, c.from-p.ensures))

pub returns-then-from-stock : goal.returns-then-from-stock
returns-then-from-stock c =
    let e = c.from-p.ensures in
    decides_no (λ A. omega (arith, file_length A, outputs_count A e, c.from.ensures, c.if-from-stock.true))

pub returns-then-not-ranks_right : goal.returns-then-not-ranks_right
returns-then-not-ranks_right c =
    let part = inputs_part c.args.stock.now c.from-p.ensures in
    decides_no (λ A. refuted c.ranks_right.ensures c.if-not-ranks_right.true-raw (rw part A.ins))

pub returns-then-not-ranks_right-2 : goal.returns-then-not-ranks_right-2
returns-then-not-ranks_right-2 c =
    let part = outputs_part c.args.stock.now c.from-p.ensures in
    decides_no (λ A. refuted c.ranks_right-2.ensures c.if-not-ranks_right-2.true-raw (rw part A.outs))

pub returns : goal.returns
returns c =
    let s = c.args.stock.now in
    let e = c.from-p.ensures in
    let count = sym c.from.ensures ∙ c.if-from-stock.false in
    let ins = held c.ranks_right.ensures c.if-not-ranks_right.false-raw in
    let outs = held c.ranks_right-2.ensures c.if-not-ranks_right-2.false-raw in
    decides_same (tested s e c.if-stock-p.false count ins outs) (λ A. rw (inputs_part s e) A.leaf) c.has_leaf.ensures
