-- `label_head` meets its contract. The invariant: writing the letters of the bytes from m on ends as writing all of them from the start. Assumes nothing.
use Prim.Native.Nat.{◌+◌}
use native.Mathlib.Nat.{add-zero}
use native.Mathlib.Omega.{arith}
use lib.ListN.{drop, get_or}
use mathlib.Core.Path.{refl, sym, ◌∙◌}
use Rattle.formats.proofs.Writing.{begin, one_more_lem, finish}
use Rattle.earliest.specs.Inner.Letters.{labeled}
use Rattle.earliest.proofs.Expanded.{labeled_top, labeled_symbol, labeled_end}
use Rattle.earliest.proofs.expand.label_head.Goals as goal
use Rattle.earliest.proofs.expand.label_head.Goals.{then-x, else-x}

pub loop-m-init : goal.loop-m-init
loop-m-init c =
    let a = c.args in
    rw (add-zero, add-zero) (begin (labeled a.base a.head.now) a.out.now a.at)

pub loop-m-preserved : goal.loop-m-preserved
loop-m-preserved c =
    let a = c.args in
    let l = c.loop-m in
    let x = get_or a.head.now l.m 0 in
    let h = c.loop-m-test.true in
    let rest = labeled (a.base + (l.m + 1)) (drop (l.m + 1) a.head.now) in
    elim c.if-x.branch [
      | then-x w ↦ one_more_lem l.invariant (a.base + l.m) rest (labeled_top a.base a.head.now l.m h refl w.if-x.true) (omega arith) w.out-is
      | else-x w ↦ one_more_lem l.invariant w.from.result rest (labeled_symbol a.base a.head.now l.m h w.from.ensures (λ e. w.if-x.false (sym w.from.ensures ∙ e))) (omega arith) w.out-is
    ]

pub returns : goal.returns
returns c =
    let a = c.args in
    let l = c.loop-m in
    (finish l.invariant (labeled_end a.base a.head.now l.m c.loop-m-test.false)).1
