-- `collect` meets its contract. The invariant: the symbols of the tags passed stand in the table. Assumes nothing.
use Prim.Native.Nat.{◌<◌}
use native.Mathlib.Omega.{arith}
use mathlib.Core.List.{[], ◌∷◌}
use mathlib.Core.Path.{sym, ap, ap₂, ◌∙◌}
use Rattle.trees.proofs.Stock.{to_end}
use Rattle.codes.specs.Inner.Table.{symbol_with}
use Rattle.std.specs.Option.{unwrap_or}
use Rattle.xml.proofs.Collecting.{collect_skip, collect_one, collect_end, collect_full}
use Rattle.xml.proofs.read.collect.Goals as goal
use Rattle.xml.proofs.read.collect.Goals.{then-tag_opens, else-tag_opens}

pub loop-i-preserved : goal.loop-i-preserved
loop-i-preserved c =
    let l = c.loop-i in
    let t = c.loop-i-test.true in
    let m : l.n < 4096 = omega (arith, l.invariant.few, c.if-n-eq4096.false) in
    let o = c.tag_opens.ensures in
    let e = to_end l.i c.args.text.now in
    elim c.if-tag_opens.branch [
      | then-tag_opens w ↦ rw (w.table-is, w.n-is) (collect_one l.invariant t e m (sym o ∙ w.if-tag_opens.true) (w.unwrap_or.ensures ∙ ap (λ o. unwrap_or o 64) (w.symbol_of.ensures ∙ ap₂ (λ x y. symbol_with (x ∷ y ∷ [])) w.byte_at.ensures w.byte_at-then-tag_opens.ensures)))
      | else-tag_opens w ↦ rw (w.table-is, w.n-is) (collect_skip l.invariant t e (sym o ∙ w.if-tag_opens.false))
    ]

pub returns-then-n-eq4096 : goal.returns-then-n-eq4096
returns-then-n-eq4096 c = collect_full c.loop-i.invariant (omega (arith, c.if-n-eq4096.true))

pub returns : goal.returns
returns c = collect_end c.loop-i.invariant (omega arith)
