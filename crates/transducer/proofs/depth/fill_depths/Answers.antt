-- `fill_depths` meets its contract. The loop's invariant: the depths of the bodies before b are noted. Assumes nothing.
use Prim.Native.Nat.{◌+◌}
use mathlib.Core.List.{[]}
use mathlib.Core.Path.{ap, ap₂, ◌∙◌}
use lib.ListN.{length, get_or}
use lib.Seq.{sets, slice, length-sets}
use Rattle.formats.specs.Inner.Layout.{pairs}
use Rattle.transducer.specs.Inner.Depth.{depths_of}
use Rattle.transducer.proofs.Depths.{body_more}
use Rattle.transducer.proofs.depth.fill_depths.Goals as goal

pub loop-b-preserved : goal.loop-b-preserved
loop-b-preserved c =
    let a = c.args in
    let B = c.requires.0 in
    let l = c.loop-b in
    let h = c.loop-b-test.true in
    let N = c.note_depths in
    let w = N.ensures ∙ ap₂ (λ f t. sets l.depths f (depths_of a.outs.now [] (slice f t (pairs a.marks.now)))) c.from-from.ensures c.from-to.ensures in
    (ap length w ∙ length-sets l.depths (get_or a.starts.now l.b 0) (depths_of a.outs.now [] (slice (get_or a.starts.now l.b 0) (get_or a.starts.now (l.b + 1) 0) (pairs a.marks.now))) ∙ l.invariant.0, body_more B l.depths N.new.depths l.b h l.invariant.0 l.invariant.1 w)
