-- `xml_stands` meets its contract. The invariant: the walk, and that the text is the tree's exactly if the rest of it is what is still to come. Assumes nothing.
use Prim.Native.Nat.{◌+◌}
use mathlib.Core.Path.{ap}
use lib.ListN.{length}
use borrow.Author.Tests.{eqb-true, eq-eqb}
use Rattle.trees.specs.Inner.Symbols.{tree}
use Rattle.trees.proofs.Deciding.{held}
use Rattle.xml.specs.Xml.{xml}
use Rattle.xml.proofs.Comparing.{begin, finish}
use Rattle.xml.proofs.Stepping.{same_tag}
use Rattle.xml.proofs.Walking.{walk_start, start_text}
use Rattle.xml.proofs.read.xml_stands.Goals as goal

pub loop-tag-init : goal.loop-tag-init
loop-tag-init c =
    let w = c.start-walk in
    (walk_start c.requires.0 c.requires.1 w.result w.ensures, rw (start_text c.args.ranks.now c.args.s.now c.requires.0.one w.result w.ensures) (begin (xml (tree c.args.ranks.now c.args.s.now)) c.args.text.now))

pub loop-tag-preserved : goal.loop-tag-preserved
loop-tag-preserved c =
    let S = c.in-Some.ensures in
    let l = c.loop-tag in
    (S.walk, same_tag S l.invariant.1 (held c.tag_stands.ensures c.if-not-tag_stands.false-raw) (ap (λ n. l.end + n) c.tag_size-end.ensures))

pub returns : goal.returns
returns c =
    let l = c.loop-tag in
    let n = length c.args.text.now in
    finish l.invariant.1 c.in_default.ensures (record { sound = eqb-true l.end n; complete = eq-eqb l.end n })
