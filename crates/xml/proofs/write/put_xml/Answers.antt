-- `put_xml` meets its contract. The invariant: the walk, and that what is still to come goes behind what is written. Assumes nothing.
use Rattle.trees.specs.Inner.Symbols.{tree}
use Rattle.formats.proofs.Writing.{begin}
use Rattle.xml.specs.Xml.{xml}
use Rattle.xml.proofs.Walking.{walk_start, start_text}
use Rattle.xml.proofs.write.put_xml.Goals as goal

pub loop-tag-init : goal.loop-tag-init
loop-tag-init c =
    let w = c.start-walk in
    (walk_start c.requires.0 c.requires.1 w.result w.ensures, rw (start_text c.args.ranks.now c.args.s.now c.requires.0.one w.result w.ensures) (begin (xml (tree c.args.ranks.now c.args.s.now)) c.args.text.now 0))
