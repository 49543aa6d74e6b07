-- `xml_stands` meets its contract. The invariant: the walk, and that the text is the tree's exactly if the rest of it is what is still to come. Assumes nothing.
use Rattle.trees.specs.Inner.Symbols.{tree}
use Rattle.xml.specs.Xml.{xml}
use Rattle.xml.specs.Inner.Walk.{Walk, to_come, tags_left}
use Rattle.xml.proofs.Comparing.{Comparing}
use Rattle.xml.proofs.read.xml_stands.Given as goal

abbrev pub invariant-loop-tag : goal.invariant-loop-tag
invariant-loop-tag l =
    Walk l.ranks l.s l.walk × Comparing (xml (tree l.ranks l.s)) l.text (to_come l.ranks l.s l.walk) l.end

abbrev pub decreases-loop-tag : goal.decreases-loop-tag
decreases-loop-tag l = tags_left l.s l.walk
