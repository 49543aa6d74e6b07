-- `put_xml` meets its contract. The invariant: the walk, and that what is still to come goes behind what is written. Assumes nothing.
use Rattle.trees.specs.Inner.Symbols.{tree}
use Rattle.formats.proofs.Writing.{Writing}
use Rattle.xml.specs.Xml.{xml}
use Rattle.xml.specs.Inner.Walk.{Walk, to_come, tags_left}
use Rattle.xml.proofs.write.put_xml.Given as goal

abbrev pub invariant-loop-tag : goal.invariant-loop-tag
invariant-loop-tag l =
    Walk l.ranks l.s l.walk × Writing (xml (tree l.ranks l.s)) 0 l.initial.text (to_come l.ranks l.s l.walk) l.end l.text

abbrev pub decreases-loop-tag : goal.decreases-loop-tag
decreases-loop-tag l = tags_left l.s l.walk
