-- `is_xml` meets its contract. Assumes nothing.
use mathlib.Core.Path.{sym, ◌∙◌}
use Rattle.trees.proofs.Deciding.{decides_no}
use Rattle.xml.proofs.Converting.{both_decides, no_both}
use Rattle.xml.proofs.Standing.{was_whole, was_none}
use Rattle.xml.proofs.read.is_xml.Goals as goal

pub xml_stands-requires : goal.xml_stands-requires
xml_stands-requires c = (was_whole c.measure_output.ensures (sym c.is_some.ensures ∙ c.if-is_some.true), c.requires)

pub returns-then-is_some : goal.returns-then-is_some
returns-then-is_some c = both_decides (was_whole c.measure_output.ensures (sym c.is_some.ensures ∙ c.if-is_some.true)) c.xml_stands.ensures

pub returns-else-is_some : goal.returns-else-is_some
returns-else-is_some c = let e = c.if-is_some.false in rw e (decides_no (no_both (was_none c.measure_output.ensures (sym c.is_some.ensures ∙ e))))
