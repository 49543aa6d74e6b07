-- `read_xml` meets its contract. Assumes nothing.
use mathlib.Core.Path.{refl}
use Rattle.trees.proofs.Deciding.{refuted, held}
use Rattle.trees.proofs.Judging.{refuse}
use Rattle.xml.proofs.Converting.{no_text, short_area, plan_read}
use Rattle.xml.proofs.read.read_xml.Goals as goal

pub returns-then-not-alphabets_right : goal.returns-then-not-alphabets_right
returns-then-not-alphabets_right c = refuse (refuted c.alphabets_right.ensures c.if-not-alphabets_right.true-raw) refl

pub returns-then-not-right : goal.returns-then-not-right
returns-then-not-right c = no_text (held c.alphabets_right.ensures c.if-not-alphabets_right.false-raw) c.output_ranks.ensures c.collect-n.ensures (refuted c.is_xml-right.ensures c.if-not-right.true-raw)

pub returns-then-plan-n : goal.returns-then-plan-n
returns-then-plan-n c = short_area (held c.alphabets_right.ensures c.if-not-alphabets_right.false-raw) c.output_ranks.ensures c.collect-n.ensures (held c.is_xml-right.ensures c.if-not-right.false-raw) c.if-plan-n.true

pub returns : goal.returns
returns c = plan_read (held c.alphabets_right.ensures c.if-not-alphabets_right.false-raw) c.output_ranks.ensures c.collect-n.ensures (held c.is_xml-right.ensures c.if-not-right.false-raw) c.if-plan-n.false c.copy_at.ensures
