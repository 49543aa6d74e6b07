-- `write_xml` meets its contract. Assumes nothing.
use native.Mathlib.Omega.{arith}
use mathlib.Core.Bool.{not}
use mathlib.Core.Path.{refl, ap, ◌∙◌}
use lib.ListN.{length}
use Rattle.trees.proofs.Deciding.{refuted, held}
use Rattle.trees.proofs.Judging.{refuse}
use Rattle.xml.proofs.Standing.{was_whole, was_none}
use Rattle.xml.proofs.Converting.{no_plan, short_text, text_written}
use Rattle.xml.proofs.write.write_xml.Goals as goal

pub returns-then-not-alphabets_right : goal.returns-then-not-alphabets_right
returns-then-not-alphabets_right c = refuse (refuted c.alphabets_right.ensures c.if-not-alphabets_right.true-raw) refl

pub returns-then-is_none : goal.returns-then-is_none
returns-then-is_none c =
    let A = held c.alphabets_right.ensures c.if-not-alphabets_right.false-raw in
    no_plan A c.output_ranks-ranks.ensures (was_none c.measure_output.ensures (c.is_none.ensures ∙ ap not c.if-is_none.true))

pub text_size-size-requires : goal.text_size-size-requires
text_size-size-requires c = was_whole c.measure_output.ensures (c.is_none.ensures ∙ ap not c.if-is_none.false)

pub returns-then-text-size : goal.returns-then-text-size
returns-then-text-size c =
    let A = held c.alphabets_right.ensures c.if-not-alphabets_right.false-raw in
    let W = was_whole c.measure_output.ensures (c.is_none.ensures ∙ ap not c.if-is_none.false) in
    short_text A c.output_ranks-ranks.ensures W c.text_size-size.ensures c.if-text-size.true

pub put_xml-requires : goal.put_xml-requires
put_xml-requires c =
    let A = held c.alphabets_right.ensures c.if-not-alphabets_right.false-raw in
    let W = was_whole c.measure_output.ensures (c.is_none.ensures ∙ ap not c.if-is_none.false) in
    (W, omega (arith, A.outs.few, ap length c.output_ranks-ranks.ensures), omega (arith, c.text_size-size.ensures, c.if-text-size.false))

pub returns : goal.returns
returns c =
    let A = held c.alphabets_right.ensures c.if-not-alphabets_right.false-raw in
    let W = was_whole c.measure_output.ensures (c.is_none.ensures ∙ ap not c.if-is_none.false) in
    text_written A c.output_ranks-ranks.ensures W c.text_size-size.ensures c.if-text-size.false c.put_xml.ensures
