-- `write` meets its contract. Assumes nothing.
use mathlib.Core.Path.{ap, ◌∙◌}
use Rattle.codes.specs.Codes.{symbol_code}
use Rattle.formats.proofs.Writing.{then, wrote_as}
use Rattle.xml.proofs.tag.TagParts.write.Goals as goal

pub returns : goal.returns
returns g c = then c.write_word-p.ensures (then (wrote_as (c.symbol_code-code.ensures ∙ ap symbol_code c.from.ensures) c.write_word-q.ensures) c.write_word.ensures)
