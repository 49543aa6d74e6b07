-- `stand` meets its contract. Assumes nothing.
use mathlib.Core.Path.{ap, ◌∙◌}
use Rattle.codes.specs.Codes.{symbol_code}
use Rattle.trees.proofs.Deciding.{decides_no, held}
use Rattle.xml.proofs.Tags.{no_code, last_decides}
use Rattle.xml.proofs.tag.TagParts.stand.Goals as goal

pub returns-then-stands : goal.returns-then-stands
returns-then-stands g c =
    let p = c.args.self.now in
    last_decides p.before p.behind c.args.text.now p.symbol c.args.at
    (c.symbol_code-code.ensures ∙ ap symbol_code c.from.ensures)
    (held c.stands.ensures c.if-not-stands.false-raw)
    (c.stands-2.ensures.sound c.if-stands.true)
    c.stands-then-stands.ensures

pub returns-else-stands : goal.returns-else-stands
returns-else-stands g c =
    let p = c.args.self.now in
    rw c.if-stands.false
    (decides_no (no_code p.before p.behind c.args.text.now p.symbol c.args.at (c.symbol_code-code.ensures ∙ ap symbol_code c.from.ensures) (λ b. let t = c.stands-2.ensures.complete b in let u = c.if-stands.false in cc)))
