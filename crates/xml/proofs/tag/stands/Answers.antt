-- `stands` meets its contract. Assumes nothing.
use mathlib.Core.Path.{sym, ◌∙◌}
use lib.ListN.{length, take, drop}
use Rattle.std.proofs.lemmas.Slice.Eq.{bytes_eq-Decides}
use Rattle.trees.proofs.Stock.{to_end}
use Rattle.xml.proofs.tag.stands.Goals as goal

pub returns : goal.returns
returns c =
    let w = c.args.word.now in
    let h = rw (to_end c.args.at c.args.text.now) at c.starts_with.ensures.value in
    let d = bytes_eq-Decides w (take (length w) (drop c.args.at c.args.text.now)) in
    record { sound = λ t. sym (d.0 (sym h ∙ t)); complete = λ b. h ∙ d.1 (sym b) }
