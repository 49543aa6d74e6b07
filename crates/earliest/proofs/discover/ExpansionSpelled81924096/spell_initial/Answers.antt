-- The initial term of the earliest form is spelt: that of the transducer, expanded. Assumes nothing.
use native.Mathlib.Omega.{arith}
use borrow.Author.Rules.{rules}
use Rattle.discovery.proofs.Spelling.{spells_span}
use Rattle.earliest.proofs.Opening.{initial_expandable, initial_short, initial_written}
use Rattle.earliest.proofs.discover.ExpansionSpelled81924096.spell_initial.Goals as goal

pub expand-len-requires : goal.expand-len-requires
expand-len-requires c = initial_expandable c.requires (search rules) c.from-from.ensures c.from-to.ensures

pub returns : goal.returns
returns c =
    let short = initial_short c.requires (search rules) c.from-from.ensures c.from-to.ensures c.expand-len.ensures in
    spells_span _ (omega arith) (omega (arith, short, c.expand-len.auto)) (initial_written c.requires (search rules) c.from-from.ensures c.from-to.ensures c.expand-len.ensures)
