-- A joined right-hand side is spelt: the state of the second transducer, applied to the right-hand side of the first. Assumes nothing.
use native.Mathlib.Omega.{arith}
use borrow.Author.Rules.{rules}
use mathlib.Core.Path.{refl}
use Rattle.runs.proofs.Lettering.{wrote_as}
use Rattle.join.proofs.Adding.{spells_over, spells_written}
use Rattle.join.proofs.Joined.{rhs_body, rhs_ready, rhs_letters}
use Rattle.join.proofs.discover.ProductSpelled1638464.spell_rhs.Goals as goal

pub note_ends-requires : goal.note_ends-requires
note_ends-requires c = (c.requires.1.tables.alphabets', rhs_body c.requires.1.tables c.requires.1.pair c.requires.2 c.body_of-b.ensures c.from-from.ensures c.from-to.ensures, refl)

pub apply-requires : goal.apply-requires
apply-requires c =
    let P = c.requires in
    (rhs_ready P.1.tables P.1.pair P.2 c.body_of-b.ensures c.from-from.ensures c.from-to.ensures c.note_ends.ensures, omega arith)

pub returns-in_err-to : goal.returns-in_err-to
returns-in_err-to c = rw c.from_residual.ensures (spells_over (wrote_as (rhs_letters c.requires.1.tables c.requires.1.pair c.requires.2 c.body_of-b.ensures c.from-from.ensures c.from-to.ensures) c.apply.ensures) c.in_err-to.was)

pub returns : goal.returns
returns c = spells_written (wrote_as (rhs_letters c.requires.1.tables c.requires.1.pair c.requires.2 c.body_of-b.ensures c.from-from.ensures c.from-to.ensures) c.apply.ensures) (search rules) c.in_ok-to.was
