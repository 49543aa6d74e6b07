-- The joined initial term is spelt: the initial term of the second transducer, walked over that of the first. Assumes nothing.
use native.Mathlib.Omega.{arith}
use borrow.Author.Rules.{rules}
use mathlib.Core.Path.{refl}
use Rattle.runs.proofs.Lettering.{wrote_as}
use Rattle.join.proofs.Adding.{spells_over, spells_written}
use Rattle.join.proofs.Joined.{initial_body, initial_walk, initial_letters}
use Rattle.join.proofs.discover.ProductSpelled1638464.spell_initial.Goals as goal

pub note_ends-requires : goal.note_ends-requires
note_ends-requires c = (c.requires.alphabets', initial_body c.requires c.from-from.ensures c.from-to.ensures, refl)

pub walk-requires : goal.walk-requires
walk-requires c =
    let T = c.requires in
    (initial_walk T c.from-from.ensures c.from-to.ensures c.from-start.ensures c.from-end.ensures c.note_ends.ensures, omega arith)

pub returns-in_err-to : goal.returns-in_err-to
returns-in_err-to c = rw c.from_residual.ensures (spells_over (wrote_as (initial_letters c.requires c.from-from.ensures c.from-to.ensures c.from-start.ensures c.from-end.ensures) c.walk.ensures) c.in_err-to.was)

pub returns : goal.returns
returns c = spells_written (wrote_as (initial_letters c.requires c.from-from.ensures c.from-to.ensures c.from-start.ensures c.from-end.ensures) c.walk.ensures) (search rules) c.in_ok-to.was
