-- `add_initial` meets its contract: the letters of the initial term are added as the first body, unless they are too many. Assumes nothing.
use native.Mathlib.Omega.{arith}
use borrow.Author.Rules.{rules}
use mathlib.Core.Path.{refl}
use mathlib.Core.Logic.{inl}
use Rattle.discovery.proofs.Loops.{adds_initial, adds_none}
use Rattle.discovery.proofs.Stages.{initial_sayable}
use Rattle.discovery.proofs.TooLarge.{initial_over}
use Rattle.discovery.proofs.discover.add_initial.Goals as goal

pub returns-in_err-span : goal.returns-in_err-span
returns-in_err-span g c =
    let X = c.requires.1.numbers in
    rw c.from_residual.ensures (adds_none (initial_over X c.requires.2 refl (inl (c.spell_initial.ensures.over c.in_err-span.was))))

pub add_body-requires : goal.add_body-requires
add_body-requires g c =
    let X = c.requires.1.numbers in
    let M = c.requires.2 in
    let z = c.requires.3 in
    (search rules, (rw z M.queue, omega (arith, z), rw (c.spell_initial.ensures.spelled _ c.in_ok-span.was, M.wide) (initial_sayable X), omega (arith, M.long), omega (arith, M.start), M.room))

pub returns : goal.returns
returns g c =
    let X = c.requires.1.numbers in
    adds_initial X (c.requires.1.leaf) c.requires.2 (rw c.requires.3 at c.add_body.ensures) (c.spell_initial.ensures.spelled _ c.in_ok-span.was)
