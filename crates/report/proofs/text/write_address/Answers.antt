-- `write_address` meets its contract. Assumes nothing.
use native.Mathlib.Omega.{arith}
use mathlib.Core.Path.{ap, sym}
use lib.ListN.{length}
use Rattle.formats.proofs.Writing.{wrote_as}
use Rattle.report.proofs.Pieces.{none_there, some_there, one_byte, root_text, below_text, below_room}
use Rattle.report.proofs.text.write_address.Goals as goal

pub bounds-text-at : goal.bounds-text-at
bounds-text-at c = omega (arith, ap length (root_text c.args.address.now (none_there c.args.address.now c.is_empty.ensures c.if-is_empty.true)), c.requires)

pub returns-then-is_empty : goal.returns-then-is_empty
returns-then-is_empty c = let a = c.args in wrote_as (sym (root_text a.address.now (none_there c.args.address.now c.is_empty.ensures c.if-is_empty.true))) (one_byte a.text.now a.at 45)

pub write_separated-requires : goal.write_separated-requires
write_separated-requires c = let a = c.args in search (below_room a.at (length a.text.now) a.address.now (λ e. omega (arith, e, some_there c.args.address.now c.is_empty.ensures c.if-is_empty.false)) c.requires)

pub returns : goal.returns
returns c = wrote_as (sym (below_text c.args.address.now (λ e. omega (arith, e, some_there c.args.address.now c.is_empty.ensures c.if-is_empty.false)))) c.write_separated.ensures
