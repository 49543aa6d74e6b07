-- `write_symbol` meets its contract. Assumes nothing.
use mathlib.Core.Path.{refl}
use Rattle.witness.proofs.Wrapping.{symbol_written}
use Rattle.witness.proofs.shown.write_symbol.Goals as goal

pub returns : goal.returns
returns c = symbol_written c.requires c.from-rank.ensures c.fill.ensures refl
