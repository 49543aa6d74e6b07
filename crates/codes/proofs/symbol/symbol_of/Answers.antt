-- `symbol_of` meets its contract: the table's first place that has the code. Assumes nothing.
use mathlib.Core.Path.{sym, ◌∙◌}
use Rattle.codes.specs.Inner.Table.{symbol_with}
use Rattle.codes.proofs.symbol.symbol_of.Goals as goal

pub returns-in_err-symbol : goal.returns-in_err-symbol
unfolding symbol_with
returns-in_err-symbol c = c.from_residual.ensures ∙ sym c.in_err-symbol.was ∙ rw (← c.table.ensures) c.place_of.ensures

pub returns : goal.returns
unfolding symbol_with
returns c = sym c.in_ok-symbol.was ∙ rw (← c.table.ensures) c.place_of.ensures
