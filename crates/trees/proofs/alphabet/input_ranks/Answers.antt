-- `input_ranks` meets its contract. Assumes nothing.
use native.Mathlib.Omega.{arith}
use Rattle.trees.proofs.Stock.{file_length, inputs_part}
use Rattle.trees.proofs.alphabet.input_ranks.Goals as goal

pub bounds-stock-0 : goal.bounds-stock-0
bounds-stock-0 c = omega (arith, file_length c.requires)

pub overflow_add-result : goal.overflow_add-result
overflow_add-result c = omega (arith, c.from-p.ensures, file_length c.requires)

pub slice_bounds-result-end : goal.slice_bounds-result-end
slice_bounds-result-end c = omega (arith, c.from-p.ensures, file_length c.requires)

pub returns : goal.returns
returns c = inputs_part c.args.stock.now c.from-p.ensures
