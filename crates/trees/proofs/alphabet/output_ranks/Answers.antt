-- `output_ranks` meets its contract. Assumes nothing.
use native.Mathlib.Omega.{arith}
use Rattle.trees.proofs.Stock.{file_length, outputs_part}
use Rattle.trees.proofs.alphabet.output_ranks.Goals as goal

pub bounds-stock-0 : goal.bounds-stock-0
bounds-stock-0 c = omega (arith, file_length c.requires)

pub overflow_add-result : goal.overflow_add-result
overflow_add-result c = omega (arith, c.from-p.ensures, file_length c.requires)

pub slice_bounds-result-count : goal.slice_bounds-result-count
slice_bounds-result-count c = omega (arith, c.from-p.ensures, file_length c.requires)

pub slice_bounds-result-start : goal.slice_bounds-result-start
slice_bounds-result-start c = omega (arith, c.from-p.ensures, file_length c.requires)

pub returns : goal.returns
returns c = outputs_part c.args.stock.now c.from-p.ensures
