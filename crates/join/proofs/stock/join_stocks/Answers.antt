-- `join_stocks` meets its contract: two counts and two lists are written, one behind the other. Assumes nothing.
use native.Mathlib.Omega.{arith}
use lib.ListN.{length, length-set}
use Rattle.join.proofs.Stocks.{stock_joined}
use Rattle.join.proofs.stock.join_stocks.Goals as goal

pub returns : goal.returns
returns c = stock_joined c.requires.0 c.requires.1 c.input_ranks-ins.ensures c.output_ranks-outs.ensures c.args.area.now (omega (arith, length-set c.args.area.now 0 (length c.input_ranks-ins.result.now))) c.copy_at.ensures c.copy_at-2.ensures
