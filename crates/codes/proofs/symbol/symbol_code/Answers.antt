-- `symbol_code` meets its contract: what the table has there. Assumes nothing.
use Rattle.codes.proofs.Table.{coded_at}
use Rattle.codes.proofs.symbol.symbol_code.Goals as goal

pub returns : goal.returns
returns c = coded_at 64 c.table.result c.table.ensures c.args.k c.requires
