-- `join_three` meets its contract: what request F-9 says of what `join` ensures. Assumes nothing.
use Rattle.demands.proofs.Joining.{joins_first, joins_second, both_ways}
use Rattle.demands.proofs.join_three.Goals as goal

pub returns-clause-joins_2 : goal.returns-clause-joins_2
returns-clause-joins_2 c = joins_first c.join-left.result c.file_in.ensures c.join-left.ensures

pub returns-clause-joins_4 : goal.returns-clause-joins_4
returns-clause-joins_4 c = joins_second c.join-right.result c.file_in-2.ensures c.join-right.ensures

pub returns-clause-joins_three : goal.returns-clause-joins_three
returns-clause-joins_three c = both_ways c.join-first.result c.join-left.result c.join-second.result c.join-right.result c.join-first.ensures (joins_first c.join-left.result c.file_in.ensures c.join-left.ensures) c.join-second.ensures (joins_second c.join-right.result c.file_in-2.ensures c.join-right.ensures)
