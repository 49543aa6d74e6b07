-- `judge` meets its contract: what demand 3 says of what `clean` and `compare` ensure. Assumes nothing.
use Rattle.demands.proofs.Third.{judges}
use Rattle.demands.proofs.judge.Goals as goal

pub returns-clause-judges : goal.returns-clause-judges
returns-clause-judges c = judges c.clean-a.result c.clean-b.result c.compare-c.result c.clean-a.ensures c.clean-b.ensures c.compare-c.ensures
