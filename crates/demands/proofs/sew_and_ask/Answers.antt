-- `sew_and_ask` meets its contract: what demand 2 says of what `translate` and `symbol_at` ensure. Assumes nothing.
use borrow.Author.Rules.{rules}
use Rattle.demands.proofs.Second.{sewn_and_asked}
use Rattle.demands.proofs.sew_and_ask.Goals as goal

pub returns-clause-sews_and_asks : goal.returns-clause-sews_and_asks
returns-clause-sews_and_asks c = search (sewn_and_asked, rules)
