-- Request F-2 is met.
-- Assumes nothing.
use Rattle.queries.proofs.Laws.{must_test, must_test_more, must_test_all}
use Rattle.demands.specs.Linear.{Request2}

pub linear : Request2
linear = record { single = must_test; old_passes = must_test_more; all_reached = must_test_all }
