-- `start_heads` meets its contract. The invariant is `StartLoop`. Assumes nothing.
use Rattle.prefixes.proofs.Starting.{start_next, start_end}
use Rattle.prefixes.proofs.pattern.Patterns.start_heads.Goals as goal

pub loop-q-preserved : goal.loop-q-preserved
loop-q-preserved c =
    let k = c.start_state in
    start_next c.requires c.loop-q.invariant c.loop-q-test.true c.body-body.ensures.0 c.body-body.ensures.1 k.ensures.same k.ensures.started

pub returns-clause-started : goal.returns-clause-started
returns-clause-started c = start_end c.requires c.loop-q.invariant c.loop-q-test.false
