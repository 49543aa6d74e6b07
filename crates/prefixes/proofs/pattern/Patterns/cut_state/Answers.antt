-- `cut_state` meets its contract: ⊤ stays, and for any other pattern the invariant is `StateLoop`. Assumes nothing.
use Rattle.prefixes.proofs.Settling.{state_start, state_next, state_end, top_kept}
use Rattle.prefixes.proofs.pattern.Patterns.cut_state.Goals as goal

pub returns-then-self-q-clause-cut : goal.returns-then-self-q-clause-cut
returns-then-self-q-clause-cut c =
    top_kept c.requires.0 c.args.tables.now.leaf c.args.q c.requires.1 c.if-self-q.true

pub loop-a-init : goal.loop-a-init
loop-a-init c = state_start c.args.tables.now.leaf c.args.q c.requires.0.table

pub loop-a-preserved : goal.loop-a-preserved
loop-a-preserved c = let k = c.cut_rhs-any in state_next c.requires.0 c.loop-a.invariant c.loop-a-test.true k.ensures.cut k.ensures.same k.auto.other

pub returns-clause-cut : goal.returns-clause-cut
returns-clause-cut c = state_end c.requires.0 c.loop-a.invariant c.loop-a-test.false
