-- `join` meets its contract. The invariant is `JoinLoop`. Assumes nothing.
use native.Mathlib.Omega.{arith}
use Rattle.std.proofs.lemmas.List.{set-get_or}
use Rattle.pairs.proofs.Joining.{join_hit, join_miss, join_end}
use Rattle.pairs.proofs.pairs.join.Goals as goal
use Rattle.pairs.proofs.pairs.join.Goals.{then-class-c, else-class-c}

pub loop-class-preserved : goal.loop-class-preserved
loop-class-preserved c =
    elim c.if-class-c.branch [
      | then-class-c w ↦ rw w.classes-is (join_hit c.loop-class.invariant (omega arith) w.if-class-c.true)
      | else-class-c w ↦ rw (w.classes-is, set-get_or) (join_miss c.loop-class.invariant (omega arith) w.if-class-c.false)
    ]

pub returns : goal.returns
returns c = join_end c.loop-class.invariant (omega arith)
