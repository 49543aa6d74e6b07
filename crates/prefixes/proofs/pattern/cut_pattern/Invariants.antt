-- `cut_pattern` meets its contract. Assumes nothing.
use Prim.Native.Nat.{◌-◌}
use lib.ListN.{length}
use Rattle.prefixes.proofs.Patterns.{Cutting}
use Rattle.prefixes.proofs.pattern.cut_pattern.Given as goal

abbrev pub invariant-loop-i : goal.invariant-loop-i
invariant-loop-i l = Cutting l.outs l.initial.x l.y l.x l.i l.j l.w l.cut

abbrev pub decreases-loop-i : goal.decreases-loop-i
decreases-loop-i l = length l.initial.x - l.i
