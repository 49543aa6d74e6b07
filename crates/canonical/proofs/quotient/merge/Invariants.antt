-- `merge` meets its contract. The invariant is `MergeLoop`. Assumes nothing.
use mathlib.Core.Path.{◌≡◌}
use lib.ListN.{length}
use Rattle.canonical.proofs.Quotients.{MergeLoop}
use Rattle.canonical.proofs.quotient.merge.Given as goal

abbrev pub invariant-loop-k : goal.invariant-loop-k
invariant-loop-k l = (length l.starts2 ≡ length l.initial.starts2) × (length l.out ≡ length l.initial.out) × MergeLoop l.ins l.starts l.marks l.classes l.least l.count l.starts2 l.out l.k
