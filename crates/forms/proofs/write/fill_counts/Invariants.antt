-- `fill_counts` meets its contract. The invariant: the counts so far are written. Assumes nothing.
use mathlib.Core.Path.{◌≡◌}
use lib.ListN.{length}
use Rattle.forms.specs.Inner.Writing.{FillsCounts}
use Rattle.forms.proofs.write.fill_counts.Given as goal

abbrev pub invariant-loop-j : goal.invariant-loop-j
invariant-loop-j l = (length l.counts ≡ length l.initial.counts) × FillsCounts l.starts l.j l.counts
