-- `fill_starts` meets its contract. The invariant: the sum is the offset, the starts so far are noted, and what stands behind them is as it was. Assumes nothing.
use mathlib.Core.Path.{◌≡◌}
use Rattle.formats.specs.Inner.Layout.{offset, Starts, KeptBehind}
use Rattle.formats.proofs.bodies.fill_starts.Given as goal

abbrev pub invariant-loop-j : goal.invariant-loop-j
invariant-loop-j l = (l.sum ≡ offset l.counts l.j) × Starts l.counts l.starts l.j × KeptBehind l.initial.starts l.starts l.j
