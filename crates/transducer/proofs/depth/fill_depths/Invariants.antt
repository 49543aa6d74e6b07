-- `fill_depths` meets its contract. The loop's invariant: the depths of the bodies before b are noted. Assumes nothing.
use Prim.Native.Nat.{ℕ, ◌<◌}
use mathlib.Core.Path.{◌≡◌}
use lib.ListN.{length}
use Rattle.transducer.specs.Inner.Depth.{DepthsAt}
use Rattle.transducer.proofs.depth.fill_depths.Given as goal

abbrev pub invariant-loop-b : goal.invariant-loop-b
invariant-loop-b l = (length l.depths ≡ 8192) × ((j : ℕ) → j < l.b → DepthsAt l.outs l.starts l.marks l.depths j)
