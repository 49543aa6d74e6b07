-- `skip` meets its contract. The invariant: what is left to skip from here ends as all from the start, and no step leaves the table. Assumes nothing.
use Prim.Native.Nat.{ℕ, ◌-◌, ◌<◌}
use mathlib.Core.Path.{◌≡◌}
use lib.ListN.{length}
use Rattle.transducer.specs.Inner.Written.{hop}
use Rattle.transducer.proofs.children.skip.Given as goal

abbrev pub invariant-loop : goal.invariant-loop
invariant-loop l = (hop l.ends l.n l.from ≡ hop l.ends (l.n - l.counter) l.p) × ((k : ℕ) → k < l.n - l.counter → hop l.ends k l.p < length l.ends)
