-- `reduce_by` meets its contract: the classes, and the quotient by them. Assumes nothing.
use Prim.Native.Nat.{ℕ}
use native.Mathlib.Omega.{arith}
use lib.ListN.{length-replicate}
use Rattle.canonical.proofs.Normalizing.{settled_mergeable, settled_reduces}
use Rattle.canonical.proofs.normal.reduce_by.Goals as goal

pub merge-requires : goal.merge-requires
merge-requires c = settled_mergeable c.requires.0 c.settle_classes-count.ensures (omega (arith, c.settle_classes-count.auto.least, length-replicate {A = ℕ} 128 0)) c.requires.2 c.requires.3

pub returns : goal.returns
returns c = settled_reduces c.requires.0 c.settle_classes-count.ensures c.merge.ensures
