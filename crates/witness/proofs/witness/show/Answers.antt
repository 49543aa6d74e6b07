-- `show` meets its contract. Assumes nothing.
use Prim.Native.Nat.{ℕ}
use native.Mathlib.Omega.{arith}
use mathlib.Core.Path.{◌∙◌}
use lib.ListN.{length-replicate, length-take}
use Rattle.witness.proofs.Showing.{show_nodes, shown_all}
use Rattle.witness.proofs.witness.show.Goals as goal

pub copy_at-requires : goal.copy_at-requires
copy_at-requires c = simp length-take (omega (arith, c.requires.3, show_nodes c.trace-s.ensures))

pub returns : goal.returns
returns c = shown_all c.trace-s.ensures (c.trace-s.auto.place ∙ length-replicate {A = ℕ} 16128 0) c.copy_at.ensures c.copy_at-2.ensures
