-- `write_address` meets its contract. The invariant: of the trees that begin at letter j, letter m stands in the one number `between`, and its address there is written. Assumes nothing.
use Prim.Native.Nat.{ℕ}
use mathlib.Core.Path.{◌≡◌}
use lib.ListN.{length}
use Rattle.witness.specs.Inner.Shown.{InBody}
use Rattle.witness.proofs.Addresses.{AddressLoop}
use Rattle.witness.proofs.shown.write_address.Given as goal

abbrev pub invariant-loop-j : goal.invariant-loop-j
invariant-loop-j l = (length l.place ≡ length l.initial.place) × ((n r to : ℕ) → InBody l.outs l.marks n r l.from to l.m → AddressLoop l.outs l.marks n r l.from to l.m l.initial.place l.at l.place l.w l.between l.j)
