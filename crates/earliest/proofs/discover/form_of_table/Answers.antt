-- `form_of_table` meets its contract: the common prefixes, and the form that is discovered by them. Assumes nothing.
use Prim.Native.Nat.{ℕ}
use lib.ListN.{length-replicate}
use native.Mathlib.Omega.{arith}
use Rattle.earliest.proofs.Numbers.{by_numbers}
use Rattle.earliest.proofs.Forming.{can_prefix, put_inside, can_discover, form_by_table}
use Rattle.earliest.proofs.discover.form_of_table.Goals as goal

pub prefixes-requires : goal.prefixes-requires
prefixes-requires c = can_prefix c.requires.0 (length-replicate {A = ℕ} 8192 0) (length-replicate {A = ℕ} 4096 0)

pub slice_bounds-expansion-end-2 : goal.slice_bounds-expansion-end-2
slice_bounds-expansion-end-2 c = put_inside c.requires.0 c.prefixes.ensures

pub discover-requires : goal.discover-requires
discover-requires c =
    let X = can_discover c.requires.0 c.prefixes.ensures in
    (X, record { numbers = by_numbers X; leaf = c.requires.0.leaf }, omega arith, c.requires.1, c.requires.2)

pub returns : goal.returns
returns c = form_by_table c.requires.0 c.prefixes.ensures c.discover.ensures
