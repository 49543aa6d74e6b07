-- `path_from` meets its contract. Assumes nothing.
use Prim.Native.Nat.{ℕ}
use native.Mathlib.Omega.{arith}
use lib.ListN.{length-replicate, get_or-replicate}
use Rattle.witness.proofs.Decreasing.{filled_path}
use Rattle.witness.proofs.witness.path_from.Goals as goal

pub fill_distances-requires : goal.fill_distances-requires
fill_distances-requires c =
    let P = c.requires in
    record {
      table = record { outs = P.outs; layout = P.layout; leaf = P.leaf; long = omega (arith, P.layout.few_states, length-replicate {A = ℕ} 128 0) };
      zeros = λ q h. get_or-replicate 128 q 0 0 (omega (arith, P.layout.few_states));
    }

pub write_path-requires : goal.write_path-requires
write_path-requires c =
    let P = c.requires in
    filled_path (record { outs = P.outs; layout = P.layout; leaf = P.leaf; long = omega (arith, P.layout.few_states, c.fill_distances.auto.dist, length-replicate {A = ℕ} 128 0) }) c.fill_distances.ensures P.earliest P.state P.room
