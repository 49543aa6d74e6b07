-- `write_path` meets its contract. The invariant is `PathLoop`. Assumes nothing.
use Prim.Native.Nat.{◌-◌}
use native.Mathlib.Omega.{arith}
use mathlib.Core.Path.{◌≡◌}
use Rattle.witness.proofs.Decreasing.{decreasing_start, decreasing_steppable, decreasing_next, decreasing_end}
use Rattle.witness.proofs.other.write_path.Goals as goal

pub loop-k-init : goal.loop-k-init
loop-k-init c = decreasing_start c.requires c.from-count.ensures

pub put_step-p-requires : goal.put_step-p-requires
put_step-p-requires c = decreasing_steppable c.requires c.loop-k.invariant

pub loop-k-preserved : goal.loop-k-preserved
loop-k-preserved c = decreasing_next c.requires c.loop-k.invariant c.put_step-p.ensures (omega (arith, c.loop-k-test.true))

pub put_step-symbol-requires : goal.put_step-symbol-requires
put_step-symbol-requires c = let e : c.loop-k.k ≡ c.from-count.result - 1 = omega arith in rw e at (decreasing_steppable c.requires c.loop-k.invariant)

pub returns : goal.returns
returns c =
    let e : c.loop-k.k ≡ c.from-count.result - 1 = omega arith in
    decreasing_end c.requires c.loop-k.invariant (rw e c.put_step-symbol.ensures) c.from-count.ensures (omega arith)
