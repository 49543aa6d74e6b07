-- `wrap` meets its contract. Assumes nothing.
use Prim.Native.Nat.{◌-◌}
use mathlib.Core.Path.{refl, ap}
use Rattle.witness.proofs.Wrapping.{wrapped}
use Rattle.witness.proofs.shown.wrap.Goals as goal

pub returns : goal.returns
returns c = wrapped c.requires (ap (λ k. k - c.args.i) c.from.ensures) refl c.fill.ensures c.fill-2.ensures refl
