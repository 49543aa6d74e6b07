-- `fill` meets its contract. Assumes nothing.
use native.Mathlib.Omega.{arith}
use Rattle.transducer.proofs.Noting.{nothing_standing}
use Rattle.transducer.proofs.translate.Tables.fill.Goals as goal

pub walk-requires : goal.walk-requires
walk-requires c = let P = c.requires in (P.0, rw P.2 (nothing_standing c.args.out.now P.1), omega arith)
