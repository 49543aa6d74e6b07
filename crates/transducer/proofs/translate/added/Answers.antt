-- `added` meets its contract. Assumes nothing.
use native.Mathlib.Omega.{arith}
use Rattle.transducer.proofs.Filling.{count_some, count_none}
use Rattle.transducer.proofs.translate.added.Goals as goal

pub returns-then-n-limit : goal.returns-then-n-limit
returns-then-n-limit c = count_none (omega (arith, c.if-n-limit.true, c.requires))

pub returns : goal.returns
returns c = count_some (omega (arith, c.if-n-limit.false, c.requires))
