-- `children` meets its contract. Assumes nothing.
use native.Mathlib.Omega.{arith}
use lib.ListN.{get_or}
use mathlib.Core.Path.{ap, ◌∙◌}
use Rattle.transducer.proofs.Depths.{under_symbol, under_call}
use Rattle.transducer.proofs.depth.children.Goals as goal

pub returns-then-i-gt0 : goal.returns-then-i-gt0
returns-then-i-gt0 c = let a = c.args in under_call a.ranks.now a.i a.x (omega arith)

pub returns-else-i-gt0 : goal.returns-else-i-gt0
returns-else-i-gt0 c = let a = c.args in ap (λ k. get_or a.ranks.now k 0) c.from.ensures ∙ under_symbol a.ranks.now a.i a.x (omega arith)
