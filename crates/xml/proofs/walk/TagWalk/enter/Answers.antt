-- `enter` meets its contract. Assumes nothing.
use native.Mathlib.Omega.{arith}
use mathlib.Core.Path.{refl, sym}
use Rattle.xml.proofs.Walking.{symbol_there, entered_leaf, entered_node}
use Rattle.xml.proofs.walk.TagWalk.enter.Goals as goal

pub bounds-ranks-from : goal.bounds-ranks-from
bounds-ranks-from c = omega (arith, symbol_there c.requires.0 c.requires.1, c.from.ensures)

pub returns-then-rank-eq0 : goal.returns-then-rank-eq0
returns-then-rank-eq0 c = entered_leaf c.requires.0 c.requires.1 _ refl (rw (sym c.from.ensures) c.if-rank-eq0.true)

pub returns : goal.returns
returns c = let w = c.from.ensures in rw w (entered_node c.requires.0 c.requires.1 _ refl (rw w at c.if-rank-eq0.false))
