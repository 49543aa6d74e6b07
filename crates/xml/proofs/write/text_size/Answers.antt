-- `text_size` meets its contract. The invariant: the tags of the symbols passed have this size. Assumes nothing.
use native.Mathlib.Omega.{arith}
use Rattle.xml.proofs.Lengths.{all_added}
use Rattle.xml.proofs.Walking.{found}
use Rattle.xml.proofs.write.text_size.Goals as goal

-- every symbol of the tree is known
pub bounds-ranks-from : goal.bounds-ranks-from
bounds-ranks-from c =
    omega (arith, (found c.args.ranks.now c.args.s.now c.requires.one c.loop-symbol.symbol-index c.loop-symbol-test.true).known, c.from.ensures)

pub returns : goal.returns
returns c = all_added c.loop-symbol.invariant c.loop-symbol-test.false c.requires.one
