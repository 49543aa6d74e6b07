-- `write_differ` meets its contract: its pieces, one behind the other. Assumes nothing.
use Rattle.report.proofs.Pieces.{differ_written}
use Rattle.report.proofs.text.write_differ.Goals as goal

pub returns : goal.returns
returns c = let a = c.args in differ_written a.tree.now a.address.now a.left a.right c.write_word-a.ensures c.write_separated-b.ensures c.write_word-c.ensures c.write_address-d.ensures c.write_symbol-e.ensures c.write_symbol-f.ensures c.write_word.ensures
