-- `write_sizes` meets its contract: its pieces, one behind the other. Assumes nothing.
use Rattle.report.proofs.Pieces.{sizes_written}
use Rattle.report.proofs.text.write_sizes.Goals as goal

pub returns : goal.returns
returns c = let a = c.args in sizes_written a.word.now a.states a.marks c.write_word-a.ensures c.write_number-b.ensures c.write_word-c.ensures c.write_number-d.ensures c.write_word.ensures
