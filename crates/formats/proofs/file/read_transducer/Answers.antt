-- `read_transducer` meets its contract. Assumes nothing.
use Rattle.trees.proofs.Deciding.{refuted, held}
use Rattle.trees.proofs.Judging.{refuse, pass}
use Rattle.formats.proofs.file.read_transducer.Goals as goal

pub returns-then-not-alphabets_right : goal.returns-then-not-alphabets_right
returns-then-not-alphabets_right c = refuse (refuted c.alphabets_right.ensures c.if-not-alphabets_right.true-raw) tt

pub returns : goal.returns
returns c = pass (held c.alphabets_right.ensures c.if-not-alphabets_right.false-raw) c.judge_file.ensures
