-- `read_alphabets` meets its contract. Assumes nothing.
use mathlib.Core.Path.{ap}
use lib.ListN.{length}
use Rattle.trees.proofs.Judging.{refuse, pass, accept}
use Rattle.trees.proofs.Deciding.{refuted, held}
use Rattle.trees.proofs.alphabet.read_alphabets.Goals as goal

pub returns-then-not-alphabets_right : goal.returns-then-not-alphabets_right
returns-then-not-alphabets_right c = refuse (refuted c.alphabets_right.ensures c.if-not-alphabets_right.true-raw) tt

pub input_ranks-ins-requires : goal.input_ranks-ins-requires
input_ranks-ins-requires c = held c.alphabets_right.ensures c.if-not-alphabets_right.false-raw

pub output_ranks-outs-requires : goal.output_ranks-outs-requires
output_ranks-outs-requires c = held c.alphabets_right.ensures c.if-not-alphabets_right.false-raw

pub returns : goal.returns
returns c =
    pass (held c.alphabets_right.ensures c.if-not-alphabets_right.false-raw) (accept (ap length c.input_ranks-ins.ensures, ap length c.output_ranks-outs.ensures))
