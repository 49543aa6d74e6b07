-- `start` meets its contract: the tests in their order, and then the alphabets are copied. Assumes nothing.
use Rattle.std.proofs.Common.{refl, arith}
use Rattle.trees.proofs.Deciding.{refuted, held}
use Rattle.trees.proofs.Judging.{refuse, pass, accept}
use Rattle.records.proofs.making.start.Goals as goal

pub returns-then-n-lt33 : goal.returns-then-n-lt33
returns-then-n-lt33 c = refuse (λ g. omega (arith, c.if-n-lt33.true)) refl

pub returns-then-not-alphabets_right : goal.returns-then-not-alphabets_right
returns-then-not-alphabets_right c = pass c.if-n-lt33.false (refuse (refuted c.alphabets_right.ensures c.if-not-alphabets_right.true-raw) refl)

pub returns-then-size-area : goal.returns-then-size-area
returns-then-size-area c = pass c.if-n-lt33.false (pass (held c.alphabets_right.ensures c.if-not-alphabets_right.false-raw) (refuse (λ g. omega (arith, c.if-size-area.true)) refl))

pub returns : goal.returns
returns c = pass c.if-n-lt33.false (pass (held c.alphabets_right.ensures c.if-not-alphabets_right.false-raw) (pass c.if-size-area.false (accept (record { head = refl; bodies = c.copy_at.ensures }))))
