-- `join` meets its contract: the room, the alphabets and their fit, and then what is answered of the two files. Assumes nothing.
use native.Mathlib.Omega.{arith}
use mathlib.Core.Path.{refl, sym, ◌∙◌}
use Rattle.trees.proofs.Deciding.{refuted, held}
use Rattle.trees.proofs.Judging.{refuse, pass}
use Rattle.join.proofs.Entering.{same_ranks}
use Rattle.join.proofs.join.join.Goals as goal

pub returns-then-area-lt20483 : goal.returns-then-area-lt20483
returns-then-area-lt20483 c = refuse (λ h. omega (arith, c.if-area-lt20483.true)) refl

pub returns-then-not-alphabets_right : goal.returns-then-not-alphabets_right
returns-then-not-alphabets_right c = pass (omega (arith, c.if-area-lt20483.false)) (refuse (refuted c.alphabets_right.ensures c.if-not-alphabets_right.true-raw) refl)

pub returns-then-not-alphabets_right-2 : goal.returns-then-not-alphabets_right-2
returns-then-not-alphabets_right-2 c = pass (omega (arith, c.if-area-lt20483.false)) (pass (held c.alphabets_right.ensures c.if-not-alphabets_right.false-raw) (refuse (refuted c.alphabets_right-2.ensures c.if-not-alphabets_right-2.true-raw) refl))

pub returns-then-ne : goal.returns-then-ne
returns-then-ne c = pass (omega (arith, c.if-area-lt20483.false)) (pass (held c.alphabets_right.ensures c.if-not-alphabets_right.false-raw) (pass (held c.alphabets_right-2.ensures c.if-not-alphabets_right-2.false-raw) (refuse (refuted (same_ranks c.output_ranks.ensures c.input_ranks.ensures) (sym c.ne.ensures ∙ c.if-ne.true)) refl)))

pub returns : goal.returns
returns c = pass (omega (arith, c.if-area-lt20483.false)) (pass (held c.alphabets_right.ensures c.if-not-alphabets_right.false-raw) (pass (held c.alphabets_right-2.ensures c.if-not-alphabets_right-2.false-raw) (pass (held (same_ranks c.output_ranks.ensures c.input_ranks.ensures) (sym c.ne.ensures ∙ c.if-ne.false)) c.join_sheets.ensures)))
