-- What `report` promises comes to: every text is at most 36,911 bytes long, so that an area that is not refused begins with the whole text.
-- Assumes nothing.
use Rattle.std.specs.Prelude.{Ok, Result}
use Rattle.trees.specs.declared.refusal.Refusal.{Refusal}
use Prim.Native.Nat.{ℕ, ◌≤◌}
use native.Mathlib.Omega.{arith}
use mathlib.Core.List.{List, ◌++◌}
use mathlib.Core.Logic.{◌⊎◌, inl, inr}
use mathlib.Core.Path.{◌≡◌, ap}
use lib.ListN.{length, take, length-append}
use Rattle.trees.specs.Refusal.{Outcome, accepted, refused, Holds, Judged}
use Rattle.trees.proofs.Judging.{accepted_holds}
use Rattle.formats.proofs.Laws.{written_take}
use Rattle.canonical.specs.Answers.{SewAlike}
use Rattle.comparison.specs.Answers.{pair_check}
use Rattle.report.specs.Answers.{text_area, Shows, Report, printed, Lines, Reports}
use Rattle.report.specs.Text.{number_text, refused_word, first_word, second_word, end_of_line, sizes_line, alike_line}
use Rattle.report.proofs.Decimals.{number_four}
use Rattle.report.proofs.Reporting.{line_short, differing_bounded}

module _ {stock s s' : List ℕ} where
  -- the third line
  third_short : {line : List ℕ} → Holds (pair_check stock s s') → (SewAlike stock s s' × (line ≡ alike_line)) ⊎ Shows stock s s' line → length line ≤ 36880
  third_short H (inl (a, e)) = omega (arith, ap length e)
  third_short H (inr S) = omega (arith, ap length S.says, (differing_bounded stock s s' H S.differ).line)

  three_short : {text : List ℕ} → Holds (pair_check stock s s') → Report stock s s' text → length text ≤ text_area
  three_short H R =
      let a = sizes_line first_word R.states R.marks in
      let b = sizes_line second_word R.states' R.marks' in
      omega (arith, ap length R.says, length-append (a ++ b) R.line, length-append a b, line_short R.first first_word, line_short R.second second_word, third_short H R.verdict)

  -- every text is short
  pub lines_short : {text : List ℕ} → Lines stock s s' text → length text ≤ text_area
  lines_short {text} L = go L.outcome L.judged L.says
    where
      go : (o : Outcome (List ℕ)) → Judged Unit (Report stock s s') (pair_check stock s s') o → text ≡ printed o → length text ≤ text_area
      go (accepted t) J e = let w = accepted_holds J in omega (arith, ap length e, three_short w.0 w.1)
      go (refused k) J e = omega (arith, ap length e, length-append (refused_word ++ number_text k) end_of_line, length-append refused_word (number_text k), number_four k)

  module _ {area after : List ℕ} {r : Result ℕ Refusal} {n : ℕ} (J : Reports stock s s' area after r) (e : r ≡ Ok n) where
    -- so an area that is not refused has room for it
    pub text_inside : n ≤ length area
    unfolding Holds
    text_inside = let w = accepted_holds (rw e at J) in omega (arith, w.0.0, w.1.size, lines_short w.1.lines)

    -- and begins with it
    pub text_first : Lines stock s s' (take n after)
    text_first = let P = (accepted_holds (rw e at J)).1 in rw (written_take P.text area after n P.size (omega (arith, P.size, text_inside)) P.wrote) P.lines
