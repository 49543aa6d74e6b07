-- Of which of two files the handed out part is: of the first if it is as long as its marks.
-- Assumes nothing.
use Prim.Native.Nat.{ℕ, ◌-◌, ◌≤◌, ◌<◌}
use native.Mathlib.Decide.{dec_lt}
use native.Mathlib.Omega.{arith}
use mathlib.Core.List.{List, ◌∷◌}
use mathlib.Core.Logic.{inl, inr, ⊎_elim, by_cases}
use mathlib.Core.Path.{◌≡◌, refl, sym, ap, ◌∙◌}
use lib.ListN.{length, drop, length-append}
use lib.Seq.{drop_at}
use Rattle.theory.specs.Transducer.{Transducer}
use Rattle.trees.specs.Alphabets.{Alphabets, inputs, outputs}
use Rattle.formats.specs.Answers.{HandsMarks}
use Rattle.trees.specs.Refusal.{Holds}
use Rattle.formats.specs.Sheet.{Sheet}
use Rattle.formats.proofs.Laws.{sheet_holds, sheet_marks}
use Rattle.comparison.specs.Answers.{FewerMarks, HandsShorter}
use Rattle.exports.specs.Exported.{EndsFile, TellsPart, ExportsShorter}
use Rattle.exports.proofs.Parts.{length_zero}

-- marks that are there end their file
module _ (stock s : List ℕ) {part : List ℕ} (H : HandsMarks stock s part) (g : 0 < length part) where
  marks_there : (length part ≤ length s) × (part ≡ drop (length s - length part) s)
  marks_there = ⊎_elim (λ w. ends w.1.1.1.0 w.1.1.1.1) (λ w. absurd (omega (arith, ap length w.1))) H
    where
      ends : {n : ℕ} {M : Transducer ℕ} (S : Sheet (inputs stock) (outputs stock) s n M) → part ≡ S.bytes → (length part ≤ length s) × (part ≡ drop (length s - length part) s)
      ends {n} S e =
          let l = ap length S.coded in
          let l' = length-append S.counts S.bytes in
          (omega (arith, ap length e, l, l'), e ∙ sym (drop_at (n ∷ S.counts) S.bytes (length s - length part) (omega (arith, ap length e, l, l'))) ∙ ap (drop (length s - length part)) S.coded)

  marks_inside : length part ≤ length s
  marks_inside = marks_there.0

  marks_end : EndsFile stock s part (length s - length part) (length part)
  marks_end = record { marks = H; some = g; length_is = refl; there = marks_there.1 }

-- the part that is handed out is not empty, and `first` is the marks of the first file
module _ (stock s s' : List ℕ) {part first : List ℕ} (J : HandsShorter stock s s' part) (B : HandsMarks stock s first) (g : 0 < length part) where
  fewer : Alphabets stock × FewerMarks stock s s' part
  unfolding Holds
  fewer = ⊎_elim (λ w. (w.0.0, ⊎_elim (λ f. f.1) (λ f. absurd (omega (arith, ap length f.1))) w.1)) (λ w. absurd (omega (arith, ap length w.1))) J

  -- what is handed out as its marks is those of its sheet
  first_is : {x : List ℕ} → HandsMarks stock s x → x ≡ fewer.1.sheet.bytes
  first_is {x} H = let F = fewer.1 in sheet_marks stock s fewer.0 F.states F.machine F.sheet x H

  of_first : length first ≡ length part → HandsMarks stock s part
  of_first e =
      let F = fewer.1 in
      by_cases (dec_lt (length F.sheet'.bytes) (length F.sheet.bytes))
      (λ h. absurd (omega (arith, ap length (first_is B), ap length (F.right h))))
      (λ h. rw (F.left (omega arith) ∙ sym (first_is B)) B)

  module _ (e : length first ≡ length part) where
    pub inside_first : length part ≤ length s
    inside_first = marks_inside stock s (of_first e) g

    pub told_first : ExportsShorter stock s s' (length s - length part) (length part) 1
    unfolding TellsPart
    told_first = record { part = part; handed = J; told_by = inr (inl (refl, marks_end stock s (of_first e) g)) }

  of_second : (length first ≡ length part → ⊥) → (HandsMarks stock s part → ⊥) × HandsMarks stock s' part
  of_second d =
      let F = fewer.1 in
      by_cases (dec_lt (length F.sheet'.bytes) (length F.sheet.bytes))
      (λ h. ((λ H. d (ap length (first_is B ∙ sym (first_is H)))), inl (sheet_holds stock s' fewer.0 F.states' F.machine' F.sheet', (F.states', (F.machine', (F.sheet', F.right h))))))
      (λ h. absurd (d (ap length (first_is B ∙ sym (F.left (omega arith))))))

  module _ (d : length first ≡ length part → ⊥) where
    pub inside_second : length part ≤ length s'
    inside_second = marks_inside stock s' (of_second d).1 g

    pub told_second : ExportsShorter stock s s' (length s' - length part) (length part) 2
    unfolding TellsPart
    told_second = record { part = part; handed = J; told_by = inr (inr (refl, (of_second d).0, marks_end stock s' (of_second d).1 g)) }

pub told_empty : (stock s s' : List ℕ) {part : List ℕ} → HandsShorter stock s s' part → length part ≡ 0 → ExportsShorter stock s s' 0 (length part) 0
unfolding TellsPart
told_empty stock s s' {part} J e = record { part = part; handed = J; told_by = inl (refl, length_zero part e, refl, e) }
