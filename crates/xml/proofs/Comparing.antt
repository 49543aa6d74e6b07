-- A loop that compares a text with a list, word by word.
-- Assumes nothing.
use Prim.Native.Nat.{ℕ, ◌+◌, ◌≤◌}
use native.Mathlib.Omega.{arith}
use mathlib.Core.Bool.{Bool}
use mathlib.Core.List.{List, [], ◌++◌}
use mathlib.Core.Path.{◌≡◌, refl, sym, ap, ◌∙◌}
use lib.ListN.{length, drop, length-drop, take-append-drop, drop_of_length-le}
use lib.Seq.{drop-drop, drop_at, take_at}
use Rattle.trees.specs.Refusal.{Decides}
use Rattle.xml.specs.Inner.Tags.{Begins}
use Rattle.xml.proofs.Tags.{room_at}

-- the text is `whole` exactly if its rest from `end` on is `left`
pub record Comparing (whole text left : List ℕ) (end : ℕ) : Type 0 where
  pub inside : end ≤ length text
  pub there : whole ≡ text → left ≡ drop end text
  pub back : left ≡ drop end text → whole ≡ text

pub begin : (whole text : List ℕ) → Comparing whole text whole 0
begin whole text = record { inside = omega arith; there = λ e. e; back = λ e. e }

module _ {whole text left : List ℕ} {end : ℕ} (C : Comparing whole text left end) (v rest : List ℕ) (e : left ≡ v ++ rest) where
  -- the next word does not stand there
  pub other_word : (Begins v (drop end text) → ⊥) → whole ≡ text → ⊥
  other_word f w = f (rw (sym (C.there w) ∙ e) (take_at v rest (length v) refl))

  -- it does
  pub same_word : Begins v (drop end text) → {end' : ℕ} → end' ≡ end + length v → Comparing whole text rest end'
  same_word b {end'} n = record {
    inside = omega (arith, room_at v text end C.inside b);
    there = λ w. sym (drop_at v rest (length v) refl) ∙ ap (drop (length v)) (sym e ∙ C.there w) ∙ drop-drop (length v) end text ∙ ap (λ k. drop k text) (sym n);
    back = λ w. C.back (e ∙ ap (λ r. v ++ r) (w ∙ ap (λ k. drop k text) n ∙ sym (drop-drop (length v) end text)) ∙ ap (λ u. u ++ drop (length v) (drop end text)) (sym b) ∙ take-append-drop (length v) (drop end text));
  }

-- none is left
pub finish : {whole text left : List ℕ} {end : ℕ} → Comparing whole text left end → left ≡ [] → {b : Bool} → Decides (end ≡ length text) b → Decides (whole ≡ text) b
finish {whole} {text} {left} {end} C e D = record {
  sound = λ t. C.back (e ∙ sym (drop_of_length-le text {i = end} (omega (arith, D.sound t))));
  complete = λ w. D.complete (omega (arith, C.inside, length-drop end text, ap length (sym e ∙ C.there w)));
}
