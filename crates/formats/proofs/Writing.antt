-- A loop that writes a list from a position on, piece by piece.
-- Assumes nothing.
use Prim.Native.Nat.{ℕ, suc, ◌+◌, ◌≤◌, ◌<◌}
use native.Mathlib.Nat.{add-zero}
use native.Mathlib.Numerals.{add-one}
use native.Mathlib.Omega.{arith}
use mathlib.Core.Path.{◌≡◌, refl, sym, ap, ◌∙◌}
use mathlib.Core.List.{List, [], ◌∷◌, ◌++◌}
use lib.ListN.{length, set, length-set, length-append}
use lib.Seq.{sets, length-sets}
use Rattle.formats.specs.Inner.Written.{Wrote}

pub sets-append : (v w l : List ℕ) (at : ℕ) → sets l at (v ++ w) ≡ sets (sets l at v) (at + length v) w
sets-append [] w l at = rw add-zero
sets-append (x ∷ v) w l at = let e : suc at + length v ≡ at + suc (length v) = omega arith in sets-append v w (set l at x) (suc at) ∙ ap (λ k. sets (sets (set l at x) (suc at) v) k w) e

-- all of `whole` goes to `start`, from `at` on; now it is written up to w, the list is `now`, and `left` is left
pub record Writing (whole : List ℕ) (at : ℕ) (start left : List ℕ) (w : ℕ) (now : List ℕ) : Type 0 where
  pub same : length now ≡ length start
  pub place : w + length left ≡ at + length whole
  pub same_end : sets start at whole ≡ sets now w left

pub begin : (whole start : List ℕ) (at : ℕ) → Writing whole at start whole at start
begin whole start at = record { same = refl; place = refl; same_end = refl }

module _ {whole start left now : List ℕ} {at w : ℕ} (W : Writing whole at start left w now) where
  pub room : {x : ℕ} {rest : List ℕ} → left ≡ x ∷ rest → at + length whole ≤ length start → w < length now
  room e h = omega (arith, W.place, W.same, ap length e)

  pub one_more_lem : (x : ℕ) (rest : List ℕ) {w' : ℕ} {now' : List ℕ} → left ≡ x ∷ rest → w' ≡ w + 1 → now' ≡ set now w x → Writing whole at start rest w' now'
  one_more_lem x rest e f g = record {
    same = ap length g ∙ length-set now w x ∙ W.same;
    place = omega (arith, W.place, ap length e);
    same_end = W.same_end ∙ ap (sets now w) e ∙ rw (f, g, add-one);
  }

  pub room_word : (v rest : List ℕ) → left ≡ v ++ rest → at + length whole ≤ length start → w + length v ≤ length now
  room_word v rest e h = omega (arith, W.place, W.same, ap length e, length-append v rest)

  pub word_more : (v rest : List ℕ) {w' : ℕ} {now' : List ℕ} → left ≡ v ++ rest → w' ≡ w + length v → now' ≡ sets now w v → Writing whole at start rest w' now'
  word_more v rest e f g = record {
    same = ap length g ∙ length-sets now w v ∙ W.same;
    place = omega (arith, W.place, ap length e, length-append v rest);
    same_end = W.same_end ∙ ap (sets now w) e ∙ sets-append v rest now w ∙ rw (f, g);
  }

  pub finish : left ≡ [] → (w ≡ at + length whole) × (now ≡ sets start at whole)
  finish e = (omega (arith, W.place, ap length e), sym (W.same_end ∙ ap (sets now w) e))

-- ---- words, one behind the other
-- a word, and another behind it
pub then : {t u w a b : List ℕ} {at m to : ℕ} → Wrote t u at m a → Wrote u w m to b → Wrote t w at to (a ++ b)
then {t} {a = a} {b} {at} {m} A B = record {
  wrote = B.wrote ∙ rw (A.wrote, A.behind) (sym (sets-append a b t at));
  behind = omega (arith, A.behind, B.behind, length-append a b);
}

-- the same word
pub wrote_as : {t u a b : List ℕ} {at to : ℕ} → a ≡ b → Wrote t u at to a → Wrote t u at to b
wrote_as e W = rw (← e) W

-- the area stays as long
pub wrote_long : {t u a : List ℕ} {at to : ℕ} → Wrote t u at to a → length u ≡ length t
wrote_long {t} {a = a} {at} W = ap length W.wrote ∙ length-sets t at a
