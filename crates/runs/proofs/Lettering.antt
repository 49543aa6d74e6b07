-- A loop that writes a list of letters from a position on, piece by piece, as long as they are at most 64.
-- Assumes nothing.
use Prim.Native.Nat.{ℕ, ◌+◌, ◌≤◌, ◌<◌}
use native.Mathlib.Omega.{arith}
use mathlib.Core.Path.{◌≡◌, sym, ap, ◌∙◌}
use mathlib.Core.List.{List, [], ◌++◌}
use lib.ListN.{length, length-append}
use lib.Seq.{sets}
use Rattle.std.specs.Prelude.{Option, None, Some}
use Rattle.theory.proofs.Terms.{conflict}
use Rattle.formats.proofs.Writing.{sets-append}
use Rattle.runs.specs.Inner.Walked.{WroteLetters}

-- it was written and ends at m, or is too long
pub wrote_some : {w before after : List ℕ} {at m : ℕ} → m ≡ at + length w → m ≤ 64 → after ≡ sets before at w → WroteLetters w at before after (Some m)
wrote_some {w} {at = at} e f g = record {
  over = λ h. conflict (cc);
  end = λ n h. let k : n ≡ at + length w = cc in (k, omega arith);
  wrote = λ n h. g;
}

pub wrote_none : {w before after : List ℕ} {at : ℕ} → 64 < at + length w → WroteLetters w at before after None
wrote_none e = record { over = λ h. e; end = λ n h. conflict (cc); wrote = λ n h. conflict (cc) }

pub wrote_as : {v w before after : List ℕ} {at : ℕ} {r : Option ℕ} → v ≡ w → WroteLetters w at before after r → WroteLetters v at before after r
wrote_as e W = rw e W

-- all of `whole` goes to `start`, from `at` on; now it is written up to w, the list is `now`, and `left` is left
pub record Lettering (whole : List ℕ) (at : ℕ) (start left : List ℕ) (w : ℕ) (now : List ℕ) : Type 0 where
  pub low : w ≤ 64
  pub place : w + length left ≡ at + length whole
  pub same_end : sets start at whole ≡ sets now w left

module _ {whole start left now : List ℕ} {at w : ℕ} (W : Lettering whole at start left w now) where
  -- a piece more
  module _ (v rest : List ℕ) {now' : List ℕ} {r : Option ℕ} (e : left ≡ v ++ rest) (F : WroteLetters v w now now' r) where
    pub piece_more : {m : ℕ} → r ≡ Some m → Lettering whole at start rest m now'
    piece_more {m} h =
        let k = F.end m h in
        record {
          low = k.1;
          place = omega (arith, W.place, k.0, ap length e, length-append v rest);
          same_end = W.same_end ∙ ap (sets now w) e ∙ sets-append v rest now w ∙ rw (k.0, F.wrote m h);
        }

    -- or that is too long
    pub piece_over : r ≡ None → WroteLetters whole at start now' None
    piece_over h = wrote_none (omega (arith, F.over h, W.place, ap length e, length-append v rest))

  pub finish : left ≡ [] → WroteLetters whole at start now (Some w)
  finish e = wrote_some (omega (arith, W.place, ap length e)) W.low (sym (W.same_end ∙ ap (sets now w) e))
