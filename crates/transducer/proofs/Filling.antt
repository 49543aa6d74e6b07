-- A loop that writes a list from a position on, piece by piece, as far as there is room, and counts on up to a limit; and counts levels.
-- Assumes nothing.
use Prim.Native.Nat.{ℕ, ◌+◌, ◌≤◌, ◌<◌, max}
use native.Mathlib.Omega.{arith}
use mathlib.Core.Path.{◌≡◌, refl, sym, ap, ap₂, ◌∙◌}
use mathlib.Core.List.{List, [], ◌∷◌, ◌++◌}
use lib.ListN.{length, set, take, drop, length-append}
use lib.Seq.{sets, sets-eq, take_at}
use Rattle.transducer.specs.Inner.Written.{few_levels, Counted, Wrote, Emitted}
use Rattle.transducer.specs.Inner.Tables.{Stands, EmittedBy}
use Rattle.transducer.specs.declared.translate.Emission.{Emission}
use Rattle.transducer.specs.declared.translate.Notes.{Notes}
use Rattle.transducer.specs.declared.translate.Tables.{Tables}
use Rattle.std.specs.Prelude.{Some, None, Err}
use Rattle.theory.proofs.Terms.{conflict}
use Rattle.trees.proofs.Judging.{refuse}
use Rattle.trees.specs.declared.refusal.Refusal.TheVariants.{LongOutput}
use Rattle.formats.proofs.Writing.{sets-append}

-- all of `whole` goes to `start`, from `at` on, if there is room for it; now it is counted up to w, the list is `now`, and `left` is left
pub record Filling (whole : List ℕ) (at limit : ℕ) (start left : List ℕ) (w : ℕ) (now : List ℕ) : Type 0 where
  pub same : length now ≡ length start
  pub low : w ≤ limit
  pub place : w + length left ≡ at + length whole
  pub same_end : at + length whole ≤ length start → sets start at whole ≡ sets now w left

module _ {whole start left now : List ℕ} {at limit w : ℕ} (W : Filling whole at limit start left w now) where
  module _ (v rest : List ℕ) (e : left ≡ v ++ rest) where
    -- a piece more
    pub piece_more : {w' : ℕ} {now' : List ℕ} → length now' ≡ length now → Wrote v w limit now now' w' → Filling whole at limit start rest w' now'
    piece_more {w'} {now'} h F = record {
      same = h ∙ W.same;
      low = F.low;
      place = omega (arith, W.place, F.end, ap length e, length-append v rest);
      same_end = λ k.
          let l : w + length v ≤ length now = omega (arith, W.place, W.same, ap length e, length-append v rest) in
          W.same_end k ∙ ap (sets now w) e ∙ sets-append v rest now w ∙ rw (F.end, F.wrote l);
    }

    -- or that is past the limit
    pub piece_over : limit < w + length v → limit < at + length whole
    piece_over h = omega (arith, W.place, ap length e, length-append v rest)

  pub finish : left ≡ [] → Wrote whole at limit start now w
  finish e = record { end = omega (arith, W.place, ap length e); low = W.low; wrote = λ h. sym (W.same_end h ∙ ap (sets now w) e) }

pub wrote_as : {v w before after : List ℕ} {at limit r : ℕ} → v ≡ w → Wrote w at limit before after r → Wrote v at limit before after r
wrote_as e W = rw e W

-- one symbol
pub one_wrote : (x : ℕ) {at limit n : ℕ} {before after : List ℕ} → after ≡ set before at x → (n ≡ at + 1) × (n ≤ limit) → Wrote (x ∷ []) at limit before after n
one_wrote x e h = record { end = h.0; low = h.1; wrote = λ _. e }

-- n more than `have` end at have + n, or past the limit
pub count_some : {have n limit : ℕ} → have + n ≤ limit → Counted have n limit (Some (have + n))
count_some {have} {n} h = record { over = λ e. conflict (cc); end = λ m e. let k : have + n ≡ m = cc in (sym k, omega arith) }

pub count_none : {have n limit : ℕ} → limit < have + n → Counted have n limit None
count_none h = record { over = λ e. h; end = λ m e. conflict (cc) }

module _ {t : Tables} {w before after : List ℕ} {l at limit : ℕ} {notes : Notes} where
  pub emitted_some : {e : Emission} → Wrote w at limit before after e.end → e.levels ≡ few_levels l → Stands t notes after e.end → EmittedBy t w l at limit before after notes (Some e)
  emitted_some {e} W L S = record {
    over = λ h. conflict (cc);
    wrote = λ f h. let k : e ≡ f = cc in rw (← k) W;
    levels = λ f h. let k : e ≡ f = cc in rw (← k) L;
    standing = λ f h. let k : e ≡ f = cc in rw (← k) S;
  }

  pub emitted_none : limit < at + length w → EmittedBy t w l at limit before after notes None
  emitted_none h = record { over = λ e. h; wrote = λ f e. conflict (cc); levels = λ f e. conflict (cc); standing = λ f e. conflict (cc) }

-- ---- levels
-- what is written has `whole` levels; now `levels` were seen, and what is left has `left`
pub record Deepening (whole left levels : ℕ) : Type 0 where
  pub few : levels ≤ 257
  pub place : few_levels (max levels left) ≡ few_levels whole

-- what is capped once is capped again
cap_max : (x r : ℕ) → few_levels (max (few_levels x) r) ≡ few_levels (max x r)
cap_max x r = omega arith

cap_add : (a d l : ℕ) → few_levels (max a (d + few_levels l)) ≡ few_levels (max a (d + l))
cap_add a d l = omega arith

max_of_three : (a b c : ℕ) → max (max a b) c ≡ max a (max b c)
max_of_three a b c = omega arith

module _ {whole left levels : ℕ} (D : Deepening whole left levels) where
  -- l levels more, below d symbols: of one symbol, or of a call
  pub levels_more : (d l l' rest : ℕ) {levels' : ℕ} → left ≡ max (d + l) rest → l' ≡ few_levels l → levels' ≡ few_levels (max levels (d + l')) → Deepening whole rest levels'
  levels_more d l l' rest e h f = record {
    few = omega arith;
    place =
        let g = f ∙ ap (λ v. few_levels (max levels (d + v))) h ∙ cap_add levels d l in
        ap (λ v. few_levels (max v rest)) g ∙ cap_max (max levels (d + l)) rest ∙ ap few_levels (max_of_three levels (d + l) rest) ∙ ap (λ v. few_levels (max levels v)) (sym e) ∙ D.place;
  }

  pub levels_done : left ≡ 0 → levels ≡ few_levels whole
  levels_done e = omega (arith, D.few, D.place)

-- ---- written elsewhere first
-- what stands at the start of a list after w was written there
start_of : (w l : List ℕ) → length w ≤ length l → take (length w) (sets l 0 w) ≡ w
start_of w l h = ap (take (length w)) (sets-eq w l 0 (omega arith)) ∙ take_at w (drop (0 + length w) l) (length w) refl

-- w was written to `short` if there was room for it, and there was: it was copied from there
pub copied : {w start short after : List ℕ} {limit n : ℕ} (before : List ℕ) → Wrote w 0 limit start short n → n ≤ length start → after ≡ sets before 0 (take n short) → after ≡ sets before 0 w
copied {w} {start} {n = n} before F h e =
    let f : n ≡ length w = omega (arith, F.end) in
    e ∙ ap (sets before 0) (ap₂ take f (F.wrote (omega (arith, f))) ∙ start_of w start (omega (arith, f)))

-- there is no room for it
pub emitted_long : (w before : List ℕ) (l : ℕ) → length before < length w → Emitted w l before before (Err LongOutput)
emitted_long w before l h = refuse (λ k. omega (arith, h, k)) refl
