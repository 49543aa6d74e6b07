-- Where a body that is handed out starts in the area: its record tells it.
-- Assumes nothing.
use Prim.Native.Nat.{ℕ, zero, suc, ◌≤◌, ◌<◌}
use native.Mathlib.Nat.{min-le_left}
use native.Mathlib.Omega.{arith}
use mathlib.Core.List.{List}
use mathlib.Core.Logic.{inl, inr, ⊎_elim}
use mathlib.Core.Path.{◌≡◌, refl, sym, ap, ◌∙◌}
use lib.ListN.{length, take, drop, length-take}
use lib.Seq.{take-take, take-length}
use Rattle.records.specs.Answers.{HandsBody}
use Rattle.records.specs.Book.{record_at}
use Rattle.records.specs.declared.book.Head.{Head}
use Rattle.records.specs.declared.book.Record.{Record}
use Rattle.exports.specs.Registered.{start_of, ExportsBody}
use Rattle.exports.proofs.Parts.{length_zero}

-- a front of a list is as many of its elements as the front has
front_of : {p : List ℕ} (k : ℕ) (l : List ℕ) → p ≡ take k l → p ≡ take (length p) l
front_of {p} k l e =
    let h : length p ≤ k = omega (arith, ap length e, length-take k l, min-le_left k (length l)) in
    sym (take-length p) ∙ ap (take (length p)) e ∙ take-take (length p) k l h

module _ (h : Head) (rs : List Record) (area : List ℕ) (i : ℕ) (part : List ℕ) (J : HandsBody h rs area i part) where
  body_some : 0 < length part → ExportsBody h rs area i (record_at rs i).start (length part)
  body_some g =
      ⊎_elim
      (λ w. record {
        part = part;
        handed = J;
        length_is = refl;
        there = front_of (record_at rs i).size (drop (record_at rs i).start area) w.1;
        start_is = inr (g, refl);
      })
      (λ w. absurd (omega (arith, ap length w.1)))
      J

  body_none : length part ≡ 0 → ExportsBody h rs area i 0 0
  body_none e = record { part = part; handed = J; length_is = sym e; there = length_zero part e; start_is = inl (length_zero part e, refl) }

  starting : (n : ℕ) → n ≡ length part → ExportsBody h rs area i (start_of (record_at rs i) n) (length part)
  starting zero e = rw (sym e) (body_none (sym e))
  starting (suc n) e = body_some (omega arith)

  -- what is told of the part by the record with its number
  pub body_told : {r : Record} {s n : ℕ} → r ≡ record_at rs i → n ≡ length part → s ≡ start_of r (length part) → ExportsBody h rs area i s n
  body_told e l d = rw (l, d ∙ ap (λ x. start_of x (length part)) e) (starting (length part) refl)
