-- A body read from its last mark back: how many trees stand behind a mark, and their levels. So it is measured whether a body is one tree.
-- Assumes nothing.
use Prim.Native.Nat.{ℕ, ◌+◌, ◌-◌, ◌*◌, ◌≤◌, ◌<◌}
use native.Mathlib.Omega.{arith}
use mathlib.Core.Bool.{Bool}
use mathlib.Core.Logic.{◌⊎◌}
use mathlib.Core.Path.{◌≡◌, refl, sym, ap, ◌∙◌}
use mathlib.Core.List.{List, ◌∷◌}
use lib.ListN.{length, get_or, set, length-set}
use lib.Seq.{slice_empty, drop-drop, length-slice}
use Rattle.trees.specs.Inner.Decode.{symbol, Whole}
use Rattle.trees.specs.Inner.Measured.{MeasuredWhole, noted, most}
use Rattle.trees.specs.Refusal.{Decides}
use Rattle.trees.specs.declared.tree.Extent.{Extent}
use Rattle.trees.specs.Inner.Measured.{some_extent}
use Rattle.std.specs.Prelude.{Option, Some, None, is_some}
use Rattle.trees.proofs.Deciding.{decides_no}
use Rattle.trees.proofs.Forest.{all_drop}
use Rattle.trees.proofs.Standing.{Standing, Broken, no_letter, not_known, one_call, too_few, one_symbol, no_tree, none_standing, measured_standing}
use Rattle.trees.proofs.Standing as standing
use Rattle.formats.specs.Inner.Layout.{mark_of, pairs}
use Rattle.formats.specs.Inner.Marked.{part}
use Rattle.formats.proofs.Marks.{letter_no_call, letter_call, letter_no_symbol, letter_symbol, next_mark}
use Rattle.formats.proofs.Pairs.{pairs_length}

-- of the marks number `from` up to `to`, those from number j on are the code of k trees, whose levels the table has
pub record BodyStanding (outs : List ℕ) (n r : ℕ) (bytes : List ℕ) (from to : ℕ) (table : List ℕ) (j k : ℕ) : Type 0 where
  pub inside : 2 * to ≤ length bytes
  pub low : from ≤ j
  pub high : j ≤ to
  pub short : to ≤ from + 64
  pub long : length table ≡ 64
  pub trees : Standing (mark_of outs n r) (part bytes j to) table k

-- at the end of the body
pub end_standing : {outs bytes : List ℕ} {n r from to : ℕ} (table : List ℕ) → length table ≡ 64 → from ≤ to → to ≤ from + 64 → 2 * to ≤ length bytes → BodyStanding outs n r bytes from to table to 0
end_standing {outs} {bytes} {n} {r} table l h s g = record { inside = g; low = h; high = omega arith; short = s; long = l; trees = rw slice_empty (no_letter (mark_of outs n r) table) }

module _ {outs bytes table : List ℕ} {n r from to j k : ℕ} (S : BodyStanding outs n r bytes from to table j k) where
  part_long : length (part bytes j to) ≡ to - j
  part_long = length-slice j to (pairs bytes) (pairs_length bytes to S.inside)

  -- there is room for one more
  pub few_behind : k + j ≤ from + 64
  few_behind = omega (arith, S.trees.few, part_long, S.high, S.short)

  -- at its start
  module _ (h : j ≤ from) where
    at_start : j ≡ from
    at_start = omega (arith, S.low)

    all_trees : Standing (mark_of outs n r) (part bytes from to) table k
    all_trees = rw at_start at S.trees

    pub one_measured : {l : ℕ} → k ≡ 1 → l ≡ get_or table 0 0 → MeasuredWhole (mark_of outs n r) (part bytes from to) from (some_extent to l)
    one_measured {l} o e =
        let p : from + length (part bytes from to) ≡ to = omega (arith, ap (λ i. length (part bytes i to)) at_start, part_long, S.high, at_start) in
        rw p at (measured_standing all_trees {at = from} {l = l} o e)

  -- mark number j - 1, which is (i, x), in front of them
  module _ {i x : ℕ} (h : from < j) (e : i ≡ get_or bytes (2 * (j - 1)) 0) (f : x ≡ get_or bytes (2 * (j - 1) + 1) 0) where
    in_front : part bytes (j - 1) to ≡ (i, x) ∷ part bytes j to
    in_front = let g : j - 1 + 1 ≡ j = omega arith in next_mark bytes (j - 1) to i x (omega (arith, S.high)) S.inside e f ∙ ap (λ k. (i, x) ∷ part bytes k to) g

    one_more_lem : {m : ℕ} {table' : List ℕ} → length table' ≡ length table → Standing (mark_of outs n r) ((i, x) ∷ part bytes j to) table' m → BodyStanding outs n r bytes from to table' (j - 1) m
    one_more_lem l T = record { inside = S.inside; low = omega arith; high = omega (arith, S.high); short = S.short; long = l ∙ S.long; trees = rw in_front T }

    -- where not all can be read from there on, the body is no tree
    broken : Broken (mark_of outs n r) ((i, x) ∷ part bytes j to) → MeasuredWhole (mark_of outs n r) (part bytes from to) from None
    broken b =
        let g : from + (j - 1 - from) ≡ j - 1 = omega arith in
        no_tree (λ W. b (rw (drop-drop, g, in_front) at (all_drop (mark_of outs n r) (part bytes from to) (j - 1 - from) W.all)))

    pub call_read : 0 < i → i ≤ r → x < n → BodyStanding outs n r bytes from to (set table k 0) (j - 1) (k + 1)
    call_read z l g = one_more_lem (length-set table k 0) (one_call (mark_of outs n r) (i, x) S.trees (i, x) (letter_call outs n r i x z l g) (omega (arith, few_behind, S.long)))

    pub call_refused : 0 < i → (r < i) ⊎ ((i ≤ r) × (n ≤ x)) → MeasuredWhole (mark_of outs n r) (part bytes from to) from None
    call_refused z o = broken (not_known (mark_of outs n r) (i, x) (part bytes j to) (letter_no_call outs n r i x z o))

    pub symbol_refused : i ≡ 0 → length outs ≤ x → MeasuredWhole (mark_of outs n r) (part bytes from to) from None
    symbol_refused z g = broken (not_known (mark_of outs n r) (i, x) (part bytes j to) (letter_no_symbol outs n r i x z g))

    module _ {m : ℕ} (z : i ≡ 0) (g : x < length outs) (q : m ≡ get_or outs x 0) where
      its_letter : mark_of outs n r (i, x) ≡ symbol x m
      its_letter = letter_symbol outs n r i x z g ∙ ap (symbol x) (sym q)

      pub children_missing : k < m → MeasuredWhole (mark_of outs n r) (part bytes from to) from None
      children_missing l = broken (too_few (mark_of outs n r) (i, x) S.trees x m its_letter l)

      pub few_levels_lem : {deep : ℕ} → deep ≡ most m (noted table k) → deep ≤ 64
      few_levels_lem d = omega (arith, standing.few_levels_lem (mark_of outs n r) (i, x) S.trees x m its_letter d, part_long, S.low, S.short)

      pub symbol_read : {deep : ℕ} → m ≤ k → deep ≡ most m (noted table k) → BodyStanding outs n r bytes from to (set table (k - m) (deep + 1)) (j - 1) (k - m + 1)
      symbol_read {deep} l d = one_more_lem (length-set table (k - m) (deep + 1)) (one_symbol (mark_of outs n r) (i, x) S.trees x m its_letter l (omega (arith, few_behind, S.long)) d)

-- what was measured decides whether it is one
pub body_decided : (outs bytes : List ℕ) (n r from to : ℕ) {x : Option Extent} {b : Bool} → MeasuredWhole (mark_of outs n r) (part bytes from to) from x → b ≡ is_some x → Decides (Whole (mark_of outs n r) (part bytes from to)) b
body_decided outs bytes n r from to {x = Some e} M q = rw q (record { sound = λ t. (M.whole e.end e.levels refl).0; complete = λ W. refl })
body_decided outs bytes n r from to {x = None} M q = rw q (decides_no (M.none refl))
