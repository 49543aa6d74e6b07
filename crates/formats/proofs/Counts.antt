-- Whether the counts are right, one after the other; the bodies lie where the counts say.
-- Assumes nothing.
use Prim.Native.Nat.{ℕ, ◌+◌, ◌*◌, ◌≤◌, ◌<◌}
use native.Mathlib.Nat.{mul-le-mul}
use native.Mathlib.Omega.{arith}
use mathlib.Core.Bool.{false}
use mathlib.Core.Path.{◌≡◌, refl}
use mathlib.Core.List.{List}
use lib.ListN.{length, get_or}
use borrow.Author.Count.{below_more}
use Rattle.theory.proofs.Terms.{conflict}
use Rattle.formats.specs.Inner.Layout.{offset, body, body_number, body_count, count_at, Summed, Right, Starts, InBounds, Short, Wholes}
use Rattle.trees.specs.Refusal.{Decides}
use Rattle.formats.proofs.Offsets.{offset_ordered, offset_next, offset_most}
use Rattle.formats.proofs.Pairs.{number_less}

-- the counts below j are right, and their sum is
pub record Counting (counts : List ℕ) (j sum : ℕ) : Type 0 where
  pub each : (k : ℕ) → k < j → (1 ≤ count_at counts k) × (count_at counts k ≤ 64)
  pub sum_is : sum ≡ offset counts j
  pub few : sum ≤ 8192

pub count_none : (counts : List ℕ) → Counting counts 0 0
unfolding offset
count_none counts = record { each = λ k h. absurd (omega arith); sum_is = refl; few = omega arith }

module _ {counts : List ℕ} {m j sum : ℕ} (C : Counting counts j sum) where
  module _ (long : length counts ≡ 2 * m) (less : j < m) {c : ℕ} (e : c ≡ count_at counts j) where
    pub count_many : {bytes : List ℕ} → 8192 < sum + c → Decides (Summed counts bytes m) false
    count_many {bytes} h = record { sound = λ e. conflict (cc); complete = λ D. let z : ⊥ = omega (arith, offset_next counts j (omega arith), offset_most counts (j + 1) m (omega arith), D.few, C.sum_is) in absurd z }

    pub count_more : (c ≡ 0 → ⊥) → c ≤ 64 → sum + c ≤ 8192 → Counting counts (j + 1) (sum + c)
    count_more z h g = record {
      each = below_more (λ k. (1 ≤ count_at counts k) × (count_at counts k ≤ 64)) j C.each (omega arith, omega arith);
      sum_is = omega (arith, offset_next counts j (omega arith), C.sum_is);
      few = g;
    }

-- ---- the bodies
pub few_bodies : {ins counts bytes : List ℕ} {n : ℕ} → Right ins n counts bytes → body_count ins n < 2050
few_bodies {ins} {n = n} C = omega (arith, mul-le-mul C.states C.symbols)

module _ {ins counts bytes : List ℕ} {n : ℕ} (starts : List ℕ) (C : Right ins n counts bytes) (S : Starts counts starts (body_count ins n)) (long : length starts ≡ 2050) where
  pub in_bounds : InBounds ins n starts bytes
  in_bounds = record {
    long = omega (arith, few_bodies C);
    ordered = λ j h. rw (S j (omega arith), S (j + 1) (omega arith)) (offset_ordered counts j);
    inside = λ j h. rw (S j h) (omega (arith, C.sums.all, offset_most counts j (body_count ins n) h));
  }

  pub short_bodies : Short ins n starts
  short_bodies j h = rw (S j (omega arith), S (j + 1) (omega arith)) (omega (arith, offset_next counts j (omega (arith, C.long)), (C.sums.each j h).1))

  pub to_offsets : (outs : List ℕ) → Wholes ins outs n (λ j. get_or starts j 0) bytes → Wholes ins outs n (offset counts) bytes
  unfolding body
  to_offsets outs W = record {
    initial = rw (← S 0 (omega arith), ← S 1 (omega arith)) W.initial;
    rhs = λ q a h k. let l = number_less ins q n a h k in rw (← S (body_number ins q a) (omega arith), ← S (body_number ins q a + 1) (omega arith)) (W.rhs q a h k);
  }

  pub from_offsets : (outs : List ℕ) → Wholes ins outs n (offset counts) bytes → Wholes ins outs n (λ j. get_or starts j 0) bytes
  unfolding body
  from_offsets outs W = record {
    initial = rw (S 0 (omega arith), S 1 (omega arith)) W.initial;
    rhs = λ q a h k. let l = number_less ins q n a h k in rw (S (body_number ins q a) (omega arith), S (body_number ins q a + 1) (omega arith)) (W.rhs q a h k);
  }
