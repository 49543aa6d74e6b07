-- Bodies that follow one another, body after body, and what the records count.
-- Assumes nothing.
use Prim.Native.Nat.{ℕ, zero, suc, ◌+◌, ◌-◌, ◌≤◌, ◌<◌, min}
use native.Mathlib.Nat.{zero-add, suc-add}
use native.Mathlib.Numerals.{add-one}
use native.Mathlib.Omega.{arith}
use mathlib.Core.List.{List}
use lib.ListN.{length, take, drop, length-drop}
use lib.Seq.{length-take-le}
use mathlib.Core.Path.{◌≡◌, refl, sym, ap, ap₂, subst, ◌∙◌}
use borrow.Author.Count.{below_more}
use Rattle.std.proofs.lemmas.List.{get_or-take, get_or-drop}
use Rattle.records.specs.Book.{answers_of, no_record, too_many, record_at, total, tally, Follow, Unused, Sound}
use Rattle.records.specs.Inner.Steps.{Passed}
use Rattle.records.specs.declared.book.Head.{Head}
use Rattle.records.specs.declared.book.Record.{Record}

-- the sum up to a body is at most that up to a later one
total_more : (rs : List Record) (m k : ℕ) → total rs m ≤ total rs (k + m)
unfolding total
total_more rs m zero = rw zero-add (omega arith)
total_more rs m (suc k) = rw suc-add (omega (arith, total_more rs m k))

total_mono : (rs : List Record) (m n : ℕ) → m ≤ n → total rs m ≤ total rs n
total_mono rs m n h = let e : (n - m) + m ≡ n = omega arith in rw e at (total_more rs m (n - m))

pub total_next : (rs : List Record) (n : ℕ) → total rs (suc n) ≡ total rs n + (record_at rs n).size
unfolding total
total_next rs n = refl

pub passed_none : {rs : List Record} → Passed rs 0 0
unfolding total
passed_none = record { starts = λ i h. absurd (omega arith); sum = refl }

module _ {rs : List Record} {i at : ℕ} (P : Passed rs i at) where
  pub passed_more : {e : Record} → e ≡ record_at rs i → e.start ≡ at → Passed rs (i + 1) (at + e.size)
  passed_more {e} q s = record {
    starts = below_more (λ k. (record_at rs k).start ≡ total rs k) i P.starts (sym (ap (λ w. w.start) q) ∙ s ∙ P.sum);
    sum = rw add-one (ap₂ ◌+◌ P.sum (ap (λ w. w.size) q) ∙ sym (total_next rs i));
  }

  pub all_passed : {held used : ℕ} → i ≡ suc held → used ≡ at → Follow held used rs
  all_passed {held} h u = record { starts = λ k g. P.starts k (omega arith); sum = u ∙ P.sum ∙ ap (total rs) h }

-- records that are alike up to n pass alike
total_same : (rs rs' : List Record) (n : ℕ) → ((i : ℕ) → i < n → record_at rs' i ≡ record_at rs i) → total rs' n ≡ total rs n
unfolding total
total_same rs rs' zero f = refl
total_same rs rs' (suc n) f = ap₂ ◌+◌ (total_same rs rs' n (λ i h. f i (omega arith))) (ap (λ w. w.size) (f n (omega arith)))

pub passed_same : {rs rs' : List Record} {n at : ℕ} → ((i : ℕ) → i < n → record_at rs' i ≡ record_at rs i) → Passed rs n at → Passed rs' n at
passed_same {rs} {rs'} {n} f P = record {
  starts = λ i h. ap (λ w. w.start) (f i h) ∙ P.starts i h ∙ sym (total_same rs rs' i (λ k g. f k (omega arith)));
  sum = P.sum ∙ sym (total_same rs rs' n f);
}

-- and count alike
tally_same : (rs rs' : List Record) (n : ℕ) → ((i : ℕ) → i < n → record_at rs' i ≡ record_at rs i) → tally rs' n ≡ tally rs n
unfolding tally
tally_same rs rs' zero f = refl
tally_same rs rs' (suc n) f = ap₂ ◌+◌ (tally_same rs rs' n (λ i h. f i (omega arith))) (ap (λ w. w.count) (f n (omega arith)))

pub tally_next : (rs : List Record) (n : ℕ) → tally rs (suc n) ≡ tally rs n + (record_at rs n).count
unfolding tally
tally_next rs n = refl

-- bodies that follow one another are passed
pub follow_passed : {held used : ℕ} {rs : List Record} → Follow held used rs → Passed rs (suc held) used
follow_passed F = record { starts = λ i h. F.starts i (omega arith); sum = F.sum }

-- records that tell the same places follow one another alike
module _ (rs rs' : List Record) (f : (i : ℕ) → ((record_at rs' i).start ≡ (record_at rs i).start) × ((record_at rs' i).size ≡ (record_at rs i).size)) where
  total_places : (n : ℕ) → total rs' n ≡ total rs n
  unfolding total
  total_places zero = refl
  total_places (suc n) = ap₂ ◌+◌ (total_places n) (f n).1

  pub follow_places : {held used : ℕ} → Follow held used rs → Follow held used rs'
  follow_places {held} F = record { starts = λ i h. (f i).0 ∙ F.starts i h ∙ sym (total_places i); sum = F.sum ∙ sym (total_places (suc held)) }

-- where a body ends
module _ {held used : ℕ} {rs : List Record} (F : Follow held used rs) where
  pub body_end : (i : ℕ) → i ≤ held → (record_at rs i).start + (record_at rs i).size ≤ used
  body_end i h = omega (arith, F.starts i h, F.sum, total_next rs i, total_mono rs (suc i) (suc held) (omega arith))

-- ---- the records one by one
-- the next body ends within what is used
pub next_size : {rs : List Record} {i at used : ℕ} → Passed rs i at → i < length rs → Passed rs (length rs) used → at + (record_at rs i).size ≤ used
next_size {rs} {i} P h Q = omega (arith, P.sum, Q.sum, total_next rs i, total_mono rs (suc i) (length rs) (omega arith))

-- the first n records of more
module _ (rs : List Record) (n : ℕ) (h : n ≤ length rs) where
  first_length : length (take n rs) ≡ n
  first_length = length-take-le n rs h

  first_same : (i : ℕ) → i < n → record_at (take n rs) i ≡ record_at rs i
  first_same i g = get_or-take n rs i no_record g

  pub first_passed : {used : ℕ} → Passed (take n rs) (length (take n rs)) used → Passed rs n used
  first_passed {used} P = passed_same (λ i g. sym (first_same i g)) (subst (λ k. Passed (take n rs) k used) first_length P)

  pub passed_first : {used : ℕ} → Passed rs n used → Passed (take n rs) (length (take n rs)) used
  passed_first {used} P = subst (λ k. Passed (take n rs) k used) (sym first_length) (passed_same first_same P)

  -- they count the same
  pub first_tally : tally (take n rs) (length (take n rs)) ≡ tally rs n
  first_tally = ap (tally (take n rs)) first_length ∙ tally_same rs (take n rs) n first_same

-- the records up to `held`, and those behind
module _ {held used : ℕ} (rs : List Record) (few : held ≤ 32) (many : 33 ≤ length rs) where
  pub follow_first : Passed (take (held + 1) rs) (length (take (held + 1) rs)) used → Follow held used rs
  follow_first P = all_passed (first_passed rs (held + 1) (omega arith) P) (omega arith) refl

  pub first_follow : Follow held used rs → Passed (take (held + 1) rs) (length (take (held + 1) rs)) used
  first_follow F = passed_first rs (held + 1) (omega arith) (record { starts = λ i g. F.starts i (omega arith); sum = F.sum ∙ ap (total rs) (sym (add-one held)) })

module _ {held : ℕ} (rs : List Record) (few : held ≤ 32) (many : 33 ≤ length rs) where
  behind_same : (i : ℕ) → i < 33 - (held + 1) → record_at (take (33 - (held + 1)) (drop (held + 1) rs)) i ≡ record_at rs (held + 1 + i)
  behind_same i g = get_or-take (33 - (held + 1)) (drop (held + 1) rs) i no_record g ∙ get_or-drop (held + 1) rs i no_record

  behind_length : length (take (33 - (held + 1)) (drop (held + 1) rs)) ≡ 33 - (held + 1)
  behind_length = length-take-le (33 - (held + 1)) (drop (held + 1) rs) (omega (arith, length-drop (held + 1) rs))

  pub unused_behind : ((i : ℕ) → i < length (take (33 - (held + 1)) (drop (held + 1) rs)) → record_at (take (33 - (held + 1)) (drop (held + 1) rs)) i ≡ no_record) → Unused held rs
  unused_behind f = record { none = λ i g h. let z : held + 1 + (i - (held + 1)) ≡ i = omega arith in ap (record_at rs) (sym z) ∙ sym (behind_same (i - (held + 1)) (omega arith)) ∙ f (i - (held + 1)) (omega (arith, behind_length)) }

  pub behind_unused : Unused held rs → (i : ℕ) → i < length (take (33 - (held + 1)) (drop (held + 1) rs)) → record_at (take (33 - (held + 1)) (drop (held + 1) rs)) i ≡ no_record
  behind_unused U i h = behind_same i (omega (arith, behind_length)) ∙ U.none (held + 1 + i) (omega arith) (omega (arith, behind_length))

-- ---- what they count, up to a bound
pub counts_none : (rs : List Record) → 0 ≡ min (tally rs 0) too_many
unfolding tally
counts_none rs = omega arith

pub counts_more : (rs : List Record) (i : ℕ) {sum : ℕ} → sum ≡ min (tally rs i) too_many → min (sum + (record_at rs i).count) too_many ≡ min (tally rs (i + 1)) too_many
counts_more rs i e = omega (arith, tally_next rs i, ap (tally rs) (add-one i))

-- 33 records that count this much are sound, or are not
module _ {h : Head} {rs : List Record} {sum : ℕ} (e : sum ≡ min (tally rs 33) too_many) where
  pub counts_told : Sound h rs → sum ≡ answers_of h
  counts_told S = omega (arith, S.sum, S.countable)

  pub counts_tell : answers_of h < too_many → (record_at rs 0).count ≡ 0 → sum ≡ answers_of h → Sound h rs
  counts_tell g z q = record { countable = g; stock = z; sum = omega arith }
