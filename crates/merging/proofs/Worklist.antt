-- The next round: the callers of the states whose class has changed are pending and listed.
-- Assumes nothing.
use Prim.Native.Nat.{ℕ, suc, ◌+◌, ◌≤◌, ◌<◌}
use native.Mathlib.Decide.{ℕ_discrete}
use native.Mathlib.Omega.{arith}
use mathlib.Core.Bool.{Bool, true, false}
use mathlib.Core.List.{List}
use mathlib.Core.Logic.{◌⊎◌, by_cases}
use mathlib.Core.Path.{◌≡◌, refl, sym, ap, ◌∙◌}
use lib.ListN.{length, get_or, replicate, set, length-set}
use lib.Seq.{get_or-set_same, get_or-set_other}
use Rattle.std.specs.Prelude.{Option, None}
use Rattle.theory.proofs.Terms.{conflict}
use Rattle.classes.specs.Inner.Classes.{at}
use Rattle.merging.specs.declared.refining.Row.{Row}
use Rattle.merging.specs.Inner.Refining.{Placed, standing, Flagged, flag, pending_count, Queue, AllPending}

-- ---- how many states are pending
one_flag : (b : Bool) → flag b ≤ 1
unfolding flag
one_flag false = omega arith
one_flag true = omega arith

pending_le : (pending : List Bool) (n : ℕ) → pending_count pending n ≤ n
unfolding pending_count
pending_le pending ℕ.zero = omega arith
pending_le pending (suc n) = omega (arith, pending_le pending n, one_flag (get_or pending n false))

module _ (pending : List Bool) {q : ℕ} (d : Placed pending q) where
  pending_lt : (n : ℕ) → q < n → pending_count pending n < n
  unfolding pending_count flag
  pending_lt ℕ.zero h = absurd (omega arith)
  pending_lt (suc n) h = by_cases (ℕ_discrete q n) (λ z. omega (arith, pending_le pending n, ap flag (rw z at d))) (λ z. omega (arith, pending_lt n (omega arith), one_flag (get_or pending n false)))

  -- one more
  pending_before : (n : ℕ) → n ≤ q → pending_count (set pending q true) n ≡ pending_count pending n
  unfolding pending_count
  pending_before ℕ.zero h = refl
  pending_before (suc n) h = omega (arith, pending_before n (omega arith), ap flag (get_or-set_other pending q n true false (λ z. omega arith)))

  pending_more : (n : ℕ) → q < n → q < length pending → pending_count (set pending q true) n ≡ suc (pending_count pending n)
  unfolding pending_count flag
  pending_more ℕ.zero h l = absurd (omega arith)
  pending_more (suc n) h l = by_cases (ℕ_discrete n q)
      (λ z. omega (arith, pending_before n (omega arith), ap flag (ap (λ k. get_or (set pending q true) k false) z ∙ get_or-set_same pending q true false l), ap flag (ap (λ k. get_or pending k false) z ∙ d)))
      (λ z. omega (arith, pending_more n (omega arith) l, ap flag (get_or-set_other pending q n true false z)))

-- ---- one more pending state
module _ {pending : List Bool} {list : List ℕ} {n len q : ℕ} (Q : Queue pending list n len) (flags : length pending ≡ 128) (few : n ≤ 128) (h : q < n) (d : Placed pending q) where
  pub queue_room : len < 128
  queue_room = omega (arith, Q.counted, pending_lt pending d n h)

  queue_more : Queue (set pending q true) (set list len q) n (len + 1)
  queue_more =
      let here : at (set list len q) len ≡ q = get_or-set_same list len q 0 (omega (arith, queue_room, Q.listed.room)) in
      let there : (j : ℕ) → j < len → at (set list len q) j ≡ at list j = λ j l. get_or-set_other list len j q 0 (λ z. omega arith) in
      record {
        listed = record {
          room = length-set list len q ∙ Q.listed.room;
          few = omega (arith, queue_room);
          states = λ j l. by_cases (ℕ_discrete j len) (λ z. rw (z, here) h) (λ z. rw (there j (omega arith)) (Q.listed.states j (omega arith)));
          all = λ p l f. by_cases (ℕ_discrete p q) (λ z. (len, (omega arith, here ∙ sym z))) (λ z. let w = Q.listed.all p l (λ e. f (get_or-set_other pending q p true false z ∙ e)) in (w.0, (omega arith, there w.0 w.1.0 ∙ w.1.1)));
        };
        counted = omega (arith, Q.counted, pending_more pending d n h (omega arith));
      }

  still_pending : (p : ℕ) → Placed (set pending q true) p → Placed pending p
  still_pending p e = by_cases (ℕ_discrete p q) (λ z. rw z d) (λ z. sym (get_or-set_other pending q p true false z) ∙ e)

  now_pending : Placed (set pending q true) q → ⊥
  now_pending e = let y = get_or-set_same pending q true false (omega arith) in conflict (cc)

-- ---- the callers of a state
-- those before state q are pending
pub record FlagLoop (callers : List Row) (r n : ℕ) (pending₀ pending : List Bool) (list : List ℕ) (len q : ℕ) : Type 0 where
  pub flags : length pending ≡ 128
  pub queue : Queue pending list n len
  pub still : (p : ℕ) → Placed pending p → Placed pending₀ p
  pub passed : (p : ℕ) → p < q → Flagged callers r p → Placed pending p → ⊥

module _ {callers : List Row} {r n : ℕ} {pending₀ pending : List Bool} {list : List ℕ} {len q : ℕ} (L : FlagLoop callers r n pending₀ pending list len q) where
  flag_next : {pending' : List Bool} {list' : List ℕ} {len' : ℕ} → length pending' ≡ 128 → Queue pending' list' n len' → ((p : ℕ) → Placed pending' p → Placed pending p) → (Flagged callers r q → Placed pending' q → ⊥) → FlagLoop callers r n pending₀ pending' list' len' (q + 1)
  flag_next {pending'} f Q s h = record {
    flags = f;
    queue = Q;
    still = λ p d. L.still p (s p d);
    passed = λ p l. by_cases (ℕ_discrete p q) (λ z F d. h (rw z at F) (rw z at d)) (λ z F d. L.passed p (omega arith) F (s p d));
  }

  -- no caller, or it is pending already
  pub flag_same : (Flagged callers r q → Placed pending q → ⊥) → FlagLoop callers r n pending₀ pending list len (q + 1)
  flag_same h = flag_next L.flags L.queue (λ p d. d) h

  module _ (few : n ≤ 128) (less : q < n) (d : Placed pending q) where
    pub flag_room : len < 128
    flag_room = queue_room L.queue L.flags few less d

    pub flag_new : FlagLoop callers r n pending₀ (set pending q true) (set list len q) (len + 1) (q + 1)
    flag_new = flag_next (length-set pending q true ∙ L.flags) (queue_more L.queue L.flags few less d) (still_pending L.queue L.flags few less d) (λ F e. now_pending L.queue L.flags few less d e)

-- ---- all states
-- those before state q are pending and listed
pub record AllLoop (pending : List Bool) (list : List ℕ) (len q : ℕ) : Type 0 where
  pub counted : len ≡ q
  pub flags : length pending ≡ 128
  pub room : length list ≡ 128
  pub waiting : (p : ℕ) → p < q → Placed pending p → ⊥
  pub listed : (j : ℕ) → j < q → at list j ≡ j

-- no state stands for a class in a row of Nones
pub no_standing : (n c : ℕ) → standing (replicate n None) c ≡ None
no_standing ℕ.zero c = refl
no_standing (suc n) ℕ.zero = refl
no_standing (suc n) (suc c) = no_standing n c

pub all_end : {pending : List Bool} {reps : List (Option ℕ)} {list : List ℕ} {n len q : ℕ} → AllLoop pending list len q → length reps ≡ 128 → ((c : ℕ) → standing reps c ≡ None) → n ≤ 128 → n ≤ q → AllPending pending reps list n
all_end {list = list} L names unnamed few h = record {
  flags = L.flags;
  names = names;
  listed = record {
    room = L.room;
    few = few;
    states = λ j l. rw (L.listed j (omega arith)) l;
    all = λ q l f. (q, (l, L.listed q (omega arith)));
  };
  waiting = λ q l. L.waiting q (omega arith);
  unnamed = unnamed;
}

-- ---- the callers of the moved states
-- the moved states before number j have their new classes, and their callers are pending
pub record MovedLoop (callers : List Row) (old₀ new moved : List ℕ) (m : ℕ) (old : List ℕ) (pending : List Bool) (list : List ℕ) (len j : ℕ) : Type 0 where
  pub long : length old ≡ length old₀
  pub flags : length pending ≡ 128
  pub queue : Queue pending list (length old₀) len
  pub left : (q : ℕ) → q < length old₀ → (at new q ≡ at old q) ⊎ ((i : ℕ) × ((j ≤ i) × (i < m) × (at moved i ≡ q)))
  pub passed : (i : ℕ) → i < j → (q : ℕ) → q < length old₀ → Flagged callers (at moved i) q → Placed pending q → ⊥
