-- Classes of the states of two transducers, joined pair by pair: each class has the number of a state in it, so that at most 255 pairs are joined, and states of one class are connected by pairs.
-- Assumes nothing.
use Prim.Native.Nat.{ℕ, suc, ◌+◌, ◌-◌, ◌≤◌, ◌<◌}
use native.Mathlib.Decide.{ℕ_discrete, dec_lt}
use native.Mathlib.Omega.{arith}
use mathlib.Core.List.{List}
use mathlib.Core.Logic.{inl, inr, by_cases, if_pos, if_neg, Equivalence}
use mathlib.Core.Path.{◌≡◌, refl, sym, ap, ◌∙◌}
use lib.ListN.{length, set, length-set}
use lib.Seq.{get_or-set_same, get_or-set_other}
use borrow.Author.Tests.{lt-ltb, le-ltb}
use Rattle.theory.proofs.Partition.{ForcedBy, merged, merged_hit, merged_miss, forced_merge, forced_ext}
use Rattle.classes.specs.Inner.Classes.{at}
use Rattle.pairs.specs.declared.pairs.Pair.{Pair}
use Rattle.pairs.specs.Inner.Pairs.{no_pair, pair_at, pair_left, pair_right, Added, Joined, Member, class_of, roots, Connected, pair, itself, back, onward, Table, table, Merging, Later, JoinsStates}

-- ---- a pair is listed
pub added : (P : List Pair) (count : ℕ) (r : Pair) → count < length P → Added P (set P count r) count r.parent r.symbol r.mark r.child r.left r.right
added P count r room =
    let e : pair_at (set P count r) count ≡ r = get_or-set_same P count r no_pair room in
    record {
      long = length-set P count r;
      keeps = λ p h. get_or-set_other P count p r no_pair (omega arith);
      entry = record {
        left = ap (λ (z : Pair). z.left) e;
        right = ap (λ (z : Pair). z.right) e;
        parent = ap (λ (z : Pair). z.parent) e;
        symbol = ap (λ (z : Pair). z.symbol) e;
        mark = ap (λ (z : Pair). z.mark) e;
        child = ap (λ (z : Pair). z.child) e;
      };
    }

-- ---- one side is joined
-- the states below x have come into class d, if they were in class c
pub record JoinLoop (l₀ l : List ℕ) (c d x : ℕ) : Type 0 where
  pub long : length l ≡ length l₀
  pub hit : (y : ℕ) → y < x → at l₀ y ≡ c → at l y ≡ d
  pub miss : (y : ℕ) → (y < length l₀ → at l₀ y ≡ c → ⊥) → at l y ≡ at l₀ y
  pub rest : (y : ℕ) → x ≤ y → at l y ≡ at l₀ y

module _ {l₀ l : List ℕ} {c d x : ℕ} (J : JoinLoop l₀ l c d x) (h : x < length l) where
  pub join_hit : at l x ≡ c → JoinLoop l₀ (set l x d) c d (x + 1)
  join_hit e =
      let o : at l₀ x ≡ c = sym (J.rest x (omega arith)) ∙ e in
      let i : x < length l₀ = omega (arith, J.long) in
      record {
        long = length-set l x d ∙ J.long;
        hit = λ y g f. by_cases (ℕ_discrete y x) (λ z. ap (at (set l x d)) z ∙ get_or-set_same l x d 0 h) (λ z. get_or-set_other l x y d 0 z ∙ J.hit y (omega arith) f);
        miss = λ y g. by_cases (ℕ_discrete y x) (λ z. absurd (g (omega arith) (ap (at l₀) z ∙ o))) (λ z. get_or-set_other l x y d 0 z ∙ J.miss y g);
        rest = λ y g. get_or-set_other l x y d 0 (omega arith) ∙ J.rest y (omega arith);
      }

  pub join_miss : (at l x ≡ c → ⊥) → JoinLoop l₀ l c d (x + 1)
  join_miss n = record {
    long = J.long;
    hit = λ y g f. by_cases (ℕ_discrete y x) (λ z. absurd (n (J.rest x (omega arith) ∙ sym (ap (at l₀) z) ∙ f))) (λ z. J.hit y (omega arith) f);
    miss = J.miss;
    rest = λ y g. J.rest y (omega arith);
  }

pub join_end : {l₀ l : List ℕ} {c d x : ℕ} → JoinLoop l₀ l c d x → length l ≤ x → Joined l₀ l c d
join_end J h = record { long = J.long; hit = λ y g e. J.hit y (omega (arith, J.long)) e; miss = J.miss }

-- ---- numbers that are in the class with their own number
root_one : (k : ℕ → ℕ) (n : ℕ) → k n ≡ n → roots k (suc n) ≡ roots k n + 1
unfolding roots
root_one k n e = ap (λ z. roots k n + z) (if_pos (ℕ_discrete (k n) n) e 1 0)

root_none : (k : ℕ → ℕ) (n : ℕ) → (k n ≡ n → ⊥) → roots k (suc n) ≡ roots k n
unfolding roots
root_none k n e = ap (λ z. roots k n + z) (if_neg (ℕ_discrete (k n) n) e 1 0) ∙ omega arith

root_zero : (k : ℕ → ℕ) → roots k 0 ≡ 0
unfolding roots
root_zero k = refl

module _ (k : ℕ → ℕ) where
  pub roots_few : (n : ℕ) → roots k n ≤ n
  roots_few ℕ.zero = omega (arith, root_zero k)
  roots_few (suc n) = by_cases (ℕ_discrete (k n) n) (λ e. omega (arith, roots_few n, root_one k n e)) (λ e. omega (arith, roots_few n, root_none k n e))

  roots_some : (n r : ℕ) → r < n → k r ≡ r → 1 ≤ roots k n
  roots_some ℕ.zero r h e = absurd (omega arith)
  roots_some (suc n) r h e = by_cases (ℕ_discrete (k n) n)
      (λ f. omega (arith, root_one k n f))
      (λ f. by_cases (ℕ_discrete r n) (λ z. absurd (f (ap k (sym z) ∙ e ∙ z))) (λ z. omega (arith, root_none k n f, roots_some n r (omega arith) e)))

  roots_two : (n r s : ℕ) → r < n → s < n → k r ≡ r → k s ≡ s → (r ≡ s → ⊥) → 2 ≤ roots k n
  roots_two ℕ.zero r s h g e f o = absurd (omega arith)
  roots_two (suc n) r s h g e f o = by_cases (ℕ_discrete r n)
      (λ z. omega (arith, root_one k n (ap k (sym z) ∙ e ∙ z), roots_some n s (omega arith) f))
      (λ z. by_cases (ℕ_discrete s n)
      (λ w. omega (arith, root_one k n (ap k (sym w) ∙ f ∙ w), roots_some n r (omega arith) e))
      (λ w. by_cases (ℕ_discrete (k n) n)
      (λ v. omega (arith, root_one k n v, roots_two n r s (omega arith) (omega arith) e f o))
      (λ v. omega (arith, root_none k n v, roots_two n r s (omega arith) (omega arith) e f o))))

module _ (k k' : ℕ → ℕ) (kept : (e : ℕ) → k' e ≡ e → k e ≡ e) where
  roots_le : (n : ℕ) → roots k' n ≤ roots k n
  roots_le ℕ.zero = omega (arith, root_zero k, root_zero k')
  roots_le (suc n) = by_cases (ℕ_discrete (k' n) n)
      (λ e. omega (arith, root_one k' n e, root_one k n (kept n e), roots_le n))
      (λ e. by_cases (ℕ_discrete (k n) n) (λ f. omega (arith, root_none k' n e, root_one k n f, roots_le n)) (λ f. omega (arith, root_none k' n e, root_none k n f, roots_le n)))

  roots_less : (n r : ℕ) → r < n → k r ≡ r → (k' r ≡ r → ⊥) → roots k' n + 1 ≤ roots k n
  roots_less ℕ.zero r h f g = absurd (omega arith)
  roots_less (suc n) r h f g = by_cases (ℕ_discrete r n)
      (λ z. omega (arith, root_none k' n (λ w. g (ap k' z ∙ w ∙ sym z)), root_one k n (ap k (sym z) ∙ f ∙ z), roots_le n))
      (λ z. by_cases (ℕ_discrete (k' n) n)
      (λ e. omega (arith, root_one k' n e, root_one k n (kept n e), roots_less n r (omega arith) f g))
      (λ e. by_cases (ℕ_discrete (k n) n) (λ w. omega (arith, root_none k' n e, root_one k n w, roots_less n r (omega arith) f g)) (λ w. omega (arith, root_none k' n e, root_none k n w, roots_less n r (omega arith) f g))))

-- ---- the states of both in one row
module _ (C D : List ℕ) where
  pub class_left : (e : ℕ) → e < 128 → class_of C D e ≡ at C e
  unfolding class_of
  class_left e h = simp (lt-ltb e 128 h)

  pub class_right : (y : ℕ) → class_of C D (128 + y) ≡ at D y
  unfolding class_of
  class_right y = let e : 128 + y - 128 ≡ y = omega arith in simp (le-ltb (128 + y) 128 (omega arith), e)

  class_far : (e : ℕ) → 128 ≤ e → class_of C D e ≡ at D (e - 128)
  unfolding class_of
  class_far e h = simp (le-ltb e 128 h)

member? : (n n' e : ℕ) → Dec (Member n n' e)
member? n n' e = by_cases (dec_lt e n) (λ h. yes (inl h)) (λ h. by_cases (dec_lt e 128) (λ g. no (λ m. not_left h g m)) (λ g. by_cases (dec_lt e (128 + n')) (λ i. yes (inr (omega arith, i))) (λ i. no (λ m. not_right h i m))))
  where
    not_left : (e < n → ⊥) → e < 128 → Member n n' e → ⊥
    not_left h g (inl x) = h x
    not_left h g (inr x) = omega (arith, x.0)

    not_right : (e < n → ⊥) → (e < 128 + n' → ⊥) → Member n n' e → ⊥
    not_right h g (inl x) = h x
    not_right h g (inr x) = g x.1

member_small : {n n' e : ℕ} → n ≤ 128 → n' ≤ 128 → Member n n' e → e < 256
member_small h g (inl x) = omega arith
member_small h g (inr x) = omega (arith, x.1)

module _ {C D C' D' : List ℕ} {c d : ℕ} (few : length C ≤ 128) (J : Joined C C' c d) (J' : Joined D D' c d) where
  -- a state of class c comes into class d
  class_hit : (e : ℕ) → Member (length C) (length D) e → class_of C D e ≡ c → class_of C' D' e ≡ d
  class_hit e (inl h) f = class_left C' D' e (omega arith) ∙ J.hit e h (sym (class_left C D e (omega arith)) ∙ f)
  class_hit e (inr h) f = class_far C' D' e h.0 ∙ J'.hit (e - 128) (omega (arith, h.0, h.1)) (sym (class_far C D e h.0) ∙ f)

  -- any other number stays where it is
  class_miss : (e : ℕ) → (Member (length C) (length D) e → class_of C D e ≡ c → ⊥) → class_of C' D' e ≡ class_of C D e
  class_miss e n = by_cases (dec_lt e 128)
      (λ h. class_left C' D' e h ∙ J.miss e (λ g f. n (inl g) (class_left C D e h ∙ f)) ∙ sym (class_left C D e h))
      (λ h. class_far C' D' e (omega arith) ∙ J'.miss (e - 128) (λ g f. n (inr (omega arith, omega arith)) (class_far C D e (omega arith) ∙ f)) ∙ sym (class_far C D e (omega arith)))

-- ---- connected states
-- pairs stay where the list keeps them
pub connected_more : {P P' : List Pair} {count count' : ℕ} {s t : ℕ} → count ≤ count' → ((p : ℕ) → p < count → pair_at P' p ≡ pair_at P p) → Connected P count s t → Connected P' count' s t
connected_more {P} {P'} {count} {count'} g k (pair p h) = let e = k p h in rw (← ap (λ (z : Pair). z.left) e, ← ap (λ (z : Pair). z.right) e) (pair p (omega arith))
connected_more g k (itself s) = itself s
connected_more g k (back x) = back (connected_more g k x)
connected_more g k (onward x y) = onward (connected_more g k x) (connected_more g k y)

connected_equivalence : (P : List Pair) (count : ℕ) → Equivalence (Connected P count)
connected_equivalence P count = record { refl = itself; symm = λ x y p. back p; trans = λ x y z p q. onward p q }

-- ---- each state in a class of its own
module _ (C D : List ℕ) (P : List Pair) (few_left : length C ≤ 128) (few_right : length D ≤ 128) (room : 256 ≤ length P) (own : (x : ℕ) → x < length C → at C x ≡ x) (own' : (y : ℕ) → y < length D → at D y ≡ 128 + y) where
  own_class : (e : ℕ) → Member (length C) (length D) e → class_of C D e ≡ e
  own_class e (inl h) = class_left C D e (omega arith) ∙ own e h
  own_class e (inr h) = class_far C D e h.0 ∙ own' (e - 128) (omega (arith, h.0, h.1)) ∙ omega (arith, h.0)

  pub merging_start : Merging (table C D P 0)
  merging_start = record {
    few_left = few_left;
    few_right = few_right;
    room = room;
    few = omega arith;
    few_roots = omega (arith, roots_few (class_of C D) 256);
    rooted = λ e h. (rw (own_class e h) h, ap (class_of C D) (own_class e h));
    forced = λ s t h g e. rw (← (sym (own_class s h) ∙ e ∙ own_class t g)) (itself s);
  }

-- ---- a pair of states in two classes
module _ {C D : List ℕ} {P : List Pair} {count : ℕ} (M : Merging (table C D P count)) {x y : ℕ} (hx : x < length C) (hy : y < length D) (new : at C x ≡ at D y → ⊥) where
  x_state : Member (length C) (length D) x
  x_state = inl hx

  y_state : Member (length C) (length D) (128 + y)
  y_state = inr (omega arith, omega arith)

  x_class : class_of C D x ≡ at C x
  x_class = class_left C D x (omega (arith, M.few_left))

  left_root : Member (length C) (length D) (at C x) × (class_of C D (at C x) ≡ at C x)
  left_root = rw x_class at (M.rooted x x_state)

  right_root : Member (length C) (length D) (at D y) × (class_of C D (at D y) ≡ at D y)
  right_root = rw (class_right C D y) at (M.rooted (128 + y) y_state)

  left_small : at C x < 256
  left_small = member_small M.few_left M.few_right left_root.0

  -- there is room for it
  pub pair_room : count ≤ 254
  pair_room = omega (arith, M.few_roots, roots_two (class_of C D) 256 (at C x) (at D y) left_small (member_small M.few_left M.few_right right_root.0) left_root.1 right_root.1 new)

  module _ {C' D' : List ℕ} {P' : List Pair} (J : Joined C C' (at C x) (at D y)) (J' : Joined D D' (at C x) (at D y)) {q a m c : ℕ} (A : Added P P' count q a m c x y) where
    hit : (e : ℕ) → Member (length C) (length D) e → class_of C D e ≡ at C x → class_of C' D' e ≡ at D y
    hit = class_hit M.few_left J J'

    miss : (e : ℕ) → (Member (length C) (length D) e → class_of C D e ≡ at C x → ⊥) → class_of C' D' e ≡ class_of C D e
    miss = class_miss M.few_left J J'

    member_after : {e : ℕ} → Member (length C) (length D) e → Member (length C') (length D') e
    member_after h = rw (J.long, J'.long) h

    member_before : {e : ℕ} → Member (length C') (length D') e → Member (length C) (length D) e
    member_before h = rw (J.long, J'.long) at h

    kept_root : (e : ℕ) → class_of C' D' e ≡ e → class_of C D e ≡ e
    kept_root e f = by_cases (member? (length C) (length D) e)
        (λ h. by_cases (ℕ_discrete (class_of C D e) (at C x))
        (λ g. let z : e ≡ at D y = sym f ∙ hit e h g in ap (class_of C D) z ∙ right_root.1 ∙ sym z)
        (λ g. sym (miss e (λ w. g)) ∙ f))
        (λ h. sym (miss e (λ w. absurd (h w))) ∙ f)

    lost_root : class_of C' D' (at C x) ≡ at C x → ⊥
    lost_root e = new (sym e ∙ hit (at C x) left_root.0 left_root.1)

    after_rooted : (e : ℕ) → Member (length C) (length D) e → Member (length C) (length D) (class_of C' D' e) × (class_of C' D' (class_of C' D' e) ≡ class_of C' D' e)
    after_rooted e h = by_cases (ℕ_discrete (class_of C D e) (at C x))
        (λ g. rw (hit e h g) (right_root.0, miss (at D y) (λ w f. new (sym f ∙ right_root.1)) ∙ right_root.1))
        (λ g. rw (miss e (λ w. g)) ((M.rooted e h).0, miss (class_of C D e) (λ w f. g (sym (M.rooted e h).1 ∙ f)) ∙ (M.rooted e h).1))

    new_pair : Connected P' (count + 1) x (128 + y)
    new_pair = let z : Connected P' (count + 1) (pair_left P' count) (128 + pair_right P' count) = pair count (omega arith) in rw (A.entry.left, A.entry.right) at z

    old_forced : ForcedBy (Member (length C) (length D)) (Connected P' (count + 1)) (class_of C D)
    old_forced = record { forced = λ E eq l s t v w e. l s t (connected_more (omega arith) A.keeps (M.forced s t v w e)) }

    is_merged : (e : ℕ) → Member (length C) (length D) e → merged (class_of C D) (class_of C D x) (class_of C D (128 + y)) e ≡ class_of C' D' e
    is_merged e h = by_cases (ℕ_discrete (class_of C D e) (class_of C D x))
        (λ g. merged_hit (class_of C D) (class_of C D x) (class_of C D (128 + y)) e g ∙ class_right C D y ∙ sym (hit e h (g ∙ x_class)))
        (λ g. merged_miss (class_of C D) (class_of C D x) (class_of C D (128 + y)) e g ∙ sym (miss e (λ w f. g (f ∙ sym x_class))))

    after_forced : (s t : ℕ) → Member (length C) (length D) s → Member (length C) (length D) t → class_of C' D' s ≡ class_of C' D' t → Connected P' (count + 1) s t
    after_forced = (forced_ext is_merged (forced_merge x (128 + y) x_state y_state new_pair old_forced)).forced (Connected P' (count + 1)) (connected_equivalence P' (count + 1)) (λ s t p. p)

    after_merging : Merging (table C' D' P' (count + 1))
    after_merging = record {
      few_left = omega (arith, M.few_left, J.long);
      few_right = omega (arith, M.few_right, J'.long);
      room = omega (arith, M.room);
      few = omega (arith, pair_room);
      few_roots = omega (arith, M.few_roots, roots_less (class_of C D) (class_of C' D') kept_root 256 (at C x) left_small left_root.1 lost_root);
      rooted = λ e h. let r = after_rooted e (member_before h) in (member_after r.0, r.1);
      forced = λ s t h g. after_forced s t (member_before h) (member_before g);
    }

    still_together : (r s : ℕ) → r < length C → s < length D → at C r ≡ at D s → at C' r ≡ at D' s
    still_together r s h g e = by_cases (ℕ_discrete (at C r) (at C x))
        (λ z. J.hit r h z ∙ sym (J'.hit s g (sym e ∙ z)))
        (λ z. J.miss r (λ w. z) ∙ e ∙ sym (J'.miss s (λ w f. z (e ∙ f))))

    -- they come into one class, and are the new pair
    pub joins_new : JoinsStates (table C D P count) (table C' D' P' (count + 1)) q a m c x y
    joins_new = record {
      merging = after_merging;
      later = record { same_left = J.long; same_right = J'.long; same_list = A.long; longer = omega arith; keeps = A.keeps; coarser = still_together };
      together = J.hit x hx refl ∙ sym (J'.miss y (λ w f. new (sym f)));
      listed = λ p h g. let z : p ≡ count = omega arith in rw z A.entry;
    }

pub later_self : (T : Table) → Later T T
later_self T = record { same_left = refl; same_right = refl; same_list = refl; longer = omega arith; keeps = λ k h. refl; coarser = λ x y h g e. e }

-- nothing changes if they are in one class
pub joins_old : {T : Table} → Merging T → {q a m c x y : ℕ} → at T.left x ≡ at T.right y → JoinsStates T T q a m c x y
joins_old {T} M e = record { merging = M; later = later_self T; together = e; listed = λ p h g. absurd (omega arith) }
