-- Where the first tree of a word ends: the letters are passed from left to right, and the trees that are still owed are counted.
-- Assumes nothing.
use Prim.Native.Nat.{ℕ, suc, ◌+◌, ◌-◌, ◌≤◌, ◌<◌}
use native.Mathlib.Decide.{dec_lt}
use native.Mathlib.Nat.{zero-add}
use native.Mathlib.Numerals.{add-one}
use native.Mathlib.Omega.{arith}
use mathlib.Core.Bool.{Bool, true, false}
use mathlib.Core.Path.{◌≡◌, refl, sym, ap, ◌∙◌}
use mathlib.Core.List.{List, [], ◌∷◌}
use Rattle.std.specs.Prelude.{Some, is_some}
use lib.Dec.{leb}
use lib.ListN.{length, get_or, drop, length-drop, drop_of_length-le}
use lib.Seq.{drop-cons, drop-drop}
use borrow.Author.Tests.{leb-true}
use Rattle.theory.specs.Term.{Terms, count}
use Rattle.theory.proofs.Terms.{conflict}
use Rattle.trees.specs.Inner.Decode.{Letter, call, symbol, unknown, rests, node_if, put, forest}
use Rattle.trees.proofs.Forest.{count_rests, rests_rests}
use Rattle.prefixes.specs.Inner.Patterns.{trees_end, end_of, Ended}

-- ---- one letter in front of some trees
-- how many of the trees behind it a letter takes
abbrev pub taken : {A : Type 0} → Letter A → ℕ
taken (call a) = 0
taken (symbol k n) = n
taken unknown = 0

module _ {A : Type 0} where
  -- the first tree and n more end where those that the letter takes and n more end
  letter_behind : (l : Letter A) (G : Terms A) (n : ℕ) → suc n ≤ count (put l G) → (taken l + n ≤ count G) × (rests (taken l + n) G ≡ rests (suc n) (put l G))
  unfolding put rests count
  letter_behind (call a) G n h = (omega arith, rw zero-add)
  letter_behind (symbol k m) G n h = by_rank (leb m (count G)) refl h
    where
      by_rank : (b : Bool) → leb m (count G) ≡ b → suc n ≤ count (node_if b k m G) → (m + n ≤ count G) × (rests (m + n) G ≡ rests (suc n) (node_if b k m G))
      by_rank true e h = (omega (arith, leb-true m (count G) e, count_rests m G), sym (rests_rests m n G))
      by_rank false e h = absurd (omega arith)
  letter_behind unknown G n h = absurd (omega arith)

-- ---- from left to right
module _ {A : Type 0} (f : ℕ → Letter A) (s : List ℕ) (p : ℕ) (there : 0 < count (forest f (drop p s))) where
  -- where a tree begins, the letters have not ended
  pub letter_inside : p < length s
  unfolding forest count
  letter_inside = by_case (dec_lt p (length s))
    where
      by_case : Dec (p < length s) → p < length s
      by_case (yes h) = h
      by_case (no n) = let e : drop p s ≡ [] = drop_of_length-le s {i = p} (omega arith) in absurd (omega (arith, ap (λ l. count (forest f l)) e))

  -- and the trees from there on are the letter in front of those behind it
  pub letter_put : forest f (drop p s) ≡ put (f (get_or s p 0)) (forest f (drop (p + 1) s))
  unfolding forest
  letter_put = let e : drop p s ≡ get_or s p 0 ∷ drop (p + 1) s = rw add-one (drop-cons s p 0 letter_inside) in ap (forest f) e

-- ---- what is owed, by the ranks alone
-- each tree that is owed has a letter
pub few_owed : {X : Type 0} (r : X → ℕ) (n p : ℕ) (s : List X) → is_some (trees_end r n p s) ≡ true → n ≤ length s
unfolding trees_end
few_owed r ℕ.zero p s h = omega arith
few_owed r (suc n) p [] h = conflict (cc)
few_owed r (suc n) p (x ∷ s) h = omega (arith, few_owed r (r x + n) (suc p) s h)

-- The tree at `at` is passed up to p: it ends where the next `owed` trees end.
pub record Owing {X : Type 0} (outs : List ℕ) (number : X → ℕ) (s : List X) (at owed p : ℕ) : Type 0 where
  pub some : is_some (end_of outs number s at) ≡ true
  pub same : trees_end (λ x. get_or outs (number x) 0) owed p (drop p s) ≡ end_of outs number s at

module _ {X : Type 0} {outs : List ℕ} {number : X → ℕ} {s : List X} {at : ℕ} where
  -- while something is owed, the letters have not ended
  pub owing_inside : {n p : ℕ} → Owing outs number s at n p → 0 < n → p < length s
  owing_inside {n} {p} O h = omega (arith, few_owed _ n p (drop p s) (ap is_some O.same ∙ O.some), length-drop p s)

  -- one letter further, and the sum is not large
  pub owing_next : {n o p : ℕ} {x : X} → Owing outs number s at n p → 0 < n → x ≡ get_or s p x → o ≡ n + get_or outs (number x) 0 → Owing outs number s at (o - 1) (p + 1) × (o ≤ length s)
  unfolding trees_end
  owing_next {n = ℕ.zero} O h e q = absurd (omega arith)
  owing_next {n = suc n} {o} {p} {x} O h e q =
      let r : X → ℕ = λ x. get_or outs (number x) 0 in
      let k : o - 1 ≡ r x + n = omega (arith, q) in
      let d : drop p s ≡ x ∷ drop (suc p) s = drop-cons s p x (owing_inside O h) ∙ ap (λ y. y ∷ drop (suc p) s) (sym e) in
      let g : trees_end r (o - 1) (p + 1) (drop (p + 1) s) ≡ end_of outs number s at = rw (k, add-one) (sym (ap (trees_end r (suc n) p) d) ∙ O.same) in
      (record { some = O.some; same = g }, omega (arith, owing_inside O h, few_owed r (o - 1) (p + 1) (drop (p + 1) s) (ap is_some g ∙ O.some), length-drop (p + 1) s))

  -- nothing is owed: the tree has ended
  pub owing_done : {n p : ℕ} → Owing outs number s at n p → n ≡ 0 → end_of outs number s at ≡ Some p
  unfolding trees_end
  owing_done {p = p} O z = sym O.same ∙ ap (λ n. trees_end (λ x. get_or outs (number x) 0) n p (drop p s)) z

-- ---- trees, by letters that take so many of those behind them
module _ {A X : Type 0} (f : X → Letter A) (r : X → ℕ) (ranks : (x : X) → taken (f x) ≡ r x) where
  -- the first n trees end behind k letters
  ends_behind : (n p : ℕ) (s : List X) → n ≤ count (forest f s) → (k : ℕ) × (trees_end r n p s ≡ Some (p + k)) × (n ≤ k) × (k ≤ length s) × (forest f (drop k s) ≡ rests n (forest f s))
  unfolding trees_end forest count rests
  ends_behind ℕ.zero p s h = (0, ap Some (omega arith), omega arith, omega arith, refl)
  ends_behind (suc n) p [] h = absurd (omega arith)
  ends_behind (suc n) p (x ∷ s) h =
      let w = letter_behind (f x) (forest f s) n h in
      let e : r x + n ≡ taken (f x) + n = omega (arith, ranks x) in
      let b = ends_behind (r x + n) (suc p) s (omega (arith, e, w.0)) in
      (suc b.0, b.1 ∙ ap Some (omega arith), omega (arith, b.2), omega (arith, b.3), b.4 ∙ ap (λ m. rests m (forest f s)) e ∙ w.1)

-- a letter takes as many trees as its number's rank says, and a number without a rank none
pub record Ranks {A : Type 0} (f : ℕ → Letter A) (outs : List ℕ) : Type 0 where
  pub takes : (x : ℕ) → taken (f x) ≡ get_or outs x 0

module _ {A : Type 0} {f : ℕ → Letter A} {outs : List ℕ} (R : Ranks f outs) (s : List ℕ) (at : ℕ) (there : 0 < count (forest f (drop at s))) where
  -- the tree there has an end by the ranks
  pub end_there : is_some (end_of outs (λ x. x) s at) ≡ true
  end_there = let b = ends_behind f (λ x. get_or outs x 0) R.takes 1 at (drop at s) there in ap is_some b.1

  -- and there it ends
  pub end_right : {e : ℕ} → end_of outs (λ x. x) s at ≡ Some e → Ended f s at e
  end_right {e} h =
      let b = ends_behind f (λ x. get_or outs x 0) R.takes 1 at (drop at s) there in
      let q : e ≡ at + b.0 = some_same (sym h ∙ b.1) in
      record { further = omega (arith, b.2); inside = omega (arith, b.3, letter_inside f s at there, length-drop at s); behind = rw q (sym (ap (forest f) (drop-drop b.0 at s)) ∙ b.4) }
    where
      some_same : {m n : ℕ} → Some m ≡ Some n → m ≡ n
      some_same e = cc
