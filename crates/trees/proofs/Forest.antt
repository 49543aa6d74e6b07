-- Laws of `forest`: the first n trees of a forest are just the letters in front, and the others are the forest behind them.
-- Assumes nothing.
use Prim.Native.Nat.{ℕ, suc, ◌+◌, ◌-◌, ◌≤◌, ◌<◌}
use native.Mathlib.Nat.{zero-add, suc-add}
use native.Mathlib.Omega.{arith}
use mathlib.Core.Bool.{Bool, true, false}
use mathlib.Core.Path.{◌≡◌, refl, sym, ap, ◌∙◌}
use mathlib.Core.List.{List, [], ◌∷◌, ◌++◌, append_assoc}
use lib.Dec.{leb}
use lib.ListN.{length, get_or, take, drop, length-drop}
use lib.Seq.{drop-drop}
use borrow.Author.Tests.{leb-true}
use Rattle.theory.specs.Term.{Term, var, node, Terms, none, more, count}
use Rattle.trees.specs.Code.{preorder, preorders}
use Rattle.theory.specs.Inner.Forests.{letters, letters_all, joined}
use Rattle.trees.specs.Inner.Decode.{Letter, call, symbol, unknown, firsts, rests, node_if, put, forest}

-- ---- the first n of some trees, and the rest
module _ {A : Type 0} where
  pub count_firsts : (n : ℕ) (ts : Terms A) → n ≤ count ts → count (firsts n ts) ≡ n
  unfolding firsts count
  count_firsts ℕ.zero ts h = refl
  count_firsts (suc n) none h = absurd (omega arith)
  count_firsts (suc n) (more t ts) h = ap suc (count_firsts n ts (omega arith))

  pub count_rests : (n : ℕ) (ts : Terms A) → count (rests n ts) ≡ count ts - n
  unfolding rests count
  count_rests ℕ.zero ts = omega arith
  count_rests (suc n) none = omega arith
  count_rests (suc n) (more t ts) = count_rests n ts ∙ omega arith

  pub rests_rests : (n m : ℕ) (ts : Terms A) → rests m (rests n ts) ≡ rests (n + m) ts
  unfolding rests
  rests_rests ℕ.zero m ts = rw zero-add
  rests_rests (suc n) ℕ.zero none = rw suc-add
  rests_rests (suc n) (suc m) none = rw suc-add
  rests_rests (suc n) m (more t ts) = rw suc-add (rests_rests n m ts)

  pub letters_add : (n m : ℕ) (ts : Terms A) → letters_all (firsts (n + m) ts) ≡ letters_all (firsts n ts) + letters_all (firsts m (rests n ts))
  unfolding firsts rests letters_all
  letters_add ℕ.zero m ts = rw (zero-add, zero-add)
  letters_add (suc n) ℕ.zero none = rw suc-add (omega arith)
  letters_add (suc n) (suc m) none = rw suc-add (omega arith)
  letters_add (suc n) m (more t ts) = rw suc-add (omega (arith, letters_add n m ts))

  module _ {Y : Type 0} (g : A → List Y) (y : ℕ → Y) where
    pub preorders_add : (n m : ℕ) (ts : Terms A) → preorders g y (firsts (n + m) ts) ≡ preorders g y (firsts n ts) ++ preorders g y (firsts m (rests n ts))
    unfolding firsts rests preorders
    preorders_add ℕ.zero m ts = rw zero-add
    preorders_add (suc n) ℕ.zero none = rw suc-add
    preorders_add (suc n) (suc m) none = rw suc-add
    preorders_add (suc n) m (more t ts) = rw (suc-add, append_assoc, ← preorders_add n m ts)

-- ---- some trees behind others
module _ {A : Type 0} where
  -- how many there are
  pub joined_count : (ts us : Terms A) → count (joined ts us) ≡ count ts + count us
  unfolding count
  joined_count none us = omega arith
  joined_count (more t ts) us = omega (arith, joined_count ts us)

  -- the first m trees and the others are all
  pub joined_split : (m : ℕ) (ts : Terms A) → joined (firsts m ts) (rests m ts) ≡ ts
  unfolding firsts rests
  joined_split ℕ.zero ts = refl
  joined_split (suc m) none = refl
  joined_split (suc m) (more t ts) = ap (more t) (joined_split m ts)

-- ---- one letter more
abbrev pub Known : {A : Type 0} → Letter A → Type 0
Known (call a) = Unit {0}
Known (symbol k n) = Unit {0}
Known unknown = ⊥

-- the word that a letter stands for
abbrev pub say : {A Y : Type 0} → (A → List Y) → (ℕ → Y) → Letter A → List Y
say g y (call a) = g a
say g y (symbol k n) = y k ∷ []
say g y unknown = []

abbrev pub says : {A X Y : Type 0} → (X → Letter A) → (A → List Y) → (ℕ → Y) → List X → List Y
says f g y [] = []
says f g y (x ∷ s) = say g y (f x) ++ says f g y s

-- a letter l in front of the forest G: its first tree and m more are l, and the first `inner` trees of G
record Step {A Y : Type 0} (g : A → List Y) (y : ℕ → Y) (l : Letter A) (G : Terms A) (m : ℕ) : Type 0 where
  inner : ℕ
  fits : inner ≤ count G
  known : Known l
  counted : letters_all (firsts (suc m) (put l G)) ≡ suc (letters_all (firsts inner G))
  behind : rests (suc m) (put l G) ≡ rests inner G
  spelled : preorders g y (firsts (suc m) (put l G)) ≡ say g y l ++ preorders g y (firsts inner G)

module _ {A Y : Type 0} (g : A → List Y) (y : ℕ → Y) where
  step_symbol : (k r : ℕ) (G : Terms A) (m : ℕ) (b : Bool) → leb r (count G) ≡ b → suc m ≤ count (node_if b k r G) → Step g y (symbol k r) G m
  unfolding put firsts rests letters_all letters preorders preorder count
  step_symbol k r G m true e h = record {
    inner = r + m;
    fits = omega (arith, count_rests r G, leb-true r (count G) e);
    known = tt;
    counted = simp e (omega (arith, letters_add r m G));
    behind = simp e (rests_rests r m G);
    spelled = simp e (ap (◌∷◌ (y k)) (sym (preorders_add g y r m G)));
  }
  step_symbol k r G m false e h = absurd (omega arith)

  step : (l : Letter A) (G : Terms A) (m : ℕ) → suc m ≤ count (put l G) → Step g y l G m
  unfolding put firsts rests letters_all letters preorders preorder count
  step (call a) G m h = record { inner = m; fits = omega arith; known = tt; counted = omega arith; behind = refl; spelled = refl }
  step (symbol k r) G m h = step_symbol k r G m (leb r (count G)) refl h
  step unknown G m h = absurd (omega arith)

split_letters : {A : Type 0} (n : ℕ) (ts : Terms A) → letters_all ts ≡ letters_all (firsts n ts) + letters_all (rests n ts)
unfolding firsts rests letters_all
split_letters ℕ.zero ts = omega arith
split_letters (suc n) none = omega arith
split_letters (suc n) (more t ts) = omega (arith, split_letters n ts)

-- a letter that is not broken is one letter more
pub put_letters : {A : Type 0} (l : Letter A) (G : Terms A) → 0 < letters_all (put l G) → letters_all (put l G) ≡ suc (letters_all G)
unfolding put letters_all letters
put_letters (call a) G h = omega arith
put_letters (symbol k n) G h = go (leb n (count G)) h
  where
    go : (b : Bool) → 0 < letters_all (node_if b k n G) → letters_all (node_if b k n G) ≡ suc (letters_all G)
    go true h = omega (arith, split_letters n G)
    go false h = absurd (omega arith)
put_letters unknown G h = absurd (omega arith)

-- where all letters are read, all letters behind the first are
pub all_tail : {A X : Type 0} (f : X → Letter A) (x : X) (s : List X) → letters_all (forest f (x ∷ s)) ≡ length (x ∷ s) → letters_all (forest f s) ≡ length s
unfolding forest
all_tail f x s h = omega (arith, put_letters (f x) (forest f s) (omega arith))

pub all_drop : {A X : Type 0} (f : X → Letter A) (s : List X) (p : ℕ) → letters_all (forest f s) ≡ length s → letters_all (forest f (drop p s)) ≡ length (drop p s)
all_drop f s ℕ.zero h = h
all_drop f [] (suc p) h = h
all_drop f (x ∷ s) (suc p) h = all_drop f s p (all_tail f x s h)

-- ---- the first n trees of a forest
pub record Front {A X Y : Type 0} (f : X → Letter A) (g : A → List Y) (y : ℕ → Y) (d : X) (s : List X) (n : ℕ) : Type 0 where
  pub inside : letters_all (firsts n (forest f s)) ≤ length s
  pub behind : rests n (forest f s) ≡ forest f (drop (letters_all (firsts n (forest f s))) s)
  pub spelled : preorders g y (firsts n (forest f s)) ≡ says f g y (take (letters_all (firsts n (forest f s))) s)
  pub known : (j : ℕ) → j < letters_all (firsts n (forest f s)) → Known (f (get_or s j d))

module _ {A X Y : Type 0} (f : X → Letter A) (g : A → List Y) (y : ℕ → Y) (d : X) where
  front_none : (s : List X) → Front f g y d s 0
  unfolding firsts rests letters_all preorders
  front_none s = record { inside = omega arith; behind = refl; spelled = refl; known = λ j h. absurd (omega arith) }

  front_more : (x : X) (s : List X) (m : ℕ) (st : Step g y (f x) (forest f s) m) → Front f g y d s st.inner → Front f g y d (x ∷ s) (suc m)
  unfolding forest
  front_more x s m st i = record {
    inside = omega (arith, st.counted, i.inside);
    behind = st.behind ∙ i.behind ∙ ap (λ n. forest f (drop n (x ∷ s))) (sym st.counted);
    spelled = st.spelled ∙ ap (λ w. say g y (f x) ++ w) i.spelled ∙ ap (λ n. says f g y (take n (x ∷ s))) (sym st.counted);
    known = λ j h. known_at j (rw st.counted at h);
  }
    where
      known_at : (j : ℕ) → j < suc (letters_all (firsts st.inner (forest f s))) → Known (f (get_or (x ∷ s) j d))
      known_at ℕ.zero h = st.known
      known_at (suc j) h = i.known j (omega arith)

  pub front : (s : List X) (n : ℕ) → n ≤ count (forest f s) → Front f g y d s n
  unfolding forest count
  front [] ℕ.zero h = front_none []
  front (x ∷ s) ℕ.zero h = front_none (x ∷ s)
  front [] (suc n) h = absurd (omega arith)
  front (x ∷ s) (suc n) h = let st = step g y (f x) (forest f s) n h in front_more x s n st (front s st.inner st.fits)

pub letters_pos : {A : Type 0} (t : Term A) → 0 < letters t
unfolding letters
letters_pos (var a) = omega arith
letters_pos (node k ts) = omega arith

-- the first tree of what stands from position p on: it lies in s, and the others are what stands behind it
pub first_tree : {A X : Type 0} (f : X → Letter A) (d : X) (s : List X) (p : ℕ) {t : Term A} {ts : Terms A} → forest f (drop p s) ≡ more t ts → (ts ≡ forest f (drop (p + letters t) s)) × (p + letters t ≤ length s)
unfolding firsts rests letters_all count
first_tree f d s p {t} {ts} e =
    let c : 1 ≤ count (forest f (drop p s)) = rw e (omega arith) in
    let F = front {Y = ℕ} f (λ a. []) (λ k. k) d (drop p s) 1 c in
    let n : letters_all (firsts 1 (forest f (drop p s))) ≡ letters t = rw e (omega arith) in
    let b : ts ≡ forest f (drop (letters t) (drop p s)) = sym (ap (rests 1) e) ∙ F.behind ∙ ap (λ k. forest f (drop k (drop p s))) n in
    (b ∙ ap (forest f) (drop-drop (letters t) p s), inside_drop n F.inside)
  where
    inside_drop : {k : ℕ} → k ≡ letters t → k ≤ length (drop p s) → p + letters t ≤ length s
    inside_drop {k} h i = omega (arith, length-drop p s, letters_pos t)
