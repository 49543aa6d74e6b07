-- Trees as bytes: what is written beside a tree makes it a child, step by step from the bottom up.
-- Assumes nothing.
use Prim.Native.Nat.{ℕ, suc, ◌+◌, ◌-◌, ◌*◌, ◌≤◌, ◌<◌}
use native.Mathlib.Numerals.{add-one}
use native.Mathlib.Omega.{arith}
use mathlib.Core.Path.{◌≡◌, refl, sym, ap, ap₂, ◌∙◌}
use mathlib.Core.List.{List, [], ◌∷◌, ◌++◌}
use lib.ListN.{length, get_or, take, drop, set, replicate, length-set, length-append, length-replicate, drop_of_length-le}
use lib.Seq.{sets, sets-eq, length-sets, slice, length-take-le, take_at, drop_at, take-set-le, drop-set-lt, drop-cons, get_or-take}
use Rattle.theory.specs.Inner.Leaves.{put, leaf_of}
use Rattle.theory.specs.Term.{Tree, Terms}
use Rattle.trees.specs.Alphabets.{Leaf}
use Rattle.trees.specs.Code.{code, preorder, preorders}
use Rattle.formats.specs.Inner.Layout.{mark_at, pairs}
use Rattle.formats.proofs.Pairs.{pairs_length, pairs_at}
use Rattle.forms.specs.Alphabet.{alphabet}
use Rattle.forms.proofs.Slices.{slice_from}
use Rattle.classes.proofs.Patterns.{slice_join}
use Rattle.witness.specs.Inner.Shown.{steps_tree, Holds, SymbolWritten, Wrapped, Addable, Added, SymbolAsked, Wrappable, Step, StepsAsked, StepsWritten}

-- ---- parts of what was written
-- a list that was written stands where it was written
slice-sets : (W s : List ℕ) (at to : ℕ) → to ≡ at + length W → to ≤ length s → slice at to (sets s at W) ≡ W
slice-sets W s at to e h =
    let P = take at s in
    let p : length P ≡ at = length-take-le at s (omega arith) in
    ap (slice at to) (sets-eq W s at (omega arith))
    ∙ ap (drop at) (take_at (P ++ W) (drop (at + length W) s) to (omega (arith, length-append P W)))
    ∙ drop_at P W at p

take-sets : (n : ℕ) (W s : List ℕ) (at : ℕ) → n ≤ at → take n (sets s at W) ≡ take n s
take-sets n [] s at h = refl
take-sets n (x ∷ W) s at h = take-sets n W (set s at x) (suc at) (omega arith) ∙ take-set-le n s at x h

drop-sets : (n : ℕ) (W s : List ℕ) (at : ℕ) → at + length W ≤ n → drop n (sets s at W) ≡ drop n s
drop-sets n [] s at h = refl
drop-sets n (x ∷ W) s at h = drop-sets n W (set s at x) (suc at) (omega arith) ∙ drop-set-lt n s at x (omega arith)

-- what stands before it stays
slice_before : (W s : List ℕ) (at from to : ℕ) → to ≤ at → slice from to (sets s at W) ≡ slice from to s
slice_before W s at from to h = ap (drop from) (take-sets to W s at h)

-- and so does what stands behind it
slice_behind : (W s : List ℕ) (at from to : ℕ) → at + length W ≤ from → from ≤ to → from ≤ length s → slice from to (sets s at W) ≡ slice from to s
slice_behind W s at from to h o i =
    let k = to - from in
    let e : from + k ≡ to = omega arith in
    ap (λ t. slice from t (sets s at W)) (sym e)
    ∙ slice_from (sets s at W) from k (omega (arith, length-sets s at W))
    ∙ ap (take k) (drop-sets from W s at h)
    ∙ sym (slice_from s from k i)
    ∙ ap (λ t. slice from t s) e

-- ---- the code of leaves and of one tree among them
abbrev codes : Terms ⊥ → List ℕ
codes ts = preorders (λ x. absurd x) (λ k. k) ts

module _ (ins : List ℕ) (l : Leaf ins) (d : Tree) where
  -- r leaves
  leaves_code : (r : ℕ) → codes (put (alphabet ins l) (replicate r 0) 0 d) ≡ replicate r l.symbol
  unfolding put leaf_of alphabet preorder
  leaves_code ℕ.zero = refl
  leaves_code (suc r) = ap (◌∷◌ l.symbol) (leaves_code r)

  -- i leaves before d, and the others behind it
  put_code : (r i : ℕ) → i < r → codes (put (alphabet ins l) (replicate r 0) (suc i) d) ≡ replicate i l.symbol ++ (code d ++ replicate (r - suc i) l.symbol)
  unfolding put leaf_of alphabet preorder
  put_code ℕ.zero i h = absurd (omega arith)
  put_code (suc r) ℕ.zero h = let e : r ≡ suc r - 1 = omega arith in ap (◌++◌ (code d)) (leaves_code r ∙ ap (λ k. replicate k l.symbol) e)
  put_code (suc r) (suc i) h = let e : r - suc i ≡ suc r - suc (suc i) = omega arith in ap (◌∷◌ l.symbol) (put_code r i (omega arith) ∙ ap (λ k. replicate i l.symbol ++ (code d ++ replicate k l.symbol)) e)

-- ---- a symbol with leaves alone
module _ {ins buffer : List ℕ} {e a at : ℕ} (P : SymbolAsked ins e a buffer at) where
  pub symbol_written : {after : List ℕ} {r to : ℕ} → r ≡ get_or ins a 0 → after ≡ sets (set buffer at a) (at + 1) (replicate r e) → to ≡ at + 1 + r → SymbolWritten ins e a at after at to
  unfolding preorder
  symbol_written {after} {r} {to} f g h =
      let low = P.symbols.ranks.low a P.symbols.there in
      let n = length-replicate r e in
      record {
        left = refl;
        right = h ∙ ap (λ k. at + 1 + k) f;
        tree = λ l z d.
            ap (slice at to) (g ∙ ap (λ k. sets (set buffer at a) k (replicate r e)) (add-one at))
            ∙ slice-sets (a ∷ replicate r e) buffer at to (omega arith) (omega (arith, P.room))
            ∙ ap₂ (λ k y. a ∷ replicate k y) f (sym z)
            ∙ ap (◌∷◌ a) (sym (leaves_code ins l d (get_or ins a 0)));
      }

-- ---- a symbol above a tree
module _ {ins buffer : List ℕ} {e a i lo hi : ℕ} (P : Wrappable ins e a i buffer lo hi) where
  pub wrapped : {first after : List ℕ} {b from to : ℕ} → b ≡ get_or ins a 0 - i → from ≡ lo - i → first ≡ sets (set buffer from a) (from + 1) (replicate (i - 1) e) → after ≡ sets first hi (replicate b e) → to ≡ hi + b → Wrapped ins e a i buffer lo hi after from to
  unfolding preorder
  wrapped {first} {after} {b} {from} {to} f g p q h =
      let low = P.symbols.ranks.low a P.symbols.there in
      let c = P.child in
      let o = P.from_one in
      let left = P.left in
      let ordered = P.ordered in
      let right = P.right in
      let W = a ∷ replicate (i - 1) e in
      let U = replicate b e in
      let w : length W ≡ i = omega (arith, length-replicate (i - 1) e) in
      let v : length U ≡ b = length-replicate b e in
      let u : first ≡ sets buffer from W = p ∙ ap (λ k. sets (set buffer from a) k (replicate (i - 1) e)) (add-one from) in
      let long : length first ≡ length buffer = ap length u ∙ length-sets buffer from W in
      let long' : length after ≡ length buffer = ap length q ∙ length-sets first hi U ∙ long in
      let before : slice from lo after ≡ W = ap (slice from lo) q ∙ slice_before U first hi from lo ordered ∙ ap (slice from lo) u ∙ slice-sets W buffer from lo (omega arith) (omega arith) in
      let middle : slice lo hi after ≡ slice lo hi buffer = ap (slice lo hi) q ∙ slice_before U first hi lo hi (omega arith) ∙ ap (slice lo hi) u ∙ slice_behind W buffer from lo hi (omega arith) ordered (omega arith) in
      let end : slice hi to after ≡ U = ap (slice hi to) q ∙ slice-sets U first hi to (omega arith) (omega arith) in
      let all : slice from to after ≡ W ++ (slice lo hi buffer ++ U) = slice_join after from lo to (omega arith) (omega arith) (omega arith) ∙ ap₂ ◌++◌ before (slice_join after lo hi to ordered (omega arith) (omega arith) ∙ ap₂ ◌++◌ middle end) in
      let j : suc (i - 1) ≡ i = omega arith in
      record {
        left = omega arith;
        right = omega arith;
        tree = λ l z d k.
            all
            ∙ ap (λ m. a ∷ (replicate (i - 1) e ++ (m ++ U))) k
            ∙ ap₂ (λ y n. a ∷ (replicate (i - 1) y ++ (code d ++ replicate n y))) (sym z) (f ∙ ap (λ n. get_or ins a 0 - n) (sym j))
            ∙ ap (◌∷◌ a) (sym (put_code ins l d (get_or ins a 0) (i - 1) (omega arith)) ∙ ap (λ n. codes (put (alphabet ins l) (replicate (get_or ins a 0) 0) n d)) j);
      }

-- ---- a step more
module _ {ins buffer : List ℕ} {e a i lo hi : ℕ} (P : Addable ins e a i buffer lo hi) where
  pub added_leaves : {after : List ℕ} {from to : ℕ} → i ≡ 0 → SymbolWritten ins e a lo after from to → Added ins e a i buffer lo hi after from to
  added_leaves {after} {from} {to} z R =
      let low = P.symbols.ranks.low a P.symbols.there in
      record {
        left = omega (arith, R.left);
        ordered = omega (arith, R.left, R.right);
        right = omega (arith, R.right, P.ordered);
        tree = λ l s d h. rw z (R.tree l s d);
      }

  pub added_above : {after : List ℕ} {from to : ℕ} → Wrapped ins e a i buffer lo hi after from to → Added ins e a i buffer lo hi after from to
  added_above R =
      let low = P.symbols.ranks.low a P.symbols.there in
      record { left = omega (arith, R.left, P.child); ordered = omega (arith, R.left, R.right, P.child, P.ordered); right = omega (arith, R.right); tree = R.tree }

-- ---- all steps
-- the steps from number k on stand in the buffer
pub record StepsLoop (ins : List ℕ) (e : ℕ) (steps : List ℕ) (count : ℕ) (buffer : List ℕ) (from to k : ℕ) : Type 0 where
  pub inside : k ≤ count
  pub room : length buffer ≡ 3584
  pub left : 1792 + 4 * k ≤ from + 4 * count
  pub ordered : from < to
  pub right : to + 4 * k ≤ 1793 + 4 * count
  pub tree : (l : Leaf ins) → l.symbol ≡ e → Holds buffer from to (steps_tree ins l (drop k (take count (pairs steps))))

-- a leaf alone
leaf_there : {ins : List ℕ} {e : ℕ} (l : Leaf ins) → l.symbol ≡ e → (buffer : List ℕ) (at to : ℕ) → to ≡ at + 1 → to ≤ length buffer → slice at to (set buffer at e) ≡ code (steps_tree ins l [])
unfolding steps_tree leaf_of alphabet preorder
leaf_there {e = e} l z buffer at to f h = slice-sets (e ∷ []) buffer at to f h ∙ ap (λ x. x ∷ []) (sym z)

module _ {ins steps buffer : List ℕ} {e count : ℕ} (P : StepsAsked ins e steps count buffer) where
  steps_long : length (take count (pairs steps)) ≡ count
  steps_long = length-take-le count (pairs steps) (pairs_length steps count P.long)

  -- no step: a leaf
  pub steps_loop_start : {after : List ℕ} → after ≡ set buffer 1792 e → StepsLoop ins e steps count after 1792 1793 count
  steps_loop_start q = record {
    inside = omega arith;
    room = ap length q ∙ length-set buffer 1792 e ∙ P.room;
    left = omega arith;
    ordered = omega arith;
    right = omega arith;
    tree = λ l z. ap (slice 1792 1793) q ∙ leaf_there l z buffer 1792 1793 (omega arith) (omega (arith, P.room)) ∙ sym (ap (λ ss. code (steps_tree ins l ss)) (drop_of_length-le (take count (pairs steps)) {i = count} (omega (arith, steps_long))));
  }

  module _ {now : List ℕ} {from to k : ℕ} (T : StepsLoop ins e steps count now from to k) (more : 0 < k) {a i : ℕ} (f : a ≡ get_or steps (2 * (k - 1)) 0) (g : i ≡ get_or steps (2 * (k - 1) + 1) 0) where
    -- the step above those that stand there
    step_at : mark_at steps (k - 1) ≡ (a, i)
    step_at = pairs_at steps (k - 1) (omega (arith, P.long, T.inside)) ∙ ap₂ (λ x y. (x, y)) (sym f) (sym g)

    steps_cons : drop (k - 1) (take count (pairs steps)) ≡ (a, i) ∷ drop k (take count (pairs steps))
    steps_cons =
        let j : suc (k - 1) ≡ k = omega arith in
        let h : k - 1 < count = omega (arith, T.inside) in
        drop-cons (take count (pairs steps)) (k - 1) (0, 0) (omega (arith, steps_long))
        ∙ ap₂ ◌∷◌ (get_or-take count (pairs steps) (k - 1) (0, 0) h ∙ step_at) (ap (λ n. drop n (take count (pairs steps))) j)

    pub steps_loop_asks : Addable ins e a i now from to
    steps_loop_asks =
        let s : Step ins (a, i) = rw step_at at (P.each (k - 1) (omega (arith, T.inside))) in
        record {
          symbols = record { ranks = P.ranks; leaf = P.leaf; there = s.there };
          child = s.child;
          left = omega (arith, T.left, T.inside, P.few);
          ordered = T.ordered;
          right = omega (arith, T.right, T.room, T.inside, P.few);
        }

    pub steps_loop_next : {after : List ℕ} {from' to' : ℕ} → length after ≡ length now → Added ins e a i now from to after from' to' → StepsLoop ins e steps count after from' to' (k - 1)
    unfolding steps_tree
    steps_loop_next {from' = from'} {to'} n R = record {
      inside = omega (arith, T.inside);
      room = n ∙ T.room;
      left = omega (arith, T.left, R.left);
      ordered = R.ordered;
      right = omega (arith, T.right, R.right);
      tree = λ l z. R.tree l z (steps_tree ins l (drop k (take count (pairs steps)))) (T.tree l z) ∙ sym (ap (λ ss. code (steps_tree ins l ss)) steps_cons);
    }

  -- all steps
  pub steps_loop_done : {after : List ℕ} {from to k : ℕ} → StepsLoop ins e steps count after from to k → k ≡ 0 → StepsWritten ins e steps count after from to
  steps_loop_done {after} {from} {to} {k} T z = record {
    left = omega (arith, T.left);
    ordered = T.ordered;
    right = omega (arith, T.right);
    tree = λ l q. T.tree l q ∙ ap (λ n. code (steps_tree ins l (drop n (take count (pairs steps))))) z;
  }
