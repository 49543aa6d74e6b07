-- Letters read from the last to the first: how many trees stand behind a place, and the levels of each, in a table. So it is measured whether letters are one tree, and no function calls itself.
-- Assumes nothing.
use Prim.Native.Nat.{ℕ, zero, suc, ◌+◌, ◌-◌, ◌≤◌, ◌<◌, max}
use native.Mathlib.Numerals.{add-one}
use native.Mathlib.Omega.{arith}
use mathlib.Core.Bool.{true}
use mathlib.Core.List.{List, [], ◌∷◌}
use mathlib.Core.Path.{◌≡◌, refl, sym, ap, ap₂, ◌∙◌}
use lib.Dec.{leb}
use lib.ListN.{length, get_or, set, drop}
use lib.Seq.{get_or-set_same, get_or-set_other}
use borrow.Author.Tests.{le-leb, lt-leb}
use Rattle.theory.specs.Inner.Forests.{letters, letters_all}
use Rattle.theory.specs.Size.{levels, deepest}
use Rattle.theory.specs.Term.{Terms, node, none, more, count}
use Rattle.theory.proofs.Terms.{conflict}
use Rattle.std.specs.Prelude.{None}
use Rattle.trees.specs.Inner.Decode.{Letter, call, symbol, unknown, firsts, rests, put, forest, first, Whole}
use Rattle.trees.specs.Inner.Measured.{some_extent, MeasuredWhole, noted, most}
use Rattle.trees.proofs.Codes.{single}
use Rattle.trees.proofs.Extents.{levels_letters, same_extent}
use Rattle.trees.proofs.Forest.{count_rests, put_letters}

-- ---- the levels of some trees
module _ {A : Type 0} where
  pub levels_of : Terms A → List ℕ
  levels_of none = []
  levels_of (more t ts) = levels t ∷ levels_of ts

  deepest_most : (n : ℕ) (ts : Terms A) → deepest (firsts n ts) ≡ most n (levels_of ts)
  unfolding levels_of firsts levels most
  deepest_most zero ts = refl
  deepest_most (suc n) none = refl
  deepest_most (suc n) (more t ts) = ap (max (levels t)) (deepest_most n ts)

  levels_rests : (n : ℕ) (ts : Terms A) → levels_of (rests n ts) ≡ drop n (levels_of ts)
  unfolding levels_of rests
  levels_rests zero ts = refl
  levels_rests (suc n) none = refl
  levels_rests (suc n) (more t ts) = levels_rests n ts

  most_letters : (n : ℕ) (ts : Terms A) → most n (levels_of ts) ≤ letters_all ts
  unfolding levels_of most letters_all
  most_letters zero ts = omega arith
  most_letters (suc n) none = omega arith
  most_letters (suc n) (more t ts) = omega (arith, levels_letters t, most_letters n ts)

-- ---- the table
noted_drop : (table : List ℕ) (d n : ℕ) → n ≤ d → noted table (d - n) ≡ drop n (noted table d)
unfolding noted
noted_drop table d zero h = let e : d - 0 ≡ d = omega arith in ap (noted table) e
noted_drop table zero (suc n) h = absurd (omega arith)
noted_drop table (suc d) (suc n) h = let e : suc d - suc n ≡ d - n = omega arith in ap (noted table) e ∙ noted_drop table d n (omega arith)

noted_same : (table table' : List ℕ) (d : ℕ) → ((i : ℕ) → i < d → get_or table' i 0 ≡ get_or table i 0) → noted table' d ≡ noted table d
unfolding noted
noted_same table table' zero f = refl
noted_same table table' (suc d) f = ap₂ ◌∷◌ (f d (omega arith)) (noted_same table table' d (λ i h. f i (omega arith)))

noted_more : (table : List ℕ) (d v : ℕ) → d < length table → noted (set table d v) (d + 1) ≡ v ∷ noted table d
unfolding noted
noted_more table d v h = rw add-one (ap₂ ◌∷◌ (get_or-set_same table d v 0 h) (noted_same table (set table d v) d (λ i b. get_or-set_other table d i v 0 (omega arith))))

-- the most of n entries, from the last on
pub most_next : (table : List ℕ) (from k deep x : ℕ) → deep ≡ most k (noted table (from + k)) → x ≡ max deep (get_or table (from + k) 0) → x ≡ most (k + 1) (noted table (from + (k + 1)))
unfolding noted most
most_next table from k deep x e q =
    let i : from + (k + 1) ≡ suc (from + k) = omega arith in
    let j : k + 1 ≡ suc k = omega arith in
    rw (i, j) (omega (arith, e, q))

-- ---- the trees behind a place
-- w is the code of `behind` trees, one behind the other, and the table has the levels of each
pub record Standing {A X : Type 0} (f : X → Letter A) (w : List X) (table : List ℕ) (behind : ℕ) : Type 0 where
  pub few : behind ≤ length w
  pub many : count (forest f w) ≡ behind
  pub all : letters_all (forest f w) ≡ length w
  pub heights : noted table behind ≡ levels_of (forest f w)

-- not all of w can be read
abbrev pub Broken : {A X : Type 0} → (X → Letter A) → List X → Type 0
Broken f w = letters_all (forest f w) ≡ length w → ⊥

module _ {A X : Type 0} (f : X → Letter A) where
  pub no_letter : (table : List ℕ) → Standing f [] table 0
  unfolding forest count letters_all noted levels_of
  no_letter table = record { few = omega arith; many = refl; all = refl; heights = refl }

  pub not_known : (x : X) (w : List X) → f x ≡ unknown → Broken f (x ∷ w)
  unfolding forest put letters_all
  not_known x w e h = omega (arith, simp e at h)

  -- one letter more in front of them: a call is a tree more, without a level, and a symbol of rank n makes one tree of n, a level higher, if there are so many
  module _ (x : X) {w : List X} {table : List ℕ} {behind : ℕ} (S : Standing f w table behind) where
    pub one_call : (a : A) → f x ≡ call a → behind < length table → Standing f (x ∷ w) (set table behind 0) (behind + 1)
    unfolding forest put count letters_all letters levels_of levels
    one_call a e h = record {
      few = omega (arith, S.few);
      many = rw e (omega (arith, S.many));
      all = rw e (omega (arith, S.all));
      heights = rw e (noted_more table behind 0 h ∙ ap (λ l. 0 ∷ l) S.heights);
    }

    module _ (k n : ℕ) (e : f x ≡ symbol k n) where
      here : forest f (x ∷ w) ≡ put (symbol k n) (forest f w)
      unfolding forest
      here = ap (λ l. put l (forest f w)) e

      pub too_few : behind < n → Broken f (x ∷ w)
      unfolding put letters_all
      too_few h g = omega (arith, simp (here, lt-leb n (count (forest f w)) (omega (arith, S.many))) at g)

      -- the levels of what stands behind are few
      pub few_levels_lem : {deep : ℕ} → deep ≡ most n (noted table behind) → deep ≤ length w
      few_levels_lem d = omega (arith, d, ap (most n) S.heights, most_letters n (forest f w), S.all)

      pub one_symbol : {deep : ℕ} → n ≤ behind → behind - n < length table → deep ≡ most n (noted table behind) → Standing f (x ∷ w) (set table (behind - n) (deep + 1)) (behind - n + 1)
      unfolding put letters_all count levels_of levels
      one_symbol {deep} l room d =
          let G = forest f w in
          let p : leb n (count G) ≡ true = le-leb n (count G) (omega (arith, S.many)) in
          let t : forest f (x ∷ w) ≡ more (node k (firsts n G)) (rests n G) = here ∙ simp p in
          let lower : deep + 1 ≡ suc (deepest (firsts n G)) = omega (arith, d, ap (most n) S.heights, deepest_most n G) in
          let others : noted table (behind - n) ≡ levels_of (rests n G) = noted_drop table behind n l ∙ ap (drop n) S.heights ∙ sym (levels_rests n G) in
          record {
            few = omega (arith, S.few);
            many = ap count t ∙ omega (arith, S.many, count_rests n G);
            all = ap letters_all here ∙ put_letters (symbol k n) G (simp p (omega arith)) ∙ ap suc S.all;
            heights = noted_more table (behind - n) (deep + 1) room ∙ ap₂ ◌∷◌ lower others ∙ ap levels_of (sym t);
          }

pub no_tree : {A X : Type 0} {f : X → Letter A} {w : List X} {at : ℕ} → (Whole f w → ⊥) → MeasuredWhole f w at None
no_tree n = record { whole = λ e l x. conflict (cc); none = λ x. n }

-- ---- all letters are read
module _ {A X : Type 0} {f : X → Letter A} {w : List X} {table : List ℕ} {behind : ℕ} (S : Standing f w table behind) where
  pub one_standing : behind ≡ 1 → Whole f w
  one_standing b = record { one = S.many ∙ b; all = S.all }

  pub not_one : (behind ≡ 1 → ⊥) → Whole f w → ⊥
  not_one n W = n (sym S.many ∙ W.one)

  -- its levels
  pub its_levels : behind ≡ 1 → levels (first (forest f w)) ≡ get_or table 0 0
  unfolding noted levels_of
  its_levels b =
      let F = forest f w in
      let q : get_or table 0 0 ∷ [] ≡ levels_of F = rw b at S.heights in
      sym (ap (λ l. get_or l 0 0) (q ∙ ap levels_of (single F (S.many ∙ b))))

  -- what measuring answers
  pub measured_standing : {at l : ℕ} → behind ≡ 1 → l ≡ get_or table 0 0 → MeasuredWhole f w at (some_extent (at + length w) l)
  measured_standing {at} {l} b e = record {
    whole = λ e' l' x. let u = (same_extent x).0 in let v = (same_extent x).1 in (one_standing b, sym u, omega (arith, e, its_levels b));
    none = λ x. conflict (cc);
  }

  pub none_standing : {at : ℕ} → (behind ≡ 1 → ⊥) → MeasuredWhole f w at None
  none_standing n = no_tree (not_one n)
