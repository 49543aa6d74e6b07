-- Trees of letters: where one ends, where the subtree stands that a byte of a prefix stands for, and which letters it has.
-- Assumes nothing.
use Prim.Native.Nat.{ℕ, suc, ◌+◌, ◌-◌, ◌/◌, ◌%◌, ◌<◌, ◌≤◌}
use native.Mathlib.Omega.{arith}
use mathlib.Core.Bool.{Bool, true, false}
use mathlib.Core.Path.{◌≡◌, refl, sym, ap, ap₂, ◌∙◌}
use mathlib.Core.List.{List, [], ◌∷◌, ◌++◌, append-nil}
use lib.Dec.{ltb, leb}
use lib.ListN.{length, get_or, drop, take, length-drop, length-append}
use lib.Seq.{slice, take_at}
use borrow.Author.Tests.{ltb-false}
use Rattle.std.proofs.lemmas.List.{get_or_past}
use Rattle.theory.specs.Lcp.{Patterns}
use Rattle.theory.specs.Prefix.{Prefixes, keeps, no_more, also}
use Rattle.theory.specs.Term.{var, node, Terms, none, more, count}
use Rattle.theory.proofs.Terms.{conflict}
use Rattle.trees.specs.Code.{preorder}
use Rattle.theory.specs.Inner.Forests.{letters_all, joined}
use Rattle.trees.specs.Inner.Decode.{Letter, call, symbol, unknown, firsts, rests, node_if, put, forest, first, Whole}
use Rattle.trees.proofs.Codes.{Faithful, words, single}
use Rattle.trees.proofs.Forest.{joined_split, all_tail, all_drop}
use Rattle.prefixes.specs.Inner.Patterns.{top_of, read_pattern, Ended}
use Rattle.prefixes.proofs.Ends.{taken, letter_inside, letter_put, Ranks}
use Rattle.forms.proofs.Slices.{slice_from}
use Rattle.prefixes.proofs.Patterns.{patterns_at, Byte, named, free, byte_at, all_there, preorders_split}
use Rattle.earliest.specs.Inner.Letters.{letter_if, letter_of, first_under, under, Locatable, LocatedAt}
use Rattle.discovery.specs.Inner.Letters.{call_letter, spelt}

-- the trees that stand from position p on
abbrev pub trees_at : List ℕ → List ℕ → ℕ → Terms (ℕ × ℕ)
trees_at outs s p = forest (letter_of outs) (drop p s)

-- ---- the end of a tree
-- a symbol takes as many trees as its rank says, and a call none
pub letter_ranks : (outs : List ℕ) → Ranks (letter_of outs) outs
unfolding letter_of
letter_ranks outs = record { takes = λ x. by_test x (ltb x (length outs)) (leb 65536 x) refl }
  where
    by_test : (x : ℕ) (a b : Bool) → ltb x (length outs) ≡ a → taken (letter_if a b outs x) ≡ get_or outs x 0
    by_test x true b e = refl
    by_test x false true e = sym (get_or_past outs x 0 (ltb-false _ _ e))
    by_test x false false e = sym (get_or_past outs x 0 (ltb-false _ _ e))

-- ---- one letter of a prefix
-- behind the letter of a node stand its children, and then the other trees
opened : {A : Type 0} (l : Letter A) (G : Terms A) {k : ℕ} {ds vs : Terms A} → put l G ≡ more (node k ds) vs → G ≡ joined ds vs
unfolding put
opened (call a) G e = conflict (cc)
opened (symbol j n) G {k} {ds} {vs} e = by_rank (leb n (count G)) e
  where
    by_rank : (b : Bool) → node_if b j n G ≡ more (node k ds) vs → G ≡ joined ds vs
    by_rank true e = let f : firsts n G ≡ ds = cc in let g : rests n G ≡ vs = cc in sym (joined_split n G) ∙ ap₂ joined f g
    by_rank false e = conflict (cc)
opened unknown G e = conflict (cc)

module _ {A B : Type 0} where
  -- prefixes of some trees and of others
  joined_prefixes : {cs us : Terms A} {ds vs : Terms B} → Prefixes cs ds → Prefixes us vs → Prefixes (joined cs us) (joined ds vs)
  joined_prefixes no_more Q = Q
  joined_prefixes (also p P) Q = also p (joined_prefixes P Q)

  -- where there is a pattern, there is a tree for it
  prefix_there : {hs : Terms A} {ts : Terms B} → Prefixes hs ts → 0 < count hs → 0 < count ts
  unfolding count
  prefix_there no_more h = h
  prefix_there (also p P) h = omega arith

  -- and letter 0 stands for it
  prefix_first : {hs : Terms A} {ts : Terms B} → Prefixes hs ts → 0 < count hs → first ts ≡ under 0 hs ts
  unfolding count first first_under under
  prefix_first no_more h = absurd (omega arith)
  prefix_first (also p P) h = refl

-- Of patterns F that are prefixes of the trees U, and H of T: letter n + 1 of F stands where letter n of H does.
record Behind {B : Type 0} (F : Patterns) (U : Terms B) (H : Patterns) (T : Terms B) : Type 0 where
  prefixes : Prefixes H T
  same : (n : ℕ) → under (suc n) F U ≡ under n H T

module _ {B : Type 0} where
  behind_node : (k : ℕ) (cs us : Patterns) {U : Terms B} (l : Letter B) (T : Terms B) → U ≡ put l T → Prefixes (more (node k cs) us) U → Behind (more (node k cs) us) U (joined cs us) T
  unfolding under
  behind_node k cs us l T q (also (keeps P) Q) = let e = opened l T (sym q) in record { prefixes = rw e (joined_prefixes P Q); same = λ n. ap (under n (joined cs us)) (sym e) }

  behind_var : (H : Patterns) {U T : Terms B} → T ≡ rests 1 U → Prefixes (more (var tt) H) U → Behind (more (var tt) H) U H T
  unfolding under rests
  behind_var H q (also p P) = record { prefixes = rw q P; same = λ n. ap (under n H) (sym q) }

module _ {B : Type 0} {outs : List ℕ} {x : ℕ} {H : Patterns} {U : Terms B} where
  -- at a symbol the node is opened in both
  behind_symbol : {F : Patterns} → Byte outs x H F → x < length outs → (l : Letter B) (T : Terms B) → U ≡ put l T → Prefixes F U → Behind F U H T
  behind_symbol (named g e) h l T q P = let m = get_or outs x 0 in rw (joined_split m H) at (behind_node x (firsts m H) (rests m H) l T q P)
  behind_symbol (free g e) h l T q P = absurd (omega arith)

  -- at a ⊤ a tree is passed
  behind_top : {F : Patterns} → Byte outs x H F → length outs ≤ x → {T : Terms B} → T ≡ rests 1 U → Prefixes F U → Behind F U H T
  behind_top (named g e) h q P = absurd (omega arith)
  behind_top (free g e) h q P = behind_var H q P

-- ---- from letter to letter of a prefix
-- letter i of the prefix stands for the tree at position p
pub record Locating (outs head s : List ℕ) (m i p : ℕ) : Type 0 where
  pub before : i ≤ m
  pub prefixes : Prefixes (patterns_at outs head i) (trees_at outs s p)
  pub same : under (m - i) (patterns_at outs head i) (trees_at outs s p) ≡ under m (forest (top_of outs) head) (forest (letter_of outs) s)

module _ {outs head s : List ℕ} {m : ℕ} (L : Locatable outs head s m) where
  -- letter 0 stands for all
  pub locating_start : Locating outs head s m 0 0
  unfolding read_pattern
  locating_start = let z : m - 0 ≡ m = omega arith in record {
    before = omega arith;
    prefixes = rw (single (forest (top_of outs) head) L.pattern.one, single (forest (letter_of outs) s) L.whole.one) (also L.prefix no_more);
    same = ap (λ n. under n (forest (top_of outs) head) (forest (letter_of outs) s)) z;
  }

  module _ {i p : ℕ} (W : Locating outs head s m i p) where
    -- a pattern begins there, and a tree
    pattern_there : 0 < count (patterns_at outs head i)
    pattern_there = all_there (patterns_at outs head i) (omega (arith, all_drop (top_of outs) head i L.pattern.all, length-drop i head, W.before, L.there))

    pub tree_there : 0 < count (trees_at outs s p)
    tree_there = prefix_there W.prefixes pattern_there

    pub tree_inside : p < length s
    tree_inside = letter_inside (letter_of outs) s p tree_there

    -- letter m is met
    pub locating_done : m ≤ i → LocatedAt outs head s m p
    locating_done h =
        let z : m - i ≡ 0 = omega arith in
        record { some = tree_there; tree = prefix_first W.prefixes pattern_there ∙ sym (ap (λ n. under n (patterns_at outs head i) (trees_at outs s p)) z) ∙ W.same }

    -- one letter further
    next : (p' : ℕ) → i < m → Behind (patterns_at outs head i) (trees_at outs s p) (patterns_at outs head (i + 1)) (trees_at outs s p') → Locating outs head s m (i + 1) p'
    next p' h B =
        let e : m - i ≡ suc (m - (i + 1)) = omega arith in
        record {
          before = omega arith;
          prefixes = B.prefixes;
          same = sym (B.same (m - (i + 1))) ∙ sym (ap (λ n. under n (patterns_at outs head i) (trees_at outs s p)) e) ∙ W.same;
        }

    module _ (h : i < m) {x : ℕ} (right : x ≡ get_or head i 0) where
      -- a symbol
      pub next_symbol : x < length outs → {p' : ℕ} → p' ≡ p + 1 → Locating outs head s m (i + 1) p'
      next_symbol g q = rw q (next (p + 1) h (behind_symbol (byte_at outs head i pattern_there) (omega arith) (letter_of outs (get_or s p 0)) (trees_at outs s (p + 1)) (letter_put (letter_of outs) s p tree_there) W.prefixes))

      -- a ⊤
      pub next_top : length outs ≤ x → {e p' : ℕ} → Ended (letter_of outs) s p e → p' ≡ e → Locating outs head s m (i + 1) p'
      next_top g {e} E q = rw q (next e h (behind_top (byte_at outs head i pattern_there) (omega arith) E.behind W.prefixes))

-- ---- the letters of a tree
-- a call and a symbol are each written in one way
pub faithful_letter : (outs : List ℕ) → Faithful (letter_of outs) call_letter (λ k. k)
unfolding letter_of
faithful_letter outs = record { calls = λ x a e. of_call x a (ltb x (length outs)) (leb 65536 x) e; symbols = λ x k n e. of_symbol x k n (ltb x (length outs)) (leb 65536 x) e }
  where
    of_call : (x : ℕ) (a : ℕ × ℕ) (b c : Bool) → letter_if b c outs x ≡ call a → call_letter a ≡ x
    of_call x a true c e = conflict (cc)
    of_call x a false true e = let f : a ≡ (x / 65536, x % 65536) = cc in ap call_letter f ∙ omega arith
    of_call x a false false e = conflict (cc)

    of_symbol : (x k n : ℕ) (b c : Bool) → letter_if b c outs x ≡ symbol k n → k ≡ x
    of_symbol x k n true c e = cc
    of_symbol x k n false true e = conflict (cc)
    of_symbol x k n false false e = conflict (cc)

-- where all letters are read, the trees have just these letters
module _ {A : Type 0} (f : ℕ → Letter A) (c : A → ℕ) (faithful : Faithful f c (λ k. k)) where
  put_words : (x : ℕ) (l : Letter A) (G : Terms A) → f x ≡ l → 0 < letters_all (put l G) → words c (λ k. k) (put l G) ≡ x ∷ words c (λ k. k) G
  unfolding put preorder letters_all
  put_words x (call a) G e h = ap (λ y. y ∷ words c (λ k. k) G) (faithful.calls x a e)
  put_words x (symbol k n) G e h = by_rank (leb n (count G)) h
    where
      by_rank : (b : Bool) → 0 < letters_all (node_if b k n G) → words c (λ k. k) (node_if b k n G) ≡ x ∷ words c (λ k. k) G
      by_rank true h = ap₂ ◌∷◌ (faithful.symbols x k n e) (preorders_split (λ a. c a ∷ []) (λ k. k) n G)
      by_rank false h = absurd (omega arith)
  put_words x unknown G e h = absurd (omega arith)

  all_words : (s : List ℕ) → letters_all (forest f s) ≡ length s → words c (λ k. k) (forest f s) ≡ s
  unfolding forest preorder
  all_words [] h = refl
  all_words (x ∷ s) h = put_words x (f x) (forest f s) refl (omega arith) ∙ ap (◌∷◌ x) (all_words s (all_tail f x s h))

-- the letters of the trees at position p
trees_spelt : (outs s : List ℕ) (p : ℕ) → Whole (letter_of outs) s → words call_letter (λ k. k) (trees_at outs s p) ≡ drop p s
trees_spelt outs s p W = all_words (letter_of outs) call_letter (faithful_letter outs) (drop p s) (all_drop (letter_of outs) s p W.all)

-- a word that is one tree has the letters of that tree
pub whole_spelt : (outs s : List ℕ) → Whole (letter_of outs) s → spelt (first (forest (letter_of outs) s)) ≡ s
unfolding preorder
whole_spelt outs s W = sym (append-nil _) ∙ sym (ap (words call_letter (λ k. k)) (single (forest (letter_of outs) s) W.one)) ∙ trees_spelt outs s 0 W

-- the trees that begin at p: the first, and those behind it
first_rests : {A : Type 0} (ts : Terms A) → 0 < count ts → ts ≡ more (first ts) (rests 1 ts)
unfolding count first rests
first_rests none h = absurd (omega arith)
first_rests (more t ts) h = refl

-- the letters from the place that was located up to the end of the tree there
pub located_slice : {outs head s : List ℕ} {m p e : ℕ} → LocatedAt outs head s m p → Ended (letter_of outs) s p e → Whole (letter_of outs) s → slice p e s ≡ spelt (under m (forest (top_of outs) head) (forest (letter_of outs) s))
unfolding preorder
located_slice {outs} {head} {s} {m} {p} {e} K E W =
    let t = first (trees_at outs s p) in
    let d : drop p s ≡ spelt t ++ drop e s =
    sym (trees_spelt outs s p W) ∙ ap (words call_letter (λ k. k)) (first_rests (trees_at outs s p) K.some) ∙ ap (λ F. spelt t ++ words call_letter (λ k. k) F) (sym E.behind) ∙ ap (λ w. spelt t ++ w) (trees_spelt outs s e W) in
    let n : p + (e - p) ≡ e = omega (arith, E.further) in
    let l : length (spelt t) ≡ e - p = omega (arith, ap length d, length-append (spelt t) (drop e s), length-drop p s, length-drop e s, E.further, E.inside) in
    ap (λ k. slice p k s) (sym n) ∙ slice_from s p (e - p) (omega (arith, E.further, E.inside)) ∙ ap (take (e - p)) d ∙ take_at (spelt t) (drop e s) (e - p) l ∙ ap spelt K.tree
