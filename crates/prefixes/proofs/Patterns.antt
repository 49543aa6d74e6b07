-- Laws of patterns as bytes: what a byte says where a pattern begins, where the pattern ends, and what two patterns share.
-- Assumes nothing.
use Prim.Native.Nat.{ℕ, suc, min, ◌+◌, ◌-◌, ◌≤◌, ◌<◌}
use native.Mathlib.Decide.{dec_lt}
use native.Mathlib.Numerals.{add-one}
use native.Mathlib.Omega.{arith}
use mathlib.Core.Bool.{Bool, true, false, cond, ◌||◌}
use mathlib.Core.Logic.{◌↔◌, by_cases}
use mathlib.Core.Path.{◌≡◌, refl, sym, ap, ap₂, ◌∙◌}
use mathlib.Core.List.{List, [], ◌∷◌, ◌++◌, append_assoc, append-nil}
use Rattle.std.proofs.Math.Bool.{or-true, or-false}
use Rattle.std.proofs.lemmas.Bool.Decides.{Decides-eqb}
use Rattle.std.proofs.lemmas.Bool.{eq-eqb}
use Rattle.std.proofs.lemmas.List.{drop_more, get_or-drop, get_or_past, take-append-drop}
use Rattle.std.proofs.lemmas.List.Sums.{common_prefix_len-le}
use Rattle.std.proofs.lemmas.Slice.Eq.{starts_is}
use Rattle.std.specs.List.{starts_with, common_prefix_len}
use lib.Dec.{leb, ltb, eqb}
use lib.ListN.{length, get_or, drop, take, set, length-drop, length-set, drop_of_length-le}
use lib.Seq.{drop-drop, drop-set-lt, set-get_or, take-suc-set, length-take-le}
use borrow.Author.Tests.{ltb-true, ltb-false, lt-ltb, le-ltb, leb-true, eqb-true}
use Rattle.theory.specs.Term.{var, node, Terms, none, more, count}
use Rattle.theory.specs.Lcp.{lcp, lcps, Patterns}
use Rattle.theory.proofs.Lcps.{lcp_keeps, lcp_cuts}
use Rattle.theory.proofs.Terms.{conflict}
use Rattle.trees.specs.Code.{preorder, preorders}
use Rattle.theory.specs.Inner.Forests.{letters_all}
use Rattle.trees.specs.Inner.Decode.{firsts, rests, node_if, put, forest}
use Rattle.trees.specs.Refusal.{Decides}
use Rattle.trees.proofs.Codes.{single}
use Rattle.trees.proofs.Forest.{count_firsts, count_rests, all_drop}
use Rattle.trees.proofs.Stock.{to_end}
use Rattle.prefixes.specs.Inner.Patterns.{top, top_if, top_of, pattern_code, IsPattern, read_pattern, Ended, CutPattern}
use Rattle.prefixes.proofs.Ends.{taken, letter_put, letter_inside, Ranks}

-- the patterns that stand from position p on
abbrev pub patterns_at : List ℕ → List ℕ → ℕ → Patterns
patterns_at outs s p = forest (top_of outs) (drop p s)

-- ---- a byte where a pattern begins
-- The patterns F begin with the byte x, and behind it stand the patterns G: x is a symbol and takes as many of G as its rank says, or it is ⊤.
pub data Byte (outs : List ℕ) (x : ℕ) (G : Patterns) : Patterns → Type 0 where
  named : x < length outs → get_or outs x 0 ≤ count G → Byte outs x G (more (node x (firsts (get_or outs x 0) G)) (rests (get_or outs x 0) G))
  free : length outs ≤ x → x ≡ top → Byte outs x G (more (var tt) G)

-- what a byte says, if a pattern begins with it
byte : (outs : List ℕ) (x : ℕ) (G : Patterns) → 0 < count (put (top_of outs x) G) → Byte outs x G (put (top_of outs x) G)
unfolding top_of put count
byte outs x G h = by_tests (ltb x (length outs)) (eqb x top) refl refl h
  where
    by_rank : (b : Bool) → leb (get_or outs x 0) (count G) ≡ b → x < length outs → 0 < count (node_if b x (get_or outs x 0) G) → Byte outs x G (node_if b x (get_or outs x 0) G)
    by_rank true e l h = named l (leb-true _ _ e)
    by_rank false e l h = absurd (omega arith)

    by_tests : (a b : Bool) → ltb x (length outs) ≡ a → eqb x top ≡ b → 0 < count (put (top_if a b x (get_or outs x 0)) G) → Byte outs x G (put (top_if a b x (get_or outs x 0)) G)
    by_tests true b e f h = by_rank (leb (get_or outs x 0) (count G)) refl (ltb-true _ _ e) h
    by_tests false true e f h = free (ltb-false _ _ e) (eqb-true _ _ f)
    by_tests false false e f h = absurd (omega arith)

-- where a pattern begins, the byte says what begins
pub byte_at : (outs s : List ℕ) (p : ℕ) → 0 < count (patterns_at outs s p) → Byte outs (get_or s p 0) (patterns_at outs s (p + 1)) (patterns_at outs s p)
byte_at outs s p there =
    let e = letter_put (top_of outs) s p there in
    rw e (byte outs (get_or s p 0) (patterns_at outs s (p + 1)) (rw e at there))

-- ---- the end of a pattern
-- a symbol takes as many patterns as its rank says, and ⊤ none
pub top_ranks : (outs : List ℕ) → Ranks (top_of outs) outs
unfolding top_of
top_ranks outs = record { takes = λ x. by_test x (ltb x (length outs)) (eqb x top) refl }
  where
    by_test : (x : ℕ) (a b : Bool) → ltb x (length outs) ≡ a → taken (top_if a b x (get_or outs x 0)) ≡ get_or outs x 0
    by_test x true b e = refl
    by_test x false true e = sym (get_or_past outs x 0 (ltb-false _ _ e))
    by_test x false false e = sym (get_or_past outs x 0 (ltb-false _ _ e))

-- ---- what some patterns share, one after the other
abbrev pub pattern_codes : Patterns → List ℕ
pattern_codes ts = preorders (λ u. top ∷ []) (λ k. k) ts

-- the first m share what is first of what all share, and the rest shares the rest
module _ {A B : Type 0} where
  firsts_lcps : (m : ℕ) (F : Terms A) (G : Terms B) → count F ≡ count G → lcps (firsts m F) (firsts m G) ≡ firsts m (lcps F G)
  unfolding firsts lcp count
  firsts_lcps ℕ.zero F G h = refl
  firsts_lcps (suc m) none G h = refl
  firsts_lcps (suc m) (more t ts) none h = absurd (omega arith)
  firsts_lcps (suc m) (more t ts) (more u us) h = ap (more (lcp t u)) (firsts_lcps m ts us (omega arith))

  rests_lcps : (m : ℕ) (F : Terms A) (G : Terms B) → count F ≡ count G → lcps (rests m F) (rests m G) ≡ rests m (lcps F G)
  unfolding rests lcp count
  rests_lcps ℕ.zero F G h = refl
  rests_lcps (suc m) none G h = refl
  rests_lcps (suc m) (more t ts) none h = absurd (omega arith)
  rests_lcps (suc m) (more t ts) (more u us) h = rests_lcps m ts us (omega arith)

module _ {A : Type 0} where
  -- trees are told by the first m and the rest
  same_split : (m : ℕ) (F G : Terms A) → firsts m F ≡ firsts m G → rests m F ≡ rests m G → F ≡ G
  unfolding firsts rests
  same_split ℕ.zero F G e f = f
  same_split (suc m) none none e f = refl
  same_split (suc m) none (more t ts) e f = conflict (cc)
  same_split (suc m) (more t ts) none e f = conflict (cc)
  same_split (suc m) (more t ts) (more u us) e f = ap₂ more (cc) (same_split m ts us (cc) f)

  -- and by a node over the first m, and the rest
  all_split : (k m : ℕ) (F G : Terms A) → more (node k (firsts m F)) (rests m F) ≡ more (node k (firsts m G)) (rests m G) → F ≡ G
  all_split k m F G e = same_split m F G (cc) (cc)

  -- the word of trees is that of the first m and that of the rest
  pub preorders_split : {Y : Type 0} (g : A → List Y) (y : ℕ → Y) (m : ℕ) (F : Terms A) → preorders g y (firsts m F) ++ preorders g y (rests m F) ≡ preorders g y F
  unfolding firsts rests preorders
  preorders_split g y ℕ.zero F = refl
  preorders_split g y (suc m) none = refl
  preorders_split g y (suc m) (more t ts) = append_assoc (preorder g y t) (preorders g y (firsts m ts)) (preorders g y (rests m ts)) ∙ ap (λ w. preorder g y t ++ w) (preorders_split g y m ts)

-- two patterns with one symbol at the root share it, and what their children share
lcps_node : (k m : ℕ) (F G : Patterns) → m ≤ count F → count F ≡ count G → lcps (more (node k (firsts m F)) (rests m F)) (more (node k (firsts m G)) (rests m G)) ≡ more (node k (firsts m (lcps F G))) (rests m (lcps F G))
unfolding lcp
lcps_node k m F G h e = ap₂ more (lcp_keeps (firsts m F) (firsts m G) refl (count_firsts m F h ∙ sym (count_firsts m G (omega arith))) ∙ ap (node k) (firsts_lcps m F G e)) (rests_lcps m F G e)

-- ---- one byte of two patterns
-- Of what F and G share v is the first byte, and the other bytes are what F' and G' share.
record Turn (F G F' G' : Patterns) (v : ℕ) : Type 0 where
  paired : count F' ≡ count G'
  spelled : pattern_codes (lcps F G) ≡ v ∷ pattern_codes (lcps F' G')

-- one byte in both stays, and the patterns are all shared if those behind it are
same_byte : {outs : List ℕ} {k : ℕ} {F' G' F G : Patterns} → Byte outs k F' F → Byte outs k G' G → count F ≡ count G → Turn F G F' G' k × ((lcps F G ≡ F) ↔ (lcps F' G' ≡ F'))
unfolding count lcp preorder
same_byte {outs} {k} {F'} {G'} (named l e) (named l' e') h =
    let m = get_or outs k 0 in
    let c : count F' ≡ count G' = omega (arith, count_rests m F', count_rests m G') in
    let q = lcps_node k m F' G' e c in
    (record { paired = c; spelled = ap pattern_codes q ∙ ap (◌∷◌ k) (preorders_split (λ u. top ∷ []) (λ k. k) m (lcps F' G')) }, (λ r. all_split k m (lcps F' G') F' (sym q ∙ r), λ r. q ∙ ap (λ L. more (node k (firsts m L)) (rests m L)) r))
same_byte (named l e) (free l' e') h = absurd (omega arith)
same_byte (free l e) (named l' e') h = absurd (omega arith)
same_byte {outs} {k} {F'} {G'} (free l e) (free l' e') h =
    (record { paired = omega arith; spelled = ap (λ v. v ∷ pattern_codes (lcps F' G')) (sym e) }, (λ q. cc, λ q. ap (more (var tt)) q))

-- two patterns that begin with two bytes share ⊤
lcps_other : {outs : List ℕ} {k l : ℕ} {F' G' F G : Patterns} → Byte outs k F' F → Byte outs l G' G → (k ≡ l → ⊥) → lcps F G ≡ more (var tt) (lcps (rests 1 F) (rests 1 G))
unfolding lcp rests
lcps_other {outs} {k} {l} {F'} {G'} (named b e) (named b' e') n =
    let m = get_or outs k 0 in
    let m' = get_or outs l 0 in
    ap (λ t. more t (lcps (rests m F') (rests m' G'))) (lcp_cuts (firsts m F') (firsts m' G') (λ p. n (ap (λ b. b.0) p)))
lcps_other (named b e) (free b' e') n = refl
lcps_other (free b e) (named b' e') n = refl
lcps_other (free b e) (free b' e') n = refl

-- two bytes: ⊤ is written, and the two patterns are passed
other_byte : {outs : List ℕ} {k l : ℕ} {F' G' F G : Patterns} → Byte outs k F' F → Byte outs l G' G → (k ≡ l → ⊥) → count F ≡ count G → Turn F G (rests 1 F) (rests 1 G) top
unfolding preorder
other_byte {F = F} {G} B C n h = record { paired = omega (arith, count_rests 1 F, count_rests 1 G); spelled = ap pattern_codes (lcps_other B C n) }

-- ---- whether anything is cut away
-- P says that all is shared, and Q that what is left is; cut says whether something was cut away on the way.
pub record Told (P Q : Type 0) (cut : Bool) : Type 0 where
  pub far : P → Q
  pub sound : cut ≡ true → P → ⊥
  pub back : cut ≡ false → Q → P

-- what is left changes, and is shared just if it was
told_on : {P Q R : Type 0} {cut : Bool} → Told P Q cut → Q ↔ R → Told P R cut
told_on T e = record { far = λ p. e.0 (T.far p); sound = T.sound; back = λ c r. T.back c (e.1 r) }

-- what is left is not all shared: something is cut away
told_cut : {P Q R : Type 0} {cut : Bool} → Told P Q cut → (Q → ⊥) → Told P R true
told_cut T n = record { far = λ p. absurd (n (T.far p)); sound = λ c p. n (T.far p); back = λ c. conflict (cc) }

-- at the end, where what is left is shared
told_done : {P Q : Type 0} {cut : Bool} → Told P Q cut → Q → Decides (P → ⊥) cut
told_done {P} {Q} {cut} T q = record { sound = T.sound; complete = λ n. go cut refl n }
  where
    go : (b : Bool) → cut ≡ b → (P → ⊥) → cut ≡ true
    go true e n = e
    go false e n = absurd (n (T.back e q))

-- at two bytes a symbol is cut away, and ⊤ is not
told_other : {P : Type 0} {outs : List ℕ} {k : ℕ} {F' F L G : Patterns} (cut : Bool) → Byte outs k F' F → L ≡ more (var tt) G → Told P (L ≡ F) cut → Told P (G ≡ rests 1 F) (cut || ltb k (length outs))
unfolding rests
told_other {outs = outs} {k} cut (named l e) q T = rw (lt-ltb k (length outs) l, or-true cut) (told_cut T (λ r. conflict (cc)))
told_other {outs = outs} {k} cut (free l e) q T = rw (le-ltb k (length outs) l, or-false cut) (told_on T (λ r. cc, λ r. q ∙ ap (more (var tt)) r))

-- ---- two patterns, compared from left to right
-- All is compared up to position i of the first pattern, which is now x, and j of the second, y; the w bytes of what they share up to there are written.
pub record Cutting (outs before y x : List ℕ) (i j w : ℕ) (cut : Bool) : Type 0 where
  pub behind : w ≤ i
  pub inside : i ≤ length x
  pub long : length x ≡ length before
  pub all : letters_all (patterns_at outs x i) ≡ length (drop i x)
  pub paired : count (patterns_at outs x i) ≡ count (patterns_at outs y j)
  pub written : take w x ++ pattern_codes (lcps (patterns_at outs x i) (patterns_at outs y j)) ≡ pattern_code (lcp (read_pattern outs before) (read_pattern outs y))
  pub told : Told (lcp (read_pattern outs before) (read_pattern outs y) ≡ read_pattern outs before) (lcps (patterns_at outs x i) (patterns_at outs y j) ≡ patterns_at outs x i) cut

-- before the first byte
pub cutting_start : (outs x y : List ℕ) → IsPattern outs x → IsPattern outs y → Cutting outs x y x 0 0 0 false
unfolding read_pattern lcp preorder
cutting_start outs x y X Y =
    let s = single (patterns_at outs x 0) X.one in
    let e : lcps (patterns_at outs x 0) (patterns_at outs y 0) ≡ more (lcp (read_pattern outs x) (read_pattern outs y)) none = ap₂ lcps s (single (patterns_at outs y 0) Y.one) in
    record {
      behind = omega arith;
      inside = omega arith;
      long = refl;
      all = X.all;
      paired = X.one ∙ sym Y.one;
      written = ap pattern_codes e ∙ append-nil _;
      told = record { far = λ p. e ∙ ap (λ t. more t none) p ∙ sym s; sound = λ c. conflict (cc); back = λ c q. cc };
    }

-- where there are letters, there is a tree
pub all_there : {A : Type 0} (F : Terms A) → 0 < letters_all F → 0 < count F
unfolding letters_all count
all_there none h = absurd (omega arith)
all_there (more t ts) h = omega arith

module _ {outs before y x : List ℕ} {i j w : ℕ} {cut : Bool} (M : Cutting outs before y x i j w cut) where
  -- at the end
  pub cutting_done : length x ≤ i → CutPattern outs before y x w cut
  unfolding forest lcp preorder
  cutting_done h =
      let e : patterns_at outs x i ≡ none = ap (forest (top_of outs)) (drop_of_length-le x {i = i} h) in
      let q : lcps (patterns_at outs x i) (patterns_at outs y j) ≡ none = ap (λ F. lcps F (patterns_at outs y j)) e in
      record {
        short = omega (arith, M.behind, M.inside, M.long);
        shared = sym (append-nil (take w x)) ∙ ap (λ F. take w x ++ pattern_codes F) (sym q) ∙ M.written;
        told = told_done M.told (q ∙ sym e);
      }

  module _ (more-there : i < length x) where
    -- both have a pattern to compare
    pub first_there : 0 < count (patterns_at outs x i)
    first_there = all_there (patterns_at outs x i) (omega (arith, M.all, length-drop i x))

    pub second_there : 0 < count (patterns_at outs y j)
    second_there = omega (arith, first_there, M.paired)

    -- the byte v is written, and a part of both patterns is passed
    next_turn : (i' j' v : ℕ) {cut' : Bool} → i < i' → i' ≤ length x → Turn (patterns_at outs x i) (patterns_at outs y j) (patterns_at outs x i') (patterns_at outs y j') v → Told (lcp (read_pattern outs before) (read_pattern outs y) ≡ read_pattern outs before) (lcps (patterns_at outs x i') (patterns_at outs y j') ≡ patterns_at outs x i') cut' → Cutting outs before y (set x w v) i' j' (w + 1) cut'
    next_turn i' j' v h g T D =
        let e : drop i' (set x w v) ≡ drop i' x = drop-set-lt i' x w v (omega (arith, M.behind)) in
        let r : i + (i' - i) ≡ i' = omega arith in
        let d : drop (i' - i) (drop i x) ≡ drop i' x = drop-drop (i' - i) i x ∙ ap (λ k. drop k x) r in
        let l : w < length x = omega (arith, M.behind) in
        record {
          behind = omega (arith, M.behind);
          inside = rw length-set g;
          long = length-set x w v ∙ M.long;
          all = rw (e, ← d) (all_drop (top_of outs) (drop i x) (i' - i) M.all);
          paired = rw e T.paired;
          written = rw (e, add-one, take-suc-set x w v, append_assoc) (ap (λ c. take w x ++ c) (sym T.spelled) ∙ M.written);
          told = rw e D;
        }

    -- the same byte in both
    pub same_turn : get_or x i 0 ≡ get_or y j 0 → Cutting outs before y (set x w (get_or x i 0)) (i + 1) (j + 1) (w + 1) cut
    same_turn e =
        let B : Byte outs (get_or x i 0) (patterns_at outs y (j + 1)) (patterns_at outs y j) = rw e (byte_at outs y j second_there) in
        let s = same_byte (byte_at outs x i first_there) B M.paired in
        next_turn (i + 1) (j + 1) (get_or x i 0) (omega arith) (omega arith) s.0 (told_on M.told s.1)

    -- two bytes: both patterns that begin with them are passed, and ⊤ is written
    pub other_turn : {i' j' : ℕ} → (get_or x i 0 ≡ get_or y j 0 → ⊥) → Ended (top_of outs) x i i' → Ended (top_of outs) y j j' → Cutting outs before y (set x w top) i' j' (w + 1) (cut || ltb (get_or x i 0) (length outs))
    other_turn {i'} {j'} n E E' =
        let B = byte_at outs x i first_there in
        let C = byte_at outs y j second_there in
        let b : patterns_at outs x i' ≡ rests 1 (patterns_at outs x i) = E.behind in
        let c : patterns_at outs y j' ≡ rests 1 (patterns_at outs y j) = E'.behind in
        next_turn i' j' top E.further E.inside (rw (b, c) (other_byte B C n M.paired)) (rw (b, c) (told_other cut B (lcps_other B C n) M.told))

-- ---- letters that are equal
-- how many letters at the front of two words are
abbrev pub equal : List ℕ → List ℕ → ℕ
equal x y = common_prefix_len eqb x y

-- those of a word before both, and those behind it
equal_more : (p s t : List ℕ) → equal (p ++ s) (p ++ t) ≡ length p + equal s t
equal_more [] s t = omega arith
equal_more (k ∷ p) s t =
    let e : 1 + equal (p ++ s) (p ++ t) ≡ suc (length p) + equal s t = omega (arith, equal_more p s t) in
    ap (λ b. cond b (1 + equal (p ++ s) (p ++ t)) 0) (eq-eqb k k refl) ∙ e

equal_none : (x : List ℕ) → equal x [] ≡ 0
equal_none [] = refl
equal_none (k ∷ x) = refl

-- each of them is equal
equal_reads : (x y : List ℕ) (t : ℕ) → t < equal x y → get_or x t 0 ≡ get_or y t 0
equal_reads [] y t h = absurd (omega arith)
equal_reads (k ∷ x) [] t h = absurd (omega arith)
equal_reads (k ∷ x) (l ∷ y) t h = by_test (equal_reads x y) (eqb k l) refl t h
  where
    by_test : ((t : ℕ) → t < equal x y → get_or x t 0 ≡ get_or y t 0) → (b : Bool) → eqb k l ≡ b → (t : ℕ) → t < cond b (1 + equal x y) 0 → get_or (k ∷ x) t 0 ≡ get_or (l ∷ y) t 0
    by_test below true e ℕ.zero h = eqb-true k l e
    by_test below true e (suc t) h = below t (omega arith)
    by_test below false e t h = absurd (omega arith)

-- the first is
equal_some : (x y : List ℕ) (i j : ℕ) → i < length x → j < length y → get_or x i 0 ≡ get_or y j 0 → 0 < equal (drop i x) (drop j y)
equal_some x y i j g h e =
    let q : equal (drop i x) (drop j y) ≡ 1 + equal (drop (i + 1) x) (drop (j + 1) y) = ap₂ equal (drop_more x i 0 g) (drop_more y j 0 h) ∙ ap (λ b. cond b (1 + equal (drop (i + 1) x) (drop (j + 1) y)) 0) (eq-eqb _ _ e) in
    omega (arith, q)

-- from position n on: m letters that the test of a whole word finds equal
pub equal_word : (x y : List ℕ) (n m : ℕ) {r : Bool} → n + m ≤ length x → n + m ≤ length y → r ≡ starts_with eqb (take (n + m - n) (drop n y)) (take (n + m - n) (drop n x)) → r ≡ true → equal (drop n x) (drop n y) ≡ m + equal (drop (n + m) x) (drop (n + m) y)
equal_word x y n m {r} g h v e =
    let k : n + m - n ≡ m = omega arith in
    let word = take m (drop n x) in
    let other = take m (drop n y) in
    let long : length word ≡ m = length-take-le m (drop n x) (omega (arith, length-drop n x)) in
    let wide : length other ≡ m = length-take-le m (drop n y) (omega (arith, length-drop n y)) in
    let found : other ≡ word ++ drop (length word) other = (starts_is Decides-eqb other word r (rw k at v)).0 e in
    let none : drop (length word) other ≡ [] = drop_of_length-le other {i = length word} (omega (arith, long, wide)) in
    let same : other ≡ word = found ∙ ap (λ s. word ++ s) none ∙ append-nil word in
    let first : drop n x ≡ word ++ drop (n + m) x = sym (take-append-drop m (drop n x)) ∙ ap (λ s. word ++ s) (drop-drop m n x) in
    let second : drop n y ≡ word ++ drop (n + m) y = sym (take-append-drop m (drop n y)) ∙ ap₂ (λ s t. s ++ t) same (drop-drop m n y) in
    ap₂ equal first second ∙ equal_more word (drop (n + m) x) (drop (n + m) y) ∙ ap (λ k. k + equal (drop (n + m) x) (drop (n + m) y)) long

-- none, where one of both ends
pub equal_end : (x y : List ℕ) (n : ℕ) → min (length x) (length y) ≤ n → equal (drop n x) (drop n y) ≡ 0
equal_end x y n h = by_cases (dec_lt n (length x))
    (λ l. ap (equal (drop n x)) (drop_of_length-le y {i = n} (omega arith)) ∙ equal_none (drop n x))
    (λ l. ap (λ s. equal s (drop n y)) (drop_of_length-le x {i = n} (omega arith)))

-- n letters that are equal in both, while what they share stands where they are: nothing is written
pub same_turns : {outs before y x : List ℕ} {cut : Bool} (i j n : ℕ) → n ≤ equal (drop i x) (drop j y) → Cutting outs before y x i j i cut → Cutting outs before y x (i + n) (j + n) (i + n) cut
same_turns i j ℕ.zero h M =
    let e : i + 0 ≡ i = omega arith in
    let f : j + 0 ≡ j = omega arith in
    rw (e, f) M
same_turns {y = y} {x} i j (suc n) h M =
    let e : i + suc n ≡ i + n + 1 = omega arith in
    let f : j + suc n ≡ j + n + 1 = omega arith in
    let inside : i + n < length x = omega (arith, (common_prefix_len-le eqb (drop i x) (drop j y)).0, length-drop i x) in
    let r : get_or x (i + n) 0 ≡ get_or y (j + n) 0 = sym (get_or-drop i x n 0) ∙ equal_reads (drop i x) (drop j y) n (omega arith) ∙ get_or-drop j y n 0 in
    let N = same_turn (same_turns i j n (omega arith) M) inside r in
    rw (e, f) (rw (set-get_or x (i + n) 0) at N)

-- n letters from position i on of x, and from position j on of y: at least one, and no more than stand there
pub record Within (x : List ℕ) (i : ℕ) (y : List ℕ) (j n : ℕ) : Type 0 where
  pub some : 0 < n
  pub first : i + n ≤ length x
  pub second : j + n ≤ length y

module _ {outs before y x : List ℕ} {i j w : ℕ} {cut : Bool} (M : Cutting outs before y x i j w cut) (more-there : i < length x) where
  -- the second word has one too
  second_inside : j < length y
  second_inside = letter_inside (top_of outs) y j (second_there M more-there)

  -- one letter
  pub run_one : Within x i y j 1
  run_one = record { some = omega arith; first = omega arith; second = omega (arith, second_inside) }

  module _ (e : get_or x i 0 ≡ get_or y j 0) where
    -- all that are equal there
    pub run_equal : Within x i y j (equal (take (length x - i) (drop i x)) (take (length y - j) (drop j y)))
    run_equal =
        let h = common_prefix_len-le eqb (drop i x) (drop j y) in
        rw (to_end i x, to_end j y) (record {
          some = equal_some x y i j more-there second_inside e;
          first = omega (arith, h.0, length-drop i x);
          second = omega (arith, h.1, length-drop j y, second_inside);
        })

    -- they stay where they stand
    pub run_turn : w ≡ i → {n : ℕ} → n ≡ equal (take (length x - i) (drop i x)) (take (length y - j) (drop j y)) → Cutting outs before y (set x w (get_or x i 0)) (i + n) (j + n) (w + n) cut
    run_turn s q = rw (s, q, to_end i x, to_end j y, set-get_or x i 0) (same_turns i j (equal (drop i x) (drop j y)) (omega arith) (rw s at M))
