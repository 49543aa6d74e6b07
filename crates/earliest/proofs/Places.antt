-- The letters of a term by number, in preorder from 0: the address at which each stands, and the term with its own number at each ⊤.
-- Assumes nothing.
use Prim.Native.Nat.{ℕ, suc, ◌+◌, ◌-◌, ◌≤◌, ◌<◌}
use native.Mathlib.Decide.{dec_lt}
use native.Mathlib.Nat.{add-zero, zero-add, suc-add}
use native.Mathlib.Numerals.{one-add}
use native.Mathlib.Omega.{arith}
use mathlib.Core.List.{List, [], ◌∷◌, ◌++◌}
use mathlib.Core.Logic.{by_cases}
use mathlib.Core.Option.{Option, some}
use mathlib.Core.Path.{◌≡◌, refl, sym, ap, ap₂, ◌∙◌}
use lib.ListN.{length, get_or, get_or-append}
use lib.Seq.{get_or-append-add}
use borrow.Author.Tests.{lt-ltb, le-ltb}
use Rattle.theory.specs.EarliestForm.{label, labels}
use Rattle.theory.specs.Lcp.{Patterns}
use Rattle.theory.specs.Prefix.{Pattern, Open, Prefix, any, keeps, Prefixes, no_more, also}
use Rattle.theory.specs.Term.{Term, var, node, Terms, none, more, count, bind, binds, mapT, sub, subs}
use Rattle.theory.proofs.Terms.{sub_here, sub_bind, count_binds}
use Rattle.trees.specs.Code.{Ranked, AllRanked, preorder, preorders}
use Rattle.theory.specs.Inner.Forests.{letters, letters_all, joined}
use Rattle.trees.specs.Inner.Decode.{unknown}
use Rattle.trees.proofs.Codes.{word_length}
use Rattle.prefixes.specs.Inner.Patterns.{top, pattern_code}
use Rattle.earliest.specs.Inner.Letters.{first_under, under}
use Rattle.earliest.specs.Inner.Places.{behind, place, place_among}

-- the variable b + m at each variable that is letter m
unfoldable mutual
  pub numbered : {A : Type 0} → Term A → ℕ → Term ℕ
  numbered (var a) b = var b
  numbered (node k ts) b = node k (numbered_all ts (suc b))

  pub numbered_all : {A : Type 0} → Terms A → ℕ → Terms ℕ
  numbered_all none b = none
  numbered_all (more t ts) b = more (numbered t b) (numbered_all ts (b + letters t))

-- ---- the letters of the first tree, and of those behind it
module _ {A : Type 0} (t : Term A) (ts : Terms A) where
  pub place_first : (m : ℕ) → m < letters t → place_among (more t ts) m ≡ (0, place t m)
  unfolding place
  place_first m h = simp (lt-ltb m (letters t) h)

  pub place_behind : (m : ℕ) → place_among (more t ts) (letters t + m) ≡ behind (place_among ts m)
  unfolding place
  place_behind m = let e : letters t + m - letters t ≡ m = omega arith in simp (le-ltb (letters t + m) (letters t) (omega arith), e)

-- ---- labels by number are labels by address
module _ {A B : Type 0} (f : ℕ → B) where
  mutual
    unfolding label numbered mapT bind place letters

    pub label_number : (p : Term A) (b : ℕ) (g : List ℕ → B) → ((m : ℕ) → m < letters p → f (b + m) ≡ g (place p m)) → mapT f (numbered p b) ≡ label p g
    label_number (var a) b g e = ap var (ap f (sym (add-zero b)) ∙ e 0 (omega arith))
    label_number (node k ps) b g e = ap (node k) (labels_number ps (suc b) (λ i w. g (suc i ∷ w)) (λ m h. ap f (omega arith) ∙ e (suc m) (omega arith)))

    labels_number : (ps : Terms A) (b : ℕ) (g : ℕ → List ℕ → B) → ((m : ℕ) → m < letters_all ps → f (b + m) ≡ g (place_among ps m).0 (place_among ps m).1) → binds (numbered_all ps b) (λ x. var (f x)) ≡ labels ps g
    labels_number none b g e = refl
    labels_number (more p ps) b g e = ap₂ more
        (label_number p b (g 0) (λ m h. e m (omega arith) ∙ ap (λ (r : ℕ × List ℕ). g r.0 r.1) (place_first p ps m h)))
        (labels_number ps (b + letters p) (λ i. g (suc i)) (λ m h. ap f (omega arith) ∙ e (letters p + m) (omega arith) ∙ ap (λ (r : ℕ × List ℕ). g r.0 r.1) (place_behind p ps m)))

-- ---- the subtree under letter m of a prefix stands at the address of that letter
mutual
  unfolding under first_under letters

  -- the letters of the first pattern are passed
  under_past : {A B : Type 0} {p : Term A} {t : Term B} → Prefix p t → (m : ℕ) (ps : Terms A) (ts : Terms B) → under (letters p + m) (more p ps) (more t ts) ≡ under m ps ts
  under_past any m ps ts = rw (one-add m)
  under_past (keeps {hs} qs) m ps ts = rw (suc-add (letters_all hs) m) (unders_past qs m ps ts)

  unders_past : {A B : Type 0} {hs : Terms A} {us : Terms B} → Prefixes hs us → (m : ℕ) (ps : Terms A) (ts : Terms B) → under (letters_all hs + m) (joined hs ps) (joined us ts) ≡ under m ps ts
  unders_past no_more m ps ts = rw (zero-add m)
  unders_past (also {h} {hs} {t} {ts = us} q qs) m ps ts =
      let e : letters h + letters_all hs + m ≡ letters h + (letters_all hs + m) = omega arith in
      rw e (under_past q (letters_all hs + m) (joined hs ps) (joined us ts) ∙ unders_past qs m ps ts)

mutual
  unfolding under first_under letters place sub

  under_first : {A B : Type 0} {p : Term A} {t : Term B} → Prefix p t → (m : ℕ) → m < letters p → (ps : Terms A) (ts : Terms B) → sub t (place p m) ≡ some (under m (more p ps) (more t ts))
  under_first {t} any ℕ.zero h ps ts = sub_here t
  under_first any (suc m) h ps ts = absurd (omega arith)
  under_first (keeps qs) ℕ.zero h ps ts = refl
  under_first (keeps qs) (suc m) h ps ts = unders_first qs m (omega arith) ps ts

  unders_first : {A B : Type 0} {hs : Terms A} {us : Terms B} → Prefixes hs us → (m : ℕ) → m < letters_all hs → (ps : Terms A) (ts : Terms B) → subs us (suc (place_among hs m).0) (place_among hs m).1 ≡ some (under m (joined hs ps) (joined us ts))
  unders_first no_more m h ps ts = absurd (omega arith)
  unders_first (also {h} {hs} {t} {ts = us} q qs) m l ps ts = by_cases (dec_lt m (letters h))
      (λ g. ap (λ (r : ℕ × List ℕ). subs (more t us) (suc r.0) r.1) (place_first h hs m g) ∙ under_first q m g (joined hs ps) (joined us ts))
      (λ g.
      let n = m - letters h in
      let e : m ≡ letters h + n = omega arith in
      rw e (ap (λ (r : ℕ × List ℕ). subs (more t us) (suc r.0) r.1) (place_behind h hs n) ∙ unders_first qs n (omega arith) ps ts ∙ ap some (sym (under_past q n (joined hs ps) (joined us ts)))))

-- one pattern and one tree
pub under_place : {A B : Type 0} {p : Term A} {t : Term B} → Prefix p t → (m : ℕ) → m < letters p → sub t (place p m) ≡ some (under m (more p none) (more t none))
under_place q m h = under_first q m h none none

-- ---- the numbers of the ⊤ of a pattern over the output alphabet
-- its code is as long as it has letters
pub pattern_length : (p : Pattern) → length (pattern_code p) ≡ letters p
pattern_length p = word_length (λ x. unknown) (λ u. top) (λ k. k) p

-- p is over the output alphabet
abbrev pub RankedPattern : List ℕ → Pattern → Type 0
RankedPattern outs p = Ranked (λ u. Unit {0}) outs p

count_numbered : {A : Type 0} (ts : Terms A) (b : ℕ) → count (numbered_all ts b) ≡ count ts
unfolding count numbered
count_numbered none b = refl
count_numbered (more t ts) b = ap suc (count_numbered ts (b + letters t))

module _ (outs : List ℕ) {A : Type 0} (P : A → Type 0) (f : ℕ → A) where
  mutual
    unfolding Ranked numbered mapT bind preorder letters

    -- what holds of the numbers of the ⊤ holds of the variables
    pub ranked_number : (p : Pattern) (b : ℕ) → RankedPattern outs p → ((m : ℕ) → m < letters p → get_or (pattern_code p) m 0 ≡ top → P (f (b + m))) → Ranked P outs (mapT f (numbered p b))
    ranked_number (var a) b c e = rw (add-zero b) at (e 0 (omega arith) refl)
    ranked_number (node k ps) b c e =
        (c.0, count_binds (numbered_all ps (suc b)) _ ∙ count_numbered ps (suc b) ∙ c.1, ranked_numbers ps (suc b) c.2 (λ m h g. let z : suc b + m ≡ b + suc m = omega arith in rw z (e (suc m) (omega arith) g)))

    ranked_numbers : (ps : Patterns) (b : ℕ) → AllRanked (λ u. Unit {0}) outs ps → ((m : ℕ) → m < letters_all ps → get_or (preorders (λ u. top ∷ []) (λ k. k) ps) m 0 ≡ top → P (f (b + m))) → AllRanked P outs (binds (numbered_all ps b) (λ x. var (f x)))
    ranked_numbers none b c e = tt
    ranked_numbers (more p ps) b c e =
        let rest = preorders (λ u. top ∷ []) (λ k. k) ps in
        let l = pattern_length p in (
          ranked_number p b c.0 (λ m h g. e m (omega arith) (get_or-append (pattern_code p) rest 0 m (omega arith) ∙ g)),
          ranked_numbers ps (b + letters p) c.1 (λ m h g.
              let z : b + letters p + m ≡ b + (letters p + m) = omega arith in
              rw z (e (letters p + m) (omega arith) (ap (λ n. get_or (pattern_code p ++ rest) (n + m) 0) (sym l) ∙ get_or-append-add (pattern_code p) rest m 0 ∙ g))),
        )

mutual
  unfolding mapT bind numbered

  -- a pattern is its numbered term with ⊤ for each number
  number_forget : (p : Pattern) (b : ℕ) → mapT (λ x. tt {0}) (numbered p b) ≡ p
  number_forget (var a) b = refl
  number_forget (node k ps) b = ap (node k) (numbers_forget ps (suc b))

  numbers_forget : (ps : Patterns) (b : ℕ) → binds (numbered_all ps b) (λ x. var (tt {0})) ≡ ps
  numbers_forget none b = refl
  numbers_forget (more p ps) b = ap₂ more (number_forget p b) (numbers_forget ps (b + letters p))

module _ (outs : List ℕ) (few : length outs ≤ 64) where
  mutual
    unfolding Ranked numbered preorder letters place sub

    -- and each stands at its address
    number_at : (p : Pattern) (b m : ℕ) → RankedPattern outs p → m < letters p → get_or (pattern_code p) m 0 ≡ top → sub (numbered p b) (place p m) ≡ some (var (b + m))
    number_at (var a) b ℕ.zero c h e = ap (λ n. some (var n)) (sym (add-zero b))
    number_at (var a) b (suc m) c h e = absurd (omega arith)
    number_at (node k ps) b ℕ.zero c h e = absurd (omega (arith, c.0))
    number_at (node k ps) b (suc m) c h e = numbers_at ps (suc b) m c.2 (omega arith) e ∙ ap (λ n. some (var n)) (omega arith)

    numbers_at : (ps : Patterns) (b m : ℕ) → AllRanked (λ u. Unit {0}) outs ps → m < letters_all ps → get_or (preorders (λ u. top ∷ []) (λ k. k) ps) m 0 ≡ top → subs (numbered_all ps b) (suc (place_among ps m).0) (place_among ps m).1 ≡ some (var (b + m))
    numbers_at none b m c h e = absurd (omega arith)
    numbers_at (more p ps) b m c h e =
        let rest = preorders (λ u. top ∷ []) (λ k. k) ps in
        let l = pattern_length p in
        let look : ℕ × List ℕ → Option (Term ℕ) = λ r. subs (more (numbered p b) (numbered_all ps (b + letters p))) (suc r.0) r.1 in
        by_cases (dec_lt m (letters p))
        (λ g. ap look (place_first p ps m g) ∙ number_at p b m c.0 g (sym (get_or-append (pattern_code p) rest 0 m (omega arith)) ∙ e))
        (λ g.
        let n = m - letters p in
        let z : m ≡ length (pattern_code p) + n = omega arith in
        let y : m ≡ letters p + n = omega arith in
        ap (λ k. look (place_among (more p ps) k)) y ∙ ap look (place_behind p ps n)
        ∙ numbers_at ps (b + letters p) n c.1 (omega arith) (sym (get_or-append-add (pattern_code p) rest n 0) ∙ ap (λ k. get_or (pattern_code p ++ rest) k 0) (sym z) ∙ e)
        ∙ ap (λ k. some (var k)) (omega arith))

  module _ (p : Pattern) (c : RankedPattern outs p) (m : ℕ) (h : m < letters p) (e : get_or (pattern_code p) m 0 ≡ top) where
    -- where the code has ⊤, the pattern has it
    pub place_open : Open p (place p m)
    unfolding bind mapT
    place_open = ap (λ t. sub t (place p m)) (sym (number_forget p 0)) ∙ sub_bind (numbered p 0) (λ x. var tt) (place p m) (number_at p 0 m c h e)

    -- two ⊤ stand at two addresses
    pub place_same : (n : ℕ) → n < letters p → get_or (pattern_code p) n 0 ≡ top → place p m ≡ place p n → m ≡ n
    place_same n g f s =
        let x = number_at p 0 m c h e in
        let y = number_at p 0 n c g f in
        let z : 0 + m ≡ 0 + n = cc in
        omega arith
