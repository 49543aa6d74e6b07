-- Classes numbered in the order of their least members.
-- Assumes nothing.
use Prim.Native.Nat.{ℕ, ◌+◌, ◌≤◌, ◌<◌}
use native.Mathlib.Decide.{ℕ_discrete}
use native.Mathlib.Numerals.{add-one}
use native.Mathlib.Omega.{arith}
use mathlib.Core.List.{List}
use mathlib.Core.Logic.{by_cases}
use mathlib.Core.Path.{◌≡◌, refl, sym, ap, ◌∙◌}
use lib.ListN.{length, get_or, set, length-set, replicate, length-replicate, get_or-replicate}
use lib.Seq.{get_or-set_same, get_or-set_other}
use Rattle.std.specs.Prelude.{Option, Some, None}
use Rattle.std.proofs.lemmas.Option.{same_Some}
use Rattle.theory.specs.Quotient.{Classes, no_class, old_class, new_class}
use Rattle.theory.proofs.Classes.{classes_cnt, classed, class_lt, least_of}
use Rattle.classes.specs.Inner.Classes.{at, Numbers}

-- only the classes of the states below p, and the least members of the n classes, count
pub classes_agree : {c c' least least' : ℕ → ℕ} {p n : ℕ} → Classes c least p n → ((q : ℕ) → q < p → c' q ≡ c q) → ((k : ℕ) → k < n → least' k ≡ least k) → Classes c' least' p n
classes_agree no_class f g = no_class
classes_agree (old_class {p} {n} K l) f g = old_class (classes_agree K (λ q h. f q (omega arith)) g) (omega (arith, f p (omega arith)))
classes_agree (new_class {p} {n} K e e') f g =
    new_class (classes_agree K (λ q h. f q (omega arith)) (λ k h. g k (omega arith))) (f p (omega arith) ∙ e) (g n (omega arith) ∙ e')

module _ {c least : ℕ → ℕ} {p n : ℕ} (K : Classes c least p n) where
  pub class_below : (q : ℕ) → q < p → c q < n
  class_below q h = omega (arith, class_lt (classed K) p q h (omega arith), classes_cnt K)

  pub least_below : (k : ℕ) → k < n → (least k < p) × (c (least k) ≡ k)
  least_below k h = let x = least_of (classed K) p k (omega arith) (omega (arith, classes_cnt K)) in (x.below, x.class)

-- there are no more classes than states
pub classes_few : {c least : ℕ → ℕ} {p n : ℕ} → Classes c least p n → n ≤ p
classes_few no_class = omega arith
classes_few (old_class K l) = omega (arith, classes_few K)
classes_few (new_class K e e') = omega (arith, classes_few K)

-- ---- the states one after the other
-- the number of class c, if it has one
abbrev pub number_of : List (Option ℕ) → ℕ → Option ℕ
number_of numbers c = get_or numbers c None

-- the states below p have their new classes; a class of theirs has a number, and a class with a number has a least member
pub record NumberLoop (old new₀ least₀ new least : List ℕ) (numbers : List (Option ℕ)) (count p : ℕ) : Type 0 where
  pub same_new : length new ≡ length new₀
  pub same_least : length least ≡ length least₀
  pub room : length numbers ≡ 256
  pub classes : Classes (λ q. at new q) (λ k. at least k) p count
  pub numbered : (q : ℕ) → q < p → number_of numbers (at old q) ≡ Some (at new q)
  pub named : (c k : ℕ) → c < 256 → number_of numbers c ≡ Some k → (k < count) × (at old (at least k) ≡ c)

pub number_start : (old new least : List ℕ) → NumberLoop old new least new least (replicate {A = Option ℕ} 256 None) 0 0
number_start old new least = record {
  same_new = refl;
  same_least = refl;
  room = length-replicate {A = Option ℕ} 256 None;
  classes = no_class;
  numbered = λ q h. absurd (omega arith);
  named = λ c k h f. let e = get_or-replicate {A = Option ℕ} 256 c None None h in absurd (cc);
}

module _ {old new₀ least₀ new least : List ℕ} {numbers : List (Option ℕ)} {count p c : ℕ} (L : NumberLoop old new₀ least₀ new least numbers count p) (few : length old ≤ 128) (h : p < length old) (e : c ≡ at old p) (byte : at old p < 256) (long : length new₀ ≡ length old) where
  pub number_few : count < 128
  number_few = omega (arith, classes_few L.classes)

  number_less : p < length new
  number_less = omega (arith, L.same_new)

  -- the class has a number
  pub number_old : {k : ℕ} → number_of numbers c ≡ Some k → NumberLoop old new₀ least₀ (set new p k) least numbers count (p + 1)
  number_old {k} f =
      let here : at (set new p k) p ≡ k = get_or-set_same new p k 0 number_less in
      let there : (q : ℕ) → q < p → at (set new p k) q ≡ at new q = λ q l. get_or-set_other new p q k 0 (λ z. omega arith) in
      record {
        same_new = length-set new p k ∙ L.same_new;
        same_least = L.same_least;
        room = L.room;
        classes = rw (add-one p) (old_class (classes_agree L.classes there (λ k l. refl)) (rw here (L.named c k (omega arith) f).0));
        numbered = λ q l. by_cases (ℕ_discrete q p) (λ z. rw z (ap (number_of numbers) (sym e) ∙ f ∙ ap Some (sym here))) (λ z. L.numbered q (omega arith) ∙ ap Some (sym (there q (omega arith))));
        named = L.named;
      }

  -- it gets the next one
  pub number_new : number_of numbers c ≡ None → 128 ≤ length least₀ → NumberLoop old new₀ least₀ (set new p count) (set least count p) (set numbers c (Some count)) (count + 1) (p + 1)
  number_new f room =
      let few = number_few in
      let this : number_of (set numbers c (Some count)) c ≡ Some count = get_or-set_same numbers c (Some count) None (omega (arith, L.room)) in
      let that : (k : ℕ) → (k ≡ c → ⊥) → number_of (set numbers c (Some count)) k ≡ number_of numbers k = λ k z. get_or-set_other numbers c k (Some count) None z in
      let here : at (set new p count) p ≡ count = get_or-set_same new p count 0 number_less in
      let there : (q : ℕ) → q < p → at (set new p count) q ≡ at new q = λ q l. get_or-set_other new p q count 0 (λ z. omega arith) in
      let first : at (set least count p) count ≡ p = get_or-set_same least count p 0 (omega (arith, L.same_least)) in
      let others : (k : ℕ) → k < count → at (set least count p) k ≡ at least k = λ k l. get_or-set_other least count k p 0 (λ z. omega arith) in
      record {
        same_new = length-set new p count ∙ L.same_new;
        same_least = length-set least count p ∙ L.same_least;
        room = length-set numbers c (Some count) ∙ L.room;
        classes = rw (add-one p, add-one count) (new_class (classes_agree L.classes there others) here first);
        numbered = λ q l. by_cases (ℕ_discrete q p)
            (λ z. rw z (ap (number_of (set numbers c (Some count))) (sym e) ∙ this ∙ ap Some (sym here)))
            (λ z.
            let w = L.numbered q (omega arith) in
            let d : at old q ≡ c → ⊥ = λ d. let g = ap (number_of numbers) d in absurd (cc) in
            that (at old q) d ∙ w ∙ ap Some (sym (there q (omega arith))));
        named = λ k i l g. by_cases (ℕ_discrete k c)
            (λ z.
            let y : i ≡ count = same_Some _ _ (sym g ∙ ap (number_of (set numbers c (Some count))) z ∙ this) in
            rw (z, y) (omega arith, ap (at old) first ∙ sym e))
            (λ z. let w = L.named k i l (sym (that k z) ∙ g) in (omega arith, ap (at old) (others i w.0) ∙ w.1));
      }

pub number_end : {old new₀ least₀ new least : List ℕ} {numbers : List (Option ℕ)} {count p : ℕ} → NumberLoop old new₀ least₀ new least numbers count p → p ≡ length old → ((q : ℕ) → at old q < 256) → Numbers old new least count
number_end {old} {new = new} {least} {numbers} L z byte = record {
  classes = rw z at L.classes;
  fine = λ q r l m e.
      let x = (L.named (at old q) (at new q) (byte q) (L.numbered q (omega arith))).1 in
      let y = (L.named (at old r) (at new r) (byte r) (L.numbered r (omega arith))).1 in
      sym x ∙ ap (λ k. at old (at least k)) e ∙ y;
  coarse = λ q r l m e. same_Some _ _ (sym (L.numbered q (omega arith)) ∙ ap (number_of numbers) e ∙ L.numbered r (omega arith));
}
