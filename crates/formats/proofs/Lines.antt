-- The terms of a transducer by number: the initial term is number 0, the right-hand side of state q and symbol a is number 1 + q · P + a.
-- Assumes nothing.
use Prim.Native.Nat.{ℕ, suc, ◌+◌, ◌*◌, ◌/◌, ◌%◌, ◌<◌}
use native.Mathlib.Nat.{suc-mul, div-add-mod', div-lt_iff_lt-mul, mod-lt}
use native.Mathlib.Omega.{arith}
use native.Mathlib.Decide.{dec_lt}
use mathlib.Core.Path.{◌≡◌, refl, sym, ap, ◌∙◌}
use mathlib.Core.List.{List, [], ◌∷◌, ◌++◌, map}
use lib.ListN.{length, get_or, length-append, length-map, get_or-append}
use lib.Seq.{get_or-append-add, ext_get_or}
use Rattle.theory.specs.Transducer.{Transducer}
use Rattle.trees.specs.Code.{Mark, marks}
use Rattle.formats.specs.Sheet.{each, terms, bodies_of}
use Rattle.formats.proofs.Pairs.{row_less}

-- ---- lists of one length, one behind the other
-- each number below n · P is some q · P + a with a below P
pub row_of : (n P j : ℕ) → j < n * P → (j / P < n) × (j % P < P) × (j / P * P + j % P ≡ j)
row_of n ℕ.zero j h = absurd (omega arith)
row_of n (suc P) j h = ((div-lt_iff_lt-mul {k = suc P} {x = j} {y = n} (omega arith)).1 h, mod-lt j (omega arith), div-add-mod' j (suc P))

module _ {X : Type 0} (P : ℕ) (f : ℕ → List X) (long : (q : ℕ) → length (f q) ≡ P) where
  -- n lists of length P
  pub each_length : (n : ℕ) → length (each n f) ≡ n * P
  unfolding each
  each_length ℕ.zero = omega arith
  each_length (suc n) = omega (arith, length-append (each n f) (f n), each_length n, long n, suc-mul n P)

  -- the element a of the list q is number q · P + a of all
  pub each_at : (d : X) (n q a : ℕ) → q < n → a < P → get_or (each n f) (q * P + a) d ≡ get_or (f q) a d
  unfolding each
  each_at d ℕ.zero q a h g = absurd (omega arith)
  each_at d (suc n) q a h g = by_case (λ y. each_at d n q a y g) (dec_lt q n)
    where
      by_case : (q < n → get_or (each n f) (q * P + a) d ≡ get_or (f q) a d) → Dec (q < n) → get_or (each n f ++ f n) (q * P + a) d ≡ get_or (f q) a d
      by_case i (yes y) = get_or-append (each n f) (f n) d (q * P + a) (omega (arith, each_length n, row_less q n a P y g)) ∙ i y
      by_case i (no m) =
          let e : q ≡ n = omega arith in
          rw (e, ← each_length n) (get_or-append-add (each n f) (f n) a d)

-- ---- the terms
-- the element of a map, with any value past the end
get_d_map : {A B : Type 0} (f : A → B) (l : List A) (j : ℕ) (d : A) (e : B) → j < length l → get_or (map f l) j e ≡ f (get_or l j d)
get_d_map f [] j d e h = absurd (omega arith)
get_d_map f (x ∷ l) ℕ.zero d e h = refl
get_d_map f (x ∷ l) (suc j) d e h = get_d_map f l j d e (omega arith)

module _ (P n : ℕ) (M : Transducer ℕ) where
  -- a state has a right-hand side for each symbol
  line_long : (q : ℕ) → length (each P (λ a. M.rhs q a ∷ [])) ≡ P
  line_long q = omega (arith, each_length 1 (λ a. M.rhs q a ∷ []) (λ a. refl) P)

  -- how many terms and bodies there are, and where each is
  pub terms_length : length (terms P n M) ≡ 1 + n * P
  unfolding terms
  terms_length = omega (arith, each_length P (λ q. each P (λ a. M.rhs q a ∷ [])) line_long n)

  pub term_at : (q a : ℕ) → q < n → a < P → get_or (terms P n M) (1 + q * P + a) M.initial ≡ M.rhs q a
  unfolding terms
  term_at q a h g =
      let e : 1 + q * P + a ≡ suc (q * P + a) = omega arith in
      let z : a ≡ a * 1 + 0 = omega arith in
      let i = each_at P (λ q. each P (λ a. M.rhs q a ∷ [])) line_long M.initial n q a h g in
      let k = each_at 1 (λ a. M.rhs q a ∷ []) (λ a. refl) M.initial P a 0 g (omega arith) in
      rw e (i ∙ ap (λ j. get_or (each P (λ a. M.rhs q a ∷ [])) j M.initial) z ∙ k)

  pub bodies_length : length (bodies_of P n M) ≡ 1 + n * P
  bodies_length = length-map (terms P n M) marks ∙ terms_length

  pub bodies_at : (q a : ℕ) → q < n → a < P → get_or (bodies_of P n M) (1 + q * P + a) [] ≡ marks (M.rhs q a)
  bodies_at q a h g =
      get_d_map marks (terms P n M) (1 + q * P + a) M.initial [] (omega (arith, terms_length, row_less q n a P h g)) ∙ ap marks (term_at q a h g)

  -- bodies that are those of M, each at its number, are its bodies
  pub bodies_are : (bs : List (List Mark)) → length bs ≡ 1 + n * P → marks M.initial ≡ get_or bs 0 [] → ((q a : ℕ) → q < n → a < P → marks (M.rhs q a) ≡ get_or bs (1 + q * P + a) []) → bodies_of P n M ≡ bs
  unfolding terms
  bodies_are bs l i r = ext_get_or [] (bodies_of P n M) bs (bodies_length ∙ sym l) same
    where
      same : (j : ℕ) → j < length (bodies_of P n M) → get_or (bodies_of P n M) j [] ≡ get_or bs j []
      same ℕ.zero h = i
      same (suc j) h =
          let w = row_of n P j (omega (arith, bodies_length)) in
          let e : suc j ≡ 1 + j / P * P + j % P = omega arith in
          rw e (bodies_at (j / P) (j % P) w.0 w.1 ∙ r (j / P) (j % P) w.0 w.1)
