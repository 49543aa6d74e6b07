-- A pattern as letters, and a right-hand side with the patterns of the states put for its calls, letter by letter.
-- Assumes nothing.
use Prim.Native.Nat.{ℕ, suc, ◌+◌, ◌*◌, ◌≤◌, ◌<◌}
use native.Mathlib.Omega.{arith}
use mathlib.Core.Path.{◌≡◌, refl, ap, ◌∙◌}
use mathlib.Core.List.{List, [], ◌∷◌, ◌++◌}
use lib.Dec.{eqb}
use lib.ListN.{length, get_or, drop, drop_of_length-le}
use lib.Seq.{drop-cons}
use borrow.Author.Tests.{eq-eqb, ne_eqb}
use Rattle.formats.specs.Inner.Layout.{mark_at}
use Rattle.formats.proofs.Pairs.{pairs_at}
use Rattle.prefixes.specs.Inner.Patterns.{top, head_at}
use Rattle.prefixes.proofs.Grafts.{head_length, spell_symbol, spell_call, spell_end, spell_fits, called}
use Rattle.earliest.specs.Inner.Letters.{open_if, labeled, expanded, Expandable}

-- ---- a pattern as letters
-- a letter for each byte
pub labeled_length : (base : ℕ) (s : List ℕ) → length (labeled base s) ≡ length s
unfolding labeled
labeled_length base [] = refl
labeled_length base (x ∷ s) = ap suc (labeled_length (suc base) s)

-- the letters from number m on
labeled_cons : (base : ℕ) (s : List ℕ) (m : ℕ) → m < length s → labeled (base + m) (drop m s) ≡ open_if (eqb (get_or s m 0) top) (base + m) (get_or s m 0) ∷ labeled (base + (m + 1)) (drop (m + 1) s)
unfolding labeled
labeled_cons base s m h =
    let e : base + (m + 1) ≡ suc (base + m) = omega arith in
    let f : m + 1 ≡ suc m = omega arith in
    rw (e, f, drop-cons s m 0 h)

module _ (base : ℕ) (s : List ℕ) (m : ℕ) (inside : m < length s) {x : ℕ} (right : x ≡ get_or s m 0) where
  -- ⊤ becomes a call
  pub labeled_top : x ≡ top → labeled (base + m) (drop m s) ≡ (base + m) ∷ labeled (base + (m + 1)) (drop (m + 1) s)
  labeled_top e = labeled_cons base s m inside ∙ simp (eq-eqb (get_or s m 0) top (omega arith))

  -- a symbol stays
  pub labeled_symbol : (x ≡ top → ⊥) → labeled (base + m) (drop m s) ≡ x ∷ labeled (base + (m + 1)) (drop (m + 1) s)
  labeled_symbol n = labeled_cons base s m inside ∙ simp (ne_eqb (get_or s m 0) top (λ e. n (omega arith)), right)

-- no byte is left
pub labeled_end : (base : ℕ) (s : List ℕ) (m : ℕ) → length s ≤ m → labeled (base + m) (drop m s) ≡ []
unfolding labeled
labeled_end base s m h = ap (labeled (base + m)) (drop_of_length-le s {i = m} h)

-- ---- mark by mark
-- what the call (i, q) gives
abbrev pub labels : List ℕ → List ℕ → ℕ → ℕ → List ℕ
labels heads sizes i q = labeled (65536 * i + 64 * q) (head_at heads sizes q)

-- mark j is the symbol x
pub expand_symbol : (heads sizes bytes : List ℕ) (j to : ℕ) → j < to → 2 * to ≤ length bytes → {i x : ℕ} → i ≡ get_or bytes (2 * j) 0 → x ≡ get_or bytes (2 * j + 1) 0 → i ≡ 0 → expanded heads sizes bytes j to ≡ x ∷ expanded heads sizes bytes (j + 1) to
expand_symbol heads sizes bytes j to h g e f z = rw f (spell_symbol (labels heads sizes) bytes j to h g (omega arith))

-- no mark is left
pub expand_end : (heads sizes bytes : List ℕ) (j to : ℕ) → j ≤ to → to ≤ j → expanded heads sizes bytes j to ≡ []
expand_end heads sizes bytes j to h g = spell_end (labels heads sizes) bytes j to h g

-- the pattern of the state q, which mark j calls on child i
pub record CalledHead (heads sizes bytes : List ℕ) (j to i q : ℕ) : Type 0 where
  pub child : i ≤ 4
  pub low : q < 128
  pub state : q < length sizes
  pub small : get_or sizes q 0 ≤ 64
  pub inside : 64 * q + 64 ≤ length heads
  pub long : length (head_at heads sizes q) ≡ get_or sizes q 0
  pub next : expanded heads sizes bytes j to ≡ labels heads sizes i q ++ expanded heads sizes bytes (j + 1) to

module _ {heads sizes bytes out : List ℕ} {from to : ℕ} (E : Expandable heads sizes bytes from to out) where
  -- each call has one
  pub called_head : (j : ℕ) → from ≤ j → j < to → {i q : ℕ} → i ≡ get_or bytes (2 * j) 0 → q ≡ get_or bytes (2 * j + 1) 0 → (i ≡ 0 → ⊥) → CalledHead heads sizes bytes j to i q
  called_head j h g {i} {q} e f some =
      let some' : get_or bytes (2 * j) 0 ≡ 0 → ⊥ = λ z. some (e ∙ z) in
      let C = called E.grafts j h g some' f in
      let m = rw (pairs_at bytes j (omega (arith, E.grafts.inside))) at (E.children j h g) in
      record {
        child = omega arith;
        low = omega (arith, C.state, E.few_states);
        state = C.state;
        small = C.small;
        inside = C.inside;
        long = C.long;
        next = rw (e, f) (spell_call (labels heads sizes) bytes j to g E.grafts.inside some');
      }

  -- all has room in the area
  pub expanded_short : length (expanded heads sizes bytes from to) ≤ length out
  expanded_short =
      let G = E.grafts in
      let s = spell_fits (labels heads sizes) bytes from to G.inside (λ j h g some.
      let t = G.there j h g some in
      let i = (mark_at bytes j).0 in
      let q = (mark_at bytes j).1 in
      omega (arith, t.1, t.2, labeled_length (65536 * i + 64 * q) (head_at heads sizes q), head_length heads sizes q (omega (arith, t.1, t.2)))) in
      omega (arith, G.few, G.room)
