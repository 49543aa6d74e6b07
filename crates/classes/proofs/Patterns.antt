-- The classes to start from: equivalent states have right-hand sides of one byte.
-- Assumes nothing.
use Prim.Native.Nat.{ℕ, suc, ◌+◌, ◌*◌, ◌%◌, ◌≤◌, ◌<◌}
use native.Mathlib.Decide.{ℕ_discrete}
use native.Mathlib.Numerals.{add-one}
use native.Mathlib.Omega.{arith}
use mathlib.Core.List.{List, [], ◌∷◌, ◌++◌, map-append}
use mathlib.Core.Logic.{by_cases}
use mathlib.Core.Path.{◌≡◌, sym, ap, ap₂, ◌∙◌}
use lib.ListN.{length, set, length-set, take, drop, take-append-drop}
use lib.Seq.{get_or-set_same, get_or-set_other, length-take-le, drop-append-le, take-take, slice, slice_empty, slice-cons}
use Rattle.trees.specs.Code.{Mark}
use Rattle.formats.specs.Inner.Layout.{pairs, body_number, body_count, InBounds}
use Rattle.formats.specs.Inner.Marked.{part}
use Rattle.formats.proofs.Pairs.{pairs_length, pairs_at, number_less}
use Rattle.classes.specs.Inner.Classes.{key_of, keyed, body_marks, SameStates, at, Classed, mix, mixed, pattern_byte, Patterned}
use Rattle.forms.proofs.Files.{row_fits, layout_bounded}
use Rattle.classes.proofs.Keys.{key_symbol, key_call}

-- ---- the byte of a part
-- the marks before number j are mixed into h
pub record PatternLoop (bytes : List ℕ) (from to h j : ℕ) : Type 0 where
  pub byte : h < 256
  pub rest : mixed h (keyed [] (part bytes j to)) ≡ pattern_byte bytes from to

module _ {bytes : List ℕ} {from to h j : ℕ} (L : PatternLoop bytes from to h j) (inside : 2 * to ≤ length bytes) (l : j < to) where
  first_key : keyed [] (part bytes j to) ≡ key_of [] (at bytes (2 * j), at bytes (2 * j + 1)) ∷ keyed [] (part bytes (suc j) to)
  first_key =
      let p = pairs_length bytes to inside in
      ap (keyed []) (slice-cons j to (pairs bytes) (0, 0) l p) ∙ ap (λ m. key_of [] m ∷ keyed [] (part bytes (suc j) to)) (pairs_at bytes j (omega arith))

  next_byte : {i x : ℕ} → key_of [] (at bytes (2 * j), at bytes (2 * j + 1)) ≡ (i, x) → PatternLoop bytes from to ((31 * h + 7 * i + x) % 256) (j + 1)
  unfolding mixed
  next_byte {i} {x} e = record {
    byte = omega arith;
    rest = rw (add-one j) (ap (λ m. mixed (mix h m) (keyed [] (part bytes (suc j) to))) (sym e) ∙ ap (mixed h) (sym first_key) ∙ L.rest);
  }

  -- a symbol
  pub next_symbol : {i x : ℕ} → i ≡ at bytes (2 * j) → i ≡ 0 → x ≡ at bytes (2 * j + 1) → PatternLoop bytes from to ((31 * h + 7 * i + x) % 256) (j + 1)
  next_symbol e z f = next_byte (key_symbol [] _ _ (sym e ∙ z) ∙ ap₂ (λ a b. (a, b)) (sym z) (sym f))

  -- a call, of any state
  pub next_called : {i x : ℕ} → i ≡ at bytes (2 * j) → (i ≡ 0 → ⊥) → x ≡ 0 → PatternLoop bytes from to ((31 * h + 7 * i + x) % 256) (j + 1)
  next_called e z f = next_byte (key_call [] _ _ (omega arith) ∙ ap₂ (λ a b. (a, b)) (sym e) (sym f))

pub pattern_end : {bytes : List ℕ} {from to h j : ℕ} → PatternLoop bytes from to h j → j ≡ to → h ≡ pattern_byte bytes from to
unfolding mixed
pattern_end {bytes} {from} {to} {h} {j} L e = sym (ap (λ ms. mixed h (keyed [] ms)) (ap (λ k. part bytes k to) e ∙ slice_empty to (pairs bytes))) ∙ L.rest

-- ---- the right-hand sides of a state, one after the other
pub starts_ordered : {ins starts bytes : List ℕ} {n : ℕ} → InBounds ins n starts bytes → (i d : ℕ) → i + d ≤ body_count ins n → at starts i ≤ at starts (i + d)
starts_ordered {starts = starts} L i ℕ.zero h = let e : i + 0 ≡ i = omega arith in omega (arith, ap (at starts) e)
starts_ordered {starts = starts} L i (suc d) h =
    let e : i + d + 1 ≡ i + suc d = omega arith in
    omega (arith, starts_ordered L i d (omega arith), L.ordered (i + d) (omega arith), ap (at starts) e)

-- those of the states before p are mixed
pub record BytesLoop (ins starts bytes classes₀ classes : List ℕ) (p : ℕ) : Type 0 where
  pub long : length classes ≡ length classes₀
  pub each : Patterned ins starts bytes p classes

module _ {ins starts bytes classes₀ classes : List ℕ} {p : ℕ} (C : Classed ins starts bytes classes₀) (L : BytesLoop ins starts bytes classes₀ classes p) (h : p < length classes₀) where
  pub bytes_fit : (1 + p * length ins + length ins < 2050) × (1 + p * length ins + length ins ≤ body_count ins (length classes₀))
  bytes_fit = row_fits (layout_bounded C.layout) h

  module _ {from to : ℕ} (f : from ≡ at starts (body_count ins p)) (t : to ≡ at starts (body_count ins p + length ins)) where
    pub bytes_part : (from ≤ to) × (2 * to ≤ length bytes)
    bytes_part = rw (f, t) (starts_ordered C.layout.bounds (body_count ins p) (length ins) bytes_fit.1, C.layout.bounds.inside (body_count ins p + length ins) bytes_fit.1)

    pub bytes_next : {x : ℕ} → x ≡ pattern_byte bytes from to → BytesLoop ins starts bytes classes₀ (set classes p x) (p + 1)
    bytes_next {x} e = record {
      long = length-set classes p x ∙ L.long;
      each = record {
        each = λ q l. by_cases (ℕ_discrete q p)
            (λ z. rw z (get_or-set_same classes p x 0 (omega (arith, L.long)) ∙ e ∙ ap₂ (pattern_byte bytes) f t))
            (λ z. get_or-set_other classes p q x 0 z ∙ L.each.each q (omega arith));
      };
    }

-- ---- equivalent states
-- two parts side by side are one
pub slice_join : {A : Type 0} (s : List A) (a b c : ℕ) → a ≤ b → b ≤ c → c ≤ length s → slice a c s ≡ slice a b s ++ slice b c s
slice_join s a b c h g i =
    let t = take c s in
    let n : length t ≡ c = length-take-le c s i in
    ap (drop a) (sym (take-append-drop b t))
    ∙ drop-append-le a (take b t) (drop b t) (omega (arith, length-take-le b t (omega arith)))
    ∙ ap (λ l. drop a l ++ drop b t) (take-take b c s g)

module _ {ins starts bytes : List ℕ} {n : ℕ} (L : InBounds ins n starts bytes) where
  -- the keys of the first a right-hand sides of state p
  row_keys : ℕ → ℕ → List Mark
  row_keys p a = keyed [] (part bytes (at starts (body_count ins p)) (at starts (body_count ins p + a)))

  row_none : (p : ℕ) → row_keys p 0 ≡ []
  unfolding row_keys
  row_none p = let e : body_count ins p + 0 ≡ body_count ins p = omega arith in ap (λ k. keyed [] (part bytes (at starts (body_count ins p)) (at starts k))) e ∙ ap (keyed []) (slice_empty (at starts (body_count ins p)) (pairs bytes))

  row_more : (p a : ℕ) → p < n → a < length ins → row_keys p (suc a) ≡ row_keys p a ++ keyed [] (body_marks starts bytes (body_number ins p a))
  unfolding row_keys
  row_more p a h l =
      let b = body_number ins p a in
      let less : b < body_count ins n = number_less ins p n a h l in
      let e : body_count ins p + suc a ≡ b + 1 = omega arith in
      let i = pairs_length bytes (at starts (b + 1)) (L.inside (b + 1) (omega arith)) in
      ap (λ k. keyed [] (part bytes (at starts (body_count ins p)) (at starts k))) e
      ∙ ap (keyed []) (slice_join (pairs bytes) (at starts (body_count ins p)) (at starts b) (at starts (b + 1)) (starts_ordered L (body_count ins p) a (omega arith)) (L.ordered b less) i)
      ∙ map-append (key_of []) (part bytes (at starts (body_count ins p)) (at starts b)) (body_marks starts bytes b)

  row_same : {p q : ℕ} → p < n → q < n → SameStates ins starts bytes [] p q → (a : ℕ) → a ≤ length ins → row_keys p a ≡ row_keys q a
  row_same {p} {q} h g S ℕ.zero l = row_none p ∙ sym (row_none q)
  row_same {p} {q} h g S (suc a) l = row_more p a h (omega arith) ∙ ap₂ ◌++◌ (row_same h g S a (omega arith)) (S.each a (omega arith)) ∙ sym (row_more q a g (omega arith))

  -- states with the same right-hand sides but for the states called have one byte
  pub same_byte : {classes : List ℕ} → Patterned ins starts bytes n classes → (p q : ℕ) → p < n → q < n → SameStates ins starts bytes [] p q → at classes p ≡ at classes q
  unfolding row_keys
  same_byte P p q h g S = P.each p h ∙ ap (mixed 0) (row_same h g S (length ins) (omega arith)) ∙ sym (P.each q g)
