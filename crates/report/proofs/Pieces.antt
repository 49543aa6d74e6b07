-- Pieces of text, one behind the other.
-- Assumes nothing.
use Prim.Native.Nat.{ℕ, suc, ◌+◌, ◌-◌, ◌≤◌, ◌<◌}
use native.Mathlib.Numerals.{add-one}
use native.Mathlib.Omega.{arith}
use mathlib.Core.List.{List, [], ◌∷◌, ◌++◌}
use mathlib.Core.Path.{◌≡◌, refl, ap, sym, ◌∙◌}
use Rattle.std.specs.Prelude.{Bool, true, false}
use Rattle.std.proofs.Common.{nat_eq}
use Rattle.theory.proofs.Terms.{conflict}
use lib.ListN.{length, get_or, drop, take, set, length-append, drop_of_length-le}
use lib.Seq.{drop-cons}
use Rattle.std.proofs.lemmas.Bool.{eqb-true}
use Rattle.std.proofs.lemmas.List.{take_all}
use Rattle.trees.specs.Refusal as refusals
use Rattle.trees.specs.declared.refusal.Refusal.{Refusal}
use Rattle.trees.specs.declared.refusal.Refusal.TheVariants.{ShortArea, BadAlphabets, BadTree, BadContents, BadBody, LongOutput, OverLimits, FullRegistry, BadRegistry, DeepOutput, BadOutput, ShortTarget, OtherNumber, OtherAlphabet, JoinOverLimits}
use Rattle.codes.specs.Codes.{symbol_code}
use Rattle.formats.proofs.Writing.{Writing, room_word, word_more, finish, then, wrote_as, wrote_long}
use Rattle.formats.specs.Inner.Written.{Wrote}
use Rattle.report.specs.Text.{number_text, rest, separated, differ_word, at_word, sizes_line, place_text, differ_line}

-- one byte
pub one_byte : (t : List ℕ) (at x : ℕ) → Wrote t (set t at x) at (at + 1) (x ∷ [])
one_byte t at x = record { wrote = refl; behind = refl }

-- ---- whether there are numbers
pub none_there : (xs : List ℕ) {b : Bool} → b ≡ nat_eq (length xs) 0 → b ≡ true → length xs ≡ 0
none_there xs e f = eqb-true (length xs) 0 (sym e ∙ f)

pub some_there : (xs : List ℕ) {b : Bool} → b ≡ nat_eq (length xs) 0 → b ≡ false → 0 < length xs
some_there [] e f = let y = sym f ∙ e in conflict (cc)
some_there (x ∷ xs) e f = omega arith

-- ---- numbers with a byte between them
module _ (s : ℕ) (items : List ℕ) where
  separated_none : length items ≡ 0 → separated s items ≡ []
  unfolding separated
  separated_none e = go items e
    where
      go : (items : List ℕ) → length items ≡ 0 → separated s items ≡ []
      go [] e = refl
      go (x ∷ xs) e = absurd (omega arith)

  -- the numbers behind the first
  abbrev others : List ℕ
  others = take (length items - 1) (drop 1 items)

  separated_first : 0 < length items → separated s items ≡ number_text (get_or items 0 0) ++ rest s others
  unfolding separated
  separated_first h = go items h
    where
      go : (items : List ℕ) → 0 < length items → separated s items ≡ number_text (get_or items 0 0) ++ rest s (take (length items - 1) (drop 1 items))
      go [] h = absurd (omega arith)
      go (x ∷ xs) h = rw (take_all (suc (length xs) - 1) xs (omega arith))

  rest_next : (k : ℕ) → k < length others → rest s (drop k others) ≡ (s ∷ number_text (get_or others k 0)) ++ rest s (drop (k + 1) others)
  unfolding rest
  rest_next k h = rw (add-one, drop-cons others k 0 h)

  -- The text is t, and what the others leave from `from` on is what those from number k on leave from `to` on.
  abbrev pub Separating : List ℕ → ℕ → ℕ → ℕ → List ℕ → Type 0
  Separating start from k to t = Writing (rest s others) from start (rest s (drop k others)) to t

  -- there is none
  pub none_separated : (t : List ℕ) (at : ℕ) → length items ≡ 0 → Wrote t t at at (separated s items)
  none_separated t at e = wrote_as (sym (separated_none e)) (record { wrote = refl; behind = omega arith })

  -- the first one is written
  pub first_room : (t : List ℕ) (at : ℕ) → 0 < length items → at + length (separated s items) ≤ length t → at + length (number_text (get_or items 0 0)) ≤ length t
  first_room t at some h = omega (arith, ap length (separated_first some), length-append (number_text (get_or items 0 0)) (rest s others))

  module _ {t u : List ℕ} {at m : ℕ} (some : 0 < length items) (W : Wrote t u at m (number_text (get_or items 0 0))) where
    rest_room : at + length (separated s items) ≤ length t → m + length (rest s others) ≤ length u
    rest_room h = omega (arith, ap length (separated_first some), length-append (number_text (get_or items 0 0)) (rest s others), W.behind, wrote_long W)

    -- and the others
    module _ {k to : ℕ} {w : List ℕ} (S : Separating u m k to w) where
      pub next_room : k < length others → at + length (separated s items) ≤ length t → to + 1 + length (number_text (get_or others k 0)) ≤ length w
      next_room there h = omega (arith, room_word S (s ∷ number_text (get_or others k 0)) (rest s (drop (k + 1) others)) (rest_next k there) (rest_room h))

      pub all_separated : length others ≤ k → Wrote t w at to (separated s items)
      unfolding rest
      all_separated h = let f = finish S (ap (rest s) (drop_of_length-le others {i = k} h)) in wrote_as (sym (separated_first some)) (then W (record { wrote = f.1; behind = f.0 }))

  pub next_separated : {start t u : List ℕ} {from k to m : ℕ} → Separating start from k to t → k < length others → Wrote (set t to s) u (to + 1) m (number_text (get_or others k 0)) → Separating start from (k + 1) m u
  next_separated {t = t} {k = k} {to} S there W = let N = then (one_byte t to s) W in word_more S (s ∷ number_text (get_or others k 0)) (rest s (drop (k + 1) others)) (rest_next k there) N.behind N.wrote

-- ---- an address
pub root_text : (v : List ℕ) → length v ≡ 0 → place_text v ≡ 45 ∷ []
root_text [] e = refl
root_text (x ∷ v) e = absurd (omega arith)

pub below_text : (v : List ℕ) → (length v ≡ 0 → ⊥) → place_text v ≡ separated 46 v
below_text [] f = absurd (f refl)
below_text (x ∷ v) f = refl

-- whatever byte stands between the numbers of an address, there is room for them
rest_as_long : (s t : ℕ) (xs : List ℕ) → length (rest s xs) ≡ length (rest t xs)
unfolding rest
rest_as_long s t [] = refl
rest_as_long s t (x ∷ xs) = omega (arith, length-append (number_text x) (rest s xs), length-append (number_text x) (rest t xs), rest_as_long s t xs)

pub below_room : (at n : ℕ) (v : List ℕ) → (length v ≡ 0 → ⊥) → at + length (place_text v) ≤ n → (s : ℕ) → at + length (separated s v) ≤ n
unfolding separated
below_room at n [] e h s = absurd (e refl)
below_room at n (x ∷ xs) e h s = omega (arith, ap length (below_text (x ∷ xs) e), length-append (number_text x) (rest s xs), length-append (number_text x) (rest 46 xs), rest_as_long s 46 xs)

-- ---- the line of a normal form
module _ (word : List ℕ) (states marks : ℕ) where
  -- how long it is
  pub sizes_long : length (sizes_line word states marks) ≡ length word + length (number_text states) + length (number_text marks) + 2
  sizes_long =
      let a = word ++ number_text states in
      let b = a ++ (32 ∷ number_text marks) in
      omega (arith, length-append word (number_text states), length-append a (32 ∷ number_text marks), length-append b (10 ∷ []))

  -- and how it is written
  pub sizes_written : {t₀ t₁ t₂ t₃ t₄ t₅ : List ℕ} {p₀ p₁ p₂ p₃ p₄ p₅ : ℕ} → Wrote t₀ t₁ p₀ p₁ word → Wrote t₁ t₂ p₁ p₂ (number_text states) → Wrote t₂ t₃ p₂ p₃ (32 ∷ []) → Wrote t₃ t₄ p₃ p₄ (number_text marks) → Wrote t₄ t₅ p₄ p₅ (10 ∷ []) → Wrote t₀ t₅ p₀ p₅ (sizes_line word states marks)
  sizes_written A B C D E = then (then (then A B) (then C D)) E

-- ---- the line of a refusal: its number has at most two digits
pub refusal_low : (r : Refusal) → refusals.refusal_number r < 100
refusal_low ShortArea = omega arith
refusal_low BadAlphabets = omega arith
refusal_low BadTree = omega arith
refusal_low BadContents = omega arith
refusal_low BadBody = omega arith
refusal_low LongOutput = omega arith
refusal_low OverLimits = omega arith
refusal_low FullRegistry = omega arith
refusal_low BadRegistry = omega arith
refusal_low DeepOutput = omega arith
refusal_low BadOutput = omega arith
refusal_low ShortTarget = omega arith
refusal_low OtherNumber = omega arith
refusal_low OtherAlphabet = omega arith
refusal_low JoinOverLimits = omega arith

-- ---- the line of a difference
module _ (tree v : List ℕ) (b b' : ℕ) where
  -- how long it is
  pub differ_long : length (differ_line tree v b b') ≡ length (separated 44 tree) + length (place_text v) + 18
  differ_long =
      let x = differ_word ++ separated 44 tree in
      let y = x ++ at_word in
      let z = y ++ place_text v in
      let u = z ++ (32 ∷ symbol_code b) in
      let w = u ++ (32 ∷ symbol_code b') in
      omega (arith, length-append differ_word (separated 44 tree), length-append x at_word, length-append y (place_text v), length-append z (32 ∷ symbol_code b), length-append u (32 ∷ symbol_code b'), length-append w (10 ∷ []))

  -- and how it is written
  pub differ_written : {t₀ t₁ t₂ t₃ t₄ t₅ t₆ t₇ : List ℕ} {p₀ p₁ p₂ p₃ p₄ p₅ p₆ p₇ : ℕ} → Wrote t₀ t₁ p₀ p₁ differ_word → Wrote t₁ t₂ p₁ p₂ (separated 44 tree) → Wrote t₂ t₃ p₂ p₃ at_word → Wrote t₃ t₄ p₃ p₄ (place_text v) → Wrote t₄ t₅ p₄ p₅ (32 ∷ symbol_code b) → Wrote t₅ t₆ p₅ p₆ (32 ∷ symbol_code b') → Wrote t₆ t₇ p₆ p₇ (10 ∷ []) → Wrote t₀ t₇ p₀ p₇ (differ_line tree v b b')
  differ_written A B C D E F G = then (then (then (then (then (then A B) C) D) E) F) G
