-- Classes of the states of a transducer, one byte a state: right-hand sides up to classes, the classes to start from, and their numbers.
use Rattle.std.specs.Prelude.{ℕ, suc, ◌+◌, ◌*◌, ◌%◌, ◌≤◌, ◌<◌, List, [], ◌∷◌, map, ◌≡◌, length, get_or}
use Rattle.theory.specs.Quotient.{Classes}
use Rattle.trees.specs.Code.{Mark}
use Rattle.formats.specs.Inner.Layout.{mark_at, body_number, body_count}
use Rattle.formats.specs.Inner.Marked.{part}
use Rattle.forms.specs.Inner.Tables.{Layout}

-- a mark with the class of the state called for the state
unfoldable pub key_of : List ℕ → Mark → Mark
key_of classes (ℕ.zero, b) = (0, b)
key_of classes (suc i, q) = (suc i, get_or classes q 0)

abbrev pub keyed : List ℕ → List Mark → List Mark
keyed classes ms = map (key_of classes) ms

-- the marks of body j
abbrev pub body_marks : List ℕ → List ℕ → ℕ → List Mark
body_marks starts bytes j = part bytes (get_or starts j 0) (get_or starts (j + 1) 0)

-- bodies i and j are one up to classes
abbrev pub SameBodies : List ℕ → List ℕ → List ℕ → ℕ → ℕ → Type 0
SameBodies starts bytes classes i j = keyed classes (body_marks starts bytes i) ≡ keyed classes (body_marks starts bytes j)

-- the right-hand sides of states p and q are
pub record SameStates (ins starts bytes classes : List ℕ) (p q : ℕ) : Type 0 where
  pub each : (a : ℕ) → a < length ins → SameBodies starts bytes classes (body_number ins p a) (body_number ins q a)

-- the class of state q, and the least member of class k
abbrev pub at : List ℕ → ℕ → ℕ
at l k = get_or l k 0

-- ---- what inner functions ask and do
-- the n marks from number i on stand in the file, and call states that have a class
pub record Keyable (classes bytes : List ℕ) (i n : ℕ) : Type 0 where
  pub inside : 2 * (i + n) ≤ length bytes
  pub there : (k : ℕ) → k < n → 0 < (mark_at bytes (i + k)).0 → (mark_at bytes (i + k)).1 < length classes

-- a transducer whose states have classes
pub record Classed (ins starts bytes classes : List ℕ) : Type 0 where
  pub outs : List ℕ
  pub layout : Layout ins outs starts bytes (length classes)

-- ---- the classes to start from: a byte of the right-hand sides, with the states called left out
-- one mark more
abbrev pub mix : ℕ → Mark → ℕ
mix h m = (31 * h + 7 * m.0 + m.1) % 256

unfoldable pub mixed : ℕ → List Mark → ℕ
mixed h [] = h
mixed h (m ∷ ms) = mixed (mix h m) ms

-- the byte of the marks number `from` up to `to`
abbrev pub pattern_byte : List ℕ → ℕ → ℕ → ℕ
pattern_byte bytes from to = mixed 0 (keyed [] (part bytes from to))

-- the class of each of n states is the byte of its right-hand sides, which stand one after the other
pub record Patterned (ins starts bytes : List ℕ) (n : ℕ) (classes : List ℕ) : Type 0 where
  pub each : (p : ℕ) → p < n → at classes p ≡ pattern_byte bytes (at starts (body_count ins p)) (at starts (body_count ins p + length ins))

-- ---- numbers of classes
-- the new classes are the old ones, numbered in the order of their least members
pub record Numbers (old new least : List ℕ) (count : ℕ) : Type 0 where
  pub classes : Classes (λ q. at new q) (λ k. at least k) (length old) count
  pub fine : (p q : ℕ) → p < length old → q < length old → at new p ≡ at new q → at old p ≡ at old q
  pub coarse : (p q : ℕ) → p < length old → q < length old → at old p ≡ at old q → at new p ≡ at new q
