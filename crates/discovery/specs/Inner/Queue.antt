-- The states met, in the order of first meeting: a list of them, and for each the place it has there, counted from 1; 0 for a state that has not been met.
use Rattle.std.specs.Prelude.{ℕ, ◌+◌, ◌-◌, ◌*◌, ◌/◌, ◌%◌, ◌≤◌, ◌<◌, Bool, true, false, List, [], ◌∷◌, map, ◌⊎◌, ◌≡◌, ltb, length, get_or, take}
use Rattle.std.proofs.lemmas.List.Edits.{sets}
use Rattle.theory.specs.Inner.ReadCalls.{ReadCalls}
use Rattle.theory.specs.Registry.{Enter}
use Rattle.trees.specs.Code.{Mark}
use Rattle.formats.specs.Sheet.{mark_bytes}

pub record Queue (list place : List ℕ) (met : ℕ) : Type 0 where
  pub long : 192 ≤ length list
  pub few : met ≤ 192
  pub small : (k : ℕ) → k < met → get_or list k 0 < length place
  pub number : (k : ℕ) → k < met → get_or place (get_or list k 0) 0 ≡ k + 1
  pub back : (c : ℕ) → 0 < get_or place c 0 → (get_or place c 0 ≤ met) × (get_or list (get_or place c 0 - 1) 0 ≡ c)

-- the states met
abbrev pub met_of : List ℕ → ℕ → List ℕ
met_of list met = take met list

-- what entering state c does
pub record Entered (list place : List ℕ) (met c : ℕ) (list' place' : List ℕ) (met' : ℕ) : Type 0 where
  pub queue : Queue list' place' met'
  pub wide : length place' ≡ length place
  pub few : met' ≤ met + 1
  pub there : 0 < get_or place' c 0
  pub kept : (d : ℕ) → 0 < get_or place d 0 → get_or place' d 0 ≡ get_or place d 0
  pub entered : (n : ℕ) × Enter (met_of list met) c n (met_of list' met')

abbrev pub mark_if : Bool → List ℕ → ℕ → Mark
mark_if true place x = (0, x)
mark_if false place x = (x / 65536, get_or place (x % 65536) 0 - 1)

-- the mark of a letter: a symbol, or a call by the number of the state called
unfoldable pub mark_by : List ℕ → ℕ → Mark
mark_by place x = mark_if (ltb x 65536) place x

abbrev pub marks_by : List ℕ → List ℕ → List Mark
marks_by place s = map (mark_by place) s

-- a letter is a symbol, or a call of a state below w
abbrev pub Letter : ℕ → ℕ → Type 0
Letter w x = (x < 64) ⊎ ((65536 ≤ x) × (x < 16777216) × (x % 65536 < w))

-- each letter is one
abbrev pub Sayable : ℕ → List ℕ → Type 0
Sayable w s = (j : ℕ) → j < length s → Letter w (get_or s j 0)

abbrev pub call_if : Bool → ℕ → List (ℕ × ℕ) → List (ℕ × ℕ)
call_if true x es = es
call_if false x es = (x / 65536, x % 65536) ∷ es

-- the calls among the letters
unfoldable pub letter_calls : List ℕ → List (ℕ × ℕ)
letter_calls [] = []
letter_calls (x ∷ s) = call_if (ltb x 65536) x (letter_calls s)

-- the letters s were written as marks, from mark number at on, and the states called entered
pub record Copied (s list place : List ℕ) (met : ℕ) (out : List ℕ) (at : ℕ) (list' place' : List ℕ) (met' : ℕ) (out' : List ℕ) : Type 0 where
  pub queue : Queue list' place' met'
  pub wide : length place' ≡ length place
  pub few : met' ≤ met + length s
  pub read : ReadCalls (letter_calls s) (met_of list met) (met_of list' met')
  pub kept : (d : ℕ) → 0 < get_or place d 0 → get_or place' d 0 ≡ get_or place d 0
  pub told : (j : ℕ) → j < length s → 65536 ≤ get_or s j 0 → 0 < get_or place' (get_or s j 0 % 65536) 0
  pub wrote : out' ≡ sets out (2 * at) (mark_bytes (marks_by place' s))
