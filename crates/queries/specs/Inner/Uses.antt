-- The children that are called in a list of marks.
use Rattle.std.specs.Prelude.{ℕ, ◌+◌, ◌*◌, ◌<◌, ◌≤◌, List, [], ◌∷◌, eqb, length, get_or}
use Rattle.theory.specs.Weight.{one_if}
use Rattle.trees.specs.Code.{Mark}
use Rattle.formats.specs.Inner.Layout.{body}

-- how many of the marks are calls on child i
unfoldable pub uses : ℕ → List Mark → ℕ
uses i [] = 0
uses i (m ∷ ms) = one_if (eqb m.0 i) + uses i ms

-- no child is called twice
abbrev pub Once : List Mark → Type 0
Once ms = (i : ℕ) → 1 ≤ i → uses i ms ≤ 1

-- children are numbered to 4, and the states called are below n
unfoldable pub Low : ℕ → List Mark → Type 0
Low n [] = Unit {0}
Low n (m ∷ ms) = ((m.0 ≤ 4) × (1 ≤ m.0 → m.1 < n)) × Low n ms

-- m bodies lie where the table of starts says, and their calls are of at most 128 states
pub record LowBodies (m n : ℕ) (starts bytes : List ℕ) : Type 0 where
  pub few : n ≤ 128
  pub long : m < length starts
  pub inside : (j : ℕ) → j ≤ m → 2 * get_or starts j 0 ≤ length bytes
  pub low : (j : ℕ) → j < m → Low n (body (λ j. get_or starts j 0) bytes j)
