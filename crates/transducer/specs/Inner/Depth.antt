-- How many symbols stand above each mark of a right-hand side, its depth, read from the first mark to the last.
use Rattle.std.specs.Prelude.{ℕ, suc, ◌+◌, ◌*◌, ◌≤◌, ◌<◌, List, [], ◌∷◌, ◌≡◌, length, get_or}
use Rattle.std.proofs.Math.Seq.{slice}
use Rattle.trees.specs.Code.{Mark}
use Rattle.formats.specs.Inner.Layout.{pairs}

-- how many terms stand under a mark: as many as a symbol has places, and none under a call
unfoldable pub children_of : List ℕ → Mark → ℕ
children_of ranks (ℕ.zero, x) = get_or ranks x 0
children_of ranks (suc i, x) = 0

-- A list `owed` says how many terms are still to be read under each symbol above, the lowest first, the one that is read now included.
-- when a term was read to its end: those that it is the last of are read to their ends too
unfoldable pub closed : List ℕ → List ℕ
closed [] = []
closed (ℕ.zero ∷ owed) = closed owed
closed (suc ℕ.zero ∷ owed) = closed owed
closed (suc (suc n) ∷ owed) = suc n ∷ owed

-- when a mark with n terms under it was read
unfoldable pub opened : ℕ → List ℕ → List ℕ
opened ℕ.zero owed = closed owed
opened (suc n) owed = suc n ∷ owed

-- the depths of some marks
unfoldable pub depths_of : List ℕ → List ℕ → List Mark → List ℕ
depths_of ranks owed [] = []
depths_of ranks owed (m ∷ ms) = length owed ∷ depths_of ranks (opened (children_of ranks m) owed) ms

-- the first n entries of a table, the last first
unfoldable pub stack : List ℕ → ℕ → List ℕ
stack table ℕ.zero = []
stack table (suc n) = get_or table n 0 ∷ stack table n

-- the table holds the depths of the marks of body number j, of those that start where the table of starts says
abbrev pub DepthsAt : List ℕ → List ℕ → List ℕ → List ℕ → ℕ → Type 0
DepthsAt outs starts bytes depths j = slice (get_or starts j 0) (get_or starts (j + 1) 0) depths ≡ depths_of outs [] (slice (get_or starts j 0) (get_or starts (j + 1) 0) (pairs bytes))

-- every symbol among the marks number `from` up to `to` has a rank
abbrev pub Known : List ℕ → List ℕ → ℕ → ℕ → Type 0
Known outs bytes from to = (j : ℕ) → from ≤ j → j < to → get_or bytes (2 * j) 0 ≡ 0 → get_or bytes (2 * j + 1) 0 < length outs

-- m bodies of at most 64 marks lie where the table of starts says, and their symbols have ranks
pub record BodiesIn (outs starts : List ℕ) (m : ℕ) (bytes : List ℕ) : Type 0 where
  pub long : m < length starts
  pub all_starts : length starts ≡ 2050
  pub ordered : (j : ℕ) → j < m → get_or starts j 0 ≤ get_or starts (j + 1) 0
  pub few : (j : ℕ) → j < m → get_or starts (j + 1) 0 ≤ get_or starts j 0 + 64
  pub inside : (j : ℕ) → j ≤ m → 2 * get_or starts j 0 ≤ length bytes
  pub few_marks : length bytes ≤ 16384
  pub known : (j : ℕ) → j < m → Known outs bytes (get_or starts j 0) (get_or starts (j + 1) 0)
