-- Where things stand in the file of a transducer, byte by byte: bodies by the counts before them, the transducer that is read from them.
use Rattle.std.specs.Prelude.{ℕ, suc, ◌+◌, ◌*◌, ◌<◌, ◌≤◌, Bool, true, false, List, [], ◌∷◌, ◌≡◌, ltb, leb, length, get_or}
use Rattle.std.proofs.Math.Seq.{slice}
use Rattle.theory.specs.Transducer.{Transducer}
use Rattle.trees.specs.Code.{Mark}
use Rattle.trees.specs.Inner.Decode.{Letter, call, unknown, forest, first, Whole}
use Rattle.trees.specs.Inner.Symbols.{symbol_of}

abbrev pub call_if : Bool → Bool → Mark → Letter (ℕ × ℕ)
call_if true true e = call e
call_if true false e = unknown
call_if false b e = unknown

-- a mark of a right-hand side over r children, with n states and the output alphabet outs
unfoldable pub mark_of : List ℕ → ℕ → ℕ → Mark → Letter (ℕ × ℕ)
mark_of outs n r (ℕ.zero, b) = symbol_of outs b
mark_of outs n r (suc i, q) = call_if (leb (suc i) r) (ltb q n) (suc i, q)

-- two bytes to a mark
unfoldable pub pairs : List ℕ → List Mark
pairs [] = []
pairs (x ∷ []) = []
pairs (i ∷ x ∷ s) = (i, x) ∷ pairs s

-- the mark number j
abbrev pub mark_at : List ℕ → ℕ → Mark
mark_at bytes j = get_or (pairs bytes) j (0, 0)

-- the number of marks before body j: the counts are two bytes each, the high byte first
unfoldable pub offset : List ℕ → ℕ → ℕ
offset cs ℕ.zero = 0
offset [] (suc j) = 0
offset (hi ∷ []) (suc j) = 0
offset (hi ∷ lo ∷ cs) (suc j) = 256 * hi + lo + offset cs j

-- body 0 is the initial term; the right-hand side of state q and symbol a is body 1 + q · P + a, with P input symbols
abbrev pub body_number : List ℕ → ℕ → ℕ → ℕ
body_number ins q a = 1 + q * length ins + a

-- how many bodies n states have
abbrev pub body_count : List ℕ → ℕ → ℕ
body_count ins n = 1 + n * length ins

-- where body j begins is start j, counted in marks
unfoldable pub body : (ℕ → ℕ) → List ℕ → ℕ → List Mark
body start bytes j = slice (start j) (start (j + 1)) (pairs bytes)

-- the transducer of a sheet with n states, whose bodies start at the marks number start 0, start 1, ..
unfoldable pub transducer : List ℕ → List ℕ → ℕ → (ℕ → ℕ) → List ℕ → Transducer ℕ
transducer ins outs n start bytes = record {
  sort = λ q. 0;
  initial = first (forest (mark_of outs n 1) (body start bytes 0));
  rhs = λ q a. first (forest (mark_of outs n (get_or ins a 0)) (body start bytes (body_number ins q a)));
}

-- each body is one tree of known marks
pub record Wholes (ins outs : List ℕ) (n : ℕ) (start : ℕ → ℕ) (bytes : List ℕ) : Type 0 where
  pub initial : Whole (mark_of outs n 1) (body start bytes 0)
  pub rhs : (q a : ℕ) → q < n → a < length ins → Whole (mark_of outs n (get_or ins a 0)) (body start bytes (body_number ins q a))

-- the count number j
abbrev pub count_at : List ℕ → ℕ → ℕ
count_at counts j = 256 * get_or counts (2 * j) 0 + get_or counts (2 * j + 1) 0

-- m counts are right, and the marks are as many as they say
pub record Summed (counts bytes : List ℕ) (m : ℕ) : Type 0 where
  pub each : (j : ℕ) → j < m → (1 ≤ count_at counts j) × (count_at counts j ≤ 64)
  pub few : offset counts m ≤ 8192
  pub all : length bytes ≡ 2 * offset counts m

-- n, the counts and the marks are right, for at most 16 input symbols
pub record Right (ins : List ℕ) (n : ℕ) (counts bytes : List ℕ) : Type 0 where
  pub symbols : length ins ≤ 16
  pub states : n ≤ 128
  pub long : length counts ≡ 2 * body_count ins n
  pub sums : Summed counts bytes (body_count ins n)

-- the table of starts: of the bodies number 0 up to m, the last included
abbrev pub Starts : List ℕ → List ℕ → ℕ → Type 0
Starts counts starts m = (j : ℕ) → j ≤ m → get_or starts j 0 ≡ offset counts j

-- what stands behind entry m of a table stays
abbrev pub KeptBehind : List ℕ → List ℕ → ℕ → Type 0
KeptBehind before after m = (j : ℕ) → m < j → get_or after j 0 ≡ get_or before j 0

-- the bodies lie one after the other in the file, as the table of starts says
pub record InBounds (ins : List ℕ) (n : ℕ) (starts bytes : List ℕ) : Type 0 where
  pub long : body_count ins n < length starts
  pub ordered : (j : ℕ) → j < body_count ins n → get_or starts j 0 ≤ get_or starts (j + 1) 0
  pub inside : (j : ℕ) → j ≤ body_count ins n → 2 * get_or starts j 0 ≤ length bytes

-- no body has over 64 marks
abbrev pub Short : List ℕ → ℕ → List ℕ → Type 0
Short ins n starts = (j : ℕ) → j < body_count ins n → get_or starts (j + 1) 0 ≤ get_or starts j 0 + 64
