-- The file of two ranked alphabets (01: stock): the input symbols (part kinds) and the output symbols (block kinds), each with its rank (places).
use Rattle.std.specs.Prelude.{ℕ, ◌+◌, ◌<◌, ◌≤◌, List, ◌∷◌, ◌++◌, ◌≡◌, length, get_or, take, drop}
use Rattle.trees.specs.Refusal.{Checks, check}

-- an alphabet by the ranks of its symbols: at least one symbol and at most `most`, each with 0 to 4 places
pub record Ranks (most : ℕ) (rs : List ℕ) : Type 0 where
  pub some : 1 ≤ length rs
  pub few : length rs ≤ most
  pub low : (k : ℕ) → k < length rs → get_or rs k 0 ≤ 4

-- a symbol of rank 0, with which a tree can end
pub record Leaf (rs : List ℕ) : Type 0 where
  pub symbol : ℕ
  pub there : symbol < length rs
  pub rank : get_or rs symbol 0 ≡ 0

-- one byte P, the ranks of the P input symbols, one byte B, the ranks of the B output symbols, and nothing after
unfoldable pub stock : List ℕ → List ℕ → List ℕ
stock ins outs = length ins ∷ (ins ++ length outs ∷ outs)

-- the two lists of ranks in a file
unfoldable pub inputs : List ℕ → List ℕ
inputs s = take (get_or s 0 0) (drop 1 s)

unfoldable pub outputs : List ℕ → List ℕ
outputs s = drop (get_or s 0 0 + 2) s

-- s is such a file, within the limits
pub record Alphabets (s : List ℕ) : Type 0 where
  pub coded : stock (inputs s) (outputs s) ≡ s
  pub ins : Ranks 16 (inputs s)
  pub outs : Ranks 64 (outputs s)
  pub leaf : Leaf (inputs s)

-- refusal 2
abbrev pub alphabet_check : List ℕ → Checks → Checks
alphabet_check s rest = check 2 (Alphabets s) rest
