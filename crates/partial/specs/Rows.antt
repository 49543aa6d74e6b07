-- Samples of what files of document 01 lay for partial input trees, as rows. In the codes a variable is the first byte outside the input symbols, and a call the first outside the output symbols: under S and `pairs` both are 2.
use Rattle.std.specs.Prelude.{ℕ, List, [], ◌∷◌, ◌≡◌, length}
use Rattle.theory.specs.Term.{Term}
use Rattle.trees.specs.Alphabets.{inputs, outputs}
use Rattle.formats.specs.Samples.{S, T, T', pairs, M}
use Rattle.partial.specs.Partial.{Lays, partial_code}

-- the file of a transducer lays this for a partial input tree
pub data Row : Type 0 where
  lays : (stock sheet design laid : List ℕ) → Row

abbrev pub Says : Row → Type 0
Says (lays stock sheet design laid) = (d : Term ℕ) × ((t : Term (ℕ × ℕ)) × (Lays stock sheet d t × (partial_code (length (inputs stock)) d ≡ design) × (partial_code (length (outputs stock)) t ≡ laid)))

abbrev pub AllSay : List Row → Type 0
AllSay [] = Unit {0}
AllSay (row ∷ rows) = Says row × AllSay rows

abbrev pub rows : List Row
rows =
    -- one variable: T' lays no symbol, T already f(_, _)
    lays S T' (2 ∷ []) (2 ∷ [])
    ∷ lays S T (2 ∷ []) (0 ∷ 2 ∷ 2 ∷ [])
    -- a(_): T' lays f(_, _), T already f(f(_, _), f(_, _))
    ∷ lays S T' (0 ∷ 2 ∷ []) (0 ∷ 2 ∷ 2 ∷ [])
    ∷ lays S T (0 ∷ 2 ∷ []) (0 ∷ 0 ∷ 2 ∷ 2 ∷ 0 ∷ 2 ∷ 2 ∷ [])
    -- a(e), without a variable: both give the output tree
    ∷ lays S T' (0 ∷ 1 ∷ []) (0 ∷ 0 ∷ 1 ∷ 1 ∷ 0 ∷ 1 ∷ 1 ∷ [])
    ∷ lays S T (0 ∷ 1 ∷ []) (0 ∷ 0 ∷ 1 ∷ 1 ∷ 0 ∷ 1 ∷ 1 ∷ [])
    -- a(_, _), two variables, of which M meets the first: d(_, d(_, e))
    ∷ lays pairs M (0 ∷ 2 ∷ 2 ∷ []) (0 ∷ 2 ∷ 0 ∷ 2 ∷ 1 ∷ [])
    ∷ []
