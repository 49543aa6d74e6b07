-- The codes of output symbols (01: the codes of blocks).
use Rattle.std.specs.Prelude.{ℕ, zero, suc, ◌+◌, ◌/◌, ◌%◌, List, [], ◌∷◌, ◌++◌}

-- the code of output symbol k: a letter from A on for k div 8, a digit for k mod 8 plus 1
abbrev pub symbol_code : ℕ → List ℕ
symbol_code k = (65 + k / 8) ∷ (49 + k % 8) ∷ []

-- those of the first n output symbols, one behind the other
unfoldable pub codes : ℕ → List ℕ
codes zero = []
codes (suc n) = codes n ++ symbol_code n
