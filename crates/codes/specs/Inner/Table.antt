-- The table of all codes, and the search for a code in it.
use Rattle.std.specs.Prelude.{ℕ, List, Option, map, position}
use Rattle.std.specs.List.{range_with_len}
use Rattle.std.specs.Str.{bytes_eq}
use Rattle.codes.specs.Codes.{symbol_code}

-- the codes of the first n output symbols, in order
unfoldable pub coded : ℕ → List (List ℕ)
coded n = map symbol_code (range_with_len 0 n)

-- the table of codes of all 64
abbrev pub code_table : List (List ℕ)
code_table = coded 64

-- the output symbol that has the code w
unfoldable pub symbol_with : List ℕ → Option ℕ
symbol_with w = position (λ c. bytes_eq c w) code_table
