-- The lines of the program `sheets` (01), to the byte.
use Rattle.std.specs.Prelude.{ℕ, zero, suc, ◌+◌, ◌/◌, ◌%◌, Bool, true, false, List, [], ◌∷◌, ◌++◌, ltb}
use Rattle.codes.specs.Codes.{symbol_code}

-- ---- numbers in decimal, without zeros in front: at most f + 1 digits, which a number below 10 ^ (f + 1) needs at most
abbrev pub digits_if : Bool → List ℕ → List ℕ → List ℕ
digits_if true one more = one
digits_if false one more = more

unfoldable pub decimal : ℕ → ℕ → List ℕ
decimal zero n = (48 + n) ∷ []
decimal (suc f) n = digits_if (ltb n 10) ((48 + n) ∷ []) (decimal f (n / 10) ++ ((48 + n % 10) ∷ []))

-- a number below 10,000
abbrev pub number_text : ℕ → List ℕ
number_text n = decimal 3 n

-- numbers in decimal with the byte s between them
unfoldable pub rest : ℕ → List ℕ → List ℕ
rest s [] = []
rest s (x ∷ xs) = s ∷ number_text x ++ rest s xs

unfoldable pub separated : ℕ → List ℕ → List ℕ
separated s [] = []
separated s (x ∷ xs) = number_text x ++ rest s xs

-- ---- words: "refused ", "first ", "second ", "alike", "differ ", " at "
abbrev pub refused_word : List ℕ
refused_word = 114 ∷ 101 ∷ 102 ∷ 117 ∷ 115 ∷ 101 ∷ 100 ∷ 32 ∷ []

abbrev pub first_word : List ℕ
first_word = 102 ∷ 105 ∷ 114 ∷ 115 ∷ 116 ∷ 32 ∷ []

abbrev pub second_word : List ℕ
second_word = 115 ∷ 101 ∷ 99 ∷ 111 ∷ 110 ∷ 100 ∷ 32 ∷ []

abbrev pub alike_word : List ℕ
alike_word = 97 ∷ 108 ∷ 105 ∷ 107 ∷ 101 ∷ []

abbrev pub differ_word : List ℕ
differ_word = 100 ∷ 105 ∷ 102 ∷ 102 ∷ 101 ∷ 114 ∷ 32 ∷ []

abbrev pub at_word : List ℕ
at_word = 32 ∷ 97 ∷ 116 ∷ 32 ∷ []

abbrev pub end_of_line : List ℕ
end_of_line = 10 ∷ []

-- ---- lines
-- "refused 2"
abbrev pub refused_line : ℕ → List ℕ
refused_line k = refused_word ++ number_text k ++ end_of_line

-- "first 1 7": a word, the states and the marks (01: passes and marks of the clean sheet)
abbrev pub sizes_line : List ℕ → ℕ → ℕ → List ℕ
sizes_line word states marks = word ++ number_text states ++ (32 ∷ number_text marks) ++ end_of_line

abbrev pub alike_line : List ℕ
alike_line = alike_word ++ end_of_line

-- an address (01: place): its numbers with dots, "-" for the root
abbrev pub place_text : List ℕ → List ℕ
place_text [] = 45 ∷ []
place_text (x ∷ v) = separated 46 (x ∷ v)

-- "differ 1 at 1 A2 A1": the symbols of the tree with commas, the address, and the codes of the two symbols there, the first transducer's first
abbrev pub differ_line : List ℕ → List ℕ → ℕ → ℕ → List ℕ
differ_line tree v b b' = differ_word ++ separated 44 tree ++ at_word ++ place_text v ++ (32 ∷ symbol_code b) ++ (32 ∷ symbol_code b') ++ end_of_line
