-- What the function that writes all codes promises.
use Rattle.std.specs.Prelude.{Result, ℕ, ◌≤◌, List, ◌≡◌, length}
use Rattle.trees.specs.declared.refusal.Refusal.{Refusal}
use Rattle.trees.specs.Refusal.{outcome_of, done, check, Judged}
use Rattle.std.proofs.lemmas.List.Edits.{sets}
use Rattle.codes.specs.Codes.{codes}

-- the area of the codes: two bytes for each of 64 output symbols
abbrev pub codes_area : ℕ
codes_area = 128

-- the area begins with the codes of all output symbols, and keeps what stands behind them
abbrev pub WritesCodes : List ℕ → List ℕ → Result (Unit {0}) Refusal → Type 0
WritesCodes area area' r = Judged (area' ≡ area) (λ v. area' ≡ sets area 0 (codes 64)) (check 1 (codes_area ≤ length area) done) (outcome_of r)
