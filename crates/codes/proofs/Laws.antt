-- What the promise of the codes comes to.
-- Assumes nothing.
use Rattle.std.specs.Prelude.{Result, Some}
use Rattle.trees.specs.declared.refusal.Refusal.{Refusal}
use Prim.Native.Nat.{ℕ, zero, suc, ◌+◌, ◌*◌, ◌≤◌, ◌<◌}
use native.Mathlib.Nat.{div-add-mod', le_of_suc-le-suc, eq-or-lt_of_le}
use native.Mathlib.Omega.{arith}
use mathlib.Core.List.{List, ◌++◌}
use mathlib.Core.Logic.{⊎_elim}
use mathlib.Core.Path.{◌≡◌, ap, ◌∙◌}
use lib.ListN.{length, get_or, take, drop, length-drop}
use lib.Seq.{sets, sets-eq, take-append-le, drop-append-le, drop_at}
use Rattle.trees.specs.Refusal.{Holds}
use Rattle.trees.proofs.Judging.{must_accept}
use Rattle.codes.specs.Codes.{symbol_code, codes}
use Rattle.codes.specs.Answers.{codes_area, WritesCodes}
use Rattle.codes.specs.Inner.Table.{symbol_with}
use Rattle.codes.proofs.Table.{found_by_code}
use Rattle.codes.proofs.Writing.{codes_long}

-- no two symbols have one code
pub code_unique : (j k : ℕ) → symbol_code j ≡ symbol_code k → j ≡ k
code_unique j k e = omega (arith, ap (λ x. get_or x 0 0) e, ap (λ x. get_or x 1 0) e, div-add-mod' j 8, div-add-mod' k 8)

pub code_found : (k : ℕ) → k < 64 → symbol_with (symbol_code k) ≡ Some k
code_found k h = found_by_code k h (λ j. code_unique j k)

-- among the codes of the first n symbols, that of symbol k stands from byte 2 k on
pub codes_at : (n k : ℕ) → k < n → take 2 (drop (2 * k) (codes n)) ≡ symbol_code k
unfolding codes
codes_at zero k h = absurd (omega arith)
codes_at (suc n) k h = ⊎_elim last (λ l. before l (codes_at n k l)) (eq-or-lt_of_le (le_of_suc-le-suc h))
  where
    last : k ≡ n → take 2 (drop (2 * k) (codes n ++ symbol_code n)) ≡ symbol_code k
    last e = rw (e, drop_at (codes n) (symbol_code n) (2 * n) (codes_long n))

    before : k < n → take 2 (drop (2 * k) (codes n)) ≡ symbol_code k → take 2 (drop (2 * k) (codes n ++ symbol_code n)) ≡ symbol_code k
    before l e =
        let d : 2 * k ≤ length (codes n) = omega (arith, codes_long n) in
        let t : 2 ≤ length (drop (2 * k) (codes n)) = omega (arith, codes_long n, length-drop (2 * k) (codes n)) in
        rw (drop-append-le (2 * k) (codes n) (symbol_code n) d, take-append-le 2 (drop (2 * k) (codes n)) (symbol_code n) t) e

-- in an area that is long enough, the code of each of the 64 symbols stands from twice its number on
pub written_at : (area area' : List ℕ) (r : Result (Unit {0}) Refusal) → WritesCodes area area' r → codes_area ≤ length area → (k : ℕ) → k < 64 → take 2 (drop (2 * k) area') ≡ symbol_code k
unfolding Holds
written_at area area' r W h k l =
    let w : area' ≡ sets area 0 (codes 64) = (must_accept (h, tt) W).1.1 in
    let n = codes_long 64 in
    let rest = drop (0 + length (codes 64)) area in
    let p : area' ≡ codes 64 ++ rest = w ∙ sets-eq (codes 64) area 0 (omega arith) in
    rw (p, drop-append-le (2 * k) (codes 64) rest (omega arith), take-append-le 2 (drop (2 * k) (codes 64)) rest (omega (arith, length-drop (2 * k) (codes 64)))) (codes_at 64 k l)
