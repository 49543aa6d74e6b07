-- The codes of all output symbols, written one behind the other.
-- Assumes nothing.
use Prim.Native.Nat.{ℕ, zero, suc, ◌+◌, ◌*◌}
use native.Mathlib.Numerals.{add-one}
use native.Mathlib.Omega.{arith}
use mathlib.Core.List.{List}
use mathlib.Core.Path.{◌≡◌, refl, sym, ◌∙◌}
use lib.ListN.{length, length-append}
use lib.Seq.{sets}
use Rattle.formats.proofs.Writing.{sets-append}
use Rattle.codes.specs.Codes.{symbol_code, codes}

-- two bytes each
pub codes_long : (n : ℕ) → length (codes n) ≡ 2 * n
unfolding codes
codes_long zero = refl
codes_long (suc n) = omega (arith, length-append (codes n) (symbol_code n), codes_long n)

-- the code of symbol k is written behind those before it
pub codes_more : (start : List ℕ) {area area' : List ℕ} (k : ℕ) → area ≡ sets start 0 (codes k) → area' ≡ sets area (2 * k) (symbol_code k) → area' ≡ sets start 0 (codes (k + 1))
unfolding codes
codes_more start {area} k e f =
    let p : 2 * k ≡ 0 + length (codes k) = omega (arith, codes_long k) in
    f ∙ rw (e, p, add-one) (sym (sets-append (codes k) (symbol_code k) start 0))
