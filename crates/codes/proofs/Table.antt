-- The table of all codes: its entries, and the search for one.
-- Assumes nothing.
use Prim.Native.Nat.{ℕ, ◌<◌}
use native.Mathlib.Omega.{arith}
use mathlib.Core.List.{List, []}
use mathlib.Core.Path.{◌≡◌, refl}
use lib.ListN.{length, get_or}
use Rattle.std.specs.Prelude.{Some}
use Rattle.std.specs.List.{position_or_len}
use Rattle.std.specs.Bool.{Decides}
use Rattle.std.specs.Str.{bytes_eq}
use Rattle.std.proofs.lemmas.List.FromFn.{length-map-range_with_len, get_or-map-range_with_len}
use Rattle.std.proofs.lemmas.List.Sums.{position_or_len_is}
use Rattle.std.proofs.lemmas.Slice.Eq.{bytes_eq-Decides}
use Rattle.codes.specs.Codes.{symbol_code}
use Rattle.codes.specs.Inner.Table.{coded, code_table, symbol_with}

pub table_long : length code_table ≡ 64
unfolding coded
table_long = length-map-range_with_len symbol_code 0 64

-- a table that has the codes of the first n symbols has at each place the code of its symbol
pub coded_at : (n : ℕ) (table : List (List ℕ)) → table ≡ coded n → (k : ℕ) → k < n → get_or table k [] ≡ symbol_code k
unfolding coded
coded_at n table t k h = rw t (get_or-map-range_with_len symbol_code 0 n k k [] h (omega arith))

-- a symbol whose code is that of no other one is found by it
pub found_by_code : (k : ℕ) → k < 64 → ((j : ℕ) → symbol_code j ≡ symbol_code k → j ≡ k) → symbol_with (symbol_code k) ≡ Some k
unfolding symbol_with
found_by_code k h f =
    let w = symbol_code k in
    let same : (x : List ℕ) → Decides (bytes_eq x w) (x ≡ w) = λ x. bytes_eq-Decides x w in
    let n : position_or_len (λ c. bytes_eq c w) code_table ≡ k =
    position_or_len_is (λ c. bytes_eq c w) code_table k [] (omega (arith, table_long))
    (λ j l. grind (arith, f j, coded_at 64 code_table refl j (omega arith), same (get_or code_table j [])))
    (λ l. (same (get_or code_table k [])).1 (coded_at 64 code_table refl k h)) in
    grind (arith, n, table_long)
