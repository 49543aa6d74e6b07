-- The file of two alphabets: from its parts to the bytes and back, and what is learnt of it test by test.
-- Assumes nothing.
use Prim.Native.Nat.{ℕ, suc, ◌+◌, ◌-◌, ◌≤◌}
use native.Mathlib.Nat.{le_refl}
use native.Mathlib.Numerals.{add-one}
use native.Mathlib.Omega.{arith}
use mathlib.Core.List.{List, [], ◌∷◌}
use mathlib.Core.Path.{◌≡◌, sym, ap, ◌∙◌}
use lib.ListN.{length, get_or, take, drop, length-append, length-drop}
use lib.Seq.{take_all, take-append_seam, drop-append-add, get_or-append_seam, split_at, length-take-le}
use Rattle.trees.specs.Alphabets.{Ranks, Leaf, stock, inputs, outputs, Alphabets}

-- ---- the parts of a file
-- what `stock` writes is read back
pub stock_reads : (ins outs : List ℕ) → inputs (stock ins outs) ≡ ins
unfolding stock inputs
stock_reads ins outs = take-append_seam ins (length outs ∷ outs)

pub stock_reads_outputs : (ins outs : List ℕ) → outputs (stock ins outs) ≡ outs
unfolding stock outputs
stock_reads_outputs ins outs = let e : length ins + 2 ≡ suc (length ins + 1) = omega arith in rw e (drop-append-add ins (length outs ∷ outs) 1)

-- two alphabets within the limits have a file
pub stock_right : {ins outs : List ℕ} → Ranks 16 ins → Ranks 64 outs → Leaf ins → Alphabets (stock ins outs)
stock_right {ins} {outs} I O L =
    let i = sym (stock_reads ins outs) in let o = sym (stock_reads_outputs ins outs) in
    record { coded = rw (stock_reads, stock_reads_outputs); ins = rw i at I; outs = rw o at O; leaf = rw i at L }

-- the second count of a file, and its length
stock_count : (ins outs : List ℕ) → get_or (stock ins outs) (length ins + 1) 0 ≡ length outs
unfolding stock
stock_count ins outs = rw add-one (get_or-append_seam ins (length outs) outs 0)

stock_length : (ins outs : List ℕ) → length (stock ins outs) ≡ length ins + 2 + length outs
unfolding stock
stock_length ins outs = simp length-append (omega arith)

-- a file that its two counts fill is made of its parts
pub stock_coded : (s : List ℕ) {p : ℕ} → p ≡ get_or s 0 0 → p + 2 ≤ length s → get_or s (p + 1) 0 ≡ length s - (p + 2) → stock (inputs s) (outputs s) ≡ s
unfolding stock inputs outputs
stock_coded [] {p} e h c = let no_way : ⊥ = omega arith in absurd no_way
stock_coded (x ∷ t) {p} e h c =
    let two : x + 2 ≡ suc (suc x) = omega arith in
    let front : length (take x t) ≡ x = length-take-le x t (omega arith) in
    let count : get_or t x 0 ≡ suc (length t) - (x + 2) = rw (e, add-one) at c in
    let back : length (drop (suc x) t) ≡ get_or t x 0 = length-drop (suc x) t ∙ omega arith in
    rw (two, front, back) (ap (◌∷◌ x) (sym (split_at t x 0 (omega arith))))

-- ---- a file within the limits
module _ {s : List ℕ} (A : Alphabets s) where
  -- its two counts, and its length
  pub inputs_count : length (inputs s) ≡ get_or s 0 0
  unfolding stock
  inputs_count = ap (λ l. get_or l 0 0) A.coded

  pub outputs_count : {p : ℕ} → p ≡ get_or s 0 0 → get_or s (p + 1) 0 ≡ length (outputs s)
  outputs_count e = rw (e, ← inputs_count) (ap (λ l. get_or l (length (inputs s) + 1) 0) (sym A.coded) ∙ stock_count (inputs s) (outputs s))

  pub file_length : length s ≡ get_or s 0 0 + 2 + length (outputs s)
  file_length = omega (arith, ap length A.coded, stock_length (inputs s) (outputs s), inputs_count)

  pub few_inputs : length (inputs s) ≤ 16
  few_inputs = A.ins.few

-- ---- the parts as the program reads them
-- a part up to the end is the rest
pub to_end : (k : ℕ) (l : List ℕ) → take (length l - k) (drop k l) ≡ drop k l
to_end k l = take_all (length l - k) (drop k l) (simp length-drop (le_refl (length l - k)))

-- the part `&stock[1..p + 1]`, and the part `&stock[p + 2..]`
pub inputs_part : (s : List ℕ) {p : ℕ} → p ≡ get_or s 0 0 → take (p + 1 - 1) (drop 1 s) ≡ inputs s
unfolding inputs
inputs_part s {p} e = let q : p + 1 - 1 ≡ get_or s 0 0 = omega arith in rw q

pub outputs_part : (s : List ℕ) {p : ℕ} → p ≡ get_or s 0 0 → take (length s - (p + 2)) (drop (p + 2) s) ≡ outputs s
unfolding outputs
outputs_part s {p} e = to_end (p + 2) s ∙ ap (λ k. drop (k + 2) s) e

-- the tests, one by one, that make a file one of two alphabets
pub tested : (s : List ℕ) {p : ℕ} → p ≡ get_or s 0 0 → p + 2 ≤ length s → get_or s (p + 1) 0 ≡ length s - (p + 2)
    → Ranks 16 (take (p + 1 - 1) (drop 1 s)) → Ranks 64 (take (length s - (p + 2)) (drop (p + 2) s)) → Leaf (take (p + 1 - 1) (drop 1 s)) → Alphabets s
tested s e h c I O L = record {
  coded = stock_coded s e h c;
  ins = rw (inputs_part s e) at I;
  outs = rw (outputs_part s e) at O;
  leaf = rw (inputs_part s e) at L;
}
