-- What spelling a right-hand side of the joined transducer answers, where its letters were written to an area of 64: all of them stand there, or there are more.
-- Assumes nothing.
use lib.Seq.{length-sets}
use Prim.Native.Nat.{ℕ, ◌-◌}
use native.Mathlib.Omega.{arith}
use mathlib.Core.List.{List}
use Rattle.std.specs.Prelude.{Option, None, Some}
use mathlib.Core.Path.{◌≡◌, ap}
use lib.ListN.{length}
use Rattle.formats.proofs.Laws.{written_take}
use Rattle.runs.specs.Inner.Walked.{WroteLetters}
use Rattle.discovery.specs.Inner.Letters.{spelt}
use Rattle.theory.specs.Term.{Term}
use Rattle.discovery.specs.Inner.Discovering.{Spells}
use Rattle.discovery.proofs.Spelling.{spells_none, spells_span}

module _ {t : Term (ℕ × ℕ)} {before after : List ℕ} {r : Option ℕ} (W : WroteLetters (spelt t) 0 before after r) where
  pub spells_over : r ≡ None → Spells t after None
  spells_over e = spells_none (omega (arith, W.over e))

  pub spells_written : {n : ℕ} → length before ≡ 64 → r ≡ Some n → Spells t after (Some (record { from = 0; to = n }))
  spells_written {n} l e =
      let w = W.wrote n e in
      let d = W.end n e in
      let k : n - 0 ≡ n = omega arith in
      spells_span (record { from = 0; to = n }) (omega arith) (omega (arith, d, ap length w, length-sets before 0 (spelt t))) (rw k (written_take (spelt t) before after n (omega (arith, d)) (omega arith) w))
