-- How long the parts of an accepted file are.
-- Assumes nothing.
use Rattle.std.specs.Prelude.{Ok, Result}
use Rattle.trees.specs.declared.refusal.Refusal.{Refusal}
use Prim.Native.Nat.{ℕ, ◌+◌, ◌*◌, ◌-◌, ◌≤◌}
use native.Mathlib.Omega.{arith}
use mathlib.Core.List.{List, [], ◌∷◌}
use mathlib.Core.Path.{◌≡◌, refl, ap}
use lib.ListN.{length, length-append}
use Rattle.trees.specs.Alphabets.{inputs, outputs}
use Rattle.formats.specs.Answers.{ReadsFile}
use Rattle.formats.specs.Inner.Layout.{body_count}
use Rattle.trees.proofs.Judging.{accepted_holds}
use Rattle.formats.proofs.Sheets.{encodes_long}
use Rattle.formats.proofs.Verdicts.{accepted_long}
use Rattle.exports.specs.Exported.{FileParts}

-- a part of no length is empty
pub length_zero : (l : List ℕ) → length l ≡ 0 → l ≡ []
length_zero [] h = refl
length_zero (a ∷ l) h = absurd (omega arith)

-- a file of n states that was accepted, and where its counts end
module _ (stock s : List ℕ) (n end : ℕ) {r : Result ℕ Refusal} (J : ReadsFile stock s r) (e : r ≡ Ok n) (i : end ≡ 1 + 2 * body_count (inputs stock) n) where
  pub end_inside : end ≤ length s
  end_inside = omega (arith, i, accepted_long stock s n J e)

  pub parts_sized : FileParts stock s n (n, end - 1, length s - end)
  parts_sized =
      let w = accepted_holds (rw e at J) in
      let S = w.1.1 in
      let c : length S.counts ≡ 2 * body_count (inputs stock) n = encodes_long (inputs stock) (outputs stock) n S.counts S.bytes w.1.0 S.encodes in
      record { states = refl; machine = w.1.0; sheet = S; counts = omega (arith, i, c); marks = omega (arith, i, c, ap length S.coded, length-append S.counts S.bytes) }
