-- The alphabets of the joined transducer, written as a file: the inputs of the first stock and the outputs of the second.
-- Assumes nothing.
use Prim.Native.Nat.{ℕ, suc, ◌+◌, ◌-◌, ◌≤◌}
use native.Mathlib.Omega.{arith}
use mathlib.Core.List.{List, ◌∷◌}
use mathlib.Core.Path.{◌≡◌, sym, ap, ap₂, ◌∙◌}
use lib.ListN.{length, set, length-append}
use lib.Seq.{sets, length-sets}
use Rattle.trees.specs.Alphabets.{Alphabets, inputs, outputs, stock as stockFile}
use Rattle.formats.proofs.Laws.{written_take}
use Rattle.formats.proofs.Writing.{sets-append}
use Rattle.join.specs.Inner.Parts.{StockJoined}

module _ (ins outs area : List ℕ) where
  -- how long the file is
  stock_size : length (stockFile ins outs) ≡ 2 + length ins + length outs
  unfolding stockFile
  stock_size = simp length-append (omega arith)

  -- it is written in four steps
  stock_put : {area' area'' : List ℕ} → area' ≡ sets (set area 0 (length ins)) 1 ins → area'' ≡ sets (set area' (2 + length ins - 1) (length outs)) (2 + length ins) outs → area'' ≡ sets area 0 (stockFile ins outs)
  unfolding stockFile
  stock_put {area'} e f =
      let p : 2 + length ins - 1 ≡ 1 + length ins = omega arith in
      let q : 2 + length ins ≡ suc (1 + length ins) = omega arith in
      f ∙ ap₂ (λ i j. sets (set area' i (length outs)) j outs) p q ∙ ap (λ l. sets (set l (1 + length ins) (length outs)) (suc (1 + length ins)) outs) e ∙ sym (sets-append ins (length outs ∷ outs) (set area 0 (length ins)) 1)

module _ {first second ins outs : List ℕ} (A : Alphabets first) (B : Alphabets second) (i : ins ≡ inputs first) (o : outs ≡ outputs second) where
  -- there are few symbols
  pub inputs_few : length ins ≤ 16
  inputs_few = omega (arith, A.ins.few, ap length i)

  pub outputs_few : length outs ≤ 64
  outputs_few = omega (arith, B.outs.few, ap length o)

  -- the file stands at the start of the area
  pub stock_joined : (area : List ℕ) {area' area'' : List ℕ} → length area ≡ 82 → area' ≡ sets (set area 0 (length ins)) 1 ins → area'' ≡ sets (set area' (2 + length ins - 1) (length outs)) (2 + length ins) outs
      → StockJoined first second area'' (2 + length ins + length outs)
  stock_joined area {area'' = area''} l e f = record {
    inside = omega (arith, inputs_few, outputs_few, ap length (stock_put ins outs area e f), length-sets area 0 (stockFile ins outs));
    coded = written_take (stockFile ins outs) area area'' (2 + length ins + length outs) (sym (stock_size ins outs area)) (omega (arith, stock_size ins outs area, inputs_few, outputs_few)) (stock_put ins outs area e f) ∙ ap₂ stockFile i o;
  }
