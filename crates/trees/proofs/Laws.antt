-- What the promises about alphabets and input trees come to. Read this file first: it cites the promises and nothing of the code.
-- Assumes nothing.
use Prim.Native.Nat.{ℕ}
use mathlib.Core.List.{List}
use mathlib.Core.Path.{◌≡◌, ap, ap₂, ◌∙◌}
use lib.ListN.{length}
use Rattle.std.specs.Prelude.{Result, Ok}
use Rattle.theory.specs.Size.{size, levels}
use Rattle.theory.specs.Term.{Tree}
use Rattle.trees.specs.Alphabets.{Ranks, Leaf, stock, Alphabets, inputs}
use Rattle.trees.specs.Answers.{ReadsAlphabets, ReadsTree}
use Rattle.trees.specs.Refusal.{Holds}
use Rattle.trees.specs.Tree.{InputTree}
use Rattle.trees.specs.declared.alphabet.AlphabetSizes.{AlphabetSizes}
use Rattle.trees.specs.declared.refusal.Refusal.{Refusal}
use Rattle.trees.specs.declared.tree.TreeSize.{TreeSize}
use Rattle.trees.proofs.Judging.{accepted_holds, must_answer}
use Rattle.trees.proofs.Stock.{stock_reads, stock_reads_outputs, stock_right}
use Rattle.trees.proofs.Trees.{input_unique}

-- ---- the file of two alphabets
-- the file of two alphabets within the limits is accepted, with the numbers of their symbols
pub stock_accepted : {ins outs : List ℕ} → Ranks 16 ins → Ranks 64 outs → Leaf ins → (r : Result AlphabetSizes Refusal) → ReadsAlphabets (stock ins outs) r → r ≡ Ok (record { inputs = length ins; outputs = length outs })
unfolding Holds
stock_accepted {ins} {outs} I O L r J =
    let w = must_answer (stock_right I O L, tt) J in
    w.1.0 ∙ ap₂ (λ p b. Ok (record { inputs = p; outputs = b })) (w.1.1.0 ∙ ap length (stock_reads ins outs)) (w.1.1.1 ∙ ap length (stock_reads_outputs ins outs))

-- ---- the file of an input tree
module _ (stock s : List ℕ) where
  -- a file is accepted exactly if the stock is one and the file is the code of a tree over it within the limits
  pub tree_accepted : (v : TreeSize) → ReadsTree stock s (Ok v) → Alphabets stock × ((d : Tree) × (InputTree (inputs stock) s d × (v.nodes ≡ size d) × (v.levels ≡ levels d)))
  unfolding Holds
  tree_accepted v J = let w = accepted_holds J in (w.0.0, w.1)

  pub tree_read_lem : Alphabets stock → (d : Tree) → InputTree (inputs stock) s d → (r : Result TreeSize Refusal) → ReadsTree stock s r → r ≡ Ok (record { nodes = size d; levels = levels d })
  unfolding Holds
  tree_read_lem A d I r J =
      let w = must_answer (A, ((d, I), tt)) J in
      let u : w.1.1.0 ≡ d = input_unique w.1.1.1.0 I in
      w.1.0 ∙ ap₂ (λ n l. Ok (record { nodes = n; levels = l })) (w.1.1.1.1 ∙ ap size u) (w.1.1.1.2 ∙ ap levels u)
