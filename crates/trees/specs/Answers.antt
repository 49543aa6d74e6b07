-- What the readers of alphabets and of an input tree answer: the promise about the values, or the refusal.
use Rattle.std.specs.Prelude.{ℕ, List, ◌≡◌, length, Result}
use Rattle.theory.specs.Size.{size, levels}
use Rattle.theory.specs.Term.{Tree}
use Rattle.trees.specs.Alphabets.{inputs, outputs, alphabet_check}
use Rattle.trees.specs.Refusal.{done, outcome_of, Judged}
use Rattle.trees.specs.Tree.{InputTree, tree_check}
use Rattle.trees.specs.declared.alphabet.AlphabetSizes.{AlphabetSizes}
use Rattle.trees.specs.declared.refusal.Refusal.{Refusal}
use Rattle.trees.specs.declared.tree.TreeSize.{TreeSize}

-- nothing is lent for writing
abbrev pub Nothing : Type 0
Nothing = Unit {0}

-- ---- reading alphabets: how many input and output symbols there are
abbrev pub ReadsAlphabets : List ℕ → Result AlphabetSizes Refusal → Type 0
ReadsAlphabets stock r = Judged Nothing (λ (v : AlphabetSizes). (v.inputs ≡ length (inputs stock)) × (v.outputs ≡ length (outputs stock))) (alphabet_check stock done) (outcome_of r)

-- ---- reading an input tree: its nodes and its levels
abbrev pub ReadsTree : List ℕ → List ℕ → Result TreeSize Refusal → Type 0
ReadsTree stock s r = Judged Nothing (λ (v : TreeSize). (d : Tree) × (InputTree (inputs stock) s d × (v.nodes ≡ size d) × (v.levels ≡ levels d))) (alphabet_check stock (tree_check stock s done)) (outcome_of r)
