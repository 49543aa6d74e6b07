-- What measuring the code of an output tree answers, and how many bytes the tags of a node have.
use Rattle.std.specs.Prelude.{ℕ, zero, suc, List, Option}
use Rattle.trees.specs.Inner.Measured.{Within, MeasuredWithin}
use Rattle.trees.specs.declared.tree.Extent.{Extent}

-- s is the code of one output tree of at most 4,096 nodes, and so levels
abbrev pub WholeOutput : List ℕ → List ℕ → Type 0
WholeOutput = Within 4096 4096

abbrev pub MeasuredOutput : List ℕ → List ℕ → Option Extent → Type 0
MeasuredOutput = MeasuredWithin 4096 4096

-- how many bytes the tags of a node with so many children have
abbrev pub node_size : ℕ → ℕ
node_size zero = 5
node_size (suc n) = 9
