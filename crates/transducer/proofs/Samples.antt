-- Samples of document 01: the alphabets S and the transducer T, its file and its outputs. What translation then answers is in Laws.
-- Assumes nothing.
use Prim.Native.Nat.{ℕ, suc, ◌≤◌, ◌<◌}
use native.Mathlib.Omega.{arith}
use mathlib.Core.List.{List, [], ◌∷◌}
use mathlib.Core.Path.{◌≡◌, refl}
use lib.ListN.{get_or}
use Rattle.theory.specs.Size.{size, levels}
use Rattle.theory.specs.Term.{Term, var, node, none, more, Tree, bind, count}
use Rattle.theory.specs.Transducer.{Transducer, translate, output, closed, run, pick}
use Rattle.trees.specs.Alphabets.{Alphabets, stock, inputs, outputs}
use Rattle.trees.specs.Code.{Ranked, preorder, code, Call}
use Rattle.formats.specs.Samples.{S, T}
use Rattle.formats.specs.Sheet.{Sheet, count_bytes, mark_bytes, body_bytes, each, terms}
use Rattle.trees.specs.Tree.{InputTree}
use Rattle.transducer.specs.Output.{Output}

-- ---- P holds of 0, of 1, .. and of n - 1: so of each number below n
abbrev pub Each : ℕ → (ℕ → Type 0) → Type 0
Each ℕ.zero P = Unit {0}
Each (suc n) P = P 0 × Each n (λ k. P (suc k))

pub below : (n : ℕ) (P : ℕ → Type 0) → Each n P → (k : ℕ) → k < n → P k
below ℕ.zero P w k h = absurd (omega arith)
below (suc n) P w ℕ.zero h = w.0
below (suc n) P w (suc k) h = below n (λ k. P (suc k)) w.1 k (omega arith)

-- ---- the alphabets
pub S-alphabets : Alphabets S
unfolding stock inputs outputs
S-alphabets = record {
  coded = refl;
  ins = record { some = omega arith; few = omega arith; low = below 2 _ (omega arith) };
  outs = record { some = omega arith; few = omega arith; low = below 2 _ (omega arith) };
  leaf = record { symbol = 1; there = omega arith; rank = refl };
}

-- ---- the transducer
-- f(q(x), q(x))
unfoldable pub twice : Term (ℕ × ℕ)
twice = node 0 (more (var (1, 0)) (more (var (1, 0)) none))

-- the right-hand sides of its one state
unfoldable pub line : ℕ → Term (ℕ × ℕ)
line ℕ.zero = twice
line (suc a) = node 1 none

unfoldable pub T-machine : Transducer ℕ
T-machine = record { sort = λ q. 0; initial = twice; rhs = λ q a. line a }

line_ranked : (a : ℕ) → a < 2 → Ranked (Call 1 (get_or (inputs S) a 0)) (outputs S) (line a)
unfolding twice line inputs outputs Ranked count
line_ranked = below 2 _ (omega arith)

-- T is its file
pub T-sheet : Sheet (inputs S) (outputs S) T 1 T-machine
unfolding T-machine twice line inputs outputs Ranked count preorder count_bytes mark_bytes body_bytes each terms
T-sheet = record {
  counts = 0 ∷ 3 ∷ 0 ∷ 3 ∷ 0 ∷ 1 ∷ [];
  bytes = 0 ∷ 0 ∷ 1 ∷ 0 ∷ 1 ∷ 0 ∷ 0 ∷ 0 ∷ 1 ∷ 0 ∷ 1 ∷ 0 ∷ 0 ∷ 1 ∷ [];
  coded = refl;
  encodes = record {
    over = record { initial = omega arith; rhs = λ q a h. line_ranked a; sort = λ q h. refl };
    contents = record { states = omega arith; bodies = refl; some = below 3 _ (omega arith); few = below 3 _ (omega arith); all = omega arith };
    counts_coded = refl;
    marks_coded = refl;
  };
}

-- ---- its outputs
-- e
unfoldable pub leaf : Tree
leaf = node 1 none

-- a(e)
unfoldable pub chain : Tree
chain = node 0 (more leaf none)

pub leaf_design : InputTree (inputs S) (1 ∷ []) leaf
unfolding leaf inputs Ranked count preorder size levels
leaf_design = record { ranked = omega arith; coded = refl; small = omega arith; few_levels_lem = omega arith }

pub chain_design : InputTree (inputs S) (0 ∷ 1 ∷ []) chain
unfolding chain leaf inputs Ranked count preorder size levels
chain_design = record { ranked = omega arith; coded = refl; small = omega arith; few_levels_lem = omega arith }

pub T-output : {design : List ℕ} {d : Tree} → InputTree (inputs S) design d → Output S T design (translate T-machine d)
T-output {d = d} D = record { states = 1; machine = T-machine; input = d; is_sheet = T-sheet; is_tree = D; given = refl }

pub on_leaf : code (translate T-machine leaf) ≡ 0 ∷ 1 ∷ 1 ∷ []
unfolding T-machine twice line leaf bind translate output closed run pick preorder
on_leaf = refl

pub on_chain : code (translate T-machine chain) ≡ 0 ∷ 0 ∷ 1 ∷ 1 ∷ 0 ∷ 1 ∷ 1 ∷ []
unfolding T-machine twice line leaf chain bind translate output closed run pick preorder
on_chain = refl

pub room_chain : size (translate T-machine chain) ≤ 7
unfolding T-machine twice line leaf chain bind translate output closed run pick size
room_chain = omega arith

pub few_levels_chain : levels (translate T-machine chain) ≤ 256
unfolding T-machine twice line leaf chain bind translate output closed run pick levels
few_levels_chain = omega arith
