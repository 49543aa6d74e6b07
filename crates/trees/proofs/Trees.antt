-- Input trees in the terms of the promise: bytes are measured as one tree exactly if they are the code of an input tree, and of no other.
-- Assumes nothing.
use Prim.Native.Nat.{ℕ}
use native.Mathlib.Omega.{arith}
use mathlib.Core.Path.{◌≡◌, sym, ap, ◌∙◌, fun_ext}
use mathlib.Core.List.{List, [], ◌∷◌}
use Rattle.theory.specs.Size.{size, levels}
use Rattle.theory.specs.Term.{Term, Tree, bind}
use Rattle.trees.specs.Code.{preorder, code}
use Rattle.trees.specs.Inner.Decode.{forest, first, Over}
use Rattle.trees.specs.Inner.Symbols.{symbol_of, trees, tree, IsTree}
use Rattle.trees.specs.Inner.Measured.{some_extent, WholeTree, MeasuredAll}
use Rattle.trees.specs.Tree.{InputTree}
use Rattle.trees.specs.declared.tree.Extent.{Extent}
use Rattle.std.specs.Prelude.{Option, None}
use Rattle.trees.proofs.Codes.{preorder_bind, reads_back, exactly}
use Rattle.trees.proofs.Extents.{whole_size}
use Rattle.trees.proofs.Letters.{faithful_symbols, over_tree, ranked_tree}

-- the code of a substitution: each variable is replaced by the code of what f gives
pub code_bind : {A : Type 0} (t : Term A) (f : A → Tree) → code (bind t f) ≡ preorder (λ a. code (f a)) (λ k. k) t
code_bind t f = preorder_bind (λ x. absurd x) (λ k. k) f t

-- a ground tree has no variable to spell
ground : {X : Type 0} (g g' : ⊥ → List X) (y : ℕ → X) (d : Tree) → preorder g y d ≡ preorder g' y d
ground g g' y d = ap (λ h. preorder h y d) (fun_ext (λ x. absurd x))

-- ---- without the limits
abbrev pub OverIns : List ℕ → Tree → Type 0
OverIns ins d = Over (symbol_of ins) (λ x. absurd x) (λ k. k) d

module _ (ins s : List ℕ) where
  -- the code of a tree over the alphabet is read as one tree, and it is that tree
  pub coded_whole : (d : Tree) → OverIns ins d → code d ≡ s → IsTree ins s × (tree ins s ≡ d)
  unfolding tree trees
  coded_whole d o e =
      let w = ground (λ a. absurd a ∷ []) (λ x. absurd x) (λ k. k) d ∙ e in
      ((exactly (symbol_of ins) (λ x. absurd x) (λ k. k) (faithful_symbols ins) 0 s).1 (d, o, w), ap (λ l. first (forest (symbol_of ins) l)) (sym w) ∙ reads_back (symbol_of ins) (λ x. absurd x) (λ k. k) d o)

  -- what is read as one tree is the code of the tree that is read
  pub whole_coded : IsTree ins s → OverIns ins (tree ins s) × (code (tree ins s) ≡ s)
  whole_coded W =
      let w = (exactly (symbol_of ins) (λ x. absurd x) (λ k. k) (faithful_symbols ins) 0 s).0 W in
      let c = ground (λ x. absurd x) (λ a. absurd a ∷ []) (λ k. k) w.0 ∙ w.2 in
      let e = (coded_whole w.0 w.1 c).1 in
      (rw e w.1, ap code e ∙ c)

-- ---- within the limits
module _ {ins s : List ℕ} where
  pub whole_input : WholeTree ins s → InputTree ins s (tree ins s)
  whole_input W =
      let w = whole_coded ins s W.one in
      record { ranked = ranked_tree ins (tree ins s) w.0; coded = w.1; small = omega (arith, whole_size ins s W.one, W.small); few_levels_lem = W.few_levels_lem }

  pub input_whole : {d : Tree} → InputTree ins s d → WholeTree ins s × (tree ins s ≡ d)
  input_whole {d} I =
      let w = coded_whole ins s d (over_tree ins d I.ranked) I.coded in
      (record { one = w.0; small = omega (arith, whole_size ins s w.0, ap size w.1, I.small); few_levels_lem = omega (arith, ap levels w.1, I.few_levels_lem) }, w.1)

  -- bytes are the code of at most one input tree
  pub input_unique : {d d' : Tree} → InputTree ins s d → InputTree ins s d' → d ≡ d'
  input_unique I I' = sym (input_whole I).1 ∙ (input_whole I').1

-- ---- what measuring all of s says
module _ {ins s : List ℕ} {r : Option Extent} (M : MeasuredAll ins s r) where
  pub measured_tree : {e l : ℕ} → r ≡ some_extent e l → (d : Tree) × (InputTree ins s d × (e ≡ size d) × (l ≡ levels d))
  measured_tree {e} {l} q = let w = M.whole e l q in (tree ins s, (whole_input w.0, w.1, w.2))

  pub measured_none : r ≡ None → (d : Tree) × InputTree ins s d → ⊥
  measured_none q w = M.none q (input_whole w.1).0
