-- What measuring a tree answers: where it ends, counted in letters, and how many levels it has.
use Rattle.std.specs.Prelude.{ℕ, zero, suc, ◌+◌, ◌≤◌, ◌<◌, max, Bool, true, false, List, [], ◌∷◌, ◌≡◌, leb, length, get_or, drop, Option, Some, None}
use Rattle.theory.specs.Term.{Terms, none, more}
use Rattle.theory.specs.Size.{size, levels}
use Rattle.theory.specs.Inner.Forests.{letters}
use Rattle.trees.specs.Inner.Decode.{Letter, forest, first, Whole}
use Rattle.trees.specs.Inner.Symbols.{tree, IsTree}
use Rattle.trees.specs.declared.tree.Extent.{Extent}

-- a tree that ends at e and has l levels
abbrev pub some_extent : ℕ → ℕ → Option Extent
some_extent e l = Some (record { end = e; levels = l })

abbrev pub tree_if : Bool → Option Extent → Option Extent
tree_if true r = r
tree_if false r = None

-- of the trees from position at on, the first, if it has at most `room` levels
unfoldable pub measured : {A : Type 0} → ℕ → ℕ → Terms A → Option Extent
measured room at none = None
measured room at (more t ts) = tree_if (leb (levels t) room) (some_extent (at + letters t) (levels t))

-- where the tree at position k ends
abbrev pub end_at : List ℕ → List ℕ → ℕ → ℕ
end_at ins s k = k + size (tree ins (drop k s))

-- the table holds these ends, from position a up to e
abbrev pub Ends : List ℕ → List ℕ → List ℕ → ℕ → ℕ → Type 0
Ends ins s ends a e = (k : ℕ) → a ≤ k → k < e → get_or ends k 0 ≡ end_at ins s k

-- what measuring all of s answers, from position at on: it is one tree, which ends where s does, or it is none
pub record MeasuredWhole {A X : Type 0} (f : X → Letter A) (s : List X) (at : ℕ) (r : Option Extent) : Type 0 where
  pub whole : (e l : ℕ) → r ≡ some_extent e l → Whole f s × (e ≡ at + length s) × (l ≡ levels (first (forest f s)))
  pub none : r ≡ None → Whole f s → ⊥

-- s is one tree of at most so many nodes and levels
pub record Within (nodes most : ℕ) (ranks s : List ℕ) : Type 0 where
  pub one : IsTree ranks s
  pub small : length s ≤ nodes
  pub few_levels_lem : levels (tree ranks s) ≤ most

-- what measuring all of s answers
pub record MeasuredWithin (nodes most : ℕ) (ranks s : List ℕ) (r : Option Extent) : Type 0 where
  pub whole : (e l : ℕ) → r ≡ some_extent e l → Within nodes most ranks s × (e ≡ size (tree ranks s)) × (l ≡ levels (tree ranks s))
  pub none : r ≡ None → Within nodes most ranks s → ⊥

-- s is one input tree within the limits
abbrev pub WholeTree : List ℕ → List ℕ → Type 0
WholeTree = Within 4096 512

abbrev pub MeasuredAll : List ℕ → List ℕ → Option Extent → Type 0
MeasuredAll = MeasuredWithin 4096 512

-- the first n entries of a table, the last first
unfoldable pub noted : List ℕ → ℕ → List ℕ
noted table zero = []
noted table (suc n) = get_or table n 0 ∷ noted table n

-- the most of the first n numbers
unfoldable pub most : ℕ → List ℕ → ℕ
most zero l = 0
most (suc n) [] = 0
most (suc n) (x ∷ l) = max x (most n l)
