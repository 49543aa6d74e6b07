-- The ends of subtrees, noted from the last node to the first: a node ends behind its children, whose ends are noted before its own.
-- Assumes nothing.
use Prim.Native.Nat.{ℕ, ◌+◌, ◌-◌, ◌≤◌, ◌<◌}
use native.Mathlib.Decide.{dec_lt}
use native.Mathlib.Omega.{arith}
use mathlib.Core.List.{List}
use mathlib.Core.Path.{◌≡◌, ap, ◌∙◌}
use lib.ListN.{length, get_or, drop, set, length-set}
use lib.Seq.{get_or-set_same, get_or-set_other}
use Rattle.theory.specs.Inner.Forests.{letters, letters_all}
use Rattle.trees.specs.Inner.Decode.{firsts, first}
use Rattle.trees.specs.Inner.Symbols.{symbol_of, trees, tree}
use Rattle.trees.specs.Inner.Measured.{end_at, Ends, WholeTree}
use Rattle.trees.proofs.Extents.{letters_size}
use Rattle.trees.proofs.Forest.{first_tree}
use Rattle.transducer.specs.Inner.Written.{Input, hop}
use Rattle.transducer.proofs.Places.{place_from, place_inside}
use Rattle.transducer.proofs.Walks.{NodeAt, node_at, by_letters}

-- the table has the end of each subtree from position k on
pub record NotedFrom (ins s ends : List ℕ) (k : ℕ) : Type 0 where
  pub whole : WholeTree ins s
  pub inside : k ≤ length s
  pub long : length s ≤ length ends
  pub right : Ends ins s ends k (length s)

pub all_noted : {ins s ends : List ℕ} → NotedFrom ins s ends 0 → Input ins s ends
unfolding trees
all_noted F = record { whole = F.whole.one.all; long = F.long; right = F.right }

-- the node in front of those that are noted
module _ {ins s ends : List ℕ} {k : ℕ} (F : NotedFrom ins s ends k) (some : 0 < k) where
  node_here : NodeAt ins s (k - 1)
  unfolding trees
  node_here = node_at ins s (k - 1) F.whole.one.all (omega (arith, F.inside))

  pub symbol_known : {a : ℕ} → a ≡ get_or s (k - 1) 0 → a < length ins
  symbol_known f = rw f node_here.known

  -- its symbol, and the symbol's rank
  module _ {a r : ℕ} (f : a ≡ get_or s (k - 1) 0) (g : r ≡ get_or ins a 0) where
    rank_here : r ≡ get_or ins (get_or s (k - 1) 0) 0
    rank_here = g ∙ ap (λ x. get_or ins x 0) f

    pub child_inside : (j : ℕ) → j < r → hop ends j (k - 1 + 1) < length ends
    unfolding trees
    child_inside j h = omega (arith, F.long, place_inside {A = ⊥} (symbol_of ins) 0 s ends k (by_letters ins s ends k F.right) j (k - 1 + 1) (omega arith) (omega (arith, rank_here, node_here.enough)))

    module _ {x : ℕ} (q : x ≡ hop ends r (k - 1 + 1)) where
      -- behind the last child the node ends
      ends_there : (x ≡ end_at ins s (k - 1)) × (x ≤ length s)
      unfolding trees tree first letters
      ends_there =
          let z = ap (λ G. letters (first G)) node_here.there in
          let y = ap (λ m. letters_all (firsts m (trees ins (drop (k - 1 + 1) s)))) rank_here in
          let w = place_from {A = ⊥} (symbol_of ins) 0 s ends k (by_letters ins s ends k F.right) r (k - 1 + 1) (omega arith) (omega (arith, rank_here, node_here.enough)) in
          (omega (arith, w.far, letters_size (tree ins (drop (k - 1) s))), omega (arith, w.far, (first_tree (symbol_of ins) 0 s (k - 1) node_here.there).1))

      pub end_fits : x < 65536
      end_fits = omega (arith, ends_there.1, F.whole.small)

      pub one_noted : NotedFrom ins s (set ends (k - 1) x) (k - 1)
      one_noted = record { whole = F.whole; inside = omega (arith, F.inside); long = omega (arith, F.long, length-set ends (k - 1) x); right = λ j i l. by_case j i l (dec_lt (k - 1) j) }
        where
          by_case : (j : ℕ) → k - 1 ≤ j → j < length s → Dec (k - 1 < j) → get_or (set ends (k - 1) x) j 0 ≡ end_at ins s j
          by_case j i l (yes y) = get_or-set_other ends (k - 1) j x 0 (omega arith) ∙ F.right j (omega arith) l
          by_case j i l (no n) = let z : j ≡ k - 1 = omega arith in rw z (get_or-set_same ends (k - 1) x 0 (omega (arith, F.long, F.inside)) ∙ ends_there.0)
