-- The way back from a pair to the initial terms: at each step the input tree gets the symbol of the parent's bodies above it, and the address what leads there in the body.
use Rattle.std.specs.Prelude.{ℕ, suc, List, [], ◌∷◌, ◌++◌, get_or, replicate}
use Rattle.theory.specs.Grammar.{Grammar}
use Rattle.theory.specs.Inner.Leaves.{put}
use Rattle.theory.specs.Term.{Term, Tree, node}
use Rattle.theory.specs.Transducer.{Transducer}
use Rattle.pairs.specs.declared.pairs.Pair.{Pair}
use Rattle.pairs.specs.declared.pairs.Side.{Side}
use Rattle.pairs.specs.declared.pairs.Side.TheVariants.{Left, Right}
use Rattle.pairs.specs.Inner.Pairs.{pair_state, pair_parent, pair_symbol, pair_mark, pair_child}
use Rattle.earliest.specs.Inner.Places.{place}

-- the term of parent q for symbol a on one side: the initial term, or a right-hand side of a pair
unfoldable pub term_of : Transducer ℕ → List Pair → Side → ℕ → ℕ → Term (ℕ × ℕ)
term_of M P side ℕ.zero a = M.initial
term_of M P side (suc p) a = M.rhs (pair_state P side p) a

abbrev pub left_term : Transducer ℕ → List Pair → ℕ → ℕ → Term (ℕ × ℕ)
left_term M P q a = term_of M P Left q a

abbrev pub right_term : Transducer ℕ → List Pair → ℕ → ℕ → Term (ℕ × ℕ)
right_term M P q a = term_of M P Right q a

-- the sorts of the children that they call
unfoldable pub sorts_for : List ℕ → ℕ → ℕ → List ℕ
sorts_for ins ℕ.zero a = 0 ∷ []
sorts_for ins (suc p) a = replicate (get_or ins a 0) 0

-- the address of pair p in the terms of its parent
abbrev pub pair_place : Transducer ℕ → List Pair → ℕ → List ℕ
pair_place M P p = place (left_term M P (pair_parent P p) (pair_symbol P p)) (pair_mark P p)

-- the tree that the states of parent q read, if d is child c of its symbol a and the other children are leaves; the initial terms read d itself
unfoldable pub tree_for : Grammar → List ℕ → ℕ → ℕ → ℕ → Tree → Tree
tree_for G ins ℕ.zero a c d = d
tree_for G ins (suc p) a c d = node a (put G (replicate (get_or ins a 0) 0) c d)

-- From parent q, whose states read d and differ at address v, the list leads to the input tree T and the address U.
pub data Path (G : Grammar) (ins : List ℕ) (M : Transducer ℕ) (P : List Pair) : ℕ → Tree → List ℕ → Tree → List ℕ → Type 0 where
  path_end : {d : Tree} {v : List ℕ} → Path G ins M P 0 d v d v
  path_on : {p : ℕ} {d T : Tree} {v U : List ℕ} → Path G ins M P (pair_parent P p) (tree_for G ins (pair_parent P p) (pair_symbol P p) (pair_child P p) d) (pair_place M P p ++ v) T U → Path G ins M P (suc p) d v T U
