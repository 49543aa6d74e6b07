-- The list of pairs leads from the initial terms to each pair, and from a chain at a pair back to a witness.
-- Assumes nothing.
use Prim.Native.Nat.{ℕ, suc, ◌+◌, ◌*◌, ◌≤◌, ◌<◌}
use native.Mathlib.Omega.{arith}
use mathlib.Core.List.{List, [], ◌∷◌, ◌++◌}
use mathlib.Core.Option.{some}
use mathlib.Core.Path.{◌≡◌, refl, ap₂, subst}
use lib.ListN.{length, get_or, replicate}
use Rattle.theory.specs.Grammar.{Grammar}
use Rattle.theory.specs.Inner.Leaves.{put}
use Rattle.theory.specs.Term.{Tree, var, node}
use Rattle.theory.specs.Transducer.{Transducer}
use Rattle.theory.proofs.Along.{Along, Are, Clash}
use Rattle.theory.proofs.Clash.{Shown}
use Rattle.theory.proofs.Search.{Reach, reach_initial, reach_rhs, far}
use Rattle.theory.proofs.Witness.{Chain, stop, go_on, Witness, witness, only_child, chain_address, chain_spot, chain_core, chain_trees, chain_last, chain_steps}
use Rattle.trees.specs.Alphabets.{Leaf}
use Rattle.formats.specs.Inner.Layout.{body, transducer}
use Rattle.forms.specs.Alphabet.{alphabet, children_of_lem}
use Rattle.forms.specs.Inner.Tables.{machine, Layout}
use Rattle.classes.specs.Inner.Classes.{at}
use Rattle.pairs.specs.declared.pairs.Pair.{Pair}
use Rattle.pairs.specs.Inner.Pairs.{Sides, Agree, CallAt, ClashesAt, pair_left, pair_right, pair_parent, pair_symbol, pair_mark, pair_child, body_of, left_body, right_body, Linked}
use Rattle.witness.specs.Inner.Paths.{term_of, left_term, right_term, sorts_for, pair_place, tree_for, Path, path_end, path_on}
use Rattle.earliest.specs.Inner.Places.{place}
use Rattle.pairs.proofs.Searching.{initial_spelt, rhs_spelt}
use Rattle.pairs.proofs.Stepping.{Begin, byte_mark, along_map, spelt_along, spelt_child, begin_calls, begin_differ}

module _ (S : Sides) (n n' : ℕ) (outs : List ℕ) (l : Leaf S.ins) (L : Layout S.ins outs S.starts S.bytes n) (L' : Layout S.ins outs S.starts' S.bytes' n') (P : List Pair) (count : ℕ) (linked : (p : ℕ) → p < count → Linked S n n' P p) where
  abbrev G : Grammar
  G = alphabet S.ins l

  abbrev M : Transducer ℕ
  M = machine S.ins outs S.starts S.bytes n

  abbrev M' : Transducer ℕ
  M' = machine S.ins outs S.starts' S.bytes' n'

  -- ---- the terms of a parent
  -- in step up to mark m, they are alike along its address
  pub agree_along : (q a m : ℕ) → q ≤ count → (0 < q → a < length S.ins) → Agree S (left_body S.ins P q a) (right_body S.ins P q a) m → Along (Begin (byte_mark S.bytes (at S.starts (left_body S.ins P q a) + m)) (byte_mark S.bytes' (at S.starts' (right_body S.ins P q a) + m))) (left_term M P q a) (right_term M' P q a) (place (left_term M P q a) m)
  unfolding body_of term_of transducer body
  agree_along ℕ.zero a m h g A = spelt_along (initial_spelt L) (initial_spelt L') m (omega (arith, A.inside)) (omega (arith, A.inside')) A.step
  agree_along (suc p) a m h g A =
      let K = linked p (omega arith) in
      let i = g (omega arith) in
      spelt_along (rhs_spelt L (pair_left P p) a K.left i) (rhs_spelt L' (pair_right P p) a K.right i) m (omega (arith, A.inside)) (omega (arith, A.inside')) A.step

  -- bodies that clash are terms that clash
  pub clash_along : (q a m : ℕ) → q ≤ count → (0 < q → a < length S.ins) → ClashesAt S (left_body S.ins P q a) (right_body S.ins P q a) m → Clash (left_term M P q a) (right_term M' P q a) (place (left_term M P q a) m)
  clash_along q a m h g C = along_map (begin_differ C.clash) (agree_along q a m h g C.agree)

  mark_is : (bytes : List ℕ) (i c x : ℕ) → CallAt bytes i c x → byte_mark bytes i ≡ (c, x)
  mark_is bytes i c x C = ap₂ (λ a b. (a, b)) C.child C.state

  module _ (p : ℕ) (h : p < count) where
    -- the terms of its parent call the two states of a pair on one child
    pub pair_along : Along (Are (var (pair_child P p, pair_left P p)) (var (pair_child P p, pair_right P p))) (left_term M P (pair_parent P p) (pair_symbol P p)) (right_term M' P (pair_parent P p) (pair_symbol P p)) (pair_place M P p)
    pair_along =
        let K = linked p h in
        let C = K.calls in
        along_map (begin_calls C.left.from_one) (rw (mark_is _ _ _ _ C.left, mark_is _ _ _ _ C.right) at (agree_along (pair_parent P p) (pair_symbol P p) (pair_mark P p) (omega (arith, K.parent)) K.symbol C.agree))

    -- in the initial terms it is the first
    pub top_child : pair_parent P p ≡ 0 → pair_child P p ≡ 1
    unfolding body_of
    top_child e =
        let K = linked p h in
        let C = K.calls in
        let A : Agree S (left_body S.ins P 0 (pair_symbol P p)) (right_body S.ins P 0 (pair_symbol P p)) (pair_mark P p) = rw e at C.agree in
        let c : get_or S.bytes (2 * (at S.starts (left_body S.ins P 0 (pair_symbol P p)) + pair_mark P p)) 0 ≡ pair_child P p = rw e at C.left.child in
        omega (arith, C.left.from_one, spelt_child (initial_spelt L) (pair_mark P p) (omega (arith, A.inside)) (omega (arith, C.left.from_one, c)), c)

  symbol_children : (x a : ℕ) → a < length S.ins → G.children (M.sort x) a ≡ some (replicate (get_or S.ins a 0) 0)
  unfolding alphabet
  symbol_children x a h = children_of_lem S.ins a h

  -- ---- the way to a pair
  reach_by : (q p a : ℕ) {x y : ℕ} → ((o : ℕ) → q ≡ suc o → (r : Reach G M M' (pair_left P o) (pair_right P o)) × (far r ≤ suc o)) → q ≤ p → (0 < q → a < length S.ins) → (c : ℕ) (v : List ℕ) → Along (Are (var (c, x)) (var (c, y))) (left_term M P q a) (right_term M' P q a) v → (r : Reach G M M' x y) × (far r ≤ suc p)
  unfolding term_of far
  reach_by ℕ.zero p a f h g c v m = (reach_initial v c m, omega arith)
  reach_by (suc o) p a f h g c v m =
      let i = g (omega arith) in
      let s = f o refl in
      (reach_rhs a (replicate (get_or S.ins a 0) 0) v c s.0 (symbol_children (pair_left P o) a i) m, omega (arith, s.1))

  reach_below : (k p : ℕ) → p < k → p < count → (r : Reach G M M' (pair_left P p) (pair_right P p)) × (far r ≤ suc p)
  reach_below ℕ.zero p h i = absurd (omega arith)
  reach_below (suc k) p h i =
      let K = linked p i in
      reach_by (pair_parent P p) p (pair_symbol P p) (λ o e. reach_below k o (omega (arith, K.parent)) (omega (arith, K.parent))) K.parent K.symbol (pair_child P p) (pair_place M P p) (pair_along p i)

  -- each pair is reached, in at most as many steps as pairs are listed up to it
  pub pair_reached : (p : ℕ) → p < count → (r : Reach G M M' (pair_left P p) (pair_right P p)) × (far r ≤ suc p)
  pair_reached p h = reach_below (suc p) p (omega arith) h

  -- ---- the way back
  module _ (Small : Tree → Type 0) where
    -- What is at hand at parent q: a witness, or a chain between two right-hand sides of a pair. It shows the difference by the tree d at the address v; its last tree and its steps.
    pub data Holds : ℕ → Tree → List ℕ → Tree → ℕ → Type 0 where
      at_top : (w : Witness G M M' Small) → Holds 0 (witness w) (chain_address w) (chain_last w) (chain_steps w)
      at_pair : (p a : ℕ) (sorts : List ℕ) → G.children (M.sort (pair_left P p)) a ≡ some sorts → (c : Chain G M M' Small sorts (M.rhs (pair_left P p) a) (M'.rhs (pair_right P p) a)) → Holds (suc p) (node a (chain_trees c)) (chain_address c) (chain_last c) (chain_steps c)

    -- a clash that is shown is such a chain
    pub shown_holds : (q a : ℕ) → (0 < q → a < length S.ins) → {v : List ℕ} (s : Shown G M M' Small (sorts_for S.ins q a) (left_term M P q a) (right_term M' P q a) v) → (q ≡ 0 → only_child (put G (0 ∷ []) s.spot s.tree) ≡ s.tree) → Holds q (tree_for G S.ins q a s.spot s.tree) v s.tree 0
    unfolding term_of sorts_for tree_for chain_address chain_core chain_spot chain_trees chain_last chain_steps witness
    shown_holds ℕ.zero a g {v} s one = subst (λ d. Holds 0 d v s.tree 0) (one refl) (at_top (stop v s))
    shown_holds (suc p) a g {v} s one = at_pair p a (replicate (get_or S.ins a 0) 0) (symbol_children (pair_left P p) a (g (omega arith))) (stop v s)

    -- one step up
    holds_by : (q p b : ℕ) → (0 < q → b < length S.ins) → (i : ℕ) → (q ≡ 0 → i ≡ 1) → (v : List ℕ) → Along (Are (var (i, pair_left P p)) (var (i, pair_right P p))) (left_term M P q b) (right_term M' P q b) v → {d last : Tree} {u : List ℕ} {k : ℕ} → Holds (suc p) d u last k → Holds q (tree_for G S.ins q b i d) (v ++ u) last (suc k)
    unfolding term_of tree_for chain_address chain_core chain_spot chain_trees chain_last chain_steps witness only_child put
    holds_by ℕ.zero p b g i one v m (at_pair z a sorts e c) = subst (λ j. Holds 0 (only_child (put G (0 ∷ []) j (node a (chain_trees c)))) (v ++ chain_address c) (chain_last c) (suc (chain_steps c))) (one refl) (at_top (go_on v i (pair_left P p) (pair_right P p) a sorts m e c))
    holds_by (suc o) p b g i one v m (at_pair z a sorts e c) = at_pair o b (replicate (get_or S.ins b 0) 0) (symbol_children (pair_left P o) b (g (omega arith))) (go_on v i (pair_left P p) (pair_right P p) a sorts m e c)

    pub holds_up : (p : ℕ) → p < count → {d last : Tree} {u : List ℕ} {k : ℕ} → Holds (suc p) d u last k → Holds (pair_parent P p) (tree_for G S.ins (pair_parent P p) (pair_symbol P p) (pair_child P p) d) (pair_place M P p ++ u) last (suc k)
    holds_up p h = holds_by (pair_parent P p) p (pair_symbol P p) (linked p h).symbol (pair_child P p) (top_child p h) (pair_place M P p) (pair_along p h)

    -- a witness by the tree T at the address U, with a last tree and at most so many steps
    pub record Witnessed (T : Tree) (U : List ℕ) (last : Tree) (k : ℕ) : Type 0 where
      pub chain : Witness G M M' Small
      pub tree : witness chain ≡ T
      pub address : chain_address chain ≡ U
      pub end : chain_last chain ≡ last
      pub steps : chain_steps chain ≤ k

    -- what is at hand at a parent leads along the list to a witness
    pub path_witnessed : {q : ℕ} {d T last : Tree} {v U : List ℕ} {k : ℕ} → Path G S.ins M P q d v T U → q ≤ count → Holds q d v last k → Witnessed T U last (q + k)
    path_witnessed path_end h (at_top w) = record { chain = w; tree = refl; address = refl; end = refl; steps = omega arith }
    path_witnessed (path_on {p} r) h H =
        let W = path_witnessed r (omega (arith, (linked p (omega arith)).parent)) (holds_up p (omega arith) H) in
        record { chain = W.chain; tree = W.tree; address = W.address; end = W.end; steps = omega (arith, W.steps, (linked p (omega arith)).parent) }

    -- a chain between two right-hand sides of a pair does
    pub chain_witnessed : (p a : ℕ) → p < count → a < length S.ins → (c : Chain G M M' Small (replicate (get_or S.ins a 0) 0) (M.rhs (pair_left P p) a) (M'.rhs (pair_right P p) a)) → {T : Tree} {U : List ℕ} → Path G S.ins M P (suc p) (node a (chain_trees c)) (chain_address c) T U → Witnessed T U (chain_last c) (suc p + chain_steps c)
    chain_witnessed p a h g c r = path_witnessed r (omega arith) (at_pair p a (replicate (get_or S.ins a 0) 0) (symbol_children (pair_left P p) a g) c)

  path_by : (q : ℕ) → ((p : ℕ) → q ≡ suc p → (d : Tree) (v : List ℕ) → (T : Tree) × (U : List ℕ) × Path G S.ins M P (pair_parent P p) d v T U) → (d : Tree) (v : List ℕ) → (T : Tree) × (U : List ℕ) × Path G S.ins M P q d v T U
  path_by ℕ.zero f d v = (d, v, path_end)
  path_by (suc p) f d v =
      let w = f p refl (tree_for G S.ins (pair_parent P p) (pair_symbol P p) (pair_child P p) d) (pair_place M P p ++ v) in
      (w.0, w.1, path_on w.2)

  path_below : (k q : ℕ) → q ≤ k → q ≤ count → (d : Tree) (v : List ℕ) → (T : Tree) × (U : List ℕ) × Path G S.ins M P q d v T U
  path_below ℕ.zero q h i = path_by q (λ p e. absurd (omega arith))
  path_below (suc k) q h i = path_by q (λ p e. path_below k (pair_parent P p) (omega (arith, (linked p (omega arith)).parent)) (omega (arith, (linked p (omega arith)).parent)))

  -- from each parent the list leads somewhere
  pub path_there : (q : ℕ) → q ≤ count → (d : Tree) (v : List ℕ) → (T : Tree) × (U : List ℕ) × Path G S.ins M P q d v T U
  path_there q h d v = path_below q q (omega arith) h d v
