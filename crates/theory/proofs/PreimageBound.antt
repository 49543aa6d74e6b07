-- The input tree that is built by following the chosen symbols is small: it has an inner node for a pair of a state and a subtree, and for no pair two.
use Prim.Native.Nat.{ℕ, suc, ◌+◌, ◌*◌, ◌-◌, ◌≤◌, ◌<◌}
use native.Mathlib.Decide.{ℕ_discrete, dec_lt}
use native.Mathlib.Nat.{mul-add, mul-suc, mul-zero, mul-le-mul_left, mul-le-mul}
use native.Mathlib.Omega.{arith}
use mathlib.Core.Path.{◌≡◌, refl, ap}
use mathlib.Core.Logic.{◌↔◌, by_cases}
use mathlib.Core.Bool.{Bool, true, false}
use mathlib.Core.List.{List, [], ◌∷◌}
use mathlib.Core.Option.{some}
use lib.Dec.{eqb, leb}
use lib.ListN.{length}
use borrow.Author.Tests.{eq-eqb, ne_eqb, le-leb, lt-leb}
use Rattle.theory.specs.Grammar.{Grammar}
use Rattle.theory.specs.Inner.Leaves.{leaf_of}
use Rattle.theory.specs.Linear.{Once, Linear}
use Rattle.theory.specs.Reached.{Reached}
use Rattle.theory.specs.Matched.{At, here, Matched, demand, symbol, MatchedAll, matched_none, matched_more, Demand, this, inside, Demands, at_head, at_tail, Child, called, idle, Children, no_child, one_child, Chosen, Justified, Saturated}
use Rattle.theory.specs.Preimage.{Preimage, Makes}
use Rattle.theory.specs.Size.{size, sizes, levels, deepest}
use Rattle.theory.specs.Sum.{sum}
use Rattle.theory.specs.Term.{Term, var, node, Terms, none, more, Tree}
use Rattle.theory.specs.Transducer.{Transducer}
use Rattle.theory.specs.Weight.{one_if}
use Rattle.theory.specs.Wf.{Wf}
use Rattle.theory.proofs.Bounded.{sum_le, sum_lt}
use Rattle.theory.proofs.Demands.{matched_map, matched_all_map, matched_at, matched_vars, matched_subtrees, at_inside}
use Rattle.theory.proofs.Preimages.{children_map, children_exist, makes_step, preimage_step, preimage_exact, child_map}
use Rattle.theory.proofs.Reach.{reached_wf, reached_valid}
use Rattle.theory.proofs.Weights.{one_if_le}

-- x if a test holds, else 0
abbrev pub only_if : Bool → ℕ → ℕ
only_if true x = x
only_if false x = 0

-- the sum of w over the demands of a term that matches u at p
unfoldable mutual
  pub demanded : {A : Type 0} → (A → ℕ → Tree → ℕ) → Term A → ℕ → Tree → ℕ
  demanded w (var e) p u = w e p u
  demanded w (node k ts) p (var x) = 0
  demanded w (node k ts) p (node j us) = demanded_all w ts (suc p) us

  pub demanded_all : {A : Type 0} → (A → ℕ → Tree → ℕ) → Terms A → ℕ → Terms ⊥ → ℕ
  demanded_all w none p us = 0
  demanded_all w (more t ts) p none = 0
  demanded_all w (more t ts) p (more u us) = demanded w t p u + demanded_all w ts (p + size u) us

module _ {Q : Type 0} where
  mutual
    unfolding demanded demanded_all

    demanded_one : {X : Term (ℕ × Q)} {p p' : ℕ} {u u' : Tree} {e : ℕ × Q} (w : ℕ × Q → ℕ → Tree → ℕ) → Demand X p u e p' u' → w e p' u' ≤ demanded w X p u
    demanded_one w this = omega arith
    demanded_one w (inside x) = demanded_all_one w x

    demanded_all_one : {X : Terms (ℕ × Q)} {p p' : ℕ} {u : Terms ⊥} {u' : Tree} {e : ℕ × Q} (w : ℕ × Q → ℕ → Tree → ℕ) → Demands X p u e p' u' → w e p' u' ≤ demanded_all w X p u
    demanded_all_one w (at_head x) = omega (arith, demanded_one w x)
    demanded_all_one w (at_tail x) = omega (arith, demanded_all_one w x)

  module _ (v w z : ℕ × Q → ℕ → Tree → ℕ) (split : (e : ℕ × Q) (p : ℕ) (u : Tree) → z e p u ≡ v e p u + w e p u) where
    mutual
      unfolding demanded demanded_all

      demanded_add : (X : Term (ℕ × Q)) (p : ℕ) (u : Tree) → demanded z X p u ≡ demanded v X p u + demanded w X p u
      demanded_add (var e) p u = split e p u
      demanded_add (node k ts) p (var x) = absurd x
      demanded_add (node k ts) p (node j us) = demanded_all_add ts (suc p) us

      demanded_all_add : (X : Terms (ℕ × Q)) (p : ℕ) (u : Terms ⊥) → demanded_all z X p u ≡ demanded_all v X p u + demanded_all w X p u
      demanded_all_add none p us = omega arith
      demanded_all_add (more t ts) p none = omega arith
      demanded_all_add (more t ts) p (more u us) = omega (arith, demanded_add t p u, demanded_all_add ts (p + size u) us)

  module _ (v w : ℕ × Q → ℕ → Tree → ℕ) (le : (e : ℕ × Q) (p : ℕ) (u : Tree) → v e p u ≤ w e p u) {D : ℕ × Q → ℕ → Tree → Type 0} where
    mutual
      unfolding demanded demanded_all

      demanded_mono : {X : Term (ℕ × Q)} {p : ℕ} {u : Tree} → Matched D X p u → demanded v X p u ≤ demanded w X p u
      demanded_mono (demand {e} {p} {u} d) = le e p u
      demanded_mono (symbol m) = demanded_all_mono m

      demanded_all_mono : {X : Terms (ℕ × Q)} {p : ℕ} {us : Terms ⊥} → MatchedAll D X p us → demanded_all v X p us ≤ demanded_all w X p us
      demanded_all_mono matched_none = omega arith
      demanded_all_mono (matched_more m ms) = omega (arith, demanded_mono m, demanded_all_mono ms)

  module _ (w : ℕ × Q → ℕ → Tree → ℕ) (n : ℕ) where
    mutual
      unfolding demanded demanded_all size

      -- demands that are each at most n for a node are together at most n for a node
      demanded_le : {X : Term (ℕ × Q)} {p : ℕ} {u : Tree} → Matched (λ e p u. w e p u ≤ n * size u) X p u → demanded w X p u ≤ n * size u
      demanded_le (demand l) = l
      demanded_le (symbol {us} m) = omega (arith, demanded_all_le m, mul-suc n (sizes us))

      demanded_all_le : {X : Terms (ℕ × Q)} {p : ℕ} {us : Terms ⊥} → MatchedAll (λ e p u. w e p u ≤ n * size u) X p us → demanded_all w X p us ≤ n * sizes us
      demanded_all_le matched_none = omega (arith, mul-zero n)
      demanded_all_le (matched_more {u} {us} m ms) = omega (arith, demanded_le m, demanded_all_le ms, mul-add n (size u) (sizes us))

  -- the demands of the calls on child i
  on : ℕ → (ℕ × Q → ℕ → Tree → ℕ) → ℕ × Q → ℕ → Tree → ℕ
  on i w e p u = only_if (eqb e.0 i) (w e p u)

  -- the demands of the calls on the children from i on
  from : ℕ → (ℕ × Q → ℕ → Tree → ℕ) → ℕ × Q → ℕ → Tree → ℕ
  from i w e p u = only_if (leb i e.0) (w e p u)

only_split : (i x y : ℕ) → only_if (leb i x) y ≡ only_if (eqb x i) y + only_if (leb (suc i) x) y
only_split i x y = by_cases (ℕ_discrete x i)
    (λ e. rw (le-leb i x (omega arith), eq-eqb x i e, lt-leb (suc i) x (omega arith)) (omega arith))
    (λ e. by_cases (dec_lt i x)
    (λ l. rw (le-leb i x (omega arith), ne_eqb x i e, le-leb (suc i) x (omega arith)) (omega arith))
    (λ l. rw (lt-leb i x (omega arith), ne_eqb x i e, lt-leb (suc i) x (omega arith)) (omega arith)))

only_if_le : (b : Bool) (x : ℕ) → only_if b x ≤ x
only_if_le true x = omega arith
only_if_le false x = omega arith

-- the number of the states below n whose rank at p is at most k
unfoldable pub standing : (ℕ → ℕ → ℕ) → ℕ → ℕ → ℕ → ℕ
standing rank n p k = sum (λ q. one_if (leb (rank q p) k)) n

-- the number of inner nodes that the input tree for the pair of q and the subtree u at p may have
unfoldable pub share : (ℕ → ℕ → ℕ) → ℕ → ℕ → ℕ → Tree → ℕ
share rank n q p u = standing rank n p (rank q p) + n * (size u - 1)

sum_one : (n : ℕ) → sum (λ q. 1) n ≡ n
unfolding sum
sum_one ℕ.zero = refl
sum_one (suc n) = omega (arith, sum_one n)

one_level : (u : Tree) → 1 ≤ size u
unfolding size
one_level (var x) = absurd x
one_level (node k ts) = omega arith

module _ (rank : ℕ → ℕ → ℕ) (n : ℕ) where
  standing_le : (p k : ℕ) → standing rank n p k ≤ n
  unfolding standing
  standing_le p k = omega (arith, sum_le (λ q. one_if (leb (rank q p) k)) (λ q. 1) n (λ q l. one_if_le (leb (rank q p) k)), sum_one n)

  one_if_mono : (x k l : ℕ) → k ≤ l → one_if (leb x k) ≤ one_if (leb x l)
  one_if_mono x k l h = by_cases (dec_lt k x) (λ z. rw (lt-leb x k z) (omega arith)) (λ z. rw (le-leb x k (omega arith), le-leb x l (omega arith)) (omega arith))

  -- a state of a higher rank stands among more
  standing_lt : (p q k : ℕ) → q < n → k < rank q p → standing rank n p k < standing rank n p (rank q p)
  unfolding standing
  standing_lt p q k l h = sum_lt (λ r. one_if (leb (rank r p) k)) (λ r. one_if (leb (rank r p) (rank q p))) n q l (λ r m. one_if_mono (rank r p) k (rank q p) (omega arith))
      (rw (lt-leb (rank q p) k h, le-leb (rank q p) (rank q p) (omega arith)) (omega arith))

  standing_pos : (p q : ℕ) → q < n → 1 ≤ standing rank n p (rank q p)
  unfolding standing
  standing_pos p q l = omega (arith, sum_lt (λ r. 0) (λ r. one_if (leb (rank r p) (rank q p))) n q l (λ r m. omega arith) (rw (le-leb (rank q p) (rank q p) (omega arith)) (omega arith)))

  -- at most n inner nodes for a node of u
  pub share_le : (q p : ℕ) (u : Tree) → share rank n q p u ≤ n * size u
  unfolding share
  share_le q p u =
      let e : size u ≡ suc (size u - 1) = omega (arith, one_level u) in
      omega (arith, ap (λ x. n * x) e, mul-suc n (size u - 1), standing_le p (rank q p))

  -- the shares of the demands of a chosen symbol leave one node in the share of the pair: they are for other subtrees, or for this one with a state of lower rank
  chosen_share : {X : Term (ℕ × ℕ)} {p : ℕ} {u : Tree} (q : ℕ) → q < n → Matched (λ e p' u'. rank e.1 p' < rank q p) X p u → suc (demanded (λ e p u. share rank n e.1 p u) X p u) ≤ share rank n q p u
  unfolding demanded demanded_all share size
  chosen_share q l (demand {e} {p} {u} d) = omega (arith, standing_lt p q (rank e.1 p) l d)
  chosen_share q l (symbol {k} {p} {ts} {us} m) =
      let e : suc (sizes us) - 1 ≡ sizes us = omega arith in
      omega (arith, standing_pos p q l, ap (λ x. n * x) e, demanded_all_le (λ e p u. share rank n e.1 p u) n (matched_all_map (λ e p u d. share_le e.1 p u) m))

-- d has at most w inner nodes, with at most R children each, and leaves below them
pub record Small (R w : ℕ) (d : Tree) : Type 0 where
  pub nodes : size d ≤ 1 + R * w
  pub height : levels d ≤ 1 + w

small_le : {R w w' : ℕ} {d : Tree} → w ≤ w' → Small R w d → Small R w' d
small_le {R} l s = record { nodes = omega (arith, s.nodes, mul-le-mul_left R l); height = omega (arith, s.height) }

leaf_small : (G : Grammar) (s R w : ℕ) → Small R w (leaf_of G s)
unfolding leaf_of size levels
leaf_small G s R w = record { nodes = omega arith; height = omega arith }

from_split : {Q : Type 0} (w : ℕ × Q → ℕ → Tree → ℕ) (X : Term (ℕ × Q)) (p : ℕ) (u : Tree) (i : ℕ) → demanded (from i w) X p u ≡ demanded (on i w) X p u + demanded (from (suc i) w) X p u
unfolding from on
from_split w X p u i = demanded_add _ _ _ (λ e p u. only_split i e.0 (w e p u)) X p u

from_one : {Q : Type 0} (w : ℕ × Q → ℕ → Tree → ℕ) {X : Term (ℕ × Q)} {p : ℕ} {u : Tree} {D : ℕ × Q → ℕ → Tree → Type 0} (i : ℕ) → Matched D X p u → demanded (from i w) X p u ≤ demanded w X p u
unfolding from
from_one w i m = demanded_mono (from i w) w (λ e p u. only_if_le (leb i e.0) (w e p u)) m

module _ {Q : Type 0} {G : Grammar} {X : Term (ℕ × Q)} {p : ℕ} {u : Tree} (R : ℕ) (w : Q → ℕ → Tree → ℕ) where
  child_small : {i s : ℕ} {d : Tree} → Child G (λ r p u d. Small R (w r p u) d) X p u i s d → Small R (demanded (on i (λ e p u. w e.1 p u)) X p u) d
  unfolding on
  child_small {i} (called {r} {p'} {u'} x b) = small_le (omega (arith, demanded_one (on i (λ e p u. w e.1 p u)) x, ap (λ b. only_if b (w r p' u')) (eq-eqb i i refl))) b
  child_small {s} (idle z e) = rw e (leaf_small G s R _)

  children_small : {i : ℕ} {sorts : List ℕ} {ds : Terms ⊥} → Children G (λ r p u d. Small R (w r p u) d) X p u i sorts ds
      → (sizes ds ≤ length sorts + R * demanded (from i (λ e p u. w e.1 p u)) X p u) × (deepest ds ≤ suc (demanded (from i (λ e p u. w e.1 p u)) X p u))
  unfolding size levels
  children_small no_child = (omega arith, omega arith)
  children_small (one_child {i} c cs) =
      let h = child_small c in
      let r = children_small cs in
      let e = from_split (λ e p u. w e.1 p u) X p u i in
      (omega (arith, h.nodes, r.0, ap (λ x. R * x) e, mul-add R (demanded (on i (λ e p u. w e.1 p u)) X p u) (demanded (from (suc i) (λ e p u. w e.1 p u)) X p u)), omega (arith, h.height, r.1))

-- The room for the children from i on, c of them: what a program that writes them one after another has left.
pub room : (ℕ → ℕ → ℕ) → ℕ → ℕ → Term (ℕ × ℕ) → ℕ → Tree → ℕ → ℕ → ℕ
room rank n R X p u i c = c + R * demanded (from i (λ e p u. share rank n e.1 p u)) X p u

module _ (rank : ℕ → ℕ → ℕ) (n R : ℕ) (X : Term (ℕ × ℕ)) (p : ℕ) (u : Tree) where
  room_split : (i c : ℕ) → room rank n R X p u i (suc c) ≡ suc (R * demanded (on i (λ e p u. share rank n e.1 p u)) X p u) + room rank n R X p u (suc i) c
  unfolding room
  room_split i c = omega (arith, ap (λ x. R * x) (from_split (λ e p u. share rank n e.1 p u) X p u i), mul-add R (demanded (on i (λ e p u. share rank n e.1 p u)) X p u) (demanded (from (suc i) (λ e p u. share rank n e.1 p u)) X p u))

  -- a child that is called has room for the tree of its demand, and the room for the others is left
  pub room_called : {i r p' : ℕ} {u' : Tree} (c : ℕ) → Demand X p u (i, r) p' u' → suc (R * share rank n r p' u') + room rank n R X p u (suc i) c ≤ room rank n R X p u i (suc c)
  unfolding on
  room_called {i} {r} {p'} {u'} c x =
      let l : share rank n r p' u' ≤ demanded (on i (λ e p u. share rank n e.1 p u)) X p u = omega (arith, demanded_one (on i (λ e p u. share rank n e.1 p u)) x, ap (λ b. only_if b (share rank n r p' u')) (eq-eqb i i refl)) in
      omega (arith, room_split i c, mul-le-mul_left R l)

  -- any child has room for a leaf
  pub room_idle : (i c : ℕ) → suc (room rank n R X p u (suc i) c) ≤ room rank n R X p u i (suc c)
  room_idle i c = omega (arith, room_split i c)

  -- the share of the pair has room for all children of the chosen symbol
  pub room_start : (q c : ℕ) → q < n → c ≤ R → Matched (λ e p' u'. rank e.1 p' < rank q p) X p u → room rank n R X p u 1 c ≤ R * share rank n q p u
  unfolding room
  room_start q c l h m =
      let w : ℕ × ℕ → ℕ → Tree → ℕ = λ e p u. share rank n e.1 p u in
      omega (arith, mul-le-mul_left R (from_one w 1 m), mul-le-mul_left R (chosen_share rank n q l m), mul-suc R (demanded w X p u))

-- d is an input tree of which q makes u, and it is as small as the pair's share allows: what a program that follows the chosen symbols builds for the pair of q and the subtree u at p
pub record Witness (G : Grammar) (M : Transducer ℕ) (R n : ℕ) (rank : ℕ → ℕ → ℕ) (q p : ℕ) (u d : Tree) : Type 0 where
  pub makes : Makes G M q u d
  pub small : Small R (share rank n q p u) d

module _ {G : Grammar} {M : Transducer ℕ} {Valid : ℕ → Type 0} (W : Wf G M Valid) (n R : ℕ) (below-n : (q : ℕ) → Valid q → q < n) (few : (s a : ℕ) (sorts : List ℕ) → G.children s a ≡ some sorts → length sorts ≤ R)
    (linear : (q a : ℕ) (sorts : List ℕ) → Valid q → G.children (M.sort q) a ≡ some sorts → Once (M.rhs q a)) where
  module _ {Marked : ℕ → ℕ → Type 0} {symbol_of rank : ℕ → ℕ → ℕ} where
    -- The step of a program that builds the input tree: with such trees for the demands of the chosen symbol, and leaves for the other children.
    pub witness_step : {q p : ℕ} {u : Tree} {ds : Terms ⊥} → Valid q → (c : Chosen G M Marked symbol_of rank q p u) → Children G (Witness G M R n rank) (M.rhs q (symbol_of q p)) p u 1 c.sorts ds → Witness G M R n rank q p u (node (symbol_of q p) ds)
    unfolding size levels
    witness_step {q} {p} {u} v c cs =
        let w : ℕ × ℕ → ℕ → Tree → ℕ = λ e p u. share rank n e.1 p u in
        let h = children_small R (λ r p u. share rank n r p u) (children_map (λ r p u d b. b.small) cs) in
        let m = chosen_share rank n q (below-n q v) (matched_map (λ e p u x. x.1) c.matched) in
        let f = from_one w 1 c.matched in
        record {
          makes = makes_step W v c.allowed (linear q (symbol_of q p) c.sorts v c.allowed) c.matched (children_map (λ r p u d b. b.makes) cs);
          small = record {
            nodes = omega (arith, h.0, few (M.sort q) (symbol_of q p) c.sorts c.allowed, mul-le-mul_left R f, mul-le-mul_left R m, mul-suc R (demanded w (M.rhs q (symbol_of q p)) p u));
            height = omega (arith, h.1);
          };
        }

    module _ {t : Tree} (J : Justified G M Valid t Marked symbol_of rank) where
      witness_below : (k q p : ℕ) (u : Tree) → rank q p < k → Valid q → At t p u → Marked q p → (d : Tree) × Witness G M R n rank q p u d
      witness_below ℕ.zero q p u l v a m = absurd (omega arith)
      witness_below (suc k) q p u l v a m =
          let c = J q p u v a m in
          let cs = children_exist {B = Witness G M R n rank} (matched_map (λ e p' u' x. witness_below k e.1 p' u' (omega (arith, x.0.0.1)) x.1.valid x.0.1 x.0.0.0) (matched_vars (W.rhs q _ v c.allowed) (matched_subtrees t a c.matched))) 1 c.sorts in
          (node (symbol_of q p) cs.0, witness_step v c cs.1)

      -- every marked pair has a small input tree
      pub witness_exists : {q p : ℕ} {u : Tree} → Valid q → At t p u → Marked q p → (d : Tree) × Witness G M R n rank q p u d
      witness_exists {q} {p} {u} v a m = witness_below (suc (rank q p)) q p u (omega arith) v a m

      initial_small : {D : ℕ × ℕ → ℕ → Tree → Type 0} {d : Tree} → Matched D M.initial 0 t → Child G (Witness G M R n rank) M.initial 0 t 1 0 d → Small R (n * size t) d
      initial_small m (called {r} {p'} {u'} x b) =
          let l : size u' ≤ size t = omega (arith, at_inside (matched_at (matched_subtrees t here m) x).1) in
          small_le (omega (arith, share_le rank n r p' u', mul-le-mul_left n l)) b.small
      initial_small m (idle z e) = rw e (leaf_small G 0 R _)

      -- The input tree for t: that for the demand of the one call of the initial term, or a leaf if it has none. It has at most 1 + R·n·|t| nodes and 1 + n·|t| levels.
      pub preimage_small : {D : ℕ × ℕ → ℕ → Tree → Type 0} {d : Tree} → Once M.initial → Matched D M.initial 0 t → Child G (Witness G M R n rank) M.initial 0 t 1 0 d → Preimage G M t d × Small R (n * size t) d
      preimage_small once m c = (preimage_step W once m (child_map (λ r p u d b. b.makes) c), initial_small m c)

      -- Where the initial term matches t, and its demands are marked, there is such an input tree.
      pub preimage_found : Once M.initial → Matched (λ e p u. Marked e.1 p) M.initial 0 t → (d : Tree) × Preimage G M t d × Small R (n * size t) d
      preimage_found once m =
          let cs = children_exist {B = Witness G M R n rank} (matched_map (λ e p u x. witness_exists x.1.valid x.0.1 x.0.0) (matched_vars W.initial (matched_subtrees t here m))) 1 (0 ∷ []) in
          one_of cs.0 cs.1 (λ d c. let h = preimage_small once m c in (d, h.0, h.1))
        where
          one_of : {B : Type 0} (ds : Terms ⊥) → Children G (Witness G M R n rank) M.initial 0 t 1 (0 ∷ []) ds → ((d : Tree) → Child G (Witness G M R n rank) M.initial 0 t 1 0 d → B) → B
          one_of ds (one_child {d} c no_child) f = f d c

-- With at most 16 states, 31 nodes of t and 4 children: at most 1,985 nodes and 497 levels.
pub small_bounds : {R n m : ℕ} {d : Tree} → Small R (n * m) d → R ≤ 4 → n ≤ 16 → m ≤ 31 → (size d ≤ 1985) × (levels d ≤ 497)
small_bounds {R} {n} {m} s r k l =
    let w : n * m ≤ 496 = mul-le-mul k l in
    let x : R * (n * m) ≤ 1984 = mul-le-mul r w in
    (omega (arith, s.nodes), omega (arith, s.height))

-- For a linear transducer with n states, and a table over the states that are reached.
module _ {G : Grammar} {M : Transducer ℕ} {n : ℕ} {t : Tree} {Marked : ℕ → ℕ → Type 0} (W : Wf G M (λ q. q < n)) (L : Linear G M) where
  -- an input tree is found where the initial term matches t and its demands are marked
  pub linear_found : {R : ℕ} {symbol_of rank : ℕ → ℕ → ℕ} → ((s a : ℕ) (sorts : List ℕ) → G.children s a ≡ some sorts → length sorts ≤ R) → Justified G M (Reached G M) t Marked symbol_of rank
      → Matched (λ e p u. Marked e.1 p) M.initial 0 t → (d : Tree) × Preimage G M t d × Small R (n * size t) d
  linear_found {R} few K m = preimage_found (reached_wf W) n R (λ q r. reached_valid W r) few (λ q a sorts r k. L.rhs q a r k) K L.initial m

  -- none is said exactly if no input tree of any size has the output t
  pub linear_none : {symbol_of rank : ℕ → ℕ → ℕ} → Justified G M (Reached G M) t Marked symbol_of rank → Saturated G M (Reached G M) t Marked
      → (¬ (Matched (λ e p u. Marked e.1 p) M.initial 0 t)) ↔ ((d : Tree) → ¬ (Preimage G M t d))
  linear_none K S = let x = preimage_exact (reached_wf W) (λ q a sorts r k. L.rhs q a r k) L.initial K S in (λ f d i. f (x.0 (d, i)), λ f m. let y = x.1 m in f y.0 y.1)
