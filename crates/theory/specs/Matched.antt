-- Matching right-hand sides against a tree: the steps of finding an input tree for an output of a linear transducer (02, F-13).
use Rattle.std.specs.Prelude.{ℕ, suc, ◌+◌, ◌<◌, ◌≡◌, List, [], ◌∷◌}
use Rattle.std.proofs.Math.Option.{some}
use Rattle.theory.specs.Grammar.{Grammar}
use Rattle.theory.specs.Inner.Leaves.{leaf_of}
use Rattle.theory.specs.Size.{size}
use Rattle.theory.specs.Term.{Term, var, node, Terms, none, more, Tree}
use Rattle.theory.specs.Transducer.{Transducer}
use Rattle.theory.specs.Weight.{calls}

-- t has the subtree u at p, its number in preorder, from 0
mutual
  pub data At : Tree → ℕ → Tree → Type 0 where
    here : {t : Tree} → At t 0 t
    below : {k p : ℕ} {ts : Terms ⊥} {u : Tree} → Ats ts p u → At (node k ts) (suc p) u

  pub data Ats : Terms ⊥ → ℕ → Tree → Type 0 where
    first : {t u : Tree} {ts : Terms ⊥} {p : ℕ} → At t p u → Ats (more t ts) p u
    later : {t u : Tree} {ts : Terms ⊥} {p x : ℕ} → Ats ts x u → p ≡ size t + x → Ats (more t ts) p u

-- the term X matches u, which stands at p: the same symbols; a call e demands the subtree u' that stands in its place, at p', and D holds of every demand
mutual
  pub data Matched {Q : Type 0} (D : ℕ × Q → ℕ → Tree → Type 0) : Term (ℕ × Q) → ℕ → Tree → Type 0 where
    demand : {e : ℕ × Q} {p : ℕ} {u : Tree} → D e p u → Matched D (var e) p u
    symbol : {k p : ℕ} {ts : Terms (ℕ × Q)} {us : Terms ⊥} → MatchedAll D ts (suc p) us → Matched D (node k ts) p (node k us)

  pub data MatchedAll {Q : Type 0} (D : ℕ × Q → ℕ → Tree → Type 0) : Terms (ℕ × Q) → ℕ → Terms ⊥ → Type 0 where
    matched_none : {p : ℕ} → MatchedAll D none p none
    matched_more : {p : ℕ} {t : Term (ℕ × Q)} {ts : Terms (ℕ × Q)} {u : Tree} {us : Terms ⊥} → Matched D t p u → MatchedAll D ts (p + size u) us → MatchedAll D (more t ts) p (more u us)

-- X, at u and p, has the demand of the call e for the subtree u' at p'
mutual
  pub data Demand {Q : Type 0} : Term (ℕ × Q) → ℕ → Tree → ℕ × Q → ℕ → Tree → Type 0 where
    this : {e : ℕ × Q} {p : ℕ} {u : Tree} → Demand (var e) p u e p u
    inside : {e : ℕ × Q} {k p p' : ℕ} {u' : Tree} {ts : Terms (ℕ × Q)} {us : Terms ⊥} → Demands ts (suc p) us e p' u' → Demand (node k ts) p (node k us) e p' u'

  pub data Demands {Q : Type 0} : Terms (ℕ × Q) → ℕ → Terms ⊥ → ℕ × Q → ℕ → Tree → Type 0 where
    at_head : {e : ℕ × Q} {p p' : ℕ} {u u' : Tree} {t : Term (ℕ × Q)} {ts : Terms (ℕ × Q)} {us : Terms ⊥} → Demand t p u e p' u' → Demands (more t ts) p (more u us) e p' u'
    at_tail : {e : ℕ × Q} {p p' : ℕ} {u u' : Tree} {t : Term (ℕ × Q)} {ts : Terms (ℕ × Q)} {us : Terms ⊥} → Demands ts (p + size u) us e p' u' → Demands (more t ts) p (more u us) e p' u'

-- d is child i, of sort s: a tree that B says is for the demand of a call on i, or a leaf if X has no call on i
pub data Child {Q : Type 0} (G : Grammar) (B : Q → ℕ → Tree → Tree → Type 0) (X : Term (ℕ × Q)) (p : ℕ) (u : Tree) (i s : ℕ) (d : Tree) : Type 0 where
  called : {r : Q} {p' : ℕ} {u' : Tree} → Demand X p u (i, r) p' u' → B r p' u' d → Child G B X p u i s d
  idle : calls i X ≡ 0 → d ≡ leaf_of G s → Child G B X p u i s d

-- ds are the children from i on, of these sorts
pub data Children {Q : Type 0} (G : Grammar) (B : Q → ℕ → Tree → Tree → Type 0) (X : Term (ℕ × Q)) (p : ℕ) (u : Tree) : ℕ → List ℕ → Terms ⊥ → Type 0 where
  no_child : {i : ℕ} → Children G B X p u i [] none
  one_child : {i s : ℕ} {sorts : List ℕ} {d : Tree} {ds : Terms ⊥} → Child G B X p u i s d → Children G B X p u (suc i) sorts ds → Children G B X p u i (s ∷ sorts) (more d ds)

-- A table of marked pairs (q, p), with a symbol and a rank for each. Of a marked pair: the right-hand side for its symbol matches what stands at p, and its demands are marked pairs of lower rank.
pub record Chosen {Q : Type 0} (G : Grammar) (M : Transducer Q) (Marked : Q → ℕ → Type 0) (symbol_of rank : Q → ℕ → ℕ) (q : Q) (p : ℕ) (u : Tree) : Type 0 where
  pub sorts : List ℕ
  pub allowed : G.children (M.sort q) (symbol_of q p) ≡ some sorts
  pub matched : Matched (λ e p' u'. Marked e.1 p' × (rank e.1 p' < rank q p)) (M.rhs q (symbol_of q p)) p u

-- every marked pair of a valid state and a subtree of t is chosen so
abbrev pub Justified : {Q : Type 0} → Grammar → Transducer Q → (Q → Type 0) → Tree → (Q → ℕ → Type 0) → (Q → ℕ → ℕ) → (Q → ℕ → ℕ) → Type 0
Justified {Q} G M Valid t Marked symbol_of rank = (q : Q) (p : ℕ) (u : Tree) → Valid q → At t p u → Marked q p → Chosen G M Marked symbol_of rank q p u

-- no more pairs can be marked: where a right-hand side matches and its demands are marked, so is the pair
abbrev pub Saturated : {Q : Type 0} → Grammar → Transducer Q → (Q → Type 0) → Tree → (Q → ℕ → Type 0) → Type 0
Saturated {Q} G M Valid t Marked = (q : Q) (p : ℕ) (u : Tree) (a : ℕ) (sorts : List ℕ) → Valid q → At t p u → G.children (M.sort q) a ≡ some sorts → Matched (λ e p' u'. Marked e.1 p') (M.rhs q a) p u → Marked q p
