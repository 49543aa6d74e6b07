-- Ranked terms and their codes: the symbols in preorder, a node before its children and these from left to right.
use Rattle.std.specs.Prelude.{ℕ, ◌<◌, ◌≤◌, List, [], ◌∷◌, ◌++◌, ◌≡◌, length, get_or}
use Rattle.theory.specs.Term.{Term, var, node, Terms, none, more, Tree, count}

-- t is over the alphabet with the ranks rs: each symbol is there and has as many children as its rank says; Var holds of the variables
unfoldable mutual
  pub Ranked : {A : Type 0} → (A → Type 0) → List ℕ → Term A → Type 0
  Ranked Var rs (var a) = Var a
  Ranked Var rs (node k ts) = (k < length rs) × (count ts ≡ get_or rs k 0) × AllRanked Var rs ts

  pub AllRanked : {A : Type 0} → (A → Type 0) → List ℕ → Terms A → Type 0
  AllRanked Var rs none = Unit {0}
  AllRanked Var rs (more t ts) = Ranked Var rs t × AllRanked Var rs ts

-- each symbol k is one letter, s k; each variable a is the word g a
unfoldable mutual
  pub preorder : {A X : Type 0} → (A → List X) → (ℕ → X) → Term A → List X
  preorder g s (var a) = g a
  preorder g s (node k ts) = s k ∷ preorders g s ts

  pub preorders : {A X : Type 0} → (A → List X) → (ℕ → X) → Terms A → List X
  preorders g s none = []
  preorders g s (more t ts) = preorder g s t ++ preorders g s ts

-- the code of a ground tree, a byte for each node
abbrev pub code : Tree → List ℕ
code t = preorder (λ x. absurd x) (λ k. k) t

-- a mark: (0, b) is the symbol b, and (i, q) with i from 1 is the call of state q on child i
abbrev pub Mark : Type 0
Mark = ℕ × ℕ

-- the marks of a right-hand side
abbrev pub marks : Term (ℕ × ℕ) → List Mark
marks t = preorder (λ e. e ∷ []) (λ b. (0, b)) t

-- a call (i, q) of one of n states on one of r children
pub record Call (n r : ℕ) (e : ℕ × ℕ) : Type 0 where
  pub from_one : 1 ≤ e.0
  pub child : e.0 ≤ r
  pub state : e.1 < n
