-- Reading trees back from their code, from the last letter to the first: a symbol takes as many of the trees behind it as its rank says.
-- What stands behind a broken place is forgotten, so that the first tree of `forest f s`, if there is one, is the tree whose code s begins with.
use Rattle.std.specs.Prelude.{ℕ, suc, Bool, true, false, List, [], ◌∷◌, ◌≡◌, leb, length}
use Rattle.theory.specs.Inner.Forests.{letters_all}
use Rattle.theory.specs.Term.{Term, var, node, Terms, none, more, count}

-- what a letter says: a variable, a symbol with its rank, or nothing known
pub data Letter (A : Type 0) : Type 0 where
  call : A → Letter A
  symbol : ℕ → ℕ → Letter A
  unknown : Letter A

unfoldable pub firsts : {A : Type 0} → ℕ → Terms A → Terms A
firsts ℕ.zero ts = none
firsts (suc n) none = none
firsts (suc n) (more t ts) = more t (firsts n ts)

unfoldable pub rests : {A : Type 0} → ℕ → Terms A → Terms A
rests ℕ.zero ts = ts
rests (suc n) none = none
rests (suc n) (more t ts) = rests n ts

abbrev pub node_if : {A : Type 0} → Bool → ℕ → ℕ → Terms A → Terms A
node_if true k n ts = more (node k (firsts n ts)) (rests n ts)
node_if false k n ts = none

unfoldable pub put : {A : Type 0} → Letter A → Terms A → Terms A
put (call a) ts = more (var a) ts
put (symbol k n) ts = node_if (leb n (count ts)) k n ts
put unknown ts = none

unfoldable pub forest : {A X : Type 0} → (X → Letter A) → List X → Terms A
forest f [] = none
forest f (x ∷ s) = put (f x) (forest f s)

-- the first of some trees
unfoldable pub first : {A : Type 0} → Terms A → Term A
first none = node 0 none
first (more t ts) = t

-- s is the code of one tree, and nothing more
pub record Whole {A X : Type 0} (f : X → Letter A) (s : List X) : Type 0 where
  pub one : count (forest f s) ≡ 1
  pub all : letters_all (forest f s) ≡ length s

-- t is a term over the letters of f: each symbol k, written y k, has its rank, and each variable a, written c a, is one
unfoldable mutual
  pub Over : {A X : Type 0} → (X → Letter A) → (A → X) → (ℕ → X) → Term A → Type 0
  Over f c y (var a) = f (c a) ≡ call a
  Over f c y (node k ts) = (f (y k) ≡ symbol k (count ts)) × AllOver f c y ts

  pub AllOver : {A X : Type 0} → (X → Letter A) → (A → X) → (ℕ → X) → Terms A → Type 0
  AllOver f c y none = Unit {0}
  AllOver f c y (more t ts) = Over f c y t × AllOver f c y ts
