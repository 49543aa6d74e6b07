-- The search for an input tree on which a state's output has a root symbol other than b: its steps, and tables of distances.
use Rattle.std.specs.Prelude.{ℕ, suc, ◌≡◌, ◌≢◌, List}
use Rattle.std.proofs.Math.Option.{some}
use Rattle.theory.specs.Grammar.{Grammar}
use Rattle.theory.specs.Inner.Leaves.{leaf_of, put}
use Rattle.theory.specs.Term.{Symbol, Terms, node, count, var, Tree}
use Rattle.theory.specs.Transducer.{Transducer}

-- an allowed symbol whose right-hand side has a root symbol other than b
pub record RootOther {Q : Type 0} (G : Grammar) (M : Transducer Q) (b : Symbol) (q : Q) (a : ℕ) (sorts : List ℕ) : Type 0 where
  pub allowed : G.children (M.sort q) a ≡ some sorts
  pub name : ℕ
  pub below : Terms (ℕ × Q)
  pub is : M.rhs q a ≡ node name below
  pub other : ◌≢◌ {A = Symbol} (name, count below) b

-- an allowed symbol whose right-hand side is one call, of state r on child i
pub record CallsOnly {Q : Type 0} (G : Grammar) (M : Transducer Q) (q : Q) (a : ℕ) (sorts : List ℕ) (i : ℕ) (r : Q) : Type 0 where
  pub allowed : G.children (M.sort q) a ≡ some sorts
  pub is : M.rhs q a ≡ var (i, r)

-- the tree found in k steps: each step a symbol, with leaves beside the child that the search goes on with
pub data Falls {Q : Type 0} (G : Grammar) (M : Transducer Q) (b : Symbol) : Q → ℕ → Tree → Type 0 where
  fall_root : {q : Q} {a : ℕ} {sorts : List ℕ} → RootOther G M b q a sorts → Falls G M b q 1 (node a (put G sorts 0 (leaf_of G 0)))
  fall_call : {q r : Q} {a i k : ℕ} {sorts : List ℕ} {d : Tree} → CallsOnly G M q a sorts i r → Falls G M b r k d → Falls G M b q (suc k) (node a (put G sorts i d))

-- A table of distances is sound if distance 1 has such a root, and a greater one a call of a state with the distance before; 0 says: not found.
pub record Sound {Q : Type 0} (G : Grammar) (M : Transducer Q) (Valid : Q → Type 0) (b : Symbol) (dist : Q → ℕ) : Type 0 where
  pub at_root : (q : Q) → Valid q → dist q ≡ 1 → (a : ℕ) × (sorts : List ℕ) × RootOther G M b q a sorts
  pub onward : (q : Q) (k : ℕ) → Valid q → dist q ≡ suc (suc k) → (a : ℕ) × (sorts : List ℕ) × (i : ℕ) × (r : Q) × CallsOnly G M q a sorts i r × (dist r ≡ suc k)

-- It is complete if no state is left that has such a root, or a call alone of a state found.
pub record Complete {Q : Type 0} (G : Grammar) (M : Transducer Q) (Valid : Q → Type 0) (b : Symbol) (dist : Q → ℕ) : Type 0 where
  pub root_found : (q : Q) (a : ℕ) (sorts : List ℕ) → Valid q → RootOther G M b q a sorts → dist q ≢ 0
  pub call_found : (q : Q) (a : ℕ) (sorts : List ℕ) (i : ℕ) (r : Q) → Valid q → CallsOnly G M q a sorts i r → dist r ≢ 0 → dist q ≢ 0
