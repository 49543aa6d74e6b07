-- Transducers with one state whose initial term is a call of it alone (02, F-7: one pass, whose opening is that pass alone; Maneth, Seidl & Vu 2021, theorem 4).
use Rattle.std.specs.Prelude.{ℕ, ◌<◌, ◌≡◌}
use Rattle.theory.specs.Equivalent.{Equivalent}
use Rattle.theory.specs.Grammar.{Grammar, Allowed}
use Rattle.theory.specs.Term.{Term, var, bind, mapT, Tree}
use Rattle.theory.specs.Transducer.{Transducer, translate}
use Rattle.theory.specs.Vars.{AllVars}
use Rattle.theory.specs.Wf.{Wf}

-- N has state 0 alone, which its initial term calls on the whole input tree
pub record OneState (G : Grammar) (N : Transducer ℕ) : Type 0 where
  pub initial : N.initial ≡ var (1, 0)
  pub wf : Wf G N (λ q. q < 1)

-- N is such a transducer and equivalent to M (02: the sheet with one pass which sews alike)
pub record OneStateOf {Q : Type 0} (G : Grammar) (M : Transducer Q) (N : Transducer ℕ) : Type 0 where
  pub one : OneState G N
  pub equivalent : Equivalent G M N

-- M gives every input tree the same output tree (02: every design gives the same plan)
abbrev pub Constant : {Q : Type 0} → Grammar → Transducer Q → Type 0
Constant G M = (d d' : Tree) → Allowed G 0 d → Allowed G 0 d' → translate M d ≡ translate M d'

-- the transducer with the right-hand side r a for each symbol a
unfoldable pub one_state : (ℕ → Term (ℕ × ℕ)) → Transducer ℕ
one_state r = record { sort = λ q. 0; initial = var (1, 0); rhs = λ q a. r a }

-- A, the initial term, moved to child i: each call of it is on that child
unfoldable pub moved : Term (ℕ × ℕ) → ℕ → Term (ℕ × ℕ)
moved A i = mapT (λ e. (i, e.1)) A

-- r with A moved to child i for each call on child i
unfoldable pub copies : Term (ℕ × ℕ) → Term (ℕ × ℕ) → Term (ℕ × ℕ)
copies A r = bind r (λ e. moved A e.0)

-- what M does at a node with symbol a: its initial term, with rhs(q, a) for each call of q
unfoldable pub stepped : Transducer ℕ → ℕ → Term (ℕ × ℕ)
stepped M a = bind M.initial (λ e. M.rhs e.1 a)

-- the test: t is A moved to children, under the symbols of r, whose calls are of state 0
pub record Factor (A t r : Term (ℕ × ℕ)) : Type 0 where
  pub state : AllVars (λ e. e.1 ≡ 0) r
  pub whole : copies A r ≡ t
