-- Numbering rules (02, F-12): a rule lists each reached state exactly once, and would list the same states in the same order if their old numbers were changed.
use Rattle.std.specs.Prelude.{ℕ, ◌<◌, ◌≡◌, ◌↔◌, List, map}
use Rattle.std.proofs.Math.Option.{some}
use Rattle.std.proofs.Math.ListN.{get_elem?}
use Rattle.theory.specs.Canonical.{Canonical}
use Rattle.theory.specs.Distinct.{Distinct}
use Rattle.theory.specs.Equivalent.{Equivalent}
use Rattle.theory.specs.Grammar.{Grammar}
use Rattle.theory.specs.Numbered.{count_up}
use Rattle.theory.specs.Reached.{Reached}
use Rattle.theory.specs.Transducer.{Transducer, renamed}
use Rattle.theory.specs.Wf.{Wf}

-- q stands in the list L
pub record Stands {Q : Type 0} (L : List Q) (q : Q) : Type 0 where
  pub number : ℕ
  pub there : get_elem? L number ≡ some q

-- M' is M with other numbers for its n states: f permutes the numbers below n, and state q of M is state f q of M'
pub record Renumbers (G : Grammar) (M M' : Transducer ℕ) (n : ℕ) (f : ℕ → ℕ) : Type 0 where
  pub below : (q : ℕ) → q < n → f q < n
  pub one_to_one : (q r : ℕ) → q < n → r < n → f q ≡ f r → q ≡ r
  pub sort : (q : ℕ) → q < n → M'.sort (f q) ≡ M.sort q
  pub initial : M'.initial ≡ renamed f M.initial
  pub rhs : (q a : ℕ) {sorts : List ℕ} → q < n → G.children (M.sort q) a ≡ some sorts → M'.rhs (f q) a ≡ renamed f (M.rhs q a)

-- an order of the states: Lists M n L says that L is its list for the transducer M with the states below n
abbrev pub Order : Type 1
Order = Transducer ℕ → ℕ → List ℕ → Type 0

-- Lists is a numbering rule, for well-formed transducers
pub record IsRule (G : Grammar) (Lists : Order) : Type 0 where
  -- there is a list, and only one
  pub some_list : (M : Transducer ℕ) (n : ℕ) → Wf G M (λ q. q < n) → (L : List ℕ) × Lists M n L
  pub one_list : {M : Transducer ℕ} {n : ℕ} {L L' : List ℕ} → Wf G M (λ q. q < n) → Lists M n L → Lists M n L' → L ≡ L'
  -- each reached state stands there, and no other, and none twice
  pub reached : {M : Transducer ℕ} {n : ℕ} {L : List ℕ} → Wf G M (λ q. q < n) → Lists M n L → (q : ℕ) → Reached G M q ↔ Stands L q
  pub once : {M : Transducer ℕ} {n : ℕ} {L : List ℕ} → Wf G M (λ q. q < n) → Lists M n L → Distinct L
  -- with other numbers the same states stand there in the same order
  pub same_order : {M M' : Transducer ℕ} {n : ℕ} {f : ℕ → ℕ} {L : List ℕ} → Wf G M (λ q. q < n) → Renumbers G M M' n f → Lists M n L → Lists M' n (map f L)

-- M, with the states below n, is numbered by the rule: its list is 0, 1, …, n - 1
abbrev pub NumberedBy : Order → Transducer ℕ → ℕ → Type 0
NumberedBy Lists M n = Lists M n (count_up 0 n)

-- N, with the states below n, is the normal form of M by the rule: equivalent to M, canonical, and numbered by the rule (02: the clean sheet under the rule)
pub record NormalFormBy {Q : Type 0} (G : Grammar) (Lists : Order) (M : Transducer Q) (N : Transducer ℕ) (n : ℕ) : Type 0 where
  pub equivalent : Equivalent G M N
  pub canonical : Canonical G N (λ q. q < n)
  pub numbered : NumberedBy Lists N n

-- item x codes the normal form of M by the rule; Codes says what codes which transducer
pub record CodesFormBy {Q I : Type 0} (G : Grammar) (Lists : Order) (M : Transducer Q) (Codes : I → Transducer ℕ → ℕ → Type 0) (x : I) : Type 0 where
  pub form : Transducer ℕ
  pub states : ℕ
  pub normal : NormalFormBy G Lists M form states
  pub codes : Codes x form states
