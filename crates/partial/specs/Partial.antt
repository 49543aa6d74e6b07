-- Partial input trees (02: designs with blanks) and what the transducer of a file gives on them (02: what a sheet lays for one).
use Rattle.std.specs.Prelude.{ℕ, List, [], ◌∷◌, ◌≡◌}
use Rattle.std.proofs.Math.Option.{some}
use Rattle.theory.specs.OpenTrees.{translate_open}
use Rattle.theory.specs.Term.{Term, var, bind, Tree, Symbol, sub, symbol_at}
use Rattle.theory.specs.Transducer.{Transducer}
use Rattle.trees.specs.Alphabets.{inputs, outputs}
use Rattle.trees.specs.Code.{Ranked, preorder}
use Rattle.formats.specs.Sheet.{Sheet}
use Rattle.canonical.specs.Answers.{SewAlike}

-- A partial input tree, over the input alphabet with the ranks ins: a tree with variables, each for a part that is not drawn yet (02: a blank).
-- It may be of any size, have any number of variables, and be one variable. The names of the variables are of any type, so that all may be different.
abbrev pub PartialTree : {A : Type 0} → List ℕ → Term A → Type 0
PartialTree ins d = Ranked (λ x. Unit {0}) ins d

-- The transducer of the file `sheet` gives t on the partial input tree d: ⟦M⟧ as on input trees, and where a state q meets a variable x the call (x, q) stays (02: an open end stays where a pass meets a blank).
pub record Lays {A : Type 0} (stock sheet : List ℕ) (d : Term A) (t : Term (A × ℕ)) : Type 0 where
  pub states : ℕ
  pub machine : Transducer ℕ
  pub is_sheet : Sheet (inputs stock) (outputs stock) sheet states machine
  pub is_partial : PartialTree (inputs stock) d
  pub given : translate_open machine d ≡ t

-- all that t has, u has (000, lemma 1): each symbol of t is in u, the same at the same address; and where t has a call, u has a call or a symbol
pub record HasAll {A B : Type 0} (t : Term A) (u : Term B) : Type 0 where
  pub symbols : (v : List ℕ) (b : Symbol) → symbol_at t v ≡ some b → symbol_at u v ≡ some b
  pub calls : (v : List ℕ) (e : A) → sub t v ≡ some (var e) → (a : Term B) × (sub u v ≡ some a)

-- Nothing is earlier than the file x: on every partial input tree it lays all that is laid by any file of a transducer that is alike to that of s.
pub record NothingEarlier (stock s x : List ℕ) : Type 1 where
  pub first : {A : Type 0} {s' : List ℕ} {d : Term A} {t u : Term (A × ℕ)} → SewAlike stock s s' → Lays stock s' d t → Lays stock x d u → HasAll t u

-- an input tree as a partial one, without variables
abbrev pub whole : {A : Type 0} → Tree → Term A
whole d = bind d (λ x. absurd x)

-- the code of a partial tree, with the byte p at each variable
abbrev pub partial_code : {A : Type 0} → ℕ → Term A → List ℕ
partial_code p d = preorder (λ x. p ∷ []) (λ k. k) d
