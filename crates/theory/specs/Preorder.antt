-- The states in depth-first order (02, F-12, rule 2): when a state is first met it is listed, and its right-hand sides are read in the order of symbols before the next letter is.
use Rattle.std.specs.Prelude.{ℕ, suc, ◌<◌, ◌≤◌, ◌≡◌, List, [], ◌∷◌, ◌++◌}
use Rattle.std.proofs.Math.Option.{none as nothing, some}
use Rattle.theory.specs.Grammar.{Grammar}
use Rattle.theory.specs.Rule.{Stands}
use Rattle.theory.specs.Term.{Term, var, Terms, node, none, more}
use Rattle.theory.specs.Transducer.{Transducer}

mutual
  -- reading a term takes the list of the states met from L to L': a call of a state that is listed adds nothing, a call of one that is not lists it and reads its right-hand sides
  pub data Visit {Q : Type 0} (G : Grammar) (M : Transducer Q) : Term (ℕ × Q) → List Q → List Q → Type 0 where
    visit_old : {e : ℕ × Q} {L : List Q} → Stands L e.1 → Visit G M (var e) L L
    visit_new : {e : ℕ × Q} {L L' : List Q} → ¬ Stands L e.1 → VisitRhs G M e.1 0 (L ++ e.1 ∷ []) L' → Visit G M (var e) L L'
    visit_node : {k : ℕ} {ts : Terms (ℕ × Q)} {L L' : List Q} → Visits G M ts L L' → Visit G M (node k ts) L L'

  -- reading several terms, from left to right
  pub data Visits {Q : Type 0} (G : Grammar) (M : Transducer Q) : Terms (ℕ × Q) → List Q → List Q → Type 0 where
    visit_none : {L : List Q} → Visits G M none L L
    visit_more : {t : Term (ℕ × Q)} {ts : Terms (ℕ × Q)} {L L' L'' : List Q} → Visit G M t L L' → Visits G M ts L' L'' → Visits G M (more t ts) L L''

  -- reading the right-hand sides of q for the allowed symbols from a on
  pub data VisitRhs {Q : Type 0} (G : Grammar) (M : Transducer Q) : Q → ℕ → List Q → List Q → Type 0 where
    no_symbol : {q : Q} {a : ℕ} {L : List Q} → G.symbols ≤ a → VisitRhs G M q a L L
    skip_symbol : {q : Q} {a : ℕ} {L L' : List Q} → a < G.symbols → G.children (M.sort q) a ≡ nothing → VisitRhs G M q (suc a) L L' → VisitRhs G M q a L L'
    visit_symbol : {q : Q} {a : ℕ} {sorts : List ℕ} {L L' L'' : List Q} → G.children (M.sort q) a ≡ some sorts → Visit G M (M.rhs q a) L L' → VisitRhs G M q (suc a) L' L'' → VisitRhs G M q a L L''

-- L lists the states in depth-first order
abbrev pub Preordered : {Q : Type 0} → Grammar → Transducer Q → List Q → Type 0
Preordered G M L = Visit G M M.initial [] L
