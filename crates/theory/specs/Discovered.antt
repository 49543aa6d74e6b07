-- The states in the order of first meeting, as a list: the initial term is read first, then the right-hand sides of the first state listed by symbol, of the second, and so on.
use Rattle.std.specs.Prelude.{ℕ, suc, ◌≡◌, List, [], length}
use Rattle.std.proofs.Math.Option.{none as nothing, some}
use Rattle.std.proofs.Math.ListN.{get_elem?}
use Rattle.theory.specs.Grammar.{Grammar}
use Rattle.theory.specs.Registry.{Enter}
use Rattle.theory.specs.Term.{Term, var, Terms, node, none, more}
use Rattle.theory.specs.Transducer.{Transducer}

-- reading a term of calls: each state called is entered into the list
mutual
  pub data Read {Q : Type 0} : Term (ℕ × Q) → List Q → List Q → Type 0 where
    read_call : {e : ℕ × Q} {n : ℕ} {L L' : List Q} → Enter L e.1 n L' → Read (var e) L L'
    read_node : {k : ℕ} {ts : Terms (ℕ × Q)} {L L' : List Q} → Reads ts L L' → Read (node k ts) L L'

  pub data Reads {Q : Type 0} : Terms (ℕ × Q) → List Q → List Q → Type 0 where
    read_none : {L : List Q} → Reads none L L
    read_more : {t : Term (ℕ × Q)} {ts : Terms (ℕ × Q)} {L L' L'' : List Q} → Read t L L' → Reads ts L' L'' → Reads (more t ts) L L''

-- reading the right-hand sides of q for the allowed symbols below a
pub data ReadRhs {Q : Type 0} (G : Grammar) (M : Transducer Q) (q : Q) (L : List Q) : ℕ → List Q → Type 0 where
  no_rhs : ReadRhs G M q L 0 L
  skip_rhs : {a : ℕ} {L' : List Q} → ReadRhs G M q L a L' → G.children (M.sort q) a ≡ nothing → ReadRhs G M q L (suc a) L'
  read_rhs : {a : ℕ} {sorts : List ℕ} {L' L'' : List Q} → ReadRhs G M q L a L' → G.children (M.sort q) a ≡ some sorts → Read (M.rhs q a) L' L'' → ReadRhs G M q L (suc a) L''

-- reading the initial term and then the first p states of the list itself
pub data ReadStates {Q : Type 0} (G : Grammar) (M : Transducer Q) : ℕ → List Q → Type 0 where
  read_initial : {L : List Q} → Read M.initial [] L → ReadStates G M 0 L
  read_state : {p : ℕ} {q : Q} {L L' : List Q} → ReadStates G M p L → get_elem? L p ≡ some q → ReadRhs G M q L G.symbols L' → ReadStates G M (suc p) L'

-- L lists the states in the order of first meeting
abbrev pub Discovered : {Q : Type 0} → Grammar → Transducer Q → List Q → Type 0
Discovered G M L = ReadStates G M (length L) L
