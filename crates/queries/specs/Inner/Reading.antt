-- Reading the bodies of a table, as long as none calls a child twice: the states called are entered into a list, and the list says which bodies are next.
use Rattle.std.specs.Prelude.{None, Option, Some, ℕ, suc, ◌+◌, ◌*◌, ◌<◌, Bool, true, false, List, [], ◌∷◌, ◌⊎◌, ◌≡◌, length}
use Rattle.std.proofs.Math.Option.{some}
use Rattle.std.proofs.Math.ListN.{get_elem?}
use Rattle.theory.specs.Inner.ReadCalls.{ReadCalls}
use Rattle.trees.specs.Code.{Mark}
use Rattle.formats.specs.Inner.Layout.{body}
use Rattle.discovery.specs.Inner.Queue.{Queue, met_of}
use Rattle.queries.specs.Inner.Uses.{Once}

-- the calls among the marks
unfoldable pub mark_calls : List Mark → List (ℕ × ℕ)
mark_calls [] = []
mark_calls ((ℕ.zero, b) ∷ ms) = mark_calls ms
mark_calls ((suc i, q) ∷ ms) = (suc i, q) ∷ mark_calls ms

-- the marks of one body have been read
abbrev pub ReadMarks : List Mark → List ℕ → List ℕ → Type 0
ReadMarks ms L L' = Once ms × ReadCalls (mark_calls ms) L L'

-- k bodies from number b on have been read
pub data ReadBodies (start : ℕ → ℕ) (bytes : List ℕ) (b : ℕ) (L : List ℕ) : ℕ → List ℕ → Type 0 where
  no_body : ReadBodies start bytes b L 0 L
  one_body : {k : ℕ} {L' L'' : List ℕ} → ReadBodies start bytes b L k L' → ReadMarks (body start bytes (b + k)) L' L'' → ReadBodies start bytes b L (suc k) L''

-- body 0 has been read, and those of the first p states listed, P for each
pub data ReadTable (P : ℕ) (start : ℕ → ℕ) (bytes : List ℕ) : ℕ → List ℕ → Type 0 where
  read_initial : {L : List ℕ} → ReadBodies start bytes 0 [] 1 L → ReadTable P start bytes 0 L
  read_state : {p q : ℕ} {L L' : List ℕ} → ReadTable P start bytes p L → get_elem? L p ≡ some q → ReadBodies start bytes (1 + q * P) L P L' → ReadTable P start bytes (suc p) L'

-- one of k bodies from number b on calls a child twice
abbrev pub NotOnce : (ℕ → ℕ) → List ℕ → ℕ → ℕ → Type 0
NotOnce start bytes b k = ((j : ℕ) → j < k → Once (body start bytes (b + j))) → ⊥

-- what a reading answers: how many states have been met, and then Read holds of them; or that a child is called twice, and then Stop
pub record Reads (Stop : Type 0) (Read : List ℕ → Type 0) (list place : List ℕ) (r : Option ℕ) : Type 0 where
  pub stop : r ≡ None → Stop
  pub read : (n : ℕ) → r ≡ Some n → Read (met_of list n)
  pub queue : (n : ℕ) → r ≡ Some n → Queue list place n
  pub wide : (n : ℕ) → r ≡ Some n → length place ≡ 128

-- reading came to a state of the list of which a body calls a child twice
pub record Stopped (P : ℕ) (start : ℕ → ℕ) (bytes : List ℕ) : Type 0 where
  pub number : ℕ
  pub state : ℕ
  pub list : List ℕ
  pub read : ReadTable P start bytes number list
  pub there : get_elem? list number ≡ some state
  pub twice : NotOnce start bytes (1 + state * P) P

-- whether body 0, and those of all states that are met, have been read
pub record ReadsTable (P : ℕ) (start : ℕ → ℕ) (bytes : List ℕ) (b : Bool) : Type 0 where
  pub yes : b ≡ true → (L : List ℕ) × ReadTable P start bytes (length L) L
  pub no : b ≡ false → NotOnce start bytes 0 1 ⊎ Stopped P start bytes
