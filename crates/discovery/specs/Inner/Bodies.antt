-- The bodies of a transducer E whose states are numbers below w, as far as they stand in the table, and when the form is too large.
use Rattle.std.specs.Prelude.{None, Option, Some, ℕ, ◌+◌, ◌*◌, ◌%◌, ◌≤◌, ◌<◌, List, ◌⊎◌, ◌≡◌, length, get_or, set}
use Rattle.std.proofs.Math.Option.{some}
use Rattle.std.proofs.Math.ListN.{get_elem?}
use Rattle.std.proofs.lemmas.List.Edits.{sets}
use Rattle.theory.specs.Discovered.{ReadStates, ReadRhs}
use Rattle.theory.specs.Grammar.{Grammar}
use Rattle.theory.specs.Inner.Follows.{Follows}
use Rattle.theory.specs.Inner.ReadCalls.{ReadCalls}
use Rattle.theory.specs.Term.{Term}
use Rattle.theory.specs.Transducer.{Transducer}
use Rattle.trees.specs.Alphabets.{Leaf}
use Rattle.formats.specs.Inner.Layout.{body_number}
use Rattle.formats.specs.Inner.Marked.{part}
use Rattle.formats.specs.Sheet.{Encodes, mark_bytes}
use Rattle.forms.specs.Alphabet.{alphabet}
use Rattle.discovery.specs.Inner.Letters.{spelt}
use Rattle.discovery.specs.Inner.Queue.{Queue, met_of, marks_by, letter_calls}

-- N is what the reading of E finds, as far as any stage of it says
pub record AllFollow (G : Grammar) (E : Transducer ℕ) (N : Transducer ℕ) (k : ℕ) : Type 0 where
  pub states : (p : ℕ) (L : List ℕ) → ReadStates G E p L → p ≤ length L → Follows G E L N k
  pub stage : (p c a : ℕ) (L L' : List ℕ) → ReadStates G E p L → get_elem? L p ≡ some c → ReadRhs G E c L a L' → a ≤ G.symbols → Follows G E L' N k

-- no form that it finds is within the limits of a file
abbrev pub TooLarge : List ℕ → List ℕ → Transducer ℕ → Type 0
TooLarge ins outs E = (l : Leaf ins) (N : Transducer ℕ) (k : ℕ) (counts bytes : List ℕ) → AllFollow (alphabet ins l) E N k → Encodes ins outs k counts bytes N → ⊥

-- body j is t, its calls by the numbers of the states
pub record BodyAt (starts out place : List ℕ) (j : ℕ) (t : Term (ℕ × ℕ)) : Type 0 where
  pub ends : get_or starts (j + 1) 0 ≡ get_or starts j 0 + length (spelt t)
  pub marked : part out (get_or starts j 0) (get_or starts (j + 1) 0) ≡ marks_by place (spelt t)
  pub told : (i : ℕ) → i < length (spelt t) → 65536 ≤ get_or (spelt t) i 0 → 0 < get_or place (get_or (spelt t) i 0 % 65536) 0

-- the bodies before number b stand there: body 0 is the initial term of E, and the others the right-hand sides of the states met
pub record BodiesBefore (ins : List ℕ) (E : Transducer ℕ) (w b : ℕ) (starts out list place : List ℕ) (met : ℕ) : Type 0 where
  pub queue : Queue list place met
  pub wide : length place ≡ w
  pub few : met ≤ 128
  pub long : 2050 ≤ length starts
  pub room : length out ≡ 16384
  pub start : get_or starts 0 0 ≡ 0
  pub increasing : (j : ℕ) → j < b → (get_or starts j 0 < get_or starts (j + 1) 0) × (get_or starts (j + 1) 0 ≤ get_or starts j 0 + 64)
  pub all : get_or starts b 0 ≤ 8192
  pub initial : 0 < b → BodyAt starts out place 0 E.initial
  pub rhs : (q a : ℕ) → a < length ins → body_number ins q a < b → BodyAt starts out place (body_number ins q a) (E.rhs (get_or list q 0) a)

-- how many states have been met, n, unless there is no answer
abbrev pub counted : {A : Type 0} → Option A → ℕ → Option ℕ
counted None n = None
counted (Some a) n = Some n

-- body b, with the letters s, was added; or it, or the states met with it, or all bodies with it are too many
pub record AddsBody (s : List ℕ) (b : ℕ) (starts out list place : List ℕ) (met : ℕ) (starts' out' list' place' : List ℕ) (r : Option ℕ) : Type 0 where
  pub over : r ≡ None → (64 < length s) ⊎ (8192 < get_or starts b 0 + length s) ⊎ ((L : List ℕ) × (ReadCalls (letter_calls s) (met_of list met) L × (128 < length L)))
  pub short : (n : ℕ) → r ≡ Some n → (length s ≤ 64) × (get_or starts b 0 + length s ≤ 8192) × (n ≤ 128)
  pub queue : (n : ℕ) → r ≡ Some n → Queue list' place' n
  pub wide : (n : ℕ) → r ≡ Some n → length place' ≡ length place
  pub read : (n : ℕ) → r ≡ Some n → ReadCalls (letter_calls s) (met_of list met) (met_of list' n)
  pub kept : (n : ℕ) → r ≡ Some n → (d : ℕ) → 0 < get_or place d 0 → get_or place' d 0 ≡ get_or place d 0
  pub told : (n : ℕ) → r ≡ Some n → (j : ℕ) → j < length s → 65536 ≤ get_or s j 0 → 0 < get_or place' (get_or s j 0 % 65536) 0
  pub wrote : (n : ℕ) → r ≡ Some n → out' ≡ sets out (2 * get_or starts b 0) (mark_bytes (marks_by place' s))
  pub ended : (n : ℕ) → r ≡ Some n → starts' ≡ set starts (b + 1) (get_or starts b 0 + length s)
