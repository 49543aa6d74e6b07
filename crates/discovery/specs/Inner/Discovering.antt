-- What is asked of a transducer whose states are numbers, and what stands in the table after its bodies were added one by one.
use Rattle.std.specs.Prelude.{None, Option, Some, ℕ, ◌≤◌, ◌<◌, List, ◌≡◌, length, get_or, take, drop, ◌-◌}
use Rattle.std.proofs.Math.Seq.{slice}
use Rattle.theory.specs.Discovered.{ReadStates, Discovered}
use Rattle.theory.specs.Listing.{Indexes, listed}
use Rattle.theory.specs.NormalForm.{Identical}
use Rattle.theory.specs.Term.{Term}
use Rattle.trees.specs.declared.bytes.Span.{Span}
use Rattle.theory.specs.Transducer.{Transducer}
use Rattle.trees.specs.Alphabets.{Leaf}
use Rattle.trees.specs.Code.{Ranked}
use Rattle.formats.specs.Inner.Layout.{body_number}
use Rattle.forms.specs.Alphabet.{alphabet}
use Rattle.forms.specs.Inner.Tables.{machine, Layout, Packed}
use Rattle.discovery.specs.Inner.Letters.{spelt}
use Rattle.discovery.specs.Inner.Queue.{Queue, met_of}
use Rattle.discovery.specs.Inner.Bodies.{BodiesBefore, TooLarge}

-- a call of a valid state on one of r children
pub record ValidCall (Valid : ℕ → Type 0) (r : ℕ) (e : ℕ × ℕ) : Type 0 where
  pub from_one : 1 ≤ e.0
  pub child : e.0 ≤ r
  pub state : Valid e.1

-- E is over the two alphabets, and its valid states are numbers below w, which call valid states
pub record ByNumbers (ins outs : List ℕ) (w : ℕ) (E : Transducer ℕ) (Valid : ℕ → Type 0) : Type 0 where
  pub few_symbols : length outs ≤ 64
  pub few_inputs : length ins ≤ 16
  pub ranks : (a : ℕ) → a < length ins → get_or ins a 0 ≤ 4
  pub narrow : w ≤ 65536
  pub small : (c : ℕ) → Valid c → c < w
  pub sort : (c : ℕ) → E.sort c ≡ 0
  pub initial : Ranked (ValidCall Valid 1) outs E.initial
  pub rhs : (c a : ℕ) → Valid c → a < length ins → Ranked (ValidCall Valid (get_or ins a 0)) outs (E.rhs c a)

-- such a transducer over an input alphabet that has a leaf
pub record Numbered (ins outs : List ℕ) (w : ℕ) (E : Transducer ℕ) (Valid : ℕ → Type 0) : Type 0 where
  pub numbers : ByNumbers ins outs w E Valid
  pub leaf : Leaf ins

-- the letters `from` up to `to` are the right-hand side of state c for symbol a
pub record FindsRhs (E : Transducer ℕ) (c a : ℕ) (letters : List ℕ) (from to : ℕ) : Type 0 where
  pub ordered : from ≤ to
  pub inside : to ≤ length letters
  pub spelled : slice from to letters ≡ spelt (E.rhs c a)

-- the letters of a term stand in a span of the area, or are more than a body has
pub record Spells (t : Term (ℕ × ℕ)) (letters : List ℕ) (r : Option Span) : Type 0 where
  pub over : r ≡ None → 64 < length (spelt t)
  pub ordered : (s : Span) → r ≡ Some s → s.from ≤ s.to
  pub inside : (s : Span) → r ≡ Some s → s.to ≤ length letters
  pub spelled : (s : Span) → r ≡ Some s → take (s.to - s.from) (drop s.from letters) ≡ spelt t

-- nothing is there yet
pub record Empty (w : ℕ) (starts out list place : List ℕ) : Type 0 where
  pub queue : Queue list place 0
  pub wide : length place ≡ w
  pub long : 2050 ≤ length starts
  pub room : length out ≡ 16384
  pub start : get_or starts 0 0 ≡ 0

-- the initial term and the right-hand sides of the first p states met are there
pub record Found (ins : List ℕ) (E : Transducer ℕ) (w p : ℕ) (starts out list place : List ℕ) (met : ℕ) : Type 0 where
  pub bodies : BodiesBefore ins E w (body_number ins p 0) starts out list place met
  pub read : (l : Leaf ins) → ReadStates (alphabet ins l) E p (met_of list met)

-- they were added, or the form is over the limits of a file
pub record Adds (ins outs : List ℕ) (E : Transducer ℕ) (w p : ℕ) (starts out list place : List ℕ) (r : Option ℕ) : Type 0 where
  pub over : r ≡ None → TooLarge ins outs E
  pub found : (n : ℕ) → r ≡ Some n → Found ins E w p starts out list place n

-- and so were the right-hand sides of all states met
pub record AddsAll (ins outs : List ℕ) (E : Transducer ℕ) (w : ℕ) (starts out list place : List ℕ) (r : Option ℕ) : Type 0 where
  pub over : r ≡ None → TooLarge ins outs E
  pub found : (n : ℕ) → r ≡ Some n → Found ins E w n starts out list place n

-- the states of E, in the order of first meeting, and their numbers; N is E by these numbers
pub record Met (ins : List ℕ) (E N : Transducer ℕ) (n : ℕ) : Type 0 where
  pub states : List ℕ
  pub index : ℕ → ℕ
  pub indexes : Indexes states index
  pub met : (l : Leaf ins) → Discovered (alphabet ins l) E states
  pub form : (l : Leaf ins) → Identical (alphabet ins l) N (listed E states index) n (length states)

-- E by these numbers stands in the table; or it is over the limits of a file
pub record Discovers (ins outs : List ℕ) (E : Transducer ℕ) (starts out : List ℕ) (r : Option ℕ) : Type 0 where
  pub over : r ≡ None → TooLarge ins outs E
  pub layout : (n : ℕ) → r ≡ Some n → Layout ins outs starts out n
  pub packed : (n : ℕ) → r ≡ Some n → Packed ins starts n
  pub met : (n : ℕ) → r ≡ Some n → Met ins E (machine ins outs starts out n) n
