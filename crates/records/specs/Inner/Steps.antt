-- What the steps of an entry and of making answer.
use Rattle.std.specs.Prelude.{Err, None, Ok, Option, Result, Some, ℕ, ◌+◌, ◌≤◌, ◌<◌, Bool, true, false, List, ◌≡◌, eqb, length, set, take}
use Rattle.std.proofs.lemmas.List.Edits.{sets}
use Rattle.trees.specs.Alphabets.{alphabet_check}
use Rattle.trees.specs.Refusal.{outcome_of, check, done, Holds, Judged}
use Rattle.formats.specs.Sheet.{longest, sheet_check}
use Rattle.trees.specs.declared.refusal.Refusal.{Refusal}
use Rattle.trees.specs.declared.refusal.Refusal.TheVariants.{ShortArea, FullRegistry, OtherNumber}
use Rattle.earliest.specs.Answers.{form_check}
use Rattle.records.specs.Answers.{CleanFile, Lowest, NotHeld, HasPlace, Gets, Enters, Registers}
use Rattle.records.specs.Book.{new_head, body_record, counted_record, counted_head, grown_head, record_at, body, total, Chained}
use Rattle.records.specs.declared.book.Entry.{Entry}
use Rattle.records.specs.declared.book.Head.{Head}
use Rattle.records.specs.declared.book.Record.{Record}
use Rattle.records.specs.declared.book.Submission.{Submission}

-- ---- a registry
-- the first n bodies follow one another, up to byte `at`
pub record Passed (rs : List Record) (n at : ℕ) : Type 0 where
  pub starts : (i : ℕ) → i < n → (record_at rs i).start ≡ total rs i
  pub sum : at ≡ total rs n

-- ---- the search
-- the records from 1 to `held` are there, and their bodies end within the area
pub record Placed (held : ℕ) (rs : List Record) (area : List ℕ) : Type 0 where
  pub few : held ≤ 32
  pub there : (i : ℕ) → 1 ≤ i → i ≤ held → i < length rs
  pub ends : (i : ℕ) → 1 ≤ i → i ≤ held → (record_at rs i).start + (record_at rs i).size ≤ length area

-- the lowest number, from 1 to `held`, with these bytes, if there is one
abbrev pub Finds : ℕ → List Record → List ℕ → List ℕ → Option ℕ → Type 0
Finds held rs area x None = NotHeld held rs area x
Finds held rs area x (Some n) = Lowest held rs area x n

-- ---- before the search: a registry and a clean file, or the refusal
-- x is the clean file of s under the alphabets of a registry
pub record Cleaned (s : List ℕ) (h : Head) (rs : List Record) (area x : List ℕ) : Type 0 where
  pub chained : Chained h rs area
  pub checks : Holds (sheet_check (body rs area 0) s (form_check (body rs area 0) s done))
  pub file : CleanFile (body rs area 0) s x

-- w begins with the clean file of s, which has this size
abbrev pub Asks : List ℕ → Head → List Record → List ℕ → List ℕ → Result ℕ Refusal → Type 0
Asks s h rs area w (Ok size) = (size ≤ length w) × Cleaned s h rs area (take size w)
Asks s h rs area w (Err q) = Enters s h rs area h rs area (Err q)

-- ---- the question
-- the editor's area takes every clean file, or refusal 1
abbrev pub TakesFile : List ℕ → Result (Unit {0}) Refusal → Type 0
TakesFile out (Ok v) = longest ≤ length out
TakesFile out (Err q) = (q ≡ ShortArea) × (length out < longest)

-- what giving a number asks of the head, where the area has `room` bytes
pub record Ready (h : Head) (room : ℕ) : Type 0 where
  pub few : h.held ≤ 32
  pub inside : h.used ≤ room

-- the number that x would get, or refusal 8
abbrev pub Numbers : Head → List Record → List ℕ → List ℕ → Result ℕ Refusal → Type 0
Numbers h rs area x (Ok n) = Gets h rs area x n
Numbers h rs area x (Err q) = (q ≡ FullRegistry) × (HasPlace h rs area x → ⊥)

-- ---- the claim
-- what an entry says, which may get any number, and a commit, which has to get this one
abbrev pub any_number : Submission
any_number = record { claim = None }

abbrev pub this_number : ℕ → Submission
this_number m = record { claim = Some m }

abbrev pub chosen : Bool → Result ℕ Refusal → Result ℕ Refusal → Result ℕ Refusal
chosen true a b = a
chosen false a b = b

abbrev pub claimed_by : Option ℕ → ℕ → Result ℕ Refusal
claimed_by None n = Ok n
claimed_by (Some m) n = chosen (eqb n m) (Ok n) (Err OtherNumber)

-- ---- the commit
-- the answer n is counted, in the head and in its record r
abbrev pub counted_entry : Head → ℕ → Record → Entry
counted_entry h n r = record { head = counted_head h; number = n; new = counted_record r }

-- x is put behind what is held, with the next number
abbrev pub added_entry : Head → List ℕ → Entry
added_entry h x = record { head = grown_head h (length x); number = h.held + 1; new = body_record h.used (length x) }

-- an entry or a commit of the file s
abbrev pub Places : List ℕ → Submission → Head → List Record → List ℕ → Result Entry Refusal → List ℕ → Type 0
Places s u h rs area (Ok e) area' = (e.number < length rs) × Registers s u h rs area e.head (set rs e.number e.new) area' (Ok e.number)
Places s u h rs area (Err q) area' = Registers s u h rs area h rs area' (Err q)

-- ---- making
-- the head is that of a registry with nothing but these alphabets, and the area begins with them
pub record Started (stock area : List ℕ) (h : Head) (area' : List ℕ) : Type 0 where
  pub head : h ≡ new_head (length stock)
  pub bodies : area' ≡ sets area 0 stock

-- n is how many records there are
abbrev pub Starts : List ℕ → ℕ → List ℕ → List ℕ → Result Head Refusal → Type 0
Starts stock n area area' r =
    Judged (area' ≡ area) (λ h. Started stock area h area')
    (check 9 (33 ≤ n) (alphabet_check stock (check 8 (length stock ≤ length area) done)))
    (outcome_of r)
