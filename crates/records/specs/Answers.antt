-- What the entry points of a registry answer. In each, h, rs and area are the head, the records and the area as lent, and h', rs' and area' as left.
use Rattle.std.specs.Prelude.{None, Option, Some, Result, ℕ, ◌+◌, ◌≤◌, ◌<◌, List, [], ◌∷◌, ◌++◌, ◌⊎◌, ◌≡◌, length, set, drop, replicate}
use Rattle.trees.specs.declared.refusal.Refusal.{Refusal}
use Rattle.records.specs.declared.book.Foretold.{Foretold}
use Rattle.trees.specs.Refusal.{outcome_of, Checks, done, check, Judged}
use Rattle.std.proofs.lemmas.List.Edits.{sets}
use Rattle.trees.specs.Alphabets.{alphabet_check}
use Rattle.formats.specs.Sheet.{longest, file, sheet_check}
use Rattle.earliest.specs.Answers.{form_check}
use Rattle.canonical.specs.Answers.{NormalFile}
use Rattle.records.specs.Book.{no_record, stock_record, body_record, counted_record, new_head, counted_head, grown_head, record_at, body, Chained}
use Rattle.records.specs.declared.book.Head.{Head}
use Rattle.records.specs.declared.book.Record.{Record}
use Rattle.records.specs.declared.book.Submission.{Submission}

-- a refusal leaves head, records and area as they were
abbrev pub Kept : Head → List Record → List ℕ → Head → List Record → List ℕ → Type 0
Kept h rs area h' rs' area' = (h' ≡ h) × (rs' ≡ rs) × (area' ≡ area)

-- ---- making: a registry with these alphabets and nothing else in it
-- the head is new, the first 33 records are those of the alphabets and unused ones, and the area begins with the alphabets; the rest of both stays
pub record Begun (stock : List ℕ) (rs : List Record) (area : List ℕ) (h' : Head) (rs' : List Record) (area' : List ℕ) : Type 0 where
  pub head : h' ≡ new_head (length stock)
  pub records : rs' ≡ stock_record (length stock) ∷ (replicate 32 no_record ++ drop 33 rs)
  pub bodies : area' ≡ sets area 0 stock

abbrev pub Makes : List ℕ → Head → List Record → List ℕ → Head → List Record → List ℕ → Result (Unit {0}) Refusal → Type 0
Makes stock h rs area h' rs' area' r =
    Judged (Kept h rs area h' rs' area') (λ v. Begun stock rs area h' rs' area')
    (check 9 (33 ≤ length rs) (alphabet_check stock (check 8 (length stock ≤ length area) done)))
    (outcome_of r)

-- ---- entry: the number of a transducer's normal form
-- x is the file of the normal form (01: clean sheet) of the transducer of the file s
pub record CleanFile (stock s x : List ℕ) : Type 0 where
  pub states : ℕ
  pub counts : List ℕ
  pub bytes : List ℕ
  pub normal : NormalFile stock s states counts bytes
  pub coded : x ≡ file states counts bytes

-- x is held, and n is its lowest number; body 0 has none
pub record Lowest (held : ℕ) (rs : List Record) (area x : List ℕ) (n : ℕ) : Type 0 where
  pub low : 1 ≤ n
  pub high : n ≤ held
  pub there : body rs area n ≡ x
  pub first : (m : ℕ) → 1 ≤ m → m < n → body rs area m ≡ x → ⊥

-- x is not held
pub record NotHeld (held : ℕ) (rs : List Record) (area x : List ℕ) : Type 0 where
  pub none : (m : ℕ) → 1 ≤ m → m ≤ held → body rs area m ≡ x → ⊥

-- there is room for x behind what is held
pub record Room (h : Head) (area x : List ℕ) : Type 0 where
  pub few : h.held < 32
  pub fits : h.used + length x ≤ length area

-- x is not held, there is room for it, and n is the next number
pub record Next (h : Head) (rs : List Record) (area x : List ℕ) (n : ℕ) : Type 0 where
  pub new : NotHeld h.held rs area x
  pub room : Room h area x
  pub next : n ≡ h.held + 1

-- n is the number that x would get
abbrev pub Gets : Head → List Record → List ℕ → List ℕ → ℕ → Type 0
Gets h rs area x n = Lowest h.held rs area x n ⊎ Next h rs area x n

-- x is held: its lowest number n is answered, which is counted in the head and in its record, and nothing else changes
pub record Known (h : Head) (rs : List Record) (area x : List ℕ) (n : ℕ) (h' : Head) (rs' : List Record) (area' : List ℕ) : Type 0 where
  pub lowest : Lowest h.held rs area x n
  pub head : h' ≡ counted_head h
  pub records : rs' ≡ set rs n (counted_record (record_at rs n))
  pub bodies : area' ≡ area

-- x is not held: it is put behind what is held, gets the next number n, and that is counted; the other records and bytes stay
pub record Added (h : Head) (rs : List Record) (area x : List ℕ) (n : ℕ) (h' : Head) (rs' : List Record) (area' : List ℕ) : Type 0 where
  pub new : NotHeld h.held rs area x
  pub room : Room h area x
  pub next : n ≡ h.held + 1
  pub head : h' ≡ grown_head h (length x)
  pub records : rs' ≡ set rs n (body_record h.used (length x))
  pub bodies : area' ≡ sets area h.used x

-- refusal 8: x is not held, and there is no room for it
abbrev pub HasPlace : Head → List Record → List ℕ → List ℕ → Type 0
HasPlace h rs area x = ((n : ℕ) × Lowest h.held rs area x n) ⊎ Room h area x

abbrev pub Gives : Head → List Record → List ℕ → List ℕ → ℕ → Head → List Record → List ℕ → Type 0
Gives h rs area x n h' rs' area' = Known h rs area x n h' rs' area' ⊎ Added h rs area x n h' rs' area'

-- the checks of an entry of s, and then others
abbrev pub entry_check : List ℕ → Head → List Record → List ℕ → Checks → Checks
entry_check s h rs area rest = check 9 (Chained h rs area) (sheet_check (body rs area 0) s (form_check (body rs area 0) s (check 8 ((x : List ℕ) × (CleanFile (body rs area 0) s x × HasPlace h rs area x)) rest)))

-- the file s is cleaned under the alphabets of the registry, and its normal form is given a number
abbrev pub Enters : List ℕ → Head → List Record → List ℕ → Head → List Record → List ℕ → Result ℕ Refusal → Type 0
Enters s h rs area h' rs' area' r =
    Judged (Kept h rs area h' rs' area') (λ n. (x : List ℕ) × (CleanFile (body rs area 0) s x × Gives h rs area x n h' rs' area'))
    (entry_check s h rs area done)
    (outcome_of r)

-- ---- question and commit (02, F-6)
-- the number that an entry would get, and the length of the clean file
-- an entry of s would get the number n, and its clean file, which has this size, stands at the start of the editor's area, after for before
pub record Foretells (s : List ℕ) (h : Head) (rs : List Record) (area before after : List ℕ) (n size : ℕ) : Type 0 where
  pub clean : List ℕ
  pub file : CleanFile (body rs area 0) s clean
  pub gets : Gets h rs area clean n
  pub long : size ≡ length clean
  pub wrote : after ≡ sets before 0 clean

-- a question is refused by 1, and then as the entry would be; a refusal leaves the editor's area. Head, records and area of the registry are lent for reading alone
abbrev pub Questions : List ℕ → Head → List Record → List ℕ → List ℕ → List ℕ → Result Foretold Refusal → Type 0
Questions s h rs area before after r =
    Judged (after ≡ before) (λ (v : Foretold). Foretells s h rs area before after v.number v.size)
    (check 1 (longest ≤ length before) (entry_check s h rs area done))
    (outcome_of r)

-- n is the number that an entry of s would get
abbrev pub Would : List ℕ → Head → List Record → List ℕ → ℕ → Type 0
Would s h rs area n = (x : List ℕ) × (CleanFile (body rs area 0) s x × Gets h rs area x n)

-- a commit of s with the number m does what an entry does, where that gets this number; it is refused by 13, last of all, where it gets another
abbrev pub Commits : List ℕ → ℕ → Head → List Record → List ℕ → Head → List Record → List ℕ → Result ℕ Refusal → Type 0
Commits s m h rs area h' rs' area' r =
    Judged (Kept h rs area h' rs' area') (λ n. (x : List ℕ) × (CleanFile (body rs area 0) s x × Gives h rs area x n h' rs' area'))
    (entry_check s h rs area (check 13 (Would s h rs area m) done))
    (outcome_of r)

-- an entry where any number is claimed, a commit where one is
abbrev pub RegistersBy : Option ℕ → List ℕ → Head → List Record → List ℕ → Head → List Record → List ℕ → Result ℕ Refusal → Type 0
RegistersBy None s h rs area h' rs' area' r = Enters s h rs area h' rs' area' r
RegistersBy (Some m) s h rs area h' rs' area' r = Commits s m h rs area h' rs' area' r

abbrev pub Registers : List ℕ → Submission → Head → List Record → List ℕ → Head → List Record → List ℕ → Result ℕ Refusal → Type 0
Registers s u h rs area h' rs' area' r = RegistersBy u.claim s h rs area h' rs' area' r

-- ---- a body by number: empty for 0, for a number that is not held, and on refusal 9
abbrev pub HandsBody : Head → List Record → List ℕ → ℕ → List ℕ → Type 0
HandsBody h rs area n part =
    ((Chained h rs area × (1 ≤ n) × (n ≤ h.held)) × (part ≡ body rs area n))
    ⊎ (((Chained h rs area × (1 ≤ n) × (n ≤ h.held)) → ⊥) × (part ≡ []))
