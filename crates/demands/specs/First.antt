-- Demand 1 of the user, whole, of whatever keeps the promises of the entry points: a field for each entry point. That each returns for every input is proved with its contract.
use Rattle.std.specs.Prelude.{Bool, Option, Result, ℕ, ◌≤◌, List, [], ◌⊎◌, ◌≡◌, length}
use Rattle.trees.specs.declared.refusal.Refusal.{Refusal}
use Rattle.forms.specs.declared.write.Form.{Form}
use Rattle.witness.specs.declared.witness.Shown.{Shown}
use Rattle.records.specs.declared.book.Foretold.{Foretold}
use Rattle.trees.specs.Refusal.{outcome_of, Outcome, accepted, refused, Checks, done, check, Holds}
use Rattle.trees.specs.Alphabets.{alphabet_check}
use Rattle.trees.specs.Answers.{Nothing, ReadsAlphabets, ReadsTree}
use Rattle.formats.specs.Answers.{ReadsFile, HandsCounts, HandsMarks, WritesFile}
use Rattle.formats.specs.Sheet.{longest, sheet_check, parts_check}
use Rattle.trees.specs.Tree.{tree_check}
use Rattle.trees.specs.declared.alphabet.AlphabetSizes.{AlphabetSizes}
use Rattle.trees.specs.declared.tree.TreeSize.{TreeSize}
use Rattle.queries.specs.Answers.{TestsLinear, FindsSymbol}
use Rattle.transducer.specs.Answers.{room_check, levels_check, Translates}
use Rattle.earliest.specs.Answers.{form_check, MakesEarliest}
use Rattle.canonical.specs.Answers.{Cleans}
use Rattle.join.specs.Answers.{joinable, Joins}
use Rattle.codes.specs.Answers.{codes_area, WritesCodes}
use Rattle.xml.specs.Answers.{forms_check, WritesXml, ReadsXml}
use Rattle.xml.specs.Xml.{xml}
use Rattle.trees.specs.Code.{code}
use Rattle.witness.specs.Difference.{tree_area, address_area}
use Rattle.comparison.specs.Answers.{pair_check, Compares, HandsShorter}
use Rattle.records.specs.Answers.{Kept, Makes, CleanFile, HasPlace, entry_check, Enters, Questions, Would, Commits, HandsBody}
use Rattle.records.specs.Book.{body, Chained}
use Rattle.records.specs.declared.book.Head.{Head}
use Rattle.records.specs.declared.book.Record.{Record}
use Rattle.report.specs.Answers.{text_area, Reports}

-- k is the number of the first check that does not hold
unfoldable pub FirstFailing : Checks → ℕ → Type 0
FirstFailing done k = ⊥
FirstFailing (check j P rest) k = ((P → ⊥) × (k ≡ j)) ⊎ (P × FirstFailing rest k)

-- an acceptance, and then every check holds; or the number of the first check that does not hold, and then what is lent is as it was
abbrev pub Answered : {A : Type 0} → Checks → Type 0 → Outcome A → Type 0
Answered {A} checks Left r = ((a : A) × ((r ≡ accepted a) × Holds checks)) ⊎ ((k : ℕ) × ((r ≡ refused k) × FirstFailing checks k × Left))

pub record Demand1 : Type 1 where
  -- where a check does not hold there is a first one, at the start or behind checks that hold; then not all hold, and its number is one
  pub first_here : (j : ℕ) (P : Type 0) (rest : Checks) → (P → ⊥) → FirstFailing (check j P rest) j
  pub first_behind : (j k : ℕ) (P : Type 0) (rest : Checks) → P → FirstFailing rest k → FirstFailing (check j P rest) k
  pub first_fails : (checks : Checks) (k : ℕ) → FirstFailing checks k → Holds checks → ⊥
  pub first_one : (checks : Checks) (j k : ℕ) → FirstFailing checks j → FirstFailing checks k → j ≡ k
  -- the readers, of a stock, a design and a sheet
  pub alphabets : (stock : List ℕ) (r : Result AlphabetSizes Refusal) → ReadsAlphabets stock r → Answered (alphabet_check stock done) Nothing (outcome_of r)
  pub tree : (stock s : List ℕ) (r : Result TreeSize Refusal) → ReadsTree stock s r → Answered (alphabet_check stock (tree_check stock s done)) Nothing (outcome_of r)
  pub file : (stock s : List ℕ) (r : Result ℕ Refusal) → ReadsFile stock s r → Answered (alphabet_check stock (sheet_check stock s done)) Nothing (outcome_of r)
  -- a part of a file that is refused is empty
  pub counts : (stock s part : List ℕ) → HandsCounts stock s part → (Holds (alphabet_check stock (sheet_check stock s done)) → ⊥) → part ≡ []
  pub marks : (stock s part : List ℕ) → HandsMarks stock s part → (Holds (alphabet_check stock (sheet_check stock s done)) → ⊥) → part ≡ []
  -- the writer
  pub written : (stock counts bytes before after : List ℕ) (n : ℕ) (r : Result ℕ Refusal) → WritesFile stock n counts bytes before after r → Answered (check 1 (longest ≤ length before) (alphabet_check stock (parts_check stock n counts bytes done))) (after ≡ before) (outcome_of r)
  -- the single test, sewing and the place reader
  pub linear : (stock s : List ℕ) (r : Result Bool Refusal) → TestsLinear stock s r → Answered (alphabet_check stock (sheet_check stock s done)) Nothing (outcome_of r)
  pub translation : (stock sheet design before after : List ℕ) (r : Result ℕ Refusal) → Translates stock sheet design before after r → Answered (alphabet_check stock (sheet_check stock sheet (tree_check stock design (room_check stock sheet design before (levels_check stock sheet design done))))) (after ≡ before) (outcome_of r)
  pub symbol : (stock sheet design address : List ℕ) (r : Result (Option ℕ) Refusal) → FindsSymbol stock sheet design address r → Answered (alphabet_check stock (sheet_check stock sheet (tree_check stock design done))) Nothing (outcome_of r)
  -- trimming and cleaning
  pub earliest : (stock s before after : List ℕ) (r : Result Form Refusal) → MakesEarliest stock s before after r → Answered (check 1 (longest ≤ length before) (alphabet_check stock (sheet_check stock s (form_check stock s done)))) (after ≡ before) (outcome_of r)
  pub clean : (stock s before after : List ℕ) (r : Result Form Refusal) → Cleans stock s before after r → Answered (check 1 (longest ≤ length before) (alphabet_check stock (sheet_check stock s (form_check stock s done)))) (after ≡ before) (outcome_of r)
  -- joining
  pub joining : (stock stock' s s' before after : List ℕ) (r : Result Form Refusal) → Joins stock stock' s s' before after r → Answered (check 1 (longest ≤ length before) (joinable stock stock' s s')) (after ≡ before) (outcome_of r)
  -- comparison, and the bodies of the shorter one
  pub comparison : (stock s s' tree tree' address address' : List ℕ) (r : Result (Option Shown) Refusal) → Compares stock s s' tree tree' address address' r → Answered (check 1 ((tree_area ≤ length tree) × (address_area ≤ length address)) (pair_check stock s s')) ((tree' ≡ tree) × (address' ≡ address)) (outcome_of r)
  pub shorter : (stock s s' part : List ℕ) → HandsShorter stock s s' part → (Holds (pair_check stock s s') → ⊥) → part ≡ []
  -- the lines of the program `sheets`
  pub report : (stock s s' before after : List ℕ) (r : Result ℕ Refusal) → Reports stock s s' before after r → Answered (check 1 (text_area ≤ length before) done) (after ≡ before) (outcome_of r)
  -- the codes of blocks
  pub codes : (before after : List ℕ) (r : Result (Unit {0}) Refusal) → WritesCodes before after r → Answered (check 1 (codes_area ≤ length before) done) (after ≡ before) (outcome_of r)
  -- plans as XML, written and read
  pub xml_written : (stock s before after : List ℕ) (r : Result ℕ Refusal) → WritesXml stock s before after r → Answered (alphabet_check stock (forms_check code xml stock s before done)) (after ≡ before) (outcome_of r)
  pub xml_read : (stock s before after : List ℕ) (r : Result ℕ Refusal) → ReadsXml stock s before after r → Answered (alphabet_check stock (forms_check xml code stock s before done)) (after ≡ before) (outcome_of r)
  -- the book
  pub making : (stock area area' : List ℕ) (h h' : Head) (rs rs' : List Record) (r : Result (Unit {0}) Refusal) → Makes stock h rs area h' rs' area' r → Answered (check 9 (33 ≤ length rs) (alphabet_check stock (check 8 (length stock ≤ length area) done))) (Kept h rs area h' rs' area') (outcome_of r)
  pub entry : (s area area' : List ℕ) (h h' : Head) (rs rs' : List Record) (r : Result ℕ Refusal) → Enters s h rs area h' rs' area' r → Answered (check 9 (Chained h rs area) (sheet_check (body rs area 0) s (form_check (body rs area 0) s (check 8 ((x : List ℕ) × (CleanFile (body rs area 0) s x × HasPlace h rs area x)) done)))) (Kept h rs area h' rs' area') (outcome_of r)
  -- a question of what an entry would get: 1, and then the checks of the entry; a commit: these, and 13 last of all
  pub question : (s area before after : List ℕ) (h : Head) (rs : List Record) (r : Result Foretold Refusal) → Questions s h rs area before after r → Answered (check 1 (longest ≤ length before) (entry_check s h rs area done)) (after ≡ before) (outcome_of r)
  pub commit : (s area area' : List ℕ) (m : ℕ) (h h' : Head) (rs rs' : List Record) (r : Result ℕ Refusal) → Commits s m h rs area h' rs' area' r → Answered (entry_check s h rs area (check 13 (Would s h rs area m) done)) (Kept h rs area h' rs' area') (outcome_of r)
  pub body_of : (area part : List ℕ) (h : Head) (rs : List Record) (n : ℕ) → HandsBody h rs area n part → (Chained h rs area → ⊥) → part ≡ []
