-- Request F-6 of document 02, look before entering, of whatever keeps the promises of the registry's entry points: each field is a sentence of its text.
-- That the checks are made in their order, and what a refusal leaves, are the fields `question` and `commit` of demand 1.
use Rattle.std.specs.Prelude.{Result, ℕ, ◌≤◌, ◌<◌, ◌≢◌, ◌↔◌, ◌≡◌, length, take, drop}
use Rattle.trees.specs.declared.refusal.Refusal.{Refusal}
use Rattle.forms.specs.declared.write.Form.{Form}
use Rattle.records.specs.declared.book.Foretold.{Foretold}
use Rattle.trees.specs.Refusal.{outcome_of, accepted, refused}
use mathlib.Core.List.{List, [], ◌∷◌, map, Memᴰ}
use Rattle.std.proofs.Math.Option.{Option, some, none as nothing}
use Rattle.theory.specs.Registry.{History}
use Rattle.formats.specs.Sheet.{longest}
use Rattle.canonical.specs.Answers.{SewAlike, Cleans}
use Rattle.records.specs.Answers.{Makes, Enters, Questions, Commits}
use Rattle.records.specs.Book.{answers_of, record_at, body, tally}
use Rattle.records.specs.declared.book.Head.{Head}
use Rattle.records.specs.declared.book.Record.{Record}
use Rattle.registry.specs.Calls.{Book, answer_of, acceptances, accepted_with, Entries}
use Rattle.registry.specs.Questions.{Call, entry, commit, question, foretold, Calling, Calls, enters_file, accepteds}
use Rattle.demands.specs.Third.{Wrote}

-- ---- the question
pub record Looking : Type 0 where
  -- A question answers the number that an entry would get,
  pub answers : {s area area' before after : List ℕ} {h h' : Head} {rs rs' : List Record} {n size : ℕ} (q : Result Foretold Refusal) (r : Result ℕ Refusal) → Questions s h rs area before after q → Enters s h rs area h' rs' area' r → outcome_of q ≡ accepted (record { number = n; size = size }) → outcome_of r ≡ accepted n
  -- wherever the entry gets one and the editor's area has 20,483 bytes;
  pub answered : {s area area' before after : List ℕ} {h h' : Head} {rs rs' : List Record} {n : ℕ} (q : Result Foretold Refusal) (r : Result ℕ Refusal) → longest ≤ length before → Questions s h rs area before after q → Enters s h rs area h' rs' area' r → outcome_of r ≡ accepted n → (size : ℕ) × (outcome_of q ≡ accepted (record { number = n; size = size }))
  -- so with such an area it is refused as the entry would be, and with a shorter one by 1;
  pub refused_so : {s area area' before after : List ℕ} {h h' : Head} {rs rs' : List Record} (k : ℕ) (q : Result Foretold Refusal) (r : Result ℕ Refusal) → longest ≤ length before → Questions s h rs area before after q → Enters s h rs area h' rs' area' r → (outcome_of q ≡ refused k) ↔ (outcome_of r ≡ refused k)
  pub short : {s area before after : List ℕ} {h : Head} {rs : List Record} (q : Result Foretold Refusal) → length before < longest → Questions s h rs area before after q → outcome_of q ≡ refused 1
  -- and writes the clean sheet to the editor's area: its first bytes are what cleaning under the book's stock writes, with an area long enough,
  pub writes : {s area before after room room' : List ℕ} {h : Head} {rs : List Record} {n size : ℕ} (q : Result Foretold Refusal) (r : Result Form Refusal) → Questions s h rs area before after q → outcome_of q ≡ accepted (record { number = n; size = size }) → longest ≤ length room → Cleans (body rs area 0) s room room' r → (size ≤ length after) × Wrote r room' (take size after)
  -- and its other bytes keep their values.
  pub rest : {s area before after : List ℕ} {h : Head} {rs : List Record} {n size : ℕ} (q : Result Foretold Refusal) → Questions s h rs area before after q → outcome_of q ≡ accepted (record { number = n; size = size }) → (length after ≡ length before) × (drop size after ≡ drop size before)

-- ---- the commit
pub record Committing : Type 0 where
  -- A commit takes the sheet and that number and does what an entry does: what is left and answered by accepted commits of the number m is what is by entries that get m,
  pub does : {s area area' : List ℕ} {h h' : Head} {rs rs' : List Record} {m n : ℕ} (r : Result ℕ Refusal) → (Commits s m h rs area h' rs' area' r × (outcome_of r ≡ accepted n)) ↔ (Enters s h rs area h' rs' area' r × (outcome_of r ≡ accepted n) × (n ≡ m))
  -- so where an entry would get m, the commit is accepted with it and leaves the same head, records and area.
  pub same : {s area area₁ area₂ : List ℕ} {h h₁ h₂ : Head} {rs rs₁ rs₂ : List Record} {m : ℕ} (r r' : Result ℕ Refusal) → Enters s h rs area h₁ rs₁ area₁ r → Commits s m h rs area h₂ rs₂ area₂ r' → outcome_of r ≡ accepted m → (outcome_of r' ≡ accepted m) × (h₂ ≡ h₁) × (rs₂ ≡ rs₁) × (area₂ ≡ area₁)
  -- It refuses by 13, last of all, a commit whose sheet would get another number,
  pub other : {s area area₁ area₂ : List ℕ} {h h₁ h₂ : Head} {rs rs₁ rs₂ : List Record} {m n : ℕ} (r r' : Result ℕ Refusal) → Enters s h rs area h₁ rs₁ area₁ r → Commits s m h rs area h₂ rs₂ area₂ r' → outcome_of r ≡ accepted n → m ≢ n → outcome_of r' ≡ refused 13
  -- and no other commit,
  pub other_alone : {s area area₁ area₂ : List ℕ} {h h₁ h₂ : Head} {rs rs₁ rs₂ : List Record} {m : ℕ} (r r' : Result ℕ Refusal) → Enters s h rs area h₁ rs₁ area₁ r → Commits s m h rs area h₂ rs₂ area₂ r' → outcome_of r' ≡ refused 13 → (n : ℕ) × ((outcome_of r ≡ accepted n) × (m ≢ n))
  -- for where the entry would be refused the commit is refused by the same number, whatever it claims.
  pub refused_so : {s area area₁ area₂ : List ℕ} {h h₁ h₂ : Head} {rs rs₁ rs₂ : List Record} {k m : ℕ} (r r' : Result ℕ Refusal) → Enters s h rs area h₁ rs₁ area₁ r → Commits s m h rs area h₂ rs₂ area₂ r' → outcome_of r ≡ refused k → outcome_of r' ≡ refused k

-- ---- lists of calls
-- calls from the book b on, the last first, each lent the book as the call before left it; b' is what they leave
abbrev pub From : Book → List (Call × Option ℕ) → Book → Type 0
From b log b' = History (λ c. c ≡ b) Calling log b'

pub record Listing : Type 1 where
  -- Lists of calls begin with an accepted making, or with any book,
  pub begins : {stock : List ℕ} (b b' : Book) (r : Result (Unit {0}) Refusal) → Makes stock b.head b.records b.area b'.head b'.records b'.area r → outcome_of r ≡ accepted tt → Calls stock [] b'
  pub begins_at : (b : Book) → From b [] b
  -- and go on with any entry or commit, whatever it answers,
  pub enters : {First : Book → Type 0} {s : List ℕ} {log : List (Call × Option ℕ)} (b b' : Book) (r : Result ℕ Refusal) → History First Calling log b → Enters s b.head b.records b.area b'.head b'.records b'.area r → History First Calling ((entry s, answer_of r) ∷ log) b'
  pub commits : {First : Book → Type 0} {s : List ℕ} {m : ℕ} {log : List (Call × Option ℕ)} (b b' : Book) (r : Result ℕ Refusal) → History First Calling log b → Commits s m b.head b.records b.area b'.head b'.records b'.area r → History First Calling ((commit s m, answer_of r) ∷ log) b'
  -- and with any question, with the book untouched.
  pub asks : {First : Book → Type 0} {s before after : List ℕ} {log : List (Call × Option ℕ)} (b : Book) (q : Result Foretold Refusal) → History First Calling log b → Questions s b.head b.records b.area before after q → History First Calling ((question s, foretold q) ∷ log) b
  -- With no making, entry or commit in between (questions, and calls that are refused, do no harm), and nobody else writing the book, a commit of the same sheet with the number that a question answered is accepted with it. Its areas are those of the book, long enough when the question was answered.
  pub keeps : {s before after : List ℕ} {n size : ℕ} {between : List (Call × Option ℕ)} (b b₁ b₂ : Book) (q : Result Foretold Refusal) (r : Result ℕ Refusal) → Questions s b.head b.records b.area before after q → outcome_of q ≡ accepted (record { number = n; size = size })
      → From b between b₁ → ((c : Call) (m : ℕ) → Memᴰ (c, some m) between → enters_file c ≡ nothing)
      → Commits s n b₁.head b₁.records b₁.area b₂.head b₂.records b₂.area r → outcome_of r ≡ accepted n
  -- Demand 3's list may now hold commits and questions too (a list of entries is one of calls): any two accepted entries or commits in it get one number exactly when their sheets sew alike.
  pub entries : {stock : List ℕ} {log : List (List ℕ × Option ℕ)} {b : Book} → Entries stock log b → Calls stock (map (λ e. (entry e.0, e.1)) log) b
  pub exact : {stock : List ℕ} {log : List (Call × Option ℕ)} {b : Book} → Calls stock log b → (c c' : Call) (s s' : List ℕ) (n n' : ℕ) → enters_file c ≡ some s → enters_file c' ≡ some s' → Memᴰ (c, some n) log → Memᴰ (c', some n') log → SewAlike stock s s' ↔ (n ≡ n')
  -- A commit does what an entry does: each record's count (F-3) is the number of accepted entries and commits with its number, and all together are the answered count, the number of accepted entries and commits.
  pub each : {stock : List ℕ} {log : List (Call × Option ℕ)} {b : Book} → Calls stock log b → (n : ℕ) → n < 33 → (record_at b.records n).count ≡ accepted_with n (accepteds log)
  pub sum : {stock : List ℕ} {log : List (Call × Option ℕ)} {b : Book} → Calls stock log b → (tally b.records 33 ≡ answers_of b.head) × (answers_of b.head ≡ acceptances (accepteds log))

pub record Request6 : Type 1 where
  pub looking : Looking
  pub committing : Committing
  pub listing : Listing
