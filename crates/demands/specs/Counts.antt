-- Request F-3 of document 02, how often a sheet was brought in, of whatever keeps the promises of the registry's entry points: each field is a sentence of its text. That 9 is the first check of an entry, and what a refusal leaves, are fields of demand 1.
use Rattle.std.specs.Prelude.{Result, ℕ, ◌+◌, ◌<◌, ◌⊎◌, ◌≢◌, ◌↔◌, ◌≡◌}
use Rattle.trees.specs.declared.refusal.Refusal.{Refusal}
use Rattle.trees.specs.Refusal.{outcome_of, accepted, refused}
use mathlib.Core.List.{List, [], ◌∷◌, Memᴰ}
use Rattle.std.proofs.Math.Option.{Option, some}
use Rattle.canonical.specs.Answers.{SewAlike}
use Rattle.records.specs.Answers.{Makes, Enters, HandsBody}
use Rattle.records.specs.Book.{answers_of, record_at, tally}
use Rattle.records.specs.declared.book.Head.{Head}
use Rattle.records.specs.declared.book.Record.{Record}
use Rattle.registry.specs.Calls.{Book, answer_of, accepted_with, Entries}

-- the counts of all records do not sum to the answered count, or record 0 or an unused record holds another count than 0
abbrev pub Miscounted : Head → List Record → Type 0
Miscounted h rs = (tally rs 33 ≢ answers_of h) ⊎ (((record_at rs 0).count ≢ 0) ⊎ ((i : ℕ) × ((h.held < i) × (i < 33) × ((record_at rs i).count ≢ 0))))

pub record Request3 : Type 0 where
  -- Each record of the contents also holds a count of the entries answered with it: after any list of entries into a book just made, refused ones included, it is the number of accepted entries with its number,
  pub each : {stock : List ℕ} {log : List (List ℕ × Option ℕ)} {b : Book} → Entries stock log b → (n : ℕ) → n < 33 → (record_at b.records n).count ≡ accepted_with n log
  -- where a making with an acceptance, and any entry after it, whatever it answers, is such a list;
  pub begins : {stock : List ℕ} (b b' : Book) (r : Result (Unit {0}) Refusal) → Makes stock b.head b.records b.area b'.head b'.records b'.area r → outcome_of r ≡ accepted tt → Entries stock [] b'
  pub goes_on : {stock s : List ℕ} {log : List (List ℕ × Option ℕ)} (b b' : Book) (r : Result ℕ Refusal) → Entries stock log b → Enters s b.head b.records b.area b'.head b'.records b'.area r → Entries stock ((s, answer_of r) ∷ log) b'
  -- record 0 and unused records hold 0.
  pub none : {stock : List ℕ} {log : List (List ℕ × Option ℕ)} {b : Book} → Entries stock log b → (n : ℕ) → n < 33 → (n ≡ 0) ⊎ (b.head.held < n) → (record_at b.records n).count ≡ 0
  -- An accepted entry raises the count of the record it is answered with by one, and no other.
  pub raises : {s area area' : List ℕ} {h h' : Head} {rs rs' : List Record} {n : ℕ} (r : Result ℕ Refusal) → Enters s h rs area h' rs' area' r → outcome_of r ≡ accepted n → ((record_at rs' n).count ≡ (record_at rs n).count + 1) × ((m : ℕ) → m ≢ n → (record_at rs' m).count ≡ (record_at rs m).count)
  -- The counts of all records sum to the answered count,
  pub sum : {stock : List ℕ} {log : List (List ℕ × Option ℕ)} {b : Book} → Entries stock log b → tally b.records 33 ≡ answers_of b.head
  -- and 9 now covers a book where that sum fails, or record 0 or an unused record holds another count; a body by number is empty then.
  pub refuses : {s area area' : List ℕ} {h h' : Head} {rs rs' : List Record} (r : Result ℕ Refusal) → Enters s h rs area h' rs' area' r → Miscounted h rs → outcome_of r ≡ refused 9
  pub hands_none : {area part : List ℕ} {h : Head} {rs : List Record} (n : ℕ) → HandsBody h rs area n part → Miscounted h rs → part ≡ []
  -- Equal numbers exactly for alike sheets hold in the enlarged book as in the old one.
  pub exact : {stock : List ℕ} {log : List (List ℕ × Option ℕ)} {b : Book} → Entries stock log b → (s s' : List ℕ) (n n' : ℕ) → Memᴰ (s, some n) log → Memᴰ (s', some n') log → SewAlike stock s s' ↔ (n ≡ n')
