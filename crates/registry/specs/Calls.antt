-- Lists of calls: an accepted making, then entries, each lent head, records and area as the call before it left them.
use Rattle.std.specs.Prelude.{Err, Ok, Result, ℕ, suc, ◌+◌, ◌≤◌, ◌<◌, Bool, true, false, ◌⊎◌, ◌↔◌, ◌≡◌, eqb}
use Rattle.trees.specs.declared.refusal.Refusal.{Refusal}
use mathlib.Core.List.{List, [], ◌∷◌, Memᴰ}
use Rattle.std.proofs.Math.Option.{some, Option, none as nothing}
use Rattle.theory.specs.Registry.{History}
use Rattle.canonical.specs.Answers.{SewAlike}
use Rattle.records.specs.Answers.{Makes, CleanFile, Enters}
use Rattle.records.specs.Book.{answers_of, too_many, record_at, body, tally, Chained}
use Rattle.records.specs.declared.book.Head.{Head}
use Rattle.records.specs.declared.book.Record.{Record}

-- head, records and area, as one call leaves them to the next
pub record Book : Type 0 where
  pub head : Head
  pub records : List Record
  pub area : List ℕ

-- b is what an accepted making with the alphabets `stock` leaves, whatever stood there before it
pub record MadeWith (stock : List ℕ) (b : Book) : Type 0 where
  pub before : Book
  pub call : Makes stock before.head before.records before.area b.head b.records b.area (Ok tt)

-- the number that an entry answers; a refusal has none
abbrev pub answer_of : Result ℕ Refusal → Option ℕ
answer_of (Ok n) = some n
answer_of (Err r) = nothing

-- an entry of the file s, lent b, answers a and leaves b'
pub record EntersFile (b : Book) (s : List ℕ) (a : Option ℕ) (b' : Book) : Type 0 where
  pub answer : Result ℕ Refusal
  pub call : Enters s b.head b.records b.area b'.head b'.records b'.area answer
  pub told : answer_of answer ≡ a

-- the files entered and the answers, the last first: from an accepted making on, refused entries included, up to the book b
abbrev pub Entries : List ℕ → List (List ℕ × Option ℕ) → Book → Type 0
Entries stock log b = History (MadeWith stock) EntersFile log b

abbrev pub one_if : Bool → ℕ
one_if true = 1
one_if false = 0

-- how many entries were accepted
unfoldable pub acceptances : List (List ℕ × Option ℕ) → ℕ
acceptances [] = 0
acceptances ((s, some n) ∷ log) = suc (acceptances log)
acceptances ((s, nothing) ∷ log) = acceptances log

-- how many entries were accepted with the number n
unfoldable pub accepted_with : ℕ → List (List ℕ × Option ℕ) → ℕ
accepted_with n [] = 0
accepted_with n ((s, some m) ∷ log) = one_if (eqb n m) + accepted_with n log
accepted_with n ((s, nothing) ∷ log) = accepted_with n log

-- what is promised of such a list, of any length and with any files
pub record Orderly (stock : List ℕ) (log : List (List ℕ × Option ℕ)) (b : Book) : Type 0 where
  -- any two accepted entries got one number exactly if their transducers are equivalent (01: their sheets sew alike)
  pub exact : (s s' : List ℕ) (n n' : ℕ) → Memᴰ (s, some n) log → Memᴰ (s', some n') log → SewAlike stock s s' ↔ (n ≡ n')
  -- whatever was accepted is still held at the number answered
  pub there : (s : List ℕ) (n : ℕ) → Memᴰ (s, some n) log → (1 ≤ n) × (n ≤ b.head.held) × CleanFile stock s (body b.records b.area n)
  -- the count is that of the entries accepted
  pub answered : answers_of b.head ≡ acceptances log
  -- the count of each record is that of the entries accepted with its number
  pub counts : (n : ℕ) → n < 33 → (record_at b.records n).count ≡ accepted_with n log
  -- so the record of the alphabets and unused ones count nothing,
  pub none : (n : ℕ) → n < 33 → (n ≡ 0) ⊎ (b.head.held < n) → (record_at b.records n).count ≡ 0
  -- and all together the entries accepted
  pub sum : tally b.records 33 ≡ answers_of b.head
  -- the alphabets are those of the making
  pub alphabets : body b.records b.area 0 ≡ stock
  -- what is left is a registry: no entry is refused by 9 before as many entries are answered as can be counted
  pub stands : answers_of b.head < too_many → Chained b.head b.records b.area

-- what stays of b₀ in b, which other entries led to: each body at its number
pub record Stays (b₀ b : Book) : Type 0 where
  pub held : b₀.head.held ≤ b.head.held
  pub bodies : (m : ℕ) → m ≤ b₀.head.held → body b.records b.area m ≡ body b₀.records b₀.area m
