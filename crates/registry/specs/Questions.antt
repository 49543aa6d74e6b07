-- 02, F-6: a question, and a commit with the number that it answered. Lists of entries, commits and questions.
use Rattle.std.specs.Prelude.{Err, Ok, Result, ℕ, ◌↔◌, ◌≡◌}
use Rattle.trees.specs.declared.refusal.Refusal.{Refusal}
use Rattle.records.specs.declared.book.Foretold.{Foretold}
use mathlib.Core.List.{List, [], ◌∷◌, Memᴰ}
use Rattle.std.proofs.Math.Option.{some, Option, none as nothing}
use Rattle.theory.specs.Registry.{History}
use Rattle.canonical.specs.Answers.{SewAlike}
use Rattle.records.specs.Answers.{Questions, Commits}
use Rattle.registry.specs.Calls.{Book, MadeWith, answer_of, EntersFile, Entries}

-- ---- lists of calls
pub data Call : Type 0 where
  entry : List ℕ → Call
  commit : List ℕ → ℕ → Call
  question : List ℕ → Call

-- the number that a question answers; a refusal has none
abbrev pub foretold : Result Foretold Refusal → Option ℕ
foretold (Ok v) = some v.number
foretold (Err r) = nothing

-- a commit of the file s with the number `claim`, lent b, answers a and leaves b'
pub record CommitsFile (b : Book) (s : List ℕ) (claim : ℕ) (a : Option ℕ) (b' : Book) : Type 0 where
  pub answer : Result ℕ Refusal
  pub call : Commits s claim b.head b.records b.area b'.head b'.records b'.area answer
  pub told : answer_of answer ≡ a

-- a question of the file s, lent b and some area of the editor's, answers a
pub record AsksFile (b : Book) (s : List ℕ) (a : Option ℕ) : Type 0 where
  pub before : List ℕ
  pub after : List ℕ
  pub answer : Result Foretold Refusal
  pub call : Questions s b.head b.records b.area before after answer
  pub told : foretold answer ≡ a

-- a call, lent b, answers a and leaves b'
abbrev pub Calling : Book → Call → Option ℕ → Book → Type 0
Calling b (entry s) a b' = EntersFile b s a b'
Calling b (commit s claim) a b' = CommitsFile b s claim a b'
Calling b (question s) a b' = AsksFile b s a × (b' ≡ b)

-- the calls and their answers, the last first: from an accepted making on, refused ones included, up to the book b
abbrev pub Calls : List ℕ → List (Call × Option ℕ) → Book → Type 0
Calls stock log b = History (MadeWith stock) Calling log b

-- the file that a call enters; a question enters none
abbrev pub enters_file : Call → Option (List ℕ)
enters_file (entry s) = some s
enters_file (commit s claim) = some s
enters_file (question s) = nothing

-- the entries and commits that were accepted, as entries
unfoldable pub accepteds : List (Call × Option ℕ) → List (List ℕ × Option ℕ)
accepteds [] = []
accepteds ((entry s, some n) ∷ log) = (s, some n) ∷ accepteds log
accepteds ((commit s claim, some n) ∷ log) = (s, some n) ∷ accepteds log
accepteds ((question s, some n) ∷ log) = accepteds log
accepteds ((c, nothing) ∷ log) = accepteds log

-- calls that change nothing: questions, and entries and commits that are refused
abbrev pub Idle : Book → Call → Option ℕ → Book → Type 0
Idle b (question s) a b' = AsksFile b s a × (b' ≡ b)
Idle b (entry s) a b' = EntersFile b s a b' × (a ≡ nothing)
Idle b (commit s claim) a b' = CommitsFile b s claim a b' × (a ≡ nothing)

-- a number that a question answered, and then calls that change nothing: a commit of the same file with that number is accepted with it
pub record Commitment : Type 0 where
  pub accepts : {b b' b'' : Book} {s : List ℕ} {n : ℕ} {log : List (Call × Option ℕ)} {a : Option ℕ} → AsksFile b s (some n) → History (λ c. c ≡ b) Idle log b' → CommitsFile b' s n a b'' → a ≡ some n

-- what 02 says of a list of calls: any two entries or commits that were accepted got one number exactly if their transducers are equivalent
pub record CallsOrderly (stock : List ℕ) (log : List (Call × Option ℕ)) (b : Book) : Type 0 where
  pub exact : (c c' : Call) (s s' : List ℕ) (n n' : ℕ) → enters_file c ≡ some s → enters_file c' ≡ some s' → Memᴰ (c, some n) log → Memᴰ (c', some n') log → SewAlike stock s s' ↔ (n ≡ n')
  -- all that is said of a list of entries is said of those that were accepted
  pub entries : Entries stock (accepteds log) b
