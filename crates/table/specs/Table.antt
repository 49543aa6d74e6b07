-- The starred samples of document 01 as rows of one table: what a row may say, what that comes to by the definitions that the promises are made of, and the rows.
use Rattle.std.specs.Prelude.{Result, ℕ, ◌*◌, ◌≤◌, ◌<◌, List, [], ◌∷◌, ◌≡◌, length, get_or}
use Rattle.trees.specs.declared.refusal.Refusal.{Refusal}
use Rattle.records.specs.declared.book.Foretold.{Foretold}
use Rattle.trees.specs.Refusal.{outcome_of, Outcome, accepted, refused, done, Holds}
use Rattle.theory.specs.Pref.{IsPref}
use Rattle.theory.specs.Prefix.{Pattern}
use Rattle.theory.specs.Term.{Tree}
use Rattle.theory.specs.Transducer.{Transducer}
use Rattle.trees.specs.Alphabets.{Alphabets, Leaf, inputs, outputs, alphabet_check}
use Rattle.trees.specs.Code.{code}
use Rattle.formats.specs.Samples.{S, T, T', U, U-clean, leaf_file, pairs, M, M-pref, M-clean}
use Rattle.formats.specs.Sheet.{longest, Sheet, file, sheet_check}
use Rattle.trees.specs.Tree.{tree_check}
use Rattle.transducer.specs.Answers.{room_check, levels_check, Translates}
use Rattle.queries.specs.Linear.{LinearFile}
use Rattle.transducer.specs.Output.{Output}
use Rattle.forms.specs.Alphabet.{alphabet}
use Rattle.earliest.specs.Answers.{EarliestFile, form_check}
use Rattle.canonical.specs.Answers.{NormalFile}
use Rattle.witness.specs.Difference.{Difference}
use Rattle.records.specs.Answers.{Enters, Questions, Commits}
use Rattle.records.specs.Book.{answers_of, record_at}
use Rattle.registry.specs.Calls.{Book, MadeWith}
use Rattle.registry.specs.Questions.{Call, entry, commit, question}

-- ---- what a row may say
pub data Row : Type 0 where
  -- the file is one of alphabets
  alphabets : (stock : List ℕ) → Row
  -- the transducer of the sheet gives this plan on the design
  translates : (stock sheet design plan : List ℕ) → Row
  -- with an area of k bytes the translation (01: sewing) is accepted
  fits : (stock sheet design : List ℕ) (k : ℕ) → Row
  -- the sheet is accepted, and its transducer is not linear (01: single; 02: by the lines that can be met)
  not_linear : (stock sheet : List ℕ) → Row
  -- pref(q) of this state of the transducer of the sheet is the pattern (01: its head)
  prefix : (stock sheet : List ℕ) (state : ℕ) (pattern : Pattern) → Row
  -- the sheet is accepted for cleaning, and cleans to this file, the file of its normal form
  cleans : (stock sheet clean : List ℕ) → Row
  -- the sheet is accepted for cleaning, and its normal form has this many states and marks (01: passes and marks of the clean sheet)
  normal : (stock sheet : List ℕ) (states marks : ℕ) → Row
  -- the earliest form has this many states (01: passes of the trimmed sheet)
  earliest : (stock sheet : List ℕ) (states : ℕ) → Row
  -- on the design the transducers of the two sheets give trees with the unlike symbols b and b' at the address (01: place)
  differ : (stock first second design place : List ℕ) (b b' : ℕ) → Row
  -- in a registry (01: book) just made, with an area of `room` bytes, these calls, the first first, are answered so; then so many bytes are used and entries and commits answered, and the records from 0 on have these counts, the others 0
  registers : (stock : List ℕ) (room : ℕ) (calls : List (Call × Outcome ℕ)) (used answered : ℕ) (counts : List ℕ) → Row

-- ---- what that comes to
pub record DifferOn (stock first second design place : List ℕ) (b b' : ℕ) : Type 0 where
  pub states : ℕ
  pub machine : Transducer ℕ
  pub sheet : Sheet (inputs stock) (outputs stock) first states machine
  pub states' : ℕ
  pub machine' : Transducer ℕ
  pub sheet' : Sheet (inputs stock) (outputs stock) second states' machine'
  pub shown : Tree
  pub coded : code shown ≡ design
  pub difference : Difference (inputs stock) (outputs stock) machine machine' shown place b b'

-- the number that a question answers
abbrev pub number_in : Outcome Foretold → Outcome ℕ
number_in (accepted v) = accepted v.number
number_in (refused k) = refused k

-- a question of the file s, lent b and an area that is long enough, is answered so
pub record Looks (b : Book) (s : List ℕ) (o : Outcome ℕ) : Type 0 where
  pub before : List ℕ
  pub after : List ℕ
  pub answer : Result Foretold Refusal
  pub long : longest ≤ length before
  pub call : Questions s b.head b.records b.area before after answer
  pub told : number_in (outcome_of answer) ≡ o

-- a call, lent b, is answered so and leaves b'
abbrev pub Runs : Book → Call → Outcome ℕ → Book → Type 0
Runs b (entry s) o b' = (r : Result ℕ Refusal) × (Enters s b.head b.records b.area b'.head b'.records b'.area r × (outcome_of r ≡ o))
Runs b (commit s m) o b' = (r : Result ℕ Refusal) × (Commits s m b.head b.records b.area b'.head b'.records b'.area r × (outcome_of r ≡ o))
Runs b (question s) o b' = Looks b s o × (b' ≡ b)

-- from b on there are these calls, the first first, each lent what the call before it left, and every one is answered so; of what they leave End holds
pub data AllRun (End : Book → Type 0) : List (Call × Outcome ℕ) → Book → Type 0 where
  left : {b : Book} → End b → AllRun End [] b
  next : {b : Book} {c : Call} {o : Outcome ℕ} {calls : List (Call × Outcome ℕ)} → (b' : Book) × Runs b c o b' → ((a : Outcome ℕ) (b' : Book) → Runs b c a b' → a ≡ o) → ((a : Outcome ℕ) (b' : Book) → Runs b c a b' → AllRun End calls b') → AllRun End ((c, o) ∷ calls) b

-- a registry with so many bytes used, answers and these counts
pub record Leaves (used answered : ℕ) (counts : List ℕ) (b : Book) : Type 0 where
  pub used_are : b.head.used ≡ used
  pub answered_are : answers_of b.head ≡ answered
  pub counts_are : (n : ℕ) → n < 33 → (record_at b.records n).count ≡ get_or counts n 0

-- a registry with an area of `room` bytes can be made, and from every one on it goes so
pub record Registers (stock : List ℕ) (room : ℕ) (End : Book → Type 0) (calls : List (Call × Outcome ℕ)) : Type 0 where
  pub made : (b : Book) × (MadeWith stock b × (length b.area ≡ room))
  pub every : (b : Book) → MadeWith stock b → length b.area ≡ room → AllRun End calls b

-- whatever area of k bytes is lent, a translation that keeps its promise is accepted
pub record Fits (stock sheet design : List ℕ) (k : ℕ) : Type 0 where
  pub checks : (area : List ℕ) → length area ≡ k → Holds (alphabet_check stock (sheet_check stock sheet (tree_check stock design (room_check stock sheet design area (levels_check stock sheet design done)))))
  pub answer : (before after : List ℕ) (r : Result ℕ Refusal) → length before ≡ k → Translates stock sheet design before after r → (n : ℕ) × (outcome_of r ≡ accepted n)

-- the file of the normal form of the transducer of the sheet, which is accepted for cleaning
pub record Clean (stock sheet : List ℕ) (k : ℕ) (counts bytes : List ℕ) : Type 0 where
  pub checks : Holds (alphabet_check stock (sheet_check stock sheet (form_check stock sheet done)))
  pub normal : NormalFile stock sheet k counts bytes

abbrev pub Says : Row → Type 0
Says (alphabets stock) = Alphabets stock
Says (translates stock sheet design plan) = (t : Tree) × (Output stock sheet design t × (code t ≡ plan))
Says (fits stock sheet design k) = Fits stock sheet design k
Says (not_linear stock sheet) = Holds (alphabet_check stock (sheet_check stock sheet done)) × (LinearFile stock sheet → ⊥)
Says (prefix stock sheet state pattern) = (n : ℕ) × ((M : Transducer ℕ) × (Sheet (inputs stock) (outputs stock) sheet n M × (state < n) × ((l : Leaf (inputs stock)) → IsPref (alphabet (inputs stock) l) M state pattern)))
Says (cleans stock sheet clean) = (k : ℕ) × ((counts : List ℕ) × ((bytes : List ℕ) × (Clean stock sheet k counts bytes × (file k counts bytes ≡ clean))))
Says (normal stock sheet states marks) = (counts : List ℕ) × ((bytes : List ℕ) × (Clean stock sheet states counts bytes × (length bytes ≡ 2 * marks)))
Says (earliest stock sheet states) = (counts : List ℕ) × ((bytes : List ℕ) × EarliestFile stock sheet states counts bytes)
Says (differ stock first second design place b b') = DifferOn stock first second design place b b'
Says (registers stock room calls used answered counts) = Registers stock room (Leaves used answered counts) calls

-- ---- the rows
abbrev pub rows : List Row
rows =
    alphabets S
    ∷ translates S T (1 ∷ []) (0 ∷ 1 ∷ 1 ∷ [])
    ∷ translates S T (0 ∷ 1 ∷ []) (0 ∷ 0 ∷ 1 ∷ 1 ∷ 0 ∷ 1 ∷ 1 ∷ [])
    ∷ fits S T (0 ∷ 1 ∷ []) 7
    ∷ cleans S T T
    ∷ cleans S T' T
    ∷ earliest S T' 2
    ∷ normal S T' 1 7
    ∷ differ S T U (1 ∷ []) (1 ∷ []) 1 0
    ∷ cleans S U U-clean
    ∷ normal S U 1 11
    ∷ prefix pairs M 0 M-pref
    ∷ cleans pairs M M-clean
    ∷ normal pairs M 3 23
    ∷ cleans S leaf_file leaf_file
    ∷ normal S leaf_file 0 1
    ∷ not_linear S T
    ∷ registers S 60 ((entry T, accepted 1) ∷ (entry T', accepted 1) ∷ (entry U, accepted 2) ∷ []) 56 3 (0 ∷ 2 ∷ 1 ∷ [])
    ∷ registers S 55 ((entry T, accepted 1) ∷ (entry T', accepted 1) ∷ (entry U, refused 8) ∷ []) 27 2 (0 ∷ 2 ∷ [])
    ∷ registers S 60 ((question T, accepted 1) ∷ (entry T, accepted 1) ∷ (question T', accepted 1) ∷ (question U, accepted 2) ∷ (commit U 1, refused 13) ∷ (commit U 2, accepted 2) ∷ []) 56 2 (0 ∷ 1 ∷ 1 ∷ [])
    ∷ registers S 55 ((entry T, accepted 1) ∷ (question U, refused 8) ∷ (commit U 2, refused 8) ∷ (commit U 1, refused 8) ∷ []) 27 1 (0 ∷ 1 ∷ [])
    ∷ []
