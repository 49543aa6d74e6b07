-- How an entry point answers: the first of its checks that does not hold refuses, by that check's number in document 01's table or of 02.
use Rattle.std.specs.Prelude.{ℕ, Bool, true, List, [], ◌⊎◌, ◌≡◌, Result, Ok, Err}
use Rattle.trees.specs.declared.refusal.Refusal.{Refusal}
use Rattle.trees.specs.declared.refusal.Refusal.TheVariants.{ShortArea, BadAlphabets, BadTree, BadContents, BadBody, LongOutput, OverLimits, FullRegistry, BadRegistry, DeepOutput, BadOutput, ShortTarget, OtherNumber, OtherAlphabet, JoinOverLimits}

-- the table of document 01, and the numbers that 02 adds
abbrev pub refusal_number : Refusal → ℕ
refusal_number ShortArea = 1
refusal_number BadAlphabets = 2
refusal_number BadTree = 3
refusal_number BadContents = 4
refusal_number BadBody = 5
refusal_number LongOutput = 6
refusal_number OverLimits = 7
refusal_number FullRegistry = 8
refusal_number BadRegistry = 9
refusal_number DeepOutput = 10
refusal_number BadOutput = 11
refusal_number ShortTarget = 12
refusal_number OtherNumber = 13
refusal_number OtherAlphabet = 16
refusal_number JoinOverLimits = 17

-- what an entry point answers, in the terms of document 01: its values, or the number of the refusal
pub data Outcome (A : Type 0) : Type 0 where
  accepted : A → Outcome A
  refused : ℕ → Outcome A

-- the answer of an entry point in these terms: for each case the values and numbers of document 01
abbrev pub outcome_of : {A : Type 0} → Result A Refusal → Outcome A
outcome_of (Ok a) = accepted a
outcome_of (Err r) = refused (refusal_number r)

-- checks in the order in which they are made: the number given where one does not hold, and what it asks
pub data Checks : Type 1 where
  done : Checks
  check : ℕ → Type 0 → Checks → Checks

-- every check holds
unfoldable pub Holds : Checks → Type 0
Holds done = Unit {0}
Holds (check k P rest) = P × Holds rest

-- The answer under these checks: the number of the first that does not hold, and then Kept, what a refusal leaves as it was;
-- where all hold, values of which Good.
unfoldable pub IsJudged : {A : Type 0} → Type 0 → (A → Type 0) → Checks → Outcome A → Type 0
IsJudged Kept Good done (accepted a) = Good a
IsJudged Kept Good done (refused k) = ⊥
IsJudged Kept Good (check k P rest) r = ((P → ⊥) × (r ≡ refused k) × Kept) ⊎ (P × IsJudged Kept Good rest r)

pub record Judged {A : Type 0} (Kept : Type 0) (Good : A → Type 0) (checks : Checks) (r : Outcome A) : Type 0 where
  pub verdict : IsJudged Kept Good checks r

-- a part that is handed out: where all checks hold, one that is Good; else an empty one
abbrev pub Handed : (List ℕ → Type 0) → Checks → List ℕ → Type 0
Handed Good checks part = (Holds checks × Good part) ⊎ ((Holds checks → ⊥) × (part ≡ []))

-- the answer of a yes-or-no question: b says whether P holds
pub record Decides (P : Type 0) (b : Bool) : Type 0 where
  pub sound : b ≡ true → P
  pub complete : P → b ≡ true
