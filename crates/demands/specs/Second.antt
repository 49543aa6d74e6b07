-- Demand 2 of the user, whole, of whatever keeps the promises of the entry points: each field is a part of its text.
use Rattle.std.specs.Prelude.{Option, Result, ℕ, ◌+◌, ◌*◌, ◌≤◌, ◌<◌, List, ◌↔◌, ◌≡◌, length, take}
use Rattle.trees.specs.declared.refusal.Refusal.{Refusal}
use Rattle.trees.specs.Refusal.{outcome_of, accepted, refused, done, check, Holds, Judged}
use Rattle.std.proofs.lemmas.List.Edits.{sets}
use Rattle.theory.specs.Size.{size, levels}
use Rattle.theory.specs.Term.{Tree, symbol_at}
use Rattle.theory.specs.Transducer.{Transducer}
use Rattle.trees.specs.Alphabets.{Alphabets, inputs, alphabet_check}
use Rattle.formats.specs.Answers.{ReadsFile, HandsCounts, HandsMarks, WritesFile}
use Rattle.trees.specs.Code.{code}
use Rattle.formats.specs.Sheet.{longest, file, Sheet, sheet_check}
use Rattle.trees.specs.Tree.{InputTree, tree_check}
use Rattle.transducer.specs.Answers.{Translates}
use Rattle.queries.specs.Answers.{named, FindsSymbol}
use Rattle.transducer.specs.Output.{Output}

-- two transducers with as many states n and the same initial term and right-hand sides, over P input symbols
pub record SameTransducer (P n n' : ℕ) (M M' : Transducer ℕ) : Type 0 where
  pub states : n ≡ n'
  pub initial : M.initial ≡ M'.initial
  pub rhs : (q a : ℕ) → q < n → a < P → M.rhs q a ≡ M'.rhs q a

-- the parts that a reader hands out of the file s are these
pub record ReadsParts (stock s : List ℕ) (n : ℕ) (counts bytes : List ℕ) : Type 0 where
  pub states : (r : Result ℕ Refusal) → ReadsFile stock s r → outcome_of r ≡ accepted n
  pub counts_are : (part : List ℕ) → HandsCounts stock s part → part ≡ counts
  pub marks_are : (part : List ℕ) → HandsMarks stock s part → part ≡ bytes

pub record Demand2 : Type 0 where
  -- every accepted sheet has one plan for every accepted design,
  pub plan : (stock sheet design : List ℕ) → Holds (alphabet_check stock (sheet_check stock sheet (tree_check stock design done))) → (t : Tree) × Output stock sheet design t
  pub one_plan : (stock sheet design : List ℕ) (t t' : Tree) → Output stock sheet design t → Output stock sheet design t' → t ≡ t'
  -- which sewing lays where it fits the area and has at most 256 levels (02, F-1),
  pub sews : (stock sheet design before after : List ℕ) (t : Tree) (r : Result ℕ Refusal) → Alphabets stock → Output stock sheet design t → Translates stock sheet design before after r → size t ≤ length before → levels t ≤ 256 → (outcome_of r ≡ accepted (size t)) × (after ≡ sets before 0 (code t))
  -- refuses by 6 where it does not fit,
  pub too_long : (stock sheet design before after : List ℕ) (t : Tree) (r : Result ℕ Refusal) → Alphabets stock → Output stock sheet design t → Translates stock sheet design before after r → length before < size t → (outcome_of r ≡ refused 6) × (after ≡ before)
  -- and by 10 where it fits and has more levels.
  pub too_deep : (stock sheet design before after : List ℕ) (t : Tree) (r : Result ℕ Refusal) → Alphabets stock → Output stock sheet design t → Translates stock sheet design before after r → size t ≤ length before → 256 < levels t → (outcome_of r ≡ refused 10) × (after ≡ before)
  -- A file means one design, and one sheet.
  pub one_design : (ins s : List ℕ) (d d' : Tree) → InputTree ins s d → InputTree ins s d' → d ≡ d'
  pub one_sheet : (ins outs s : List ℕ) (n n' : ℕ) (M M' : Transducer ℕ) → Sheet ins outs s n M → Sheet ins outs s n' M' → SameTransducer (length ins) n n' M M'
  -- The place reader answers the block of that plan, of any size.
  pub place : (stock sheet design address : List ℕ) (t : Tree) (r : Result (Option ℕ) Refusal) → Alphabets stock → Output stock sheet design t → FindsSymbol stock sheet design address r → outcome_of r ≡ accepted (named (symbol_at t address))
  -- The sheet file's reader and writer undo each other: what was read and written is the file,
  pub read_written : (stock s counts bytes before after : List ℕ) (n : ℕ) (r : Result ℕ Refusal) (w : Result ℕ Refusal) → ReadsFile stock s r → outcome_of r ≡ accepted n → HandsCounts stock s counts → HandsMarks stock s bytes → longest ≤ length before → WritesFile stock n counts bytes before after w → (outcome_of w ≡ accepted (length s)) × (after ≡ sets before 0 s)
  -- and what was written and read are the parts.
  pub written_read : (stock counts bytes before after : List ℕ) (n k : ℕ) (w : Result ℕ Refusal) → WritesFile stock n counts bytes before after w → outcome_of w ≡ accepted k → ReadsParts stock (take k after) n counts bytes
  -- The writer refuses just what the reader would, of counts that are two bytes for the opening and for every line.
  pub same_refusals : (stock counts bytes before after : List ℕ) (n : ℕ) (r : Result ℕ Refusal) (w : Result ℕ Refusal) → length counts ≡ 2 * (1 + n * length (inputs stock)) → longest ≤ length before → ReadsFile stock (file n counts bytes) r → WritesFile stock n counts bytes before after w → (k : ℕ) → (outcome_of r ≡ refused k) ↔ (outcome_of w ≡ refused k)

-- what the demand says of a file that is read and written again: 1 where the area is too short; else the file stands at its start, and it keeps its rest
abbrev pub ReadAndWritten : List ℕ → List ℕ → List ℕ → List ℕ → Result ℕ Refusal → Type 0
ReadAndWritten stock s before after r =
    Judged (after ≡ before) (λ k. (k ≡ length s) × (after ≡ sets before 0 s))
    (alphabet_check stock (sheet_check stock s (check 1 (longest ≤ length before) done)))
    (outcome_of r)

-- what it says of a sewing and of the block at a place of the same plan
pub record SewnAndAsked (stock sheet design address before after : List ℕ) (sewn : Result ℕ Refusal) (asked : Result (Option ℕ) Refusal) : Type 0 where
  pub plan : Tree
  pub is_plan : Output stock sheet design plan
  pub sews : size plan ≤ length before → levels plan ≤ 256 → (outcome_of sewn ≡ accepted (size plan)) × (after ≡ sets before 0 (code plan))
  pub too_long : length before < size plan → (outcome_of sewn ≡ refused 6) × (after ≡ before)
  pub too_deep : size plan ≤ length before → 256 < levels plan → (outcome_of sewn ≡ refused 10) × (after ≡ before)
  pub place : outcome_of asked ≡ accepted (named (symbol_at plan address))

abbrev pub SewsAndAsks : List ℕ → List ℕ → List ℕ → List ℕ → List ℕ → List ℕ → Result ℕ Refusal → Result (Option ℕ) Refusal → Type 0
SewsAndAsks stock sheet design address before after sewn asked = Holds (alphabet_check stock (sheet_check stock sheet (tree_check stock design done))) → SewnAndAsked stock sheet design address before after sewn asked
