-- The file of a transducer (01: sheet): N, the counts, the bodies.
use Rattle.std.specs.Prelude.{ℕ, suc, ◌+◌, ◌*◌, ◌/◌, ◌%◌, ◌<◌, ◌≤◌, List, [], ◌∷◌, ◌++◌, map, ◌≡◌, length, get_or}
use Rattle.theory.specs.Term.{Term}
use Rattle.theory.specs.Transducer.{Transducer}
use Rattle.trees.specs.Alphabets.{inputs, outputs}
use Rattle.trees.specs.Code.{Ranked, Mark, marks, Call}
use Rattle.trees.specs.Refusal.{Checks, check}

-- the longest file: N, 2,049 counts of two bytes, 8,192 marks of two bytes
abbrev pub longest : ℕ
longest = 1 + 2 * 2049 + 2 * 8192

-- the mark counts of the bodies, two bytes each, the high byte first
unfoldable pub count_bytes : List (List Mark) → List ℕ
count_bytes [] = []
count_bytes (b ∷ bs) = length b / 256 ∷ length b % 256 ∷ count_bytes bs

-- the marks of the bodies, two bytes each
unfoldable pub mark_bytes : List Mark → List ℕ
mark_bytes [] = []
mark_bytes ((i, x) ∷ ms) = i ∷ x ∷ mark_bytes ms

unfoldable pub body_bytes : List (List Mark) → List ℕ
body_bytes [] = []
body_bytes (b ∷ bs) = mark_bytes b ++ body_bytes bs

-- n states over P input symbols, with these bodies: 0 to 128 states, 1 to 64 marks in a body and 8,192 in all
pub record Contents (P n : ℕ) (bs : List (List Mark)) : Type 0 where
  pub states : n ≤ 128
  pub bodies : length bs ≡ 1 + n * P
  pub some : (j : ℕ) → j < length bs → 1 ≤ length (get_or bs j [])
  pub few : (j : ℕ) → j < length bs → length (get_or bs j []) ≤ 64
  pub all : length (body_bytes bs) ≤ 2 * 8192

-- n, the counts and the marks of a file are right: they are those of some bodies
pub record Counted (P n : ℕ) (counts bytes : List ℕ) : Type 0 where
  pub parts : List (List Mark)
  pub contents : Contents P n parts
  pub counts_coded : count_bytes parts ≡ counts
  pub marks_coded : body_bytes parts ≡ bytes

-- f 0, f 1, .. and f (n - 1), one behind the other
unfoldable pub each : {X : Type 0} → ℕ → (ℕ → List X) → List X
each ℕ.zero f = []
each (suc n) f = each n f ++ f n

-- the initial term (01: opening) and the right-hand sides (01: lines), by state and then by input symbol
unfoldable pub terms : ℕ → ℕ → Transducer ℕ → List (Term (ℕ × ℕ))
terms P n M = M.initial ∷ each n (λ q. each P (λ a. M.rhs q a ∷ []))

abbrev pub bodies_of : ℕ → ℕ → Transducer ℕ → List (List Mark)
bodies_of P n M = map marks (terms P n M)

-- M, with the states below n, is over the two alphabets, and all its states read trees of one sort
pub record OverAlphabets (ins outs : List ℕ) (n : ℕ) (M : Transducer ℕ) : Type 0 where
  pub initial : Ranked (Call n 1) outs M.initial
  pub rhs : (q a : ℕ) → q < n → a < length ins → Ranked (Call n (get_or ins a 0)) outs (M.rhs q a)
  pub sort : (q : ℕ) → q < n → M.sort q ≡ 0

-- the counts and the marks are those of M, which has n states and is within the limits
pub record Encodes (ins outs : List ℕ) (n : ℕ) (counts bytes : List ℕ) (M : Transducer ℕ) : Type 0 where
  pub over : OverAlphabets ins outs n M
  pub contents : Contents (length ins) n (bodies_of (length ins) n M)
  pub counts_coded : count_bytes (bodies_of (length ins) n M) ≡ counts
  pub marks_coded : body_bytes (bodies_of (length ins) n M) ≡ bytes

-- the file: N, the counts, the marks, and nothing after
abbrev pub file : ℕ → List ℕ → List ℕ → List ℕ
file n counts bytes = n ∷ (counts ++ bytes)

-- s is a file whose N, counts and length are right
pub record CountedFile (P : ℕ) (s : List ℕ) : Type 0 where
  pub states : ℕ
  pub counts : List ℕ
  pub bytes : List ℕ
  pub coded : file states counts bytes ≡ s
  pub counted : Counted P states counts bytes

-- s is the file of the transducer M with n states
pub record Sheet (ins outs s : List ℕ) (n : ℕ) (M : Transducer ℕ) : Type 0 where
  pub counts : List ℕ
  pub bytes : List ℕ
  pub coded : file n counts bytes ≡ s
  pub encodes : Encodes ins outs n counts bytes M

-- refusals 4 and 5 of a file
abbrev pub sheet_check : List ℕ → List ℕ → Checks → Checks
sheet_check stock s rest = check 4 (CountedFile (length (inputs stock)) s) (check 5 ((n : ℕ) × ((M : Transducer ℕ) × Sheet (inputs stock) (outputs stock) s n M)) rest)

-- and of N, counts and marks that are to be written
abbrev pub parts_check : List ℕ → ℕ → List ℕ → List ℕ → Checks → Checks
parts_check stock n counts bytes rest = check 4 (Counted (length (inputs stock)) n counts bytes) (check 5 ((M : Transducer ℕ) × Encodes (inputs stock) (outputs stock) n counts bytes M) rest)
