-- What a state of the second transducer writes on a right-hand side of the first, letter by letter: the marks of its own right-hand side in order, for each call what the state called
-- writes on the child, and where it meets a call of the first, the letter of the pair.
use Rattle.std.specs.Prelude.{ℕ, ◌+◌, ◌*◌, ◌<◌, ◌≤◌, List, Option, None, Some, ◌≡◌, length, get_or, drop}
use Rattle.std.proofs.lemmas.List.Edits.{sets}
use Rattle.theory.specs.Compose.{assoc}
use Rattle.theory.specs.Inner.Forests.{letters}
use Rattle.theory.specs.Inner.PairCodes.{pair_code}
use Rattle.theory.specs.Term.{Term, Terms, mapT, count}
use Rattle.theory.specs.Transducer.{Transducer, run, runs, pick, renamed}
use Rattle.trees.specs.Alphabets.{Alphabets, inputs, outputs}
use Rattle.trees.specs.Code.{Mark}
use Rattle.trees.specs.Inner.Decode.{Letter, forest, first, Whole}
use Rattle.formats.specs.Inner.Layout.{mark_of, pairs, mark_at}
use Rattle.formats.specs.Inner.Marked.{part}
use Rattle.transducer.specs.Inner.Written.{spell, Callable}
use Rattle.forms.specs.Inner.Tables.{machine, Layout}
use Rattle.discovery.specs.Inner.Letters.{spelt}

-- a mark of any right-hand side: a call on one of at most 4 children, of one of at most 128 states
abbrev pub body_mark : List ℕ → Mark → Letter (ℕ × ℕ)
body_mark mids = mark_of mids 128 4

-- the terms that stand from mark number k of a body on
abbrev pub terms_at : List ℕ → List ℕ → ℕ → Terms (ℕ × ℕ)
terms_at mids s k = forest (body_mark mids) (drop k (pairs s))

-- how many marks a body has
abbrev pub marks_of : List ℕ → ℕ
marks_of s = length (pairs s)

-- the transducer of a table, whatever states it has
abbrev pub tabled : List ℕ → List ℕ → List ℕ → List ℕ → Transducer ℕ
tabled ins outs starts bytes = machine ins outs starts bytes 128

-- the call of q on child i, met by state p, as a call of the number of the pair
abbrev pub paired : Term ((ℕ × ℕ) × ℕ) → Term (ℕ × ℕ)
paired t = renamed (pair_code 128) (mapT assoc t)

-- what state p of N writes on term number i, from 1, of ts
unfoldable pub answered : Transducer ℕ → Terms (ℕ × ℕ) → ℕ → ℕ → List ℕ
answered N ts i p = spelt (paired (pick (runs N ts) i p))

-- ---- by position; the second transducer stands in a table
-- what state p writes on the term at mark number k of s
unfoldable pub applied : List ℕ → List ℕ → List ℕ → List ℕ → ℕ → ℕ → List ℕ
applied stock starts bytes s p k = spelt (paired (run (tabled (inputs stock) (outputs stock) starts bytes) (first (terms_at (inputs stock) s k)) p))

-- what its marks number `from` up to `to` write, over the terms that stand from mark number `below` of s on
unfoldable pub walked : List ℕ → List ℕ → List ℕ → List ℕ → ℕ → ℕ → ℕ → List ℕ
walked stock starts bytes s below from to = spell (answered (tabled (inputs stock) (outputs stock) starts bytes) (terms_at (inputs stock) s below)) (part bytes from to)

-- w was written from `at` on, and r is where it ends; or none, where that is past 64: then `after` may be anything
pub record WroteLetters (w : List ℕ) (at : ℕ) (before after : List ℕ) (r : Option ℕ) : Type 0 where
  pub over : r ≡ None → 64 < at + length w
  pub end : (n : ℕ) → r ≡ Some n → (n ≡ at + length w) × (n ≤ 64)
  pub wrote : (n : ℕ) → r ≡ Some n → after ≡ sets before at w

-- s is the marks of a right-hand side of the first transducer
pub record IsBody (mids s : List ℕ) : Type 0 where
  pub whole : Whole (body_mark mids) (pairs s)
  pub even : length s ≡ 2 * marks_of s
  pub few : marks_of s ≤ 64

-- and the table has the end of each term in it
pub record Ended (mids s ends : List ℕ) : Type 0 where
  pub body : IsBody mids s
  pub room : length ends ≡ 64
  pub right : (k : ℕ) → k < marks_of s → get_or ends k 0 ≡ k + letters (first (terms_at mids s k))

-- a transducer stands in a table
pub record InTable (ins outs starts bytes : List ℕ) : Type 0 where
  pub states : ℕ
  pub layout : Layout ins outs starts bytes states

-- state p of the second transducer can be applied to the term at mark number k of s
pub record Ready (stock starts bytes s ends : List ℕ) (p k : ℕ) : Type 0 where
  pub alphabets : Alphabets stock
  pub table : InTable (inputs stock) (outputs stock) starts bytes
  pub ended : Ended (inputs stock) s ends
  pub state : p < table.states
  pub place : k < marks_of s

-- the marks number `from` up to `to` of the second transducer can be walked over the terms that stand from mark number `below` of s on
pub record Walkable (stock starts bytes s ends : List ℕ) (from to below : ℕ) : Type 0 where
  pub alphabets : Alphabets stock
  pub table : InTable (inputs stock) (outputs stock) starts bytes
  pub ended : Ended (inputs stock) s ends
  pub ordered : from ≤ to
  pub inside : 2 * to ≤ length bytes
  pub callable : (j : ℕ) → from ≤ j → j < to → Callable table.states (count (terms_at (inputs stock) s below)) (mark_at bytes j)
