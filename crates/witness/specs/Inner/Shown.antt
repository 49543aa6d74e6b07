-- Writing a shown difference from the bottom up: the tree of a list of steps, and the address of a letter of a body.
use Rattle.std.specs.Prelude.{ℕ, suc, ◌+◌, ◌*◌, ◌<◌, ◌≤◌, List, [], ◌∷◌, ◌≡◌, length, get_or, take, replicate}
use Rattle.std.proofs.lemmas.List.Edits.{sets}
use Rattle.std.proofs.Math.Seq.{slice}
use Rattle.theory.specs.Inner.Leaves.{put, leaf_of}
use Rattle.theory.specs.Term.{Tree, node}
use Rattle.trees.specs.Alphabets.{Ranks, Leaf}
use Rattle.trees.specs.Code.{Mark, code}
use Rattle.trees.specs.Inner.Decode.{forest, first, Whole}
use Rattle.formats.specs.Inner.Layout.{mark_of, mark_at, pairs}
use Rattle.formats.specs.Inner.Marked.{part}
use Rattle.forms.specs.Alphabet.{alphabet}
use Rattle.earliest.specs.Inner.Places.{place}

-- ---- trees
-- a step (a, i) above the tree d: the symbol a with d as its child number i, from 1, and leaves for all others (so for all, if i is 0)
abbrev pub step_tree : (ins : List ℕ) → Leaf ins → ℕ × ℕ → Tree → Tree
step_tree ins l s d = node s.0 (put (alphabet ins l) (replicate (get_or ins s.0 0) 0) s.1 d)

-- the steps one below the other, and a leaf below them all
unfoldable pub steps_tree : (ins : List ℕ) → Leaf ins → List (ℕ × ℕ) → Tree
steps_tree ins l [] = leaf_of (alphabet ins l) 0
steps_tree ins l (s ∷ ss) = step_tree ins l s (steps_tree ins l ss)

-- the bytes number lo to hi are the code of this tree
abbrev pub Holds : List ℕ → ℕ → ℕ → Tree → Type 0
Holds buffer lo hi d = slice lo hi buffer ≡ code d

-- what the trees are made of: the input symbols, a leaf e and a symbol a
pub record Symbols (ins : List ℕ) (e a : ℕ) : Type 0 where
  pub ranks : Ranks 16 ins
  pub leaf : e < length ins
  pub there : a < length ins

-- writing a symbol asks room for it and four leaves
pub record SymbolAsked (ins : List ℕ) (e a : ℕ) (buffer : List ℕ) (at : ℕ) : Type 0 where
  pub symbols : Symbols ins e a
  pub room : at + 5 ≤ length buffer

-- what it does: the symbol and its leaves stand from `at` on
pub record SymbolWritten (ins : List ℕ) (e a at : ℕ) (after : List ℕ) (from to : ℕ) : Type 0 where
  pub left : from ≡ at
  pub right : to ≡ at + 1 + get_or ins a 0
  pub tree : (l : Leaf ins) → l.symbol ≡ e → (d : Tree) → Holds after from to (step_tree ins l (a, 0) d)

-- wrapping asks a child number i of the symbol, and room for four bytes on either side
pub record Wrappable (ins : List ℕ) (e a i : ℕ) (buffer : List ℕ) (lo hi : ℕ) : Type 0 where
  pub symbols : Symbols ins e a
  pub from_one : 1 ≤ i
  pub child : i ≤ get_or ins a 0
  pub left : 4 ≤ lo
  pub ordered : lo ≤ hi
  pub right : hi + 4 ≤ length buffer

-- what it does: the tree that stood there is child i of the symbol
pub record Wrapped (ins : List ℕ) (e a i : ℕ) (buffer : List ℕ) (lo hi : ℕ) (after : List ℕ) (from to : ℕ) : Type 0 where
  pub left : from + i ≡ lo
  pub right : to + i ≡ hi + get_or ins a 0
  pub tree : (l : Leaf ins) → l.symbol ≡ e → (d : Tree) → Holds buffer lo hi d → Holds after from to (step_tree ins l (a, i) d)

-- a step more asks the same, but for the child number, which may be 0
pub record Addable (ins : List ℕ) (e a i : ℕ) (buffer : List ℕ) (lo hi : ℕ) : Type 0 where
  pub symbols : Symbols ins e a
  pub child : i ≤ get_or ins a 0
  pub left : 4 ≤ lo
  pub ordered : lo < hi
  pub right : hi + 4 ≤ length buffer

-- what it does: the tree is the step above the one that stood there, with at most four bytes more on either side
pub record Added (ins : List ℕ) (e a i : ℕ) (buffer : List ℕ) (lo hi : ℕ) (after : List ℕ) (from to : ℕ) : Type 0 where
  pub left : lo ≤ from + 4
  pub ordered : from < to
  pub right : to ≤ hi + 4
  pub tree : (l : Leaf ins) → l.symbol ≡ e → (d : Tree) → Holds buffer lo hi d → Holds after from to (step_tree ins l (a, i) d)

-- a step of the list: a symbol, and 0 or the number of one of its children
pub record Step (ins : List ℕ) (s : ℕ × ℕ) : Type 0 where
  pub there : s.0 < length ins
  pub child : s.1 ≤ get_or ins s.0 0

-- what writing the tree of a list of steps asks
pub record StepsAsked (ins : List ℕ) (e : ℕ) (steps : List ℕ) (count : ℕ) (buffer : List ℕ) : Type 0 where
  pub ranks : Ranks 16 ins
  pub leaf : e < length ins
  pub few : count ≤ 384
  pub long : 2 * count ≤ length steps
  pub each : (k : ℕ) → k < count → Step ins (mark_at steps k)
  pub room : length buffer ≡ 3584

-- what it does: the tree of the steps stands around byte 1792, with at most four bytes for a step on either side
pub record StepsWritten (ins : List ℕ) (e : ℕ) (steps : List ℕ) (count : ℕ) (after : List ℕ) (from to : ℕ) : Type 0 where
  pub left : 1792 ≤ from + 4 * count
  pub ordered : from < to
  pub right : to ≤ 1793 + 4 * count
  pub tree : (l : Leaf ins) → l.symbol ≡ e → Holds after from to (steps_tree ins l (take count (pairs steps)))

-- ---- addresses
-- the rank of a mark: a call has no children
unfoldable pub rank_of : List ℕ → Mark → ℕ
rank_of outs (ℕ.zero, b) = get_or outs b 0
rank_of outs (suc i, q) = 0

-- the marks number `from` up to `to` are a body, and letter m is one of them
pub record InBody (outs marks : List ℕ) (n r from to m : ℕ) : Type 0 where
  pub whole : Whole (mark_of outs n r) (part marks from to)
  pub inside : 2 * to ≤ length marks
  pub there : from + m < to

-- what writing an address asks: letter m of a body, and room for an address of m numbers
pub record AddressAsked (outs marks : List ℕ) (from m : ℕ) (area : List ℕ) (at : ℕ) : Type 0 where
  pub low : (k : ℕ) → k < length outs → get_or outs k 0 ≤ 4
  pub states : ℕ
  pub children : ℕ
  pub to : ℕ
  pub body : InBody outs marks states children from to m
  pub room : m ≤ at
  pub end : at ≤ length area

-- the address v was written, so that it ends before position `at`
pub record EndsBefore (v area : List ℕ) (at : ℕ) (after : List ℕ) (w : ℕ) : Type 0 where
  pub wrote : after ≡ sets area w v
  pub long : w + length v ≡ at

-- what it does: the address of letter m ends before `at`, and has at most m numbers
pub record AddressWritten (outs marks : List ℕ) (from m : ℕ) (area : List ℕ) (at : ℕ) (after : List ℕ) (w : ℕ) : Type 0 where
  pub near : at ≤ w + m
  pub address : (n r to : ℕ) → InBody outs marks n r from to m → EndsBefore (place (first (forest (mark_of outs n r) (part marks from to))) m) area at after w
