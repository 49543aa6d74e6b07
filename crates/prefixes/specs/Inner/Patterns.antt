-- Patterns as bytes, and what is done with them: the end of one, what two share, the grafting of a right-hand side.
use Rattle.std.specs.Prelude.{ℕ, suc, ◌+◌, ◌*◌, ◌≤◌, ◌<◌, Bool, true, false, List, [], ◌∷◌, ◌≡◌, ltb, eqb, length, get_or, drop, take, Option, None, Some}
use Rattle.std.proofs.Math.Seq.{slice}
use Rattle.theory.specs.Lcp.{lcp}
use Rattle.theory.specs.Prefix.{Pattern}
use Rattle.trees.specs.Code.{preorder}
use Rattle.trees.specs.Inner.Decode.{Letter, call, symbol, unknown, rests, forest, first, Whole}
use Rattle.formats.specs.Inner.Layout.{mark_at}
use Rattle.formats.specs.Inner.Marked.{part}
use Rattle.trees.specs.Refusal.{Decides}
use Rattle.transducer.specs.Inner.Written.{spell}

-- the byte of ⊤
abbrev pub top : ℕ
top = 255

abbrev pub top_if : Bool → Bool → ℕ → ℕ → Letter (Unit {0})
top_if true t x n = symbol x n
top_if false true x n = call tt
top_if false false x n = unknown

-- a byte of a pattern: a symbol of the output alphabet, or ⊤
unfoldable pub top_of : List ℕ → ℕ → Letter (Unit {0})
top_of outs x = top_if (ltb x (length outs)) (eqb x top) x (get_or outs x 0)

abbrev pub pattern_code : Pattern → List ℕ
pattern_code p = preorder (λ u. top ∷ []) (λ k. k) p

-- s is the code of a pattern, and which
abbrev pub IsPattern : List ℕ → List ℕ → Type 0
IsPattern outs s = Whole (top_of outs) s

unfoldable pub read_pattern : List ℕ → List ℕ → Pattern
read_pattern outs s = first (forest (top_of outs) s)

-- the tree at position at, of the letters that f reads, ends at e
pub record Ended {A : Type 0} (f : ℕ → Letter A) (s : List ℕ) (at e : ℕ) : Type 0 where
  pub further : at < e
  pub inside : e ≤ length s
  pub behind : forest f (drop e s) ≡ rests 1 (forest f (drop at s))

-- where the first n trees of a word end, if they do: the word begins at position p, and r says of each letter how many of the trees behind it it takes
unfoldable pub trees_end : {X : Type 0} → (X → ℕ) → ℕ → ℕ → List X → Option ℕ
trees_end r ℕ.zero p s = Some p
trees_end r (suc n) p [] = None
trees_end r (suc n) p (x ∷ s) = trees_end r (r x + n) (suc p) s

-- where the tree at position at ends: a letter takes as many trees as the rank of its number says, and a number without a rank none
abbrev pub end_of : {X : Type 0} → List ℕ → (X → ℕ) → List X → ℕ → Option ℕ
end_of outs number s at = trees_end (λ x. get_or outs (number x) 0) 1 at (drop at s)

-- the pattern x was cut to what it shares with y; cut says whether that took anything away
pub record CutPattern (outs x y after : List ℕ) (size : ℕ) (cut : Bool) : Type 0 where
  pub short : size ≤ length x
  pub shared : take size after ≡ pattern_code (lcp (read_pattern outs x) (read_pattern outs y))
  pub told : Decides (lcp (read_pattern outs x) (read_pattern outs y) ≡ read_pattern outs x → ⊥) cut

-- how long x is after a cut that answers so
abbrev pub size_after : List ℕ → Option ℕ → ℕ
size_after x None = length x
size_after x (Some n) = n

-- ---- a table of patterns: that of state q stands from byte 64 q on
abbrev pub head_at : List ℕ → List ℕ → ℕ → List ℕ
head_at heads sizes q = slice (64 * q) (64 * q + get_or sizes q 0) heads

-- the marks number `from` up to `to`, with the pattern of each state for its calls
abbrev pub grafted : List ℕ → List ℕ → List ℕ → ℕ → ℕ → List ℕ
grafted heads sizes bytes from to = spell (λ i q. head_at heads sizes q) (part bytes from to)

-- an area begins with the r bytes w
pub record Begins (w area : List ℕ) (r : ℕ) : Type 0 where
  pub inside : r ≤ length area
  pub wrote : take r area ≡ w

-- at most 64 marks; each state called has a pattern of at most 64 bytes; the area has room for all
pub record Graftable (heads sizes bytes : List ℕ) (from to : ℕ) (out : List ℕ) : Type 0 where
  pub ordered : from ≤ to
  pub inside : 2 * to ≤ length bytes
  pub few : to ≤ from + 64
  pub there : (j : ℕ) → from ≤ j → j < to → 0 < (mark_at bytes j).0 → ((mark_at bytes j).1 < length sizes) × (get_or sizes (mark_at bytes j).1 0 ≤ 64) × (64 * (mark_at bytes j).1 + 64 ≤ length heads)
  pub room : 4096 ≤ length out
