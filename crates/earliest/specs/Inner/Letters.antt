-- Right-hand sides with the patterns of the states put for their calls, as lists of letters: a number below 64 is a symbol, 65,536 · i + c the call of state c on child i.
-- State c of the earliest form is the ⊤ that stands at byte c of the table of patterns: at byte c % 64 of the pattern of state c / 64.
use Rattle.std.specs.Prelude.{ℕ, suc, ◌+◌, ◌*◌, ◌/◌, ◌%◌, ◌≤◌, ◌<◌, Bool, true, false, List, [], ◌∷◌, ◌≡◌, ltb, leb, eqb, length, get_or, drop}
use Rattle.theory.specs.Prefix.{Prefix}
use Rattle.theory.specs.Term.{Term, var, node, Terms, none, more, count}
use Rattle.theory.specs.Transducer.{Transducer}
use Rattle.trees.specs.Inner.Decode.{Letter, call, symbol, unknown, forest, first, Whole}
use Rattle.theory.specs.Inner.Forests.{joined}
use Rattle.formats.specs.Inner.Layout.{mark_at, body_number}
use Rattle.formats.specs.Inner.Marked.{part}
use Rattle.transducer.specs.Inner.Written.{spell}
use Rattle.prefixes.specs.Inner.Heads.{Heads, head_of}
use Rattle.forms.specs.Inner.Tables.{Layout}
use Rattle.prefixes.specs.Inner.Patterns.{top, top_of, IsPattern, read_pattern, head_at, Graftable}

abbrev pub letter_if : Bool → Bool → List ℕ → ℕ → Letter (ℕ × ℕ)
letter_if true b outs x = symbol x (get_or outs x 0)
letter_if false true outs x = call (x / 65536, x % 65536)
letter_if false false outs x = unknown

unfoldable pub letter_of : List ℕ → ℕ → Letter (ℕ × ℕ)
letter_of outs x = letter_if (ltb x (length outs)) (leb 65536 x) outs x

abbrev pub open_if : Bool → ℕ → ℕ → ℕ
open_if true c x = c
open_if false c x = x

-- a pattern's bytes, the ⊤ at byte m being the call number base + m
unfoldable pub labeled : ℕ → List ℕ → List ℕ
labeled base [] = []
labeled base (x ∷ s) = open_if (eqb x top) base x ∷ labeled (suc base) s

-- the marks number `from` up to `to`, with the pattern of each state for its calls, its ⊤ being calls again
abbrev pub expanded : List ℕ → List ℕ → List ℕ → ℕ → ℕ → List ℕ
expanded heads sizes bytes from to = spell (λ i q. labeled (65536 * i + 64 * q) (head_at heads sizes q)) (part bytes from to)

-- body j
abbrev pub expanded_body : List ℕ → List ℕ → List ℕ → List ℕ → ℕ → List ℕ
expanded_body starts bytes heads sizes j = expanded heads sizes bytes (get_or starts j 0) (get_or starts (j + 1) 0)

-- the first of the trees ts, if there is one for the first of the patterns hs
unfoldable pub first_under : {A B : Type 0} → Terms A → Terms B → Term B
first_under none ts = node 0 none
first_under (more h hs) none = node 0 none
first_under (more h hs) (more t ts) = t

-- of the trees ts, the subtree that stands where letter m of the patterns hs does, counted in preorder from 0
unfoldable pub under : {A B : Type 0} → ℕ → Terms A → Terms B → Term B
under ℕ.zero hs ts = first_under hs ts
under (suc m) none ts = node 0 none
under (suc m) (more h hs) none = node 0 none
under (suc m) (more (var a) hs) (more t ts) = under m hs ts
under (suc m) (more (node k cs) hs) (more (var b) ts) = node 0 none
under (suc m) (more (node k cs) hs) (more (node j ds) ts) = under m (joined cs hs) (joined ds ts)

-- the earliest form, its states as numbers
unfoldable pub earliest : List ℕ → List ℕ → List ℕ → List ℕ → List ℕ → List ℕ → Transducer ℕ
earliest ins outs starts bytes heads sizes = record {
  sort = λ c. 0;
  initial = first (forest (letter_of outs) (expanded_body starts bytes heads sizes 0));
  rhs = λ c a. under (c % 64) (forest (top_of outs) (head_at heads sizes (c / 64))) (forest (letter_of outs) (expanded_body starts bytes heads sizes (body_number ins (c / 64) a)));
}

-- c is one of its states: a ⊤ stands at byte c
pub record State (heads sizes : List ℕ) (c : ℕ) : Type 0 where
  pub state : c / 64 < length sizes
  pub inside : c % 64 < get_or sizes (c / 64) 0
  pub is_top : get_or heads c 0 ≡ top

-- the right-hand sides of a transducer and a pattern for each of its states, which is a prefix of each of its expanded right-hand sides
pub record Expanding (ins outs starts bytes heads sizes : List ℕ) : Type 0 where
  pub table : Heads outs heads sizes
  pub layout : Layout ins outs starts bytes (length sizes)
  pub ranks : (a : ℕ) → a < length ins → get_or ins a 0 ≤ 4
  pub prefixed : (q a : ℕ) → q < length sizes → a < length ins → Prefix (head_of outs heads sizes q) (first (forest (letter_of outs) (expanded_body starts bytes heads sizes (body_number ins q a))))

-- ---- what inner functions ask and do
-- at most 64 marks, whose calls are on at most 4 children and of states with patterns of at most 64 bytes; the area has room for all
pub record Expandable (heads sizes bytes : List ℕ) (from to : ℕ) (out : List ℕ) : Type 0 where
  pub grafts : Graftable heads sizes bytes from to out
  pub children : (j : ℕ) → from ≤ j → j < to → (mark_at bytes j).0 ≤ 4
  pub few_states : length sizes ≤ 128

-- the pattern is a prefix of the tree of the letters, and has a letter number m
pub record Locatable (outs head s : List ℕ) (m : ℕ) : Type 0 where
  pub few_symbols : length outs ≤ 64
  pub pattern : IsPattern outs head
  pub whole : Whole (letter_of outs) s
  pub prefix : Prefix (read_pattern outs head) (first (forest (letter_of outs) s))
  pub there : m < length head

-- the tree under it stands at position p
pub record LocatedAt (outs head s : List ℕ) (m p : ℕ) : Type 0 where
  pub some : 0 < count (forest (letter_of outs) (drop p s))
  pub tree : first (forest (letter_of outs) (drop p s)) ≡ under m (forest (top_of outs) head) (forest (letter_of outs) s)
