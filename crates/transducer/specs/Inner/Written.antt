-- What a state writes on an input tree, byte by byte: the marks of its right-hand side in order, and for each call what the state called writes; and how many levels that has.
use Rattle.std.specs.Prelude.{ℕ, suc, ◌+◌, ◌-◌, ◌*◌, ◌/◌, ◌%◌, ◌<◌, ◌≤◌, min, max, Option, Some, None, Result, List, [], ◌∷◌, ◌++◌, ◌≡◌, length, get_or, take, drop}
use Rattle.std.proofs.Math.Seq.{slice}
use Rattle.std.proofs.lemmas.List.Edits.{sets}
use Rattle.theory.specs.Size.{levels}
use Rattle.theory.specs.Term.{Tree, Terms, var, node, none, more, count}
use Rattle.trees.specs.Code.{Mark}
use Rattle.trees.specs.Refusal.{outcome_of, done, check, Judged}
use Rattle.trees.specs.declared.refusal.Refusal.{Refusal}
use Rattle.theory.specs.Inner.Forests.{letters_all}
use Rattle.formats.specs.Inner.Layout.{pairs, mark_at, body_number, body_count}
use Rattle.trees.specs.Inner.Symbols.{trees, tree}
use Rattle.trees.specs.Inner.Measured.{Ends}

-- g i q is what the call (i, q) gives
unfoldable pub spell : (ℕ → ℕ → List ℕ) → List Mark → List ℕ
spell g [] = []
spell g ((ℕ.zero, b) ∷ ms) = b ∷ spell g ms
spell g ((suc i, q) ∷ ms) = g (suc i) q ++ spell g ms

-- what state q makes of a tree: rhs g q a is what its right-hand side for the symbol a makes, where the call (i, r) makes g i r; z is for calls that cannot be made
unfoldable mutual
  pub made : {B : Type 0} → ((ℕ → ℕ → B) → ℕ → ℕ → B) → B → Tree → ℕ → B
  made rhs z (var x) q = absurd x
  made rhs z (node a ds) q = rhs (λ i r. made_below rhs z ds i r) q a

  pub made_below : {B : Type 0} → ((ℕ → ℕ → B) → ℕ → ℕ → B) → B → Terms ⊥ → ℕ → ℕ → B
  made_below rhs z none i q = z
  made_below rhs z (more d ds) ℕ.zero q = z
  made_below rhs z (more d ds) (suc ℕ.zero) q = made rhs z d q
  made_below rhs z (more d ds) (suc (suc i)) q = made_below rhs z ds (suc i) q

-- body q a: the marks of the right-hand side of q and a
abbrev pub written : (ℕ → ℕ → List Mark) → Tree → ℕ → List ℕ
written body = made (λ g q a. spell g (body q a)) (0 ∷ [])

abbrev pub called : (ℕ → ℕ → List Mark) → Terms ⊥ → ℕ → ℕ → List ℕ
called body = made_below (λ g q a. spell g (body q a)) (0 ∷ [])

-- the levels of what marks write, above each of which so many symbols stand: the call (i, q) gives g i q levels
unfoldable pub lowest : (ℕ → ℕ → ℕ) → List ℕ → List Mark → ℕ
lowest g ds [] = 0
lowest g [] (m ∷ ms) = 0
lowest g (d ∷ ds) ((ℕ.zero, b) ∷ ms) = max (d + 1) (lowest g ds ms)
lowest g (d ∷ ds) ((suc i, q) ∷ ms) = max (d + g (suc i) q) (lowest g ds ms)

-- the bodies by a table of their starts
unfoldable pub body_at : List ℕ → List ℕ → List ℕ → ℕ → ℕ → List Mark
body_at ins starts bytes q a = slice (get_or starts (body_number ins q a) 0) (get_or starts (body_number ins q a + 1) 0) (pairs bytes)

-- and the depths of their marks by a table of those
unfoldable pub levels_by : List ℕ → List ℕ → List ℕ → List ℕ → (ℕ → ℕ → ℕ) → ℕ → ℕ → ℕ
levels_by ins starts bytes depths g q a = lowest g (slice (get_or starts (body_number ins q a) 0) (get_or starts (body_number ins q a + 1) 0) depths) (body_at ins starts bytes q a)

-- ---- by position
-- what the state q writes on the tree at position p of s
abbrev pub applied : List ℕ → List ℕ → List ℕ → List ℕ → ℕ → ℕ → List ℕ
applied ins starts bytes s q p = written (body_at ins starts bytes) (tree ins (drop p s)) q

-- what the marks number `from` up to `to` write, over the trees that stand from position `below` on
abbrev pub walked : List ℕ → List ℕ → List ℕ → List ℕ → ℕ → ℕ → ℕ → List ℕ
walked ins starts bytes s below from to = spell (λ i q. called (body_at ins starts bytes) (trees ins (drop below s)) i q) (slice from to (pairs bytes))

-- the levels of what the state q writes on the tree at position p of s, and of what those marks write
abbrev pub applied_levels : List ℕ → List ℕ → List ℕ → List ℕ → List ℕ → ℕ → ℕ → ℕ
applied_levels ins starts bytes depths s q p = made (levels_by ins starts bytes depths) 0 (tree ins (drop p s)) q

abbrev pub walked_levels : List ℕ → List ℕ → List ℕ → List ℕ → List ℕ → ℕ → ℕ → ℕ → ℕ
walked_levels ins starts bytes depths s below from to = lowest (λ i q. made_below (levels_by ins starts bytes depths) 0 (trees ins (drop below s)) i q) (slice from to depths) (slice from to (pairs bytes))

-- the calls of a mark, over r children, with n states
abbrev pub Callable : ℕ → ℕ → Mark → Type 0
Callable n r m = 0 < m.0 → (m.0 ≤ r) × (m.1 < n)

-- the right-hand sides of some states lie where the table of starts says, and every call in them can be made
pub record Table (ins starts bytes : List ℕ) : Type 0 where
  pub states : ℕ
  pub few_states : states ≤ 128
  pub long : body_count ins states < length starts
  pub ordered : (j : ℕ) → j < body_count ins states → get_or starts j 0 ≤ get_or starts (j + 1) 0
  pub few : (j : ℕ) → j < body_count ins states → get_or starts (j + 1) 0 ≤ get_or starts j 0 + 64
  pub inside : (j : ℕ) → j ≤ body_count ins states → 2 * get_or starts j 0 ≤ length bytes
  pub callable : (q a j : ℕ) → q < states → a < length ins → get_or starts (body_number ins q a) 0 ≤ j → j < get_or starts (body_number ins q a + 1) 0 → Callable states (get_or ins a 0) (mark_at bytes j)

-- s is the code of trees, and the table has the end of each subtree
pub record Input (ins s ends : List ℕ) : Type 0 where
  pub whole : letters_all (trees ins s) ≡ length s
  pub long : length s ≤ length ends
  pub right : Ends ins s ends 0 (length s)

-- n steps from the tree at p to the one behind it
unfoldable pub hop : List ℕ → ℕ → ℕ → ℕ
hop ends ℕ.zero p = p
hop ends (suc n) p = hop ends n (get_or ends p 0)

-- levels left times marks, which falls with every call: a right-hand side has at most 64 marks, so that one level outweighs them
abbrev pub levels_times_marks : ℕ → ℕ → ℕ
levels_times_marks left marks = 65 * left + marks

-- state q can be applied to the tree at p, which has at most `left` levels
pub record Ready (ins starts bytes s ends : List ℕ) (q p left : ℕ) : Type 0 where
  pub table : Table ins starts bytes
  pub input : Input ins s ends
  pub state : q < table.states
  pub place : p < length s
  pub few_levels_lem : levels (tree ins (drop p s)) ≤ left
  pub all_starts : length starts ≡ 2050
  pub all_ends : length ends ≡ 4096

-- the marks number `from` up to `to` can be walked over the trees from `below` on, and those that are called have at most `left` levels
pub record Walkable (ins starts bytes s ends : List ℕ) (from to below left : ℕ) : Type 0 where
  pub table : Table ins starts bytes
  pub input : Input ins s ends
  pub ordered : from ≤ to
  pub inside : 2 * to ≤ length bytes
  pub callable : (j : ℕ) → from ≤ j → j < to → Callable table.states (count (trees ins (drop below s))) (mark_at bytes j)
  pub few_levels_lem : (j : ℕ) → from ≤ j → j < to → 0 < get_or bytes (2 * j) 0 → levels (tree ins (drop (hop ends (get_or bytes (2 * j) 0 - 1) below) s)) ≤ left
  pub all_starts : length starts ≡ 2050
  pub all_ends : length ends ≡ 4096

-- ---- what is noted of states and trees
-- the key of state q and the tree at p; 0 is the key of nothing
abbrev pub note_key : ℕ → ℕ → ℕ
note_key q p = 4096 * (q + 1) + p

-- levels are counted up to 257
abbrev pub few_levels : ℕ → ℕ
few_levels l = min l 257

-- sizes and levels of what states write: what is noted at k is of state q on the tree at p, where the key at k, over the levels, is that of q and p
pub record Noted (ins starts bytes depths s keys sizes : List ℕ) : Type 0 where
  pub long : length keys ≡ 4096
  pub wide : length sizes ≡ 4096
  pub right : (k q p : ℕ) → p < 4096 → get_or keys k 0 / 512 ≡ note_key q p → get_or sizes k 0 ≡ length (applied ins starts bytes s q p)
  pub levels : (k q p : ℕ) → p < 4096 → get_or keys k 0 / 512 ≡ note_key q p → get_or keys k 0 % 512 ≡ few_levels (applied_levels ins starts bytes depths s q p)

-- w ends at e, which is not behind `at`, and stands there if the area is that long
pub record StandsAt (w area : List ℕ) (e at : ℕ) : Type 0 where
  pub before : e ≤ at
  pub long : length w ≤ e
  pub there : e ≤ length area → take (length w) (drop (e - length w) area) ≡ w

-- what was written so far, up to `at`: the place at k is where the output of q and p ends, where the key at k is that of q and p; 0 if it does not stand yet
pub record Standing (ins starts bytes depths s keys sizes places area : List ℕ) (at : ℕ) : Type 0 where
  pub noted : Noted ins starts bytes depths s keys sizes
  pub all_places : length places ≡ 4096
  pub stands : (k q p : ℕ) → p < 4096 → get_or keys k 0 / 512 ≡ note_key q p → 0 < get_or places k 0 → StandsAt (applied ins starts bytes s q p) area (get_or places k 0) at

-- the table has a depth for every mark
pub record Depths (bytes depths : List ℕ) : Type 0 where
  pub few_marks : length bytes ≤ 16384
  pub all_depths : length depths ≡ 8192

-- n more than `have`: where that ends, or none, where it is past the limit
pub record Counted (have n limit : ℕ) (r : Option ℕ) : Type 0 where
  pub over : r ≡ None → limit < have + n
  pub end : (m : ℕ) → r ≡ Some m → (m ≡ have + n) × (m ≤ limit)

-- w was written from `at` on, if there was room for it: r is where it ends, which is not past the limit
pub record Wrote (w : List ℕ) (at limit : ℕ) (before after : List ℕ) (r : ℕ) : Type 0 where
  pub end : r ≡ at + length w
  pub low : r ≤ limit
  pub wrote : at + length w ≤ length before → after ≡ sets before at w

-- w, of l levels, was written from the start of the area, and r is how long it is; or there is no room for it, or it has too many levels
abbrev pub Emitted : List ℕ → ℕ → List ℕ → List ℕ → Result ℕ Refusal → Type 0
Emitted w l before after r = Judged (after ≡ before) (λ k. (k ≡ length w) × (after ≡ sets before 0 w)) (check 6 (length w ≤ length before) (check 10 (l ≤ 256) done)) (outcome_of r)
