-- From a clash of two bodies to what shows it: the tree below the clash, and the way back to the initial terms, step by step in bytes.
use Rattle.std.specs.Prelude.{ℕ, ◌+◌, ◌*◌, ◌≤◌, ◌<◌, List, ◌++◌, ◌≡◌, length, get_or, drop}
use Rattle.theory.specs.Earliest.{Earliest}
use Rattle.theory.specs.Term.{Tree}
use Rattle.theory.specs.Transducer.{Transducer}
use Rattle.trees.specs.Alphabets.{Ranks, Leaf}
use Rattle.formats.specs.Inner.Marked.{part}
use Rattle.forms.specs.Alphabet.{alphabet}
use Rattle.forms.specs.Inner.Tables.{machine, Layout}
use Rattle.witness.specs.Difference.{Difference}
use Rattle.witness.specs.Inner.Other.{first_mark, DecreasingPath}
use Rattle.pairs.specs.declared.pairs.Pair.{Pair}
use Rattle.pairs.specs.declared.pairs.Side.{Side}
use Rattle.pairs.specs.declared.pairs.Side.TheVariants.{Left}
use Rattle.pairs.specs.Inner.Pairs.{pair_state, pair_left, pair_parent, pair_symbol, pair_mark, pair_child, left_body}
use Rattle.witness.specs.Inner.Paths.{tree_for, pair_place, Path}
use Rattle.witness.specs.Inner.Shown.{steps_tree, Holds, Addable}
use Rattle.witness.specs.Inner.Forms.{Comparable}

-- ---- bodies
-- the list has room for pair q - 1, and the body of its state x for symbol a has a number that fits
pub record Bodied (ins : List ℕ) (q a x : ℕ) : Type 0 where
  pub long : q ≤ 256
  pub few_inputs : length ins ≤ 16
  pub known : 0 < q → a < length ins
  pub state : 0 < q → x < 128

-- ---- the tree below the clash
-- a state of an earliest transducer, and room for 128 steps
pub record PathFromAsked (ins starts bytes : List ℕ) (n q : ℕ) (steps : List ℕ) : Type 0 where
  pub outs : List ℕ
  pub layout : Layout ins outs starts bytes n
  pub leaf : Leaf ins
  pub earliest : Earliest (alphabet ins leaf) (machine ins outs starts bytes n) (λ p. p < n)
  pub state : q < n
  pub room : 256 ≤ length steps

-- the first `count` steps are a path from q, along which some distances decrease, to x, which is not b
pub record PathFromFound (ins starts bytes : List ℕ) (q b : ℕ) (steps : List ℕ) (count x : ℕ) : Type 0 where
  pub dist : List ℕ
  pub path : DecreasingPath ins starts bytes dist q b steps count x

-- the root symbol on a tree of leaves: of a symbol itself, of a call that of the right-hand side for the leaf e
pub record RootOnLeaf (ins starts bytes : List ℕ) (e c x b : ℕ) : Type 0 where
  pub symbol : c ≡ 0 → b ≡ x
  pub call : 0 < c → b ≡ (first_mark ins starts bytes x e).1

-- a mark (c, x) whose state is there, if it is a call, and a leaf e
pub record RootOnLeafAsked (ins starts bytes : List ℕ) (e c x : ℕ) : Type 0 where
  pub outs : List ℕ
  pub states : ℕ
  pub layout : Layout ins outs starts bytes states
  pub leaf : e < length ins
  pub state : 0 < c → x < states

-- marks (c, x) and (c', x') of two transducers, a leaf e, and room for 128 steps
pub record BottomAsked (ins starts bytes : List ℕ) (n : ℕ) (starts' bytes' : List ℕ) (n' e c x c' x' : ℕ) (steps : List ℕ) : Type 0 where
  pub outs : List ℕ
  pub forms : Comparable ins outs starts bytes n starts' bytes' n'
  pub leaf : e < length ins
  pub state : 0 < c → x < n
  pub state' : 0 < c' → x' < n'
  pub room : 256 ≤ length steps

-- The child that matters, 0 if none does, the number of the steps of its tree, and the root symbols of the two outputs:
-- two symbols; a symbol and a call, from which a path leads to another symbol; a call, from which a path leads to another symbol than that of the second.
pub data BottomFound (ins starts bytes starts' bytes' : List ℕ) (e c x c' x' : ℕ) (steps : List ℕ) : ℕ → ℕ → ℕ → ℕ → Type 0 where
  no_path : c ≡ 0 → c' ≡ 0 → BottomFound ins starts bytes starts' bytes' e c x c' x' steps 0 0 x x'
  second_path : {count b' : ℕ} → c ≡ 0 → 0 < c' → PathFromFound ins starts' bytes' x' x steps count b' → BottomFound ins starts bytes starts' bytes' e c x c' x' steps c' count x b'
  first_path : {count b b' : ℕ} → 0 < c → RootOnLeaf ins starts' bytes' e c' x' b' → PathFromFound ins starts bytes x b' steps count b → BottomFound ins starts bytes starts' bytes' e c x c' x' steps c count b b'

-- ---- one step up
-- what stands in the buffer can be child i of symbol a, if a parent other than 0 reads it
pub record Upable (ins : List ℕ) (e q a i : ℕ) (buffer : List ℕ) (lo hi : ℕ) : Type 0 where
  pub ordered : lo < hi
  pub step : 0 < q → Addable ins e a i buffer lo hi

-- the tree that parent q reads stands in the buffer, with at most four bytes more on either side
pub record Upped (ins : List ℕ) (e q a i : ℕ) (buffer : List ℕ) (lo hi : ℕ) (after : List ℕ) (from to : ℕ) : Type 0 where
  pub left : lo ≤ from + 4
  pub ordered : from < to
  pub right : to ≤ hi + 4
  pub tree : (l : Leaf ins) → l.symbol ≡ e → (d : Tree) → Holds buffer lo hi d → Holds after from to (tree_for (alphabet ins l) ins q a i d)

-- ---- the tree of the clash
-- marks number i and j of two transducers stand in bodies of parent q for symbol a; e is a leaf
pub record RootAsked (ins starts bytes : List ℕ) (n : ℕ) (starts' bytes' : List ℕ) (n' e i j q a : ℕ) (buffer : List ℕ) : Type 0 where
  pub outs : List ℕ
  pub forms : Comparable ins outs starts bytes n starts' bytes' n'
  pub leaf : e < length ins
  pub inside : 2 * i + 2 ≤ length bytes
  pub inside' : 2 * j + 2 ≤ length bytes'
  pub state : 0 < get_or bytes (2 * i) 0 → get_or bytes (2 * i + 1) 0 < n
  pub state' : 0 < get_or bytes' (2 * j) 0 → get_or bytes' (2 * j + 1) 0 < n'
  pub known : 0 < q → a < length ins
  pub child : 0 < q → get_or bytes (2 * i) 0 ≤ get_or ins a 0
  pub child' : 0 < q → get_or bytes' (2 * j) 0 ≤ get_or ins a 0
  pub room : length buffer ≡ 3584

-- the tree that parent q reads stands in the buffer: below its symbol, at the child that matters, the tree of the steps
pub record RootFound (ins starts bytes starts' bytes' : List ℕ) (e i j q a : ℕ) (after : List ℕ) (from to b b' : ℕ) : Type 0 where
  pub steps : List ℕ
  pub child : ℕ
  pub count : ℕ
  pub bottom : BottomFound ins starts bytes starts' bytes' e (get_or bytes (2 * i) 0) (get_or bytes (2 * i + 1) 0) (get_or bytes' (2 * j) 0) (get_or bytes' (2 * j + 1) 0) steps child count b b'
  pub left : 1020 ≤ from
  pub ordered : from < to
  pub right : to + 1020 ≤ 3584
  pub tree : (l : Leaf ins) → l.symbol ≡ e → Holds after from to (tree_for (alphabet ins l) ins q a child (steps_tree ins l (part steps 0 count)))

-- ---- the way back
-- pair p stands in a body of the first transducer, that of its parent for its symbol
pub record Stands (ins starts : List ℕ) (n : ℕ) (P : List Pair) (p : ℕ) : Type 0 where
  pub left : pair_left P p < n
  pub parent : pair_parent P p ≤ p
  pub symbol : 0 < pair_parent P p → pair_symbol P p < length ins
  pub child : 0 < pair_parent P p → pair_child P p ≤ get_or ins (pair_symbol P p) 0
  pub inside : get_or starts (left_body ins P (pair_parent P p) (pair_symbol P p)) 0 + pair_mark P p < get_or starts (left_body ins P (pair_parent P p) (pair_symbol P p) + 1) 0

-- the first pairs, up to number q, lead back; e is a leaf
pub record Leading (ins outs starts bytes : List ℕ) (P : List Pair) (e q : ℕ) : Type 0 where
  pub states : ℕ
  pub layout : Layout ins outs starts bytes states
  pub ins_ranks : Ranks 16 ins
  pub outs_ranks : Ranks 64 outs
  pub leaf : e < length ins
  pub long : q ≤ 256
  pub stands : (p : ℕ) → p < q → Stands ins starts states P p

-- a tree stands in the buffer, with room for four bytes a step on either side, and an address at the end of the area, with room for 63 numbers a step
pub record Roomy (q : ℕ) (buffer : List ℕ) (lo hi : ℕ) (area : List ℕ) (at : ℕ) : Type 0 where
  pub left : 4 * q ≤ lo
  pub ordered : lo < hi
  pub right : hi + 4 * q ≤ length buffer
  pub before : 63 * q ≤ at
  pub end : at ≤ length area

-- the states of the first pairs on one side are below n
abbrev pub StatesBelow : List Pair → Side → ℕ → ℕ → Type 0
StatesBelow P side q n = (p : ℕ) → p < q → pair_state P side p < n

-- d stands in the buffer, and v at the end of the area
abbrev pub Stand : List ℕ → ℕ → ℕ → Tree → List ℕ → ℕ → List ℕ → Type 0
Stand buffer lo hi d area at v = Holds buffer lo hi d × (drop at area ≡ v)

-- one step back: from pair p to its parent
pub record StepsBack (ins outs starts bytes : List ℕ) (P : List Pair) (e p : ℕ) (buffer : List ℕ) (lo hi : ℕ) (area : List ℕ) (at : ℕ) (buffer' : List ℕ) (lo' hi' : ℕ) (area' : List ℕ) (at' : ℕ) : Type 0 where
  pub roomy : Roomy (pair_parent P p) buffer' lo' hi' area' at'
  pub back : (n : ℕ) (l : Leaf ins) → Layout ins outs starts bytes n → l.symbol ≡ e → StatesBelow P Left p n → (d : Tree) (v : List ℕ) → Stand buffer lo hi d area at v → Stand buffer' lo' hi' (tree_for (alphabet ins l) ins (pair_parent P p) (pair_symbol P p) (pair_child P p) d) area' at' (pair_place (machine ins outs starts bytes n) P p ++ v)

-- where the list leads from parent q, which reads d at address v
pub record LedTo (ins outs starts bytes : List ℕ) (P : List Pair) (n : ℕ) (l : Leaf ins) (q : ℕ) (d : Tree) (v buffer : List ℕ) (lo hi : ℕ) (area : List ℕ) (at : ℕ) : Type 0 where
  pub tree : Tree
  pub address : List ℕ
  pub path : Path (alphabet ins l) ins (machine ins outs starts bytes n) P q d v tree address
  pub stand : Stand buffer lo hi tree area at address

-- all steps back
pub record TracesBack (ins outs starts bytes : List ℕ) (P : List Pair) (e q : ℕ) (buffer : List ℕ) (lo hi : ℕ) (area : List ℕ) (at : ℕ) (buffer' : List ℕ) (lo' hi' : ℕ) (area' : List ℕ) (at' : ℕ) : Type 0 where
  pub ordered : lo' < hi'
  pub inside : hi' ≤ length buffer'
  pub end : at' ≤ length area'
  pub led : (n : ℕ) (l : Leaf ins) → Layout ins outs starts bytes n → l.symbol ≡ e → StatesBelow P Left q n → (d : Tree) (v : List ℕ) → Stand buffer lo hi d area at v → LedTo ins outs starts bytes P n l q d v buffer' lo' hi' area' at'

-- ---- from the clash to the initial terms
-- a leaf e, and room for every tree and every address
pub record Tracing (ins : List ℕ) (e : ℕ) (buffer area : List ℕ) : Type 0 where
  pub leaf : e < length ins
  pub rank : get_or ins e 0 ≡ 0
  pub tree_room : length buffer ≡ 3584
  pub address_room : length area ≡ 16128

-- a difference of two transducers, its tree in the buffer and its address at the end of the area
pub record Traces (ins outs : List ℕ) (M M' : Transducer ℕ) (buffer : List ℕ) (from to : ℕ) (area : List ℕ) (at b b' : ℕ) : Type 0 where
  pub tree : Tree
  pub address : List ℕ
  pub difference : Difference ins outs M M' tree address b b'
  pub ordered : from < to
  pub inside : to ≤ length buffer
  pub end : at ≤ length area
  pub stand : Stand buffer from to tree area at address
