-- The pair search (Hopcroft and Karp) over two transducers: classes of their states, and the list of the pairs that were joined.
use Rattle.std.specs.Prelude.{ℕ, suc, ◌+◌, ◌-◌, ◌*◌, ◌≤◌, ◌<◌, Bool, true, false, List, ◌⊎◌, ◌≢◌, ◌≡◌, ltb, length, get_or, Option, Some, None, Result, Ok, Err}
use Rattle.std.proofs.Math.Decide.{ℕ_discrete}
use Rattle.std.proofs.Math.Logic.{ite}
use Rattle.theory.specs.Equivalent.{Equivalent}
use Rattle.theory.specs.Wf.{Wf}
use Rattle.trees.specs.Alphabets.{Leaf}
use Rattle.formats.specs.Inner.Layout.{body_number}
use Rattle.forms.specs.Alphabet.{alphabet}
use Rattle.forms.specs.Inner.Tables.{machine, Layout}
use Rattle.classes.specs.Inner.Classes.{at}
use Rattle.pairs.specs.declared.pairs.Clash.{Clash}
use Rattle.pairs.specs.declared.pairs.Pair.{Pair}
use Rattle.pairs.specs.declared.pairs.Tables.{Tables}
use Rattle.pairs.specs.declared.pairs.Side.{Side}
use Rattle.pairs.specs.declared.pairs.Side.TheVariants.{Left, Right}

-- ---- the two transducers
-- the input alphabet, and for each of the two where its bodies start and their marks
pub record Sides : Type 0 where
  pub ins : List ℕ
  pub starts : List ℕ
  pub bytes : List ℕ
  pub starts' : List ℕ
  pub bytes' : List ℕ

abbrev pub sides : List ℕ → List ℕ → List ℕ → List ℕ → List ℕ → Sides
sides ins starts bytes starts' bytes' = record { ins = ins; starts = starts; bytes = bytes; starts' = starts'; bytes' = bytes' }

abbrev pub sides_of : List ℕ → Tables → Tables → Sides
sides_of ins T U = sides ins T.starts.now T.marks.now U.starts.now U.marks.now

-- both are transducers over one output alphabet, with n and n' states
pub record Forms (S : Sides) (n n' : ℕ) : Type 0 where
  pub outs : List ℕ
  pub left : Layout S.ins outs S.starts S.bytes n
  pub right : Layout S.ins outs S.starts' S.bytes' n'

-- ---- marks side by side
-- mark number i of the first and mark number j of the second go in step: the same symbol, or calls on the same child
pub record InStep (bytes bytes' : List ℕ) (i j : ℕ) : Type 0 where
  pub first : get_or bytes (2 * i) 0 ≡ get_or bytes' (2 * j) 0
  pub second : get_or bytes (2 * i) 0 ≡ 0 → get_or bytes (2 * i + 1) 0 ≡ get_or bytes' (2 * j + 1) 0

-- they clash: two symbols, a symbol and a call, or calls on two children
pub data Clashing (bytes bytes' : List ℕ) (i j : ℕ) : Type 0 where
  two_symbols : get_or bytes (2 * i) 0 ≡ 0 → get_or bytes' (2 * j) 0 ≡ 0 → get_or bytes (2 * i + 1) 0 ≢ get_or bytes' (2 * j + 1) 0 → Clashing bytes bytes' i j
  symbol_call : get_or bytes (2 * i) 0 ≡ 0 → 0 < get_or bytes' (2 * j) 0 → Clashing bytes bytes' i j
  call_symbol : 0 < get_or bytes (2 * i) 0 → get_or bytes' (2 * j) 0 ≡ 0 → Clashing bytes bytes' i j
  two_children : 0 < get_or bytes (2 * i) 0 → 0 < get_or bytes' (2 * j) 0 → get_or bytes (2 * i) 0 ≢ get_or bytes' (2 * j) 0 → Clashing bytes bytes' i j

-- of n marks from number i and from number j on, all go in step, or those before mark m, at which they clash
pub record FirstClash (bytes bytes' : List ℕ) (i j n : ℕ) (r : Option ℕ) : Type 0 where
  pub none : r ≡ None → (k : ℕ) → k < n → InStep bytes bytes' (i + k) (j + k)
  pub small : (m : ℕ) → r ≡ Some m → m < n
  pub step : (m : ℕ) → r ≡ Some m → (k : ℕ) → k < m → InStep bytes bytes' (i + k) (j + k)
  pub clash : (m : ℕ) → r ≡ Some m → Clashing bytes bytes' (i + m) (j + m)

-- bodies j and j' go in step up to mark m, which both have
pub record Agree (S : Sides) (j j' m : ℕ) : Type 0 where
  pub inside : at S.starts j + m < at S.starts (j + 1)
  pub inside' : at S.starts' j' + m < at S.starts' (j' + 1)
  pub step : (k : ℕ) → k < m → InStep S.bytes S.bytes' (at S.starts j + k) (at S.starts' j' + k)

-- mark number i is the call of state x on child c
pub record CallAt (bytes : List ℕ) (i c x : ℕ) : Type 0 where
  pub from_one : 1 ≤ c
  pub child : get_or bytes (2 * i) 0 ≡ c
  pub state : get_or bytes (2 * i + 1) 0 ≡ x

-- bodies j and j' go in step up to mark m, and call there x and y on child c
pub record CallsAt (S : Sides) (j j' m c x y : ℕ) : Type 0 where
  pub agree : Agree S j j' m
  pub left : CallAt S.bytes (at S.starts j + m) c x
  pub right : CallAt S.bytes' (at S.starts' j' + m) c y

-- bodies j and j' go in step up to mark m, and clash there
pub record ClashesAt (S : Sides) (j j' m : ℕ) : Type 0 where
  pub agree : Agree S j j' m
  pub clash : Clashing S.bytes S.bytes' (at S.starts j + m) (at S.starts' j' + m)

-- ---- the list of pairs
-- a place that is not used
abbrev pub no_pair : Pair
no_pair = record { left = 0; right = 0; parent = 0; symbol = 0; mark = 0; child = 0 }

-- pair p
abbrev pub pair_at : List Pair → ℕ → Pair
pair_at P p = get_or P p no_pair

-- its left state, its right state; its parent: 0 if it stands in the initial terms, p + 1 if in right-hand sides of pair p; their symbol; the number of the mark there; the child called
abbrev pub pair_left : List Pair → ℕ → ℕ
pair_left P p = (pair_at P p).left

abbrev pub pair_right : List Pair → ℕ → ℕ
pair_right P p = (pair_at P p).right

abbrev pub pair_parent : List Pair → ℕ → ℕ
pair_parent P p = (pair_at P p).parent

abbrev pub pair_symbol : List Pair → ℕ → ℕ
pair_symbol P p = (pair_at P p).symbol

abbrev pub pair_mark : List Pair → ℕ → ℕ
pair_mark P p = (pair_at P p).mark

abbrev pub pair_child : List Pair → ℕ → ℕ
pair_child P p = (pair_at P p).child

-- its state on one side
abbrev pub state_of : Pair → Side → ℕ
state_of r Left = r.left
state_of r Right = r.right

abbrev pub pair_state : List Pair → Side → ℕ → ℕ
pair_state P side p = state_of (pair_at P p) side

-- pair p is x and y, on child c at mark m of the bodies for symbol a of parent q
pub record Entry (P : List Pair) (p q a m c x y : ℕ) : Type 0 where
  pub left : pair_left P p ≡ x
  pub right : pair_right P p ≡ y
  pub parent : pair_parent P p ≡ q
  pub symbol : pair_symbol P p ≡ a
  pub mark : pair_mark P p ≡ m
  pub child : pair_child P p ≡ c

-- pair number count was added
pub record Added (P P' : List Pair) (count q a m c x y : ℕ) : Type 0 where
  pub long : length P' ≡ length P
  pub keeps : (p : ℕ) → p < count → pair_at P' p ≡ pair_at P p
  pub entry : Entry P' count q a m c x y

-- the body of parent q for symbol a on one side: the initial term, or a right-hand side of a pair
unfoldable pub body_of : List ℕ → List Pair → Side → ℕ → ℕ → ℕ
body_of ins P side ℕ.zero a = 0
body_of ins P side (suc p) a = body_number ins (pair_state P side p) a

abbrev pub left_body : List ℕ → List Pair → ℕ → ℕ → ℕ
left_body ins P q a = body_of ins P Left q a

abbrev pub right_body : List ℕ → List Pair → ℕ → ℕ → ℕ
right_body ins P q a = body_of ins P Right q a

-- pair p stands where the list says, in bodies of a pair before it or in the initial terms
pub record Linked (S : Sides) (n n' : ℕ) (P : List Pair) (p : ℕ) : Type 0 where
  pub left : pair_left P p < n
  pub right : pair_right P p < n'
  pub parent : pair_parent P p ≤ p
  pub symbol : 0 < pair_parent P p → pair_symbol P p < length S.ins
  pub calls : CallsAt S (left_body S.ins P (pair_parent P p) (pair_symbol P p)) (right_body S.ins P (pair_parent P p) (pair_symbol P p)) (pair_mark P p) (pair_child P p) (pair_left P p) (pair_right P p)

-- ---- classes
-- of the states in class c, each comes into class d
pub record Joined (l l' : List ℕ) (c d : ℕ) : Type 0 where
  pub long : length l' ≡ length l
  pub hit : (x : ℕ) → x < length l → at l x ≡ c → at l' x ≡ d
  pub miss : (x : ℕ) → (x < length l → at l x ≡ c → ⊥) → at l' x ≡ at l x

-- the states of both in one row: those of the second from 128 on
abbrev pub Member : ℕ → ℕ → ℕ → Type 0
Member n n' e = (e < n) ⊎ ((128 ≤ e) × (e < 128 + n'))

abbrev pub side_if : Bool → ℕ → ℕ → ℕ
side_if true x y = x
side_if false x y = y

-- the class of each
unfoldable pub class_of : List ℕ → List ℕ → ℕ → ℕ
class_of C D e = side_if (ltb e 128) (at C e) (at D (e - 128))

-- how many of the numbers below n are in the class with their own number
unfoldable pub roots : (ℕ → ℕ) → ℕ → ℕ
roots k ℕ.zero = 0
roots k (suc n) = roots k n + ite (ℕ_discrete (k n) n) 1 0

-- connected by the first pairs of the list
pub data Connected (P : List Pair) (count : ℕ) : ℕ → ℕ → Type 0 where
  pair : (p : ℕ) → p < count → Connected P count (pair_left P p) (128 + pair_right P p)
  itself : (s : ℕ) → Connected P count s s
  back : {s t : ℕ} → Connected P count s t → Connected P count t s
  onward : {s t u : ℕ} → Connected P count s t → Connected P count t u → Connected P count s u

-- ---- the search
-- the classes of both, the list of pairs, and how many there are
pub record Table : Type 0 where
  pub left : List ℕ
  pub right : List ℕ
  pub list : List Pair
  pub count : ℕ

abbrev pub table : List ℕ → List ℕ → List Pair → ℕ → Table
table C D P count = record { left = C; right = D; list = P; count = count }

abbrev pub class : Table → ℕ → ℕ
class T e = class_of T.left T.right e

abbrev pub State : Table → ℕ → Type 0
State T e = Member (length T.left) (length T.right) e

-- each class has the number of a state in it; each pair took one such class away; states of one class are connected by the pairs
pub record Merging (T : Table) : Type 0 where
  pub few_left : length T.left ≤ 128
  pub few_right : length T.right ≤ 128
  pub room : 256 ≤ length T.list
  pub few : T.count ≤ 255
  pub few_roots : T.count + roots (class T) 256 ≤ 256
  pub rooted : (e : ℕ) → State T e → State T (class T e) × (class T (class T e) ≡ class T e)
  pub forced : (s t : ℕ) → State T s → State T t → class T s ≡ class T t → Connected T.list T.count s t

-- the list has as many pairs or more, and states of one class stay in one class
pub record Later (T T' : Table) : Type 0 where
  pub same_left : length T'.left ≡ length T.left
  pub same_right : length T'.right ≡ length T.right
  pub same_list : length T'.list ≡ length T.list
  pub longer : T.count ≤ T'.count
  pub keeps : (p : ℕ) → p < T.count → pair_at T'.list p ≡ pair_at T.list p
  pub coarser : (x y : ℕ) → x < length T.left → y < length T.right → at T.left x ≡ at T.right y → at T'.left x ≡ at T'.right y

-- x and y are in one class now, and if they were not, they are the new pair
pub record JoinsStates (T T' : Table) (q a m c x y : ℕ) : Type 0 where
  pub merging : Merging T'
  pub later : Later T T'
  pub together : at T'.left x ≡ at T'.right y
  pub listed : (p : ℕ) → T.count ≤ p → p < T'.count → Entry T'.list p q a m c x y

-- n marks from number i and from number j on go in step, and call states that have classes
pub record Joinable (T : Table) (bytes bytes' : List ℕ) (i j n : ℕ) : Type 0 where
  pub merging : Merging T
  pub inside : 2 * (i + n) ≤ length bytes
  pub inside' : 2 * (j + n) ≤ length bytes'
  pub few : n ≤ 64
  pub step : (k : ℕ) → k < n → InStep bytes bytes' (i + k) (j + k)
  pub there : (k : ℕ) → k < n → 0 < get_or bytes (2 * (i + k)) 0 → (get_or bytes (2 * (i + k) + 1) 0 < length T.left) × (get_or bytes' (2 * (j + k) + 1) 0 < length T.right)

-- pair p is that of calls at one of these marks
pub record Listed (P : List Pair) (p q a : ℕ) (bytes bytes' : List ℕ) (i j n : ℕ) : Type 0 where
  pub mark : ℕ
  pub small : mark < n
  pub call : 0 < get_or bytes (2 * (i + mark)) 0
  pub entry : Entry P p q a mark (get_or bytes (2 * (i + mark)) 0) (get_or bytes (2 * (i + mark) + 1) 0) (get_or bytes' (2 * (j + mark) + 1) 0)

-- states called at the same mark are in one class now
pub record JoinsMarks (T T' : Table) (bytes bytes' : List ℕ) (i j n q a : ℕ) : Type 0 where
  pub merging : Merging T'
  pub later : Later T T'
  pub together : (k : ℕ) → k < n → 0 < get_or bytes (2 * (i + k)) 0 → at T'.left (get_or bytes (2 * (i + k) + 1) 0) ≡ at T'.right (get_or bytes' (2 * (j + k) + 1) 0)
  pub listed : (p : ℕ) → T.count ≤ p → p < T'.count → Listed T'.list p q a bytes bytes' i j n

-- the state of the search between two bodies: classes and pairs, all linked
pub record Searching (S : Sides) (T : Table) : Type 0 where
  pub forms : Forms S (length T.left) (length T.right)
  pub merging : Merging T
  pub linked : (p : ℕ) → p < T.count → Linked S (length T.left) (length T.right) T.list p

pub record Goes (S : Sides) (T T' : Table) : Type 0 where
  pub searching : Searching S T'
  pub later : Later T T'

-- bodies j and j' are one up to classes
pub record Alike (S : Sides) (T : Table) (j j' : ℕ) : Type 0 where
  pub size : at S.starts (j + 1) - at S.starts j ≡ at S.starts' (j' + 1) - at S.starts' j'
  pub step : (k : ℕ) → k < at S.starts (j + 1) - at S.starts j → InStep S.bytes S.bytes' (at S.starts j + k) (at S.starts' j' + k)
  pub together : (k : ℕ) → k < at S.starts (j + 1) - at S.starts j → 0 < get_or S.bytes (2 * (at S.starts j + k)) 0 → at T.left (get_or S.bytes (2 * (at S.starts j + k) + 1) 0) ≡ at T.right (get_or S.bytes' (2 * (at S.starts' j' + k) + 1) 0)

-- bodies j and j' can be walked: they are those of parent q for symbol a
pub record Walkable (S : Sides) (T : Table) (q a j j' : ℕ) : Type 0 where
  pub searching : Searching S T
  pub parent : q ≤ T.count
  pub symbol : a < 256
  pub known : 0 < q → a < length S.ins
  pub left : left_body S.ins T.list q a ≡ j
  pub right : right_body S.ins T.list q a ≡ j'

-- the bodies of parent q for symbol a clash at mark m, and the list leads to them
pub record Clashes (S : Sides) (n n' : ℕ) (P : List Pair) (q a m : ℕ) : Type 0 where
  pub count : ℕ
  pub few : count ≤ 255
  pub linked : (p : ℕ) → p < count → Linked S n n' P p
  pub parent : q ≤ count
  pub known : 0 < q → a < length S.ins
  pub clash : ClashesAt S (left_body S.ins P q a) (right_body S.ins P q a) m

-- what the walk finds: they are one up to classes, or bodies clash
pub record Walks (S : Sides) (T : Table) (C D : List ℕ) (P : List Pair) (j j' : ℕ) (w : Result ℕ Clash) : Type 0 where
  pub alike : (r : ℕ) → w ≡ Ok r → Goes S T (table C D P r) × Alike S (table C D P r) j j'
  pub clash : (e : Clash) → w ≡ Err e → Clashes S (length T.left) (length T.right) P e.parent e.symbol e.mark

-- pair p: its right-hand sides are one up to classes, or those of one symbol clash
pub record WalksPair (S : Sides) (T : Table) (C D : List ℕ) (P : List Pair) (p : ℕ) (w : Result ℕ Clash) : Type 0 where
  pub alike : (r : ℕ) → w ≡ Ok r → Goes S T (table C D P r) × ((a : ℕ) → a < length S.ins → Alike S (table C D P r) (body_number S.ins (pair_left P p) a) (body_number S.ins (pair_right P p) a))
  pub clash : (e : Clash) → w ≡ Err e → Clashes S (length T.left) (length T.right) P e.parent e.symbol e.mark

-- the listed pairs: the right-hand sides of all are one up to classes, or those of one clash
pub record WalksAll (S : Sides) (T : Table) (C D : List ℕ) (P : List Pair) (v : Result (Unit {0}) Clash) : Type 0 where
  pub alike : v ≡ Ok tt → (r : ℕ) × Goes S T (table C D P r) × ((p : ℕ) → p < r → (a : ℕ) → a < length S.ins → Alike S (table C D P r) (body_number S.ins (pair_left P p) a) (body_number S.ins (pair_right P p) a))
  pub clash : (e : Clash) → v ≡ Err e → Clashes S (length T.left) (length T.right) P e.parent e.symbol e.mark

-- what the search finds: the two are equivalent, or bodies clash
pub record Searches (S : Sides) (n n' : ℕ) (P : List Pair) (v : Result (Unit {0}) Clash) : Type 0 where
  pub same : v ≡ Ok tt → (outs : List ℕ) (l : Leaf S.ins) → Layout S.ins outs S.starts S.bytes n → Layout S.ins outs S.starts' S.bytes' n' → Wf (alphabet S.ins l) (machine S.ins outs S.starts S.bytes n) (λ q. q < n) → Wf (alphabet S.ins l) (machine S.ins outs S.starts' S.bytes' n') (λ q. q < n') → Equivalent (alphabet S.ins l) (machine S.ins outs S.starts S.bytes n) (machine S.ins outs S.starts' S.bytes' n')
  pub clash : (e : Clash) → v ≡ Err e → Clashes S n n' P e.parent e.symbol e.mark
