-- Laws of `measured`, at a position of a list of letters: bytes, or the marks of a body.
-- Assumes nothing.
use Prim.Native.Nat.{ℕ, suc, ◌+◌, ◌-◌, ◌≤◌, ◌<◌, max}
use native.Mathlib.Decide.{dec_le}
use native.Mathlib.Numerals.{add-one}
use native.Mathlib.Omega.{arith}
use mathlib.Core.Bool.{Bool, true, false}
use mathlib.Core.Path.{◌≡◌, refl, sym, ap, ap₂, ◌∙◌}
use mathlib.Core.List.{List, ◌∷◌}
use lib.Dec.{leb, leb-suc-suc}
use lib.ListN.{length, get_or, drop, drop_of_length-le}
use lib.Seq.{drop-cons, drop-length}
use borrow.Author.Tests.{le-leb, lt-leb, leb-true, leb-false}
use Rattle.theory.specs.Term.{Term, var, node, Terms, none, more, count, Tree as GroundTree}
use Rattle.theory.specs.Size.{size, sizes, levels, deepest}
use Rattle.theory.proofs.Terms.{conflict}
use Rattle.theory.specs.Inner.Forests.{letters, letters_all}
use Rattle.trees.specs.Inner.Decode.{Letter, call, symbol, unknown, firsts, node_if, put, forest, first, Whole}
use Rattle.trees.specs.Inner.Symbols.{symbol_of, trees, tree, IsTree}
use Rattle.trees.specs.Inner.Measured.{some_extent, tree_if, measured, Within, MeasuredWithin}
use Rattle.trees.specs.declared.tree.Extent.{Extent}
use Rattle.std.specs.Prelude.{Option, Some, None}
use Rattle.trees.proofs.Codes.{single}
use Rattle.trees.proofs.Forest.{first_tree, letters_pos}

-- a ground tree has a letter for each node
mutual
  unfolding letters size

  pub letters_size : (t : GroundTree) → letters t ≡ size t
  letters_size (var x) = absurd x
  letters_size (node k ts) = ap suc (letters_sizes ts)

  pub letters_sizes : (ts : Terms ⊥) → letters_all ts ≡ sizes ts
  letters_sizes none = refl
  letters_sizes (more t ts) = ap₂ ◌+◌ (letters_size t) (letters_sizes ts)

-- a term has at most as many levels as letters
module _ {A : Type 0} where
  mutual
    unfolding letters levels

    pub levels_letters : (t : Term A) → levels t ≤ letters t
    levels_letters (var a) = omega arith
    levels_letters (node k ts) = omega (arith, deepest_letters ts)

    deepest_letters : (ts : Terms A) → deepest ts ≤ letters_all ts
    deepest_letters none = omega arith
    deepest_letters (more t ts) = omega (arith, levels_letters t, deepest_letters ts)

-- ---- an answer that is given only if there is room
-- where the answer is None, room makes no difference
never : (b : Bool) → tree_if b None ≡ None
never true = refl
never false = refl

-- equal answers have equal ends and levels
abbrev end_of : Option Extent → ℕ
end_of (Some x) = x.end
end_of None = 0

abbrev levels_in : Option Extent → ℕ
levels_in (Some x) = x.levels
levels_in None = 0

pub same_extent : {a d e l : ℕ} → some_extent a d ≡ some_extent e l → (a ≡ e) × (d ≡ l)
same_extent q = (ap (λ r. end_of r) q, ap (λ r. levels_in r) q)

-- a tree is answered only if there is room, and it is the tree
given : (b : Bool) (a d e l : ℕ) → tree_if b (some_extent a d) ≡ some_extent e l → (b ≡ true) × (a ≡ e) × (d ≡ l)
given true a d e l q = let w = same_extent q in (refl, w.0, w.1)
given false a d e l q = conflict (cc)

-- room for both is room for the larger
both : (a d room : ℕ) (r : Option Extent) → tree_if (leb a room) (tree_if (leb d room) r) ≡ tree_if (leb (max a d) room) r
both a d room r = go (dec_le a room) (dec_le d room)
  where
    go : Dec (a ≤ room) → Dec (d ≤ room) → tree_if (leb a room) (tree_if (leb d room) r) ≡ tree_if (leb (max a d) room) r
    go (yes y) (yes z) = simp (le-leb a room y, le-leb d room z, le-leb (max a d) room (omega arith))
    go (yes y) (no z) = simp (le-leb a room y, lt-leb d room (omega arith), lt-leb (max a d) room (omega arith))
    go (no y) z = simp (lt-leb a room (omega arith), lt-leb (max a d) room (omega arith))

-- ---- some trees
module _ {A : Type 0} where
  -- n more trees of at most `room` levels, behind a part that ends at p and has deep levels: what the whole node answers
  pub resume : ℕ → ℕ → ℕ → ℕ → Terms A → Option Extent
  resume room ℕ.zero p deep ts = some_extent p (deep + 1)
  resume room (suc n) p deep none = None
  resume room (suc n) p deep (more t ts) = tree_if (leb (levels t) room) (resume room n (p + letters t) (max deep (levels t)) ts)

  -- as many trees as are asked for: they must all have room
  resume_fits : (room n p deep : ℕ) (ts : Terms A) → n ≤ count ts → resume room n p deep ts ≡ tree_if (leb (deepest (firsts n ts)) room) (some_extent (p + letters_all (firsts n ts)) (suc (max deep (deepest (firsts n ts)))))
  unfolding resume firsts letters levels count
  resume_fits room ℕ.zero p deep ts h =
      let l : deep + 1 ≡ suc (max deep 0) = omega arith in
      let q : p ≡ p + 0 = omega arith in
      simp (le-leb 0 room (omega arith)) (ap₂ some_extent q l)
  resume_fits room (suc n) p deep none h = absurd (omega arith)
  resume_fits room (suc n) p deep (more t ts) h =
      let F = firsts n ts in
      let l : suc (max (max deep (levels t)) (deepest F)) ≡ suc (max deep (max (levels t) (deepest F))) = omega arith in
      let q : p + letters t + letters_all F ≡ p + (letters t + letters_all F) = omega arith in
      ap (tree_if (leb (levels t) room)) (resume_fits room n (p + letters t) (max deep (levels t)) ts (omega arith)) ∙ both (levels t) (deepest F) room (some_extent (p + letters t + letters_all F) (suc (max (max deep (levels t)) (deepest F)))) ∙ ap (tree_if (leb (max (levels t) (deepest F)) room)) (ap₂ some_extent q l)

  -- too few trees
  resume_short : (room n p deep : ℕ) (ts : Terms A) → count ts < n → resume room n p deep ts ≡ None
  unfolding resume count
  resume_short room ℕ.zero p deep ts h = absurd (omega arith)
  resume_short room (suc n) p deep none h = refl
  resume_short room (suc n) p deep (more t ts) h = ap (tree_if (leb (levels t) room)) (resume_short room n (p + letters t) (max deep (levels t)) ts (omega arith)) ∙ never (leb (levels t) room)

  -- a node: its symbol, and then as many trees as its rank says, with room for one level less
  node_if_lem : (room at k n : ℕ) (ts : Terms A) (b : Bool) → leb n (count ts) ≡ b → measured (suc room) at (node_if b k n ts) ≡ resume room n (at + 1) 0 ts
  unfolding measured letters levels
  node_if_lem room at k n ts true e =
      let F = firsts n ts in
      let l : suc (deepest F) ≡ suc (max 0 (deepest F)) = omega arith in
      let q : at + suc (letters_all F) ≡ at + 1 + letters_all F = omega arith in
      ap₂ tree_if (leb-suc-suc (deepest F) room) (ap₂ some_extent q l) ∙ sym (resume_fits room n (at + 1) 0 ts (leb-true n (count ts) e))
  node_if_lem room at k n ts false e = sym (resume_short room n (at + 1) 0 ts (leb-false n (count ts) e))

  -- it has a level
  node_none : (room at k n : ℕ) (ts : Terms A) (b : Bool) → room ≡ 0 → measured room at (node_if b k n ts) ≡ None
  unfolding measured levels
  node_none room at k n ts true e = simp (lt-leb (suc (deepest (firsts n ts))) room (omega arith))
  node_none room at k n ts false e = refl

  no_more : (room p deep : ℕ) (ts : Terms A) (n : ℕ) → n ≡ 0 → resume room n p deep ts ≡ some_extent p (deep + 1)
  unfolding resume
  no_more room p deep ts n e = rw e

  -- no child where one is asked for
  bad_child : (room n p deep : ℕ) (ts : Terms A) → 0 < n → measured room p ts ≡ None → resume room n p deep ts ≡ None
  unfolding resume measured
  bad_child room ℕ.zero p deep ts h e = absurd (omega arith)
  bad_child room (suc n) p deep none h e = refl
  bad_child room (suc n) p deep (more t ts) h e = go (leb (levels t) room) e
    where
      go : (b : Bool) → tree_if b (some_extent (p + letters t) (levels t)) ≡ None → tree_if b (resume room n (p + letters t) (max deep (levels t)) ts) ≡ None
      go true e = conflict (cc)
      go false e = refl

-- ---- at a letter
-- the letter at a position, before what stands behind it
pub letter_here : {X : Type 0} (s : List X) (at : ℕ) (d : X) {x : X} → at < length s → x ≡ get_or s at d → drop at s ≡ x ∷ drop (at + 1) s
letter_here s at d h e = rw (add-one, e) (drop-cons s at d h)

module _ {A X : Type 0} (f : X → Letter A) (s : List X) (at room : ℕ) where
  -- there is no letter
  pub past_end : length s ≤ at → measured room at (forest f (drop at s)) ≡ None
  unfolding measured forest
  past_end h = rw (drop_of_length-le s h)

  module _ {x : X} (here : drop at s ≡ x ∷ drop (at + 1) s) where
    by_letter : (l : Letter A) → f x ≡ l → measured room at (forest f (drop at s)) ≡ measured room at (put l (forest f (drop (at + 1) s)))
    unfolding forest
    by_letter l e = ap (λ s. measured room at (forest f s)) here ∙ ap (λ l. measured room at (put l (forest f (drop (at + 1) s)))) e

    -- it says nothing
    pub no_letter : f x ≡ unknown → measured room at (forest f (drop at s)) ≡ None
    unfolding measured put
    no_letter e = by_letter unknown e

    -- it is a variable, which has no level
    pub one_call : {a : A} → f x ≡ call a → measured room at (forest f (drop at s)) ≡ some_extent (at + 1) 0
    unfolding measured put letters levels
    one_call {a} e = by_letter (call a) e ∙ simp (le-leb 0 room (omega arith))

    -- it is no variable, and there is no room
    pub no_room : ((a : A) → f x ≡ call a → ⊥) → room ≡ 0 → measured room at (forest f (drop at s)) ≡ None
    unfolding measured put
    no_room n z = go (f x) refl
      where
        go : (l : Letter A) → f x ≡ l → measured room at (forest f (drop at s)) ≡ None
        go (call a) e = absurd (n a e)
        go (symbol k m) e = by_letter (symbol k m) e ∙ node_none room at k m (forest f (drop (at + 1) s)) (leb m (count (forest f (drop (at + 1) s)))) z
        go unknown e = by_letter unknown e

    -- it is a symbol: the children that its rank asks for stand behind it
    one_node : {k n : ℕ} → f x ≡ symbol k n → 0 < room → measured room at (forest f (drop at s)) ≡ resume (room - 1) n (at + 1) 0 (forest f (drop (at + 1) s))
    unfolding put
    one_node {k} {n} e r =
        let G = forest f (drop (at + 1) s) in
        let q : room ≡ suc (room - 1) = omega arith in
        by_letter (symbol k n) e ∙ ap (λ room. measured room at (node_if (leb n (count G)) k n G)) q ∙ node_if_lem (room - 1) at k n G (leb n (count G)) refl

-- ---- a tree that is there
-- the first of the trees F, from position at on: it ends at e, and has l levels, for which there is room
pub record Seen {A : Type 0} (room at : ℕ) (F : Terms A) (e l : ℕ) : Type 0 where
  pub one : Term A
  pub others : Terms A
  pub these : F ≡ more one others
  pub end : at + letters one ≡ e
  pub deep : levels one ≡ l
  pub few_levels_lem : levels one ≤ room

pub seen : {A : Type 0} (room at : ℕ) (F : Terms A) (e l : ℕ) → measured room at F ≡ some_extent e l → Seen room at F e l
unfolding measured
seen room at none e l m = conflict (cc)
seen room at (more t ts) e l m =
    let w = given (leb (levels t) room) (at + letters t) (levels t) e l m in
    record { one = t; others = ts; these = refl; end = w.1; deep = w.2; few_levels_lem = leb-true (levels t) room w.0 }

module _ {A X : Type 0} (f : X → Letter A) (d : X) (s : List X) where
  -- the others are what stands behind it
  pub others_behind : {room p e l : ℕ} (S : Seen room p (forest f (drop p s)) e l) → S.others ≡ forest f (drop e s)
  others_behind {p = p} S = (first_tree f d s p S.these).0 ∙ ap (λ k. forest f (drop k s)) S.end

  -- as many levels as letters are left are room enough
  pub enough_room : (p room : ℕ) → 0 < count (forest f (drop p s)) → length s ≤ p + room → measured room p (forest f (drop p s)) ≡ None → ⊥
  unfolding measured count
  enough_room p room c h = go (forest f (drop p s)) refl c
    where
      go : (F : Terms A) → forest f (drop p s) ≡ F → 0 < count F → measured room p F ≡ None → ⊥
      go none g c m = omega arith
      go (more t ts) g c m =
          let i = le-leb (levels t) room (omega (arith, levels_letters t, (first_tree f d s p g).1)) in
          conflict (let x : tree_if true (some_extent (p + letters t) (levels t)) ≡ None = rw i at m in cc)

  -- s is one tree if the tree at its start ends at its end
  pub whole_end : (room at l : ℕ) → measured room at (forest f s) ≡ some_extent (at + length s) l → Whole f s
  unfolding forest count letters_all
  whole_end room at l m =
      let S = seen room at (forest f s) (at + length s) l m in
      let e : 0 + letters S.one ≡ length s = omega (arith, S.end) in
      let b : S.others ≡ none = (first_tree f d s 0 S.these).0 ∙ ap (λ k. forest f (drop k s)) e ∙ ap (forest f) (drop-length s) in
      let h : forest f s ≡ more S.one none = S.these ∙ ap (more S.one) b in
      record { one = ap count h; all = ap letters_all h ∙ omega arith }

module _ {A X : Type 0} (f : X → Letter A) (s : List X) (W : Whole f s) where
  its_letters : letters (first (forest f s)) ≡ length s
  unfolding letters_all
  its_letters = omega (arith, ap letters_all (single (forest f s) W.one), W.all)

  -- one tree that is all of s has at most as many levels as s letters
  pub whole_levels : levels (first (forest f s)) ≤ length s
  whole_levels = omega (arith, levels_letters (first (forest f s)), its_letters)

  -- and what measuring it answers, where there is room
  pub whole_measured : (room at : ℕ) → levels (first (forest f s)) ≤ room → measured room at (forest f s) ≡ some_extent (at + length s) (levels (first (forest f s)))
  unfolding measured
  whole_measured room at h =
      let t = first (forest f s) in
      ap (measured room at) (single (forest f s) W.one) ∙ ap₂ tree_if (le-leb (levels t) room h) (ap (λ k. some_extent (at + k) (levels t)) its_letters)

-- a child, of n that are still to be read: how the answer goes on behind it
record Child {A X : Type 0} (f : X → Letter A) (s : List X) (room n p deep e l : ℕ) : Type 0 where
  next : resume room n p deep (forest f (drop p s)) ≡ resume room (n - 1) e (max deep l) (forest f (drop e s))
  further : p < e
  few_levels_lem : l ≤ room

child : {A X : Type 0} (f : X → Letter A) (d : X) (s : List X) (room n p deep e l : ℕ) → 0 < n → measured room p (forest f (drop p s)) ≡ some_extent e l → Child f s room n p deep e l
unfolding resume
child f d s room ℕ.zero p deep e l h m = absurd (omega arith)
child f d s room (suc n) p deep e l h m =
    let S = seen room p (forest f (drop p s)) e l m in
    let b = others_behind f d s S in
    let i = le-leb (levels S.one) room S.few_levels_lem in
    let q : n ≡ suc n - 1 = omega arith in
    record {
      next = ap (resume room (suc n) p deep) S.these ∙ ap (λ f. tree_if f (resume room n (p + letters S.one) (max deep (levels S.one)) S.others)) i ∙ cc (S.end, S.deep, b, q);
      further = omega (arith, letters_pos S.one, S.end);
      few_levels_lem = omega (arith, S.few_levels_lem, S.deep);
    }

-- ---- the loop over the children
-- The node at `at`, with `left` children still to be read from p on: what it answers is `resume` from here, with room for one level less.
pub record Measuring {A X : Type 0} (f : X → Letter A) (s : List X) (at room left p deep : ℕ) : Type 0 where
  pub further : at < p
  pub few_levels_lem : deep < room
  pub answer : measured room at (forest f (drop at s)) ≡ resume (room - 1) left p deep (forest f (drop p s))

-- before the first child
pub first_child_lem : {A X : Type 0} {f : X → Letter A} {s : List X} {at room k n : ℕ} {x : X} → drop at s ≡ x ∷ drop (at + 1) s → f x ≡ symbol k n → 0 < room → Measuring f s at room n (at + 1) 0
first_child_lem {f = f} {s} {at} {room} here e r = record { further = omega arith; few_levels_lem = r; answer = one_node f s at room here e r }

module _ {A X : Type 0} {f : X → Letter A} {s : List X} {at room left p deep : ℕ} (M : Measuring f s at room left p deep) where
  module _ {r : Option Extent} (some : 0 < left) (E : r ≡ measured (room - 1) p (forest f (drop p s))) where
    -- a child is read, or is not there
    pub next_child : (d : X) {e l deep' : ℕ} → r ≡ some_extent e l → deep' ≡ max deep l → Measuring f s at room (left - 1) e deep'
    next_child d {e} {l} q x =
        let w = child f d s (room - 1) left p deep e l some (sym E ∙ q) in
        record {
          further = omega (arith, M.further, w.further);
          few_levels_lem = omega (arith, M.few_levels_lem, w.few_levels_lem);
          answer = M.answer ∙ w.next ∙ ap (λ d. resume (room - 1) (left - 1) e d (forest f (drop e s))) (sym x);
        }

    pub no_child : r ≡ None → None ≡ measured room at (forest f (drop at s))
    no_child q = sym (M.answer ∙ bad_child (room - 1) left p deep (forest f (drop p s)) some (sym E ∙ q))

  -- every child is read
  pub node_done : left ≡ 0 → some_extent p (deep + 1) ≡ measured room at (forest f (drop at s))
  node_done z = sym (M.answer ∙ no_more (room - 1) p deep (forest f (drop p s)) left z)

-- ---- one tree of symbols that is all of s
pub whole_size : (ins s : List ℕ) → IsTree ins s → size (tree ins s) ≡ length s
unfolding tree trees
whole_size ins s W = omega (arith, letters_size (tree ins s), its_letters (symbol_of ins) s W)

pub tree_levels_lem : (ins s : List ℕ) → IsTree ins s → levels (tree ins s) ≤ length s
unfolding tree trees
tree_levels_lem ins s W = whole_levels (symbol_of ins) s W

-- where measuring it ends at its end
measured_whole : (ins s : List ℕ) (room l : ℕ) → measured room 0 (trees ins s) ≡ some_extent (length s) l → IsTree ins s × (levels (tree ins s) ≤ room) × (l ≡ levels (tree ins s))
unfolding tree trees first
measured_whole ins s room l m =
    let S = seen room 0 (trees ins s) (length s) l m in
    let q : length s ≡ 0 + length s = omega arith in
    let e : tree ins s ≡ S.one = ap first S.these in
    (whole_end (symbol_of ins) 0 s room 0 l (m ∙ ap (λ k. some_extent k l) q), omega (arith, ap levels e, S.few_levels_lem), omega (arith, ap levels e, S.deep))

-- ---- what measuring all of s answers
module _ {nodes most : ℕ} {ranks s : List ℕ} where
  pub not_whole : (Within nodes most ranks s → ⊥) → MeasuredWithin nodes most ranks s None
  not_whole f = record { whole = λ e l q. conflict (cc); none = λ q W. f W }

  pub too_long : nodes < length s → MeasuredWithin nodes most ranks s None
  too_long h = not_whole (λ W. omega (arith, W.small))

  module _ {r : Option Extent} (E : r ≡ measured most 0 (trees ranks s)) where
    whole_answer : Within nodes most ranks s → r ≡ some_extent (0 + length s) (levels (tree ranks s))
    unfolding tree trees
    whole_answer W = E ∙ whole_measured (symbol_of ranks) s W.one most 0 W.few_levels_lem

    pub no_tree : r ≡ None → MeasuredWithin nodes most ranks s None
    no_tree q = not_whole (λ W. let x = sym q ∙ whole_answer W in conflict (cc))

    pub not_all : {e l : ℕ} → r ≡ some_extent e l → (e ≡ length s → ⊥) → MeasuredWithin nodes most ranks s None
    not_all {e} q f = not_whole (λ W. let y = (same_extent (sym q ∙ whole_answer W)).0 in f (omega arith))

    pub all_measured : {e l : ℕ} → r ≡ some_extent e l → e ≡ length s → length s ≤ nodes → MeasuredWithin nodes most ranks s (some_extent e l)
    all_measured {e} {l} q same short =
        let w = measured_whole ranks s most l (sym E ∙ q ∙ ap (λ k. some_extent k l) same) in
        record {
          whole = λ e' l' x. let y = (same_extent x).0 in let z = (same_extent x).1 in (record { one = w.0; small = short; few_levels_lem = w.1 }, omega (arith, whole_size ranks s w.0), omega (arith, w.2));
          none = λ x. conflict (cc);
        }
