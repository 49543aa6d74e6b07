-- Keys: marks with classes for the states called. Two bodies have the same keys exactly if their right-hand sides match up to classes.
-- Assumes nothing.
use Prim.Native.Nat.{ℕ, suc, ◌+◌, ◌-◌, ◌*◌, ◌/◌, ◌%◌, ◌≤◌, ◌<◌}
use native.Mathlib.Omega.{arith}
use mathlib.Core.Bool.{Bool, true, false}
use mathlib.Core.List.{List, [], ◌∷◌, ◌++◌, append_assoc, append-nil, map-append}
use mathlib.Core.Path.{◌≡◌, refl, sym, ap, ap₂, ◌∙◌}
use lib.ListN.{length, get_or, replicate, length-map, get_or-map}
use lib.Seq.{ext_get_or, length-slice}
use borrow.Author.Count.{below_more}
use Rattle.theory.specs.Term.{Term, var, node, Terms, none, more, count}
use Rattle.theory.proofs.Bisimulation.{Simulates}
use Rattle.theory.proofs.Match.{Match, calls, nodes, Matches, nil, cons, Related}
use Rattle.trees.specs.Alphabets.{Leaf}
use Rattle.trees.specs.Code.{Ranked, AllRanked, Mark, Call, preorder, preorders, marks}
use Rattle.trees.specs.Inner.Decode.{Whole}
use Rattle.formats.specs.Inner.Layout.{pairs, mark_of, body, body_number, body_count, transducer}
use Rattle.formats.specs.Inner.Marked.{part}
use Rattle.trees.specs.Refusal.{Decides}
use Rattle.trees.proofs.Deciding.{decides_no, decides_yes}
use Rattle.formats.proofs.Lines.{row_of}
use Rattle.formats.proofs.Pairs.{pairs_length, pairs_at, getD_slice}
use Rattle.formats.proofs.Sheets.{whole_ranked}
use Rattle.transducer.proofs.Meaning.{body_read}
use Rattle.forms.specs.Alphabet.{alphabet, children_inside, children_of_lem}
use Rattle.forms.specs.Inner.Tables.{machine, Layout}
use Rattle.classes.specs.Inner.Classes.{key_of, keyed, body_marks, SameBodies, SameStates, at, Keyable, Classed}

-- ---- one key
module _ (classes : List ℕ) where
  -- symbols have their own keys
  pub key_symbol : (i x : ℕ) → i ≡ 0 → key_of classes (i, x) ≡ (0, x)
  unfolding key_of
  key_symbol i x e = rw e

  pub key_call : (i q : ℕ) → 0 < i → key_of classes (i, q) ≡ (i, at classes q)
  unfolding key_of
  key_call ℕ.zero q h = absurd (omega arith)
  key_call (suc i) q h = refl

  -- a key says whether the mark is a symbol, and of a call the child
  pub key_first : (m : Mark) → (key_of classes m).0 ≡ m.0
  unfolding key_of
  key_first (ℕ.zero, x) = refl
  key_first (suc i, x) = refl

  pub key_same : {i j x y : ℕ} → i ≡ j → x ≡ y → key_of classes (i, x) ≡ key_of classes (j, y)
  key_same e f = ap₂ (λ a b. key_of classes (a, b)) e f

  -- calls of states of one class on one child have one key
  pub key_class : {i j : ℕ} (x y : ℕ) → i ≡ j → 0 < i → at classes x ≡ at classes y → key_of classes (i, x) ≡ key_of classes (j, y)
  key_class {i} {j} x y e h f = key_call i x h ∙ ap₂ (λ a b. (a, b)) e f ∙ sym (key_call j y (omega arith))

-- ---- the keys of a part
-- the key of mark number j
abbrev pub key_at : List ℕ → List ℕ → ℕ → Mark
key_at classes bytes j = key_of classes (get_or bytes (2 * j) 0, get_or bytes (2 * j + 1) 0)

module _ (classes bytes : List ℕ) (i n : ℕ) (inside : 2 * (i + n) ≤ length bytes) where
  pub keyed_length : length (keyed classes (part bytes i (i + n))) ≡ n
  keyed_length = length-map (part bytes i (i + n)) (key_of classes) ∙ length-slice i (i + n) (pairs bytes) (pairs_length bytes (i + n) inside) ∙ omega arith

  pub keyed_at : (m : ℕ) → m < n → get_or (keyed classes (part bytes i (i + n))) m (0, 0) ≡ key_at classes bytes (i + m)
  unfolding key_of
  keyed_at m h =
      let p = pairs_length bytes (i + n) inside in
      get_or-map (key_of classes) (part bytes i (i + n)) m (0, 0)
      ∙ ap (key_of classes) ((getD_slice i (i + n) m (pairs bytes) p (omega (arith, length-slice i (i + n) (pairs bytes) p))).1 ∙ pairs_at bytes (i + m) (omega arith))

-- the n marks from number i on and those from number j on are the same up to classes
abbrev pub SameParts : List ℕ → List ℕ → ℕ → ℕ → ℕ → Type 0
SameParts classes bytes i j n = keyed classes (part bytes i (i + n)) ≡ keyed classes (part bytes j (j + n))

-- mark by mark
abbrev pub SameBefore : List ℕ → List ℕ → ℕ → ℕ → ℕ → Type 0
SameBefore classes bytes i j n = (k : ℕ) → k < n → key_at classes bytes (i + k) ≡ key_at classes bytes (j + k)

module _ {classes bytes : List ℕ} {i j n : ℕ} (W : Keyable classes bytes i n × Keyable classes bytes j n) where
  each_same : SameParts classes bytes i j n → SameBefore classes bytes i j n
  each_same e k h = sym (keyed_at classes bytes i n W.0.inside k h) ∙ ap (λ l. get_or l k (0, 0)) e ∙ keyed_at classes bytes j n W.1.inside k h

  pub all_same : SameBefore classes bytes i j n → Decides (SameParts classes bytes i j n) true
  all_same f =
      let l = keyed_length classes bytes i n W.0.inside in
      decides_yes (ext_get_or (0, 0) _ _ (l ∙ sym (keyed_length classes bytes j n W.1.inside))
      (λ k h. let g : k < n = omega arith in keyed_at classes bytes i n W.0.inside k g ∙ f k g ∙ sym (keyed_at classes bytes j n W.1.inside k g)))

  module _ {k : ℕ} (h : k < n) where
    -- a call in the part, and one in the other, are of states that have a class
    pub first_there : {q : ℕ} → 0 < get_or bytes (2 * (i + k)) 0 → q ≡ get_or bytes (2 * (i + k) + 1) 0 → q < length classes
    first_there c e = rw (e, ← ap (λ m. m.1) (pairs_at bytes (i + k) (omega (arith, W.0.inside)))) (W.0.there k h (rw (ap (λ m. m.0) (pairs_at bytes (i + k) (omega (arith, W.0.inside)))) c))

    pub second_there : {q : ℕ} → 0 < get_or bytes (2 * (j + k)) 0 → q ≡ get_or bytes (2 * (j + k) + 1) 0 → q < length classes
    second_there c e = rw (e, ← ap (λ m. m.1) (pairs_at bytes (j + k) (omega (arith, W.1.inside)))) (W.1.there k h (rw (ap (λ m. m.0) (pairs_at bytes (j + k) (omega (arith, W.1.inside)))) c))

    other_key : (key_at classes bytes (i + k) ≡ key_at classes bytes (j + k) → ⊥) → Decides (SameParts classes bytes i j n) false
    other_key f = decides_no (λ e. f (each_same e k h))

    first_same : key_at classes bytes (i + k) ≡ key_at classes bytes (j + k) → get_or bytes (2 * (i + k)) 0 ≡ get_or bytes (2 * (j + k)) 0
    first_same e = sym (key_first classes _) ∙ ap (λ m. m.0) e ∙ key_first classes _

    -- one is a symbol and the other a call, or they are calls on two children
    pub other_child : (get_or bytes (2 * (i + k)) 0 ≡ get_or bytes (2 * (j + k)) 0 → ⊥) → Decides (SameParts classes bytes i j n) false
    other_child f = other_key (λ e. f (first_same e))

    -- a symbol, and another or a call
    pub other_symbol : get_or bytes (2 * (i + k)) 0 ≡ 0 → (get_or bytes (2 * (i + k) + 1) 0 ≡ get_or bytes (2 * (j + k) + 1) 0 → ⊥) → Decides (SameParts classes bytes i j n) false
    other_symbol z f = other_key (λ s. f (ap (λ m. m.1) (sym (key_symbol classes _ _ z) ∙ s ∙ key_symbol classes _ _ (sym (first_same s) ∙ z))))

    -- a call, and one of a state of another class or a symbol
    pub other_class : 0 < get_or bytes (2 * (i + k)) 0 → (at classes (get_or bytes (2 * (i + k) + 1) 0) ≡ at classes (get_or bytes (2 * (j + k) + 1) 0) → ⊥) → Decides (SameParts classes bytes i j n) false
    other_class z f = other_key (λ s. f (ap (λ m. m.1) (sym (key_call classes _ _ z) ∙ s ∙ key_call classes _ _ (omega (arith, first_same s)))))

    module _ (e : get_or bytes (2 * (i + k)) 0 ≡ get_or bytes (2 * (j + k)) 0) where
      pub next_mark : SameBefore classes bytes i j k → get_or bytes (2 * (i + k) + 1) 0 ≡ get_or bytes (2 * (j + k) + 1) 0 → SameBefore classes bytes i j (k + 1)
      next_mark f g = below_more (λ k. key_at classes bytes (i + k) ≡ key_at classes bytes (j + k)) k f (key_same classes e g)

      pub next_call : SameBefore classes bytes i j k → 0 < get_or bytes (2 * (i + k)) 0 → at classes (get_or bytes (2 * (i + k) + 1) 0) ≡ at classes (get_or bytes (2 * (j + k) + 1) 0) → SameBefore classes bytes i j (k + 1)
      next_call f z g = below_more (λ k. key_at classes bytes (i + k) ≡ key_at classes bytes (j + k)) k f (key_class classes _ _ e z g)

-- ---- bodies
module _ {ins starts bytes classes : List ℕ} (C : Classed ins starts bytes classes) where
  -- each body is whole, over some number of children
  some_whole : (j : ℕ) → j < body_count ins (length classes) → (r : ℕ) × Whole (mark_of C.outs (length classes) r) (body (λ j. get_or starts j 0) bytes j)
  some_whole ℕ.zero h = (1, C.layout.wholes.initial)
  some_whole (suc j) h =
      let w = row_of (length classes) (length ins) j (omega arith) in
      let q = j / length ins in
      let a = j % length ins in
      let e : body_number ins q a ≡ suc j = omega (arith, w.2) in
      (get_or ins a 0, rw e at (C.layout.wholes.rhs q a w.0 w.1))

  module _ (j : ℕ) (h : j < body_count ins (length classes)) {from to : ℕ} (f : from ≡ get_or starts j 0) (t : to ≡ get_or starts (j + 1) 0) where
    pub body_ordered : from ≤ to
    body_ordered = rw (f, t) (C.layout.bounds.ordered j h)

    -- the marks of a body can be compared
    pub body_keyable : {size : ℕ} → size ≡ to - from → Keyable classes bytes from size
    unfolding body
    body_keyable {size} e =
        let i : 2 * to ≤ length bytes = rw t (C.layout.bounds.inside (j + 1) (omega arith)) in
        let o = body_ordered in
        let p = pairs_length bytes to i in
        let W = some_whole j h in
        let w : Whole (mark_of C.outs (length classes) W.0) (part bytes from to) = rw (f, t) W.1 in
        record {
          inside = omega arith;
          there = λ k g c.
              let l : k < length (part bytes from to) = omega (arith, length-slice from to (pairs bytes) p) in
              let d = (getD_slice from to k (pairs bytes) p l).1 in
              rw (← d) ((body_read C.outs (length classes) W.0 (part bytes from to) w).callable k l (rw d c)).1;
        }

  module _ (i j : ℕ) (h : i < body_count ins (length classes)) (g : j < body_count ins (length classes))
      {from other to end : ℕ} (f : from ≡ get_or starts i 0) (f' : other ≡ get_or starts j 0) (t : to ≡ get_or starts (i + 1) 0) (t' : end ≡ get_or starts (j + 1) 0) where
    -- bodies of two sizes differ
    pub other_size : (end - other ≡ to - from → ⊥) → Decides (SameBodies starts bytes classes i j) false
    other_size x =
        let K : Keyable classes bytes from (to - from) = body_keyable i h f t refl in
        let L : Keyable classes bytes other (end - other) = body_keyable j g f' t' refl in
        let o = body_ordered i h f t in
        let p = body_ordered j g f' t' in
        let a : from + (to - from) ≡ get_or starts (i + 1) 0 = omega arith in
        let b : other + (end - other) ≡ get_or starts (j + 1) 0 = omega arith in
        decides_no (λ e. x (
        sym (keyed_length classes bytes other (end - other) L.inside)
        ∙ ap₂ (λ x y. length (keyed classes (part bytes x y))) f' b
        ∙ sym (ap length e)
        ∙ sym (ap₂ (λ x y. length (keyed classes (part bytes x y))) f a)
        ∙ keyed_length classes bytes from (to - from) K.inside
        ))

    -- and those of one size are compared mark by mark
    pub same_size : {b : Bool} → end - other ≡ to - from → Decides (SameParts classes bytes from other (to - from)) b → Decides (SameBodies starts bytes classes i j) b
    same_size x D =
        let o = body_ordered i h f t in
        let p = body_ordered j g f' t' in
        let a : from + (to - from) ≡ get_or starts (i + 1) 0 = omega arith in
        let b : other + (to - from) ≡ get_or starts (j + 1) 0 = omega arith in
        rw (a, b, f, f') at D

-- ---- keys and right-hand sides
-- calls of states of one class
abbrev pub SameCall : List ℕ → ℕ × ℕ → ℕ × ℕ → Type 0
SameCall classes = Related (λ r r'. at classes r ≡ at classes r')

abbrev pub term_marks : Terms (ℕ × ℕ) → List Mark
term_marks ts = preorders (λ e. e ∷ []) (λ b. (0, b)) ts

module _ (classes outs : List ℕ) (n r : ℕ) where
  mutual
    unfolding preorder Ranked

    -- terms that match up to classes have the same keys
    match_keys : {t u : Term (ℕ × ℕ)} → Match (SameCall classes) t u → Ranked (Call n r) outs t → keyed classes (marks t) ≡ keyed classes (marks u)
    match_keys (calls {a} {b} s) o = ap (λ m. m ∷ []) (key_class classes a.1 b.1 s.child o.from_one s.state)
    match_keys (nodes e ms) o = ap₂ (λ k l. key_of classes (0, k) ∷ l) e (matches_keys ms o.2)

    matches_keys : {ts us : Terms (ℕ × ℕ)} → Matches (SameCall classes) ts us → AllRanked (Call n r) outs ts → keyed classes (term_marks ts) ≡ keyed classes (term_marks us)
    matches_keys nil o = refl
    matches_keys (cons {t} {ts} {u} {us} m ms) o = rw (map-append, map-append) (ap₂ ◌++◌ (match_keys m o.0) (matches_keys ms o.1))

  same_call : (e e' : ℕ × ℕ) → Call n r e → Call n r e' → key_of classes e ≡ key_of classes e' → SameCall classes e e'
  same_call e e' o p x = record {
    child = sym (key_first classes e) ∙ ap (λ m. m.0) x ∙ key_first classes e';
    state = ap (λ m. m.1) (sym (key_call classes e.0 e.1 o.from_one) ∙ x ∙ key_call classes e'.0 e'.1 p.from_one);
  }

  call_no_symbol : {B : Type 0} (e : ℕ × ℕ) (k : ℕ) → Call n r e → key_of classes e ≡ key_of classes (0, k) → B
  call_no_symbol e k o x = absurd (omega (arith, o.from_one, key_first classes e, key_first classes (0, k), ap (λ m. m.0) x))

  same_symbol : (k j : ℕ) → key_of classes (0, k) ≡ key_of classes (0, j) → k ≡ j
  same_symbol k j x = ap (λ m. m.1) (sym (key_symbol classes 0 k refl) ∙ x ∙ key_symbol classes 0 j refl)

  mutual
    unfolding preorder Ranked count

    -- and terms over one alphabet that have the same keys match up to classes
    keys_match : (t u : Term (ℕ × ℕ)) (l m : List Mark) → Ranked (Call n r) outs t → Ranked (Call n r) outs u → keyed classes (marks t ++ l) ≡ keyed classes (marks u ++ m) → Match (SameCall classes) t u × (keyed classes l ≡ keyed classes m)
    keys_match (var e) (var e') l m o p x = (calls (same_call e e' o p (cc)), (cc))
    keys_match (var e) (node k us) l m o p x = call_no_symbol e k o (cc)
    keys_match (node k ts) (var e) l m o p x = call_no_symbol e k p (cc)
    keys_match (node k ts) (node j us) l m o p x =
        let s : k ≡ j = same_symbol k j (cc) in
        let w = keys_matches ts us l m (o.1 ∙ ap (λ k. get_or outs k 0) s ∙ sym p.1) o.2 p.2 (cc) in
        (nodes s w.0, w.1)

    keys_matches : (ts us : Terms (ℕ × ℕ)) (l m : List Mark) → count ts ≡ count us → AllRanked (Call n r) outs ts → AllRanked (Call n r) outs us → keyed classes (term_marks ts ++ l) ≡ keyed classes (term_marks us ++ m) → Matches (SameCall classes) ts us × (keyed classes l ≡ keyed classes m)
    keys_matches none none l m c o p x = (nil, x)
    keys_matches none (more u us) l m c o p x = absurd (omega arith)
    keys_matches (more t ts) none l m c o p x = absurd (omega arith)
    keys_matches (more t ts) (more u us) l m c o p x =
        let y = keys_match t u (term_marks ts ++ l) (term_marks us ++ m) o.0 p.0 (rw (append_assoc, append_assoc) at x) in
        let z = keys_matches ts us l m (omega arith) o.1 p.1 y.1 in
        (cons y.0 z.0, z.1)

-- ---- states of a transducer
module _ {ins outs starts bytes : List ℕ} {n : ℕ} (L : Layout ins outs starts bytes n) (classes : List ℕ) {p q : ℕ} (h : p < n) (g : q < n) where
  module _ (a : ℕ) (i : a < length ins) where
    -- the right-hand side of state q, and its marks
    rhs_marks : (q : ℕ) → q < n → Ranked (Call n (get_or ins a 0)) outs ((machine ins outs starts bytes n).rhs q a) × (marks ((machine ins outs starts bytes n).rhs q a) ≡ body_marks starts bytes (body_number ins q a))
    unfolding transducer body
    rhs_marks q g = whole_ranked outs n (get_or ins a 0) (body_marks starts bytes (body_number ins q a)) (L.wholes.rhs q a g i)

    bodies_match : SameBodies starts bytes classes (body_number ins p a) (body_number ins q a) → Match (SameCall classes) ((machine ins outs starts bytes n).rhs p a) ((machine ins outs starts bytes n).rhs q a)
    bodies_match e =
        let x = rhs_marks p h in
        let y = rhs_marks q g in
        (keys_match classes outs n (get_or ins a 0) _ _ [] [] x.0 y.0 (rw (append-nil, append-nil) (ap (keyed classes) x.1 ∙ e ∙ sym (ap (keyed classes) y.1)))).0

    match_bodies : Match (SameCall classes) ((machine ins outs starts bytes n).rhs p a) ((machine ins outs starts bytes n).rhs q a) → SameBodies starts bytes classes (body_number ins p a) (body_number ins q a)
    match_bodies m =
        let x = rhs_marks p h in
        let y = rhs_marks q g in
        sym (ap (keyed classes) x.1) ∙ match_keys classes outs n (get_or ins a 0) m x.0 ∙ ap (keyed classes) y.1

  module _ (l : Leaf ins) where
    -- states with the same right-hand sides up to classes simulate one another
    pub same_simulates : SameStates ins starts bytes classes p q → Simulates (alphabet ins l) (machine ins outs starts bytes n) (machine ins outs starts bytes n) (λ p q. at classes p ≡ at classes q) p q
    unfolding alphabet transducer
    same_simulates S = record { sort = refl; rhs = λ a sorts k. let i = (children_inside ins a k).0 in bodies_match a i (S.each a i) }

    pub simulates_same : Simulates (alphabet ins l) (machine ins outs starts bytes n) (machine ins outs starts bytes n) (λ p q. at classes p ≡ at classes q) p q → SameStates ins starts bytes classes p q
    unfolding alphabet transducer
    simulates_same S = record { each = λ a i. match_bodies a i (S.rhs a (replicate (get_or ins a 0) 0) (children_of_lem ins a i)) }
