-- The pair search, step by step: the list of pairs stays linked, and states of one class stay in one class; at the end, equivalence.
-- Assumes nothing.
use Prim.Native.Nat.{ℕ, suc, ◌+◌, ◌-◌, ◌*◌, ◌≤◌, ◌<◌, min}
use native.Mathlib.Decide.{dec_lt}
use native.Mathlib.Omega.{arith}
use native.Mathlib.Numerals.{add-one}
use mathlib.Core.Bool.{Bool, true, false}
use mathlib.Core.List.{List}
use mathlib.Core.Logic.{by_cases, inl, inr}
use mathlib.Core.Path.{◌≡◌, refl, sym, ap, ◌∙◌}
use lib.ListN.{length, get_or}
use lib.Dec.{ltb}
use borrow.Author.Count.{below_more}
use borrow.Author.Tests.{lt-ltb, le-ltb}
use Rattle.theory.specs.Equivalent.{Equivalent}
use Rattle.theory.specs.Transducer.{Transducer}
use Rattle.theory.specs.Wf.{Wf}
use Rattle.theory.proofs.Pairs.{Generated, Checked, search_equivalent}
use Rattle.theory.proofs.Terms.{conflict}
use Rattle.trees.specs.Alphabets.{Leaf}
use Rattle.formats.specs.Inner.Layout.{body, body_number, body_count, transducer}
use Rattle.formats.proofs.Pairs.{number_less}
use Rattle.forms.specs.Alphabet.{alphabet, children_inside}
use Rattle.forms.specs.Inner.Tables.{Layout, machine}
use Rattle.classes.specs.Inner.Classes.{at}
use Rattle.pairs.specs.declared.pairs.Pair.{Pair}
use Rattle.pairs.specs.declared.pairs.Side.{Side}
use Rattle.pairs.specs.declared.pairs.Side.TheVariants.{Left, Right}
use Rattle.pairs.specs.Inner.Pairs.{state_of, Sides, Forms, FirstClash, InStep, pair_left, pair_right, pair_parent, pair_symbol, Entry, body_of, left_body, right_body, Linked, Table, table, Later, JoinsStates, Joinable, Listed, JoinsMarks, Searching, Goes, Alike, Walkable, Walks, WalksPair, WalksAll, Searches, Connected, pair, itself, back, onward}
use Rattle.pairs.specs.declared.pairs.Clash.{Clash}
use Rattle.std.specs.Prelude.{Option, Some, None, Result, Ok, Err}
use Rattle.pairs.proofs.Joining.{later_self, class_left, class_right, merging_start}
use Rattle.pairs.proofs.Stepping.{Spelt, spelt_state, same_size, spelt_match}

-- ---- one table after the other
pub later_then : {T T' T'' : Table} → Later T T' → Later T' T'' → Later T T''
later_then L M = record {
  same_left = M.same_left ∙ L.same_left;
  same_right = M.same_right ∙ L.same_right;
  same_list = M.same_list ∙ L.same_list;
  longer = omega (arith, L.longer, M.longer);
  keeps = λ k h. M.keeps k (omega (arith, L.longer)) ∙ L.keeps k h;
  coarser = λ x y h g e. M.coarser x y (omega (arith, L.same_left)) (omega (arith, L.same_right)) (L.coarser x y h g e);
}

-- a pair stays what it is
entry_kept : {T T' : Table} → Later T T' → {p q a m c x y : ℕ} → p < T.count → Entry T.list p q a m c x y → Entry T'.list p q a m c x y
entry_kept L {p = p} h E = record {
  left = ap (λ (z : Pair). z.left) (L.keeps p (omega arith)) ∙ E.left;
  right = ap (λ (z : Pair). z.right) (L.keeps p (omega arith)) ∙ E.right;
  parent = ap (λ (z : Pair). z.parent) (L.keeps p (omega arith)) ∙ E.parent;
  symbol = ap (λ (z : Pair). z.symbol) (L.keeps p (omega arith)) ∙ E.symbol;
  mark = ap (λ (z : Pair). z.mark) (L.keeps p (omega arith)) ∙ E.mark;
  child = ap (λ (z : Pair). z.child) (L.keeps p (omega arith)) ∙ E.child;
}

-- ---- the marks of two bodies in step
module _ {T₀ T : Table} {bytes bytes' : List ℕ} {i j : ℕ} where
  module _ {k q a : ℕ} (A : JoinsMarks T₀ T bytes bytes' i j k q a) where
    more_listed : {p : ℕ} → Listed T.list p q a bytes bytes' i j k → Listed T.list p q a bytes bytes' i j (k + 1)
    more_listed E = record { mark = E.mark; small = omega (arith, E.small); call = E.call; entry = E.entry }

    -- a symbol
    pub joins_symbol : (0 < get_or bytes (2 * (i + k)) 0 → ⊥) → JoinsMarks T₀ T bytes bytes' i j (k + 1) q a
    joins_symbol n = record {
      merging = A.merging;
      later = A.later;
      together = below_more (λ k. 0 < get_or bytes (2 * (i + k)) 0 → at T.left (get_or bytes (2 * (i + k) + 1) 0) ≡ at T.right (get_or bytes' (2 * (j + k) + 1) 0)) k A.together (λ h. absurd (n h));
      listed = λ p h g. more_listed (A.listed p h g);
    }

    -- two calls
    pub joins_call : {n : ℕ} → Joinable T₀ bytes bytes' i j n → k < n → {T' : Table} → 0 < get_or bytes (2 * (i + k)) 0 → JoinsStates T T' q a k (get_or bytes (2 * (i + k)) 0) (get_or bytes (2 * (i + k) + 1) 0) (get_or bytes' (2 * (j + k) + 1) 0) → JoinsMarks T₀ T' bytes bytes' i j (k + 1) q a
    joins_call W l {T'} o E = record {
      merging = E.merging;
      later = later_then A.later E.later;
      together = below_more (λ k. 0 < get_or bytes (2 * (i + k)) 0 → at T'.left (get_or bytes (2 * (i + k) + 1) 0) ≡ at T'.right (get_or bytes' (2 * (j + k) + 1) 0)) k
          (λ h g f. let w = W.there h (omega arith) f in E.later.coarser _ _ (omega (arith, w.0, A.later.same_left)) (omega (arith, w.1, A.later.same_right)) (A.together h g f))
          (λ h. E.together);
      listed = λ p h g. by_cases (dec_lt p T.count)
          (λ f. let z = more_listed (A.listed p h f) in record { mark = z.mark; small = z.small; call = z.call; entry = entry_kept E.later f z.entry })
          (λ f. record { mark = k; small = omega arith; call = o; entry = E.listed p (omega arith) g });
    }

    -- the states called have classes still
    pub call_there : {n : ℕ} → Joinable T₀ bytes bytes' i j n → k < n → 0 < get_or bytes (2 * (i + k)) 0 → (get_or bytes (2 * (i + k) + 1) 0 < length T.left) × (get_or bytes' (2 * (j + k) + 1) 0 < length T.right)
    call_there W l o = let w = W.there k l o in (omega (arith, w.0, A.later.same_left), omega (arith, w.1, A.later.same_right))

-- ---- the bodies of a parent
module _ {ins outs starts bytes : List ℕ} {n : ℕ} (L : Layout ins outs starts bytes n) where
  -- the initial term
  pub initial_spelt : Spelt outs n 1 bytes (at starts 0) (at starts (0 + 1))
  unfolding body
  initial_spelt = record { ordered = L.bounds.ordered 0 (omega arith); inside = L.bounds.inside (0 + 1) (omega arith); whole = L.wholes.initial }

  -- a right-hand side
  pub rhs_spelt : (q a : ℕ) → q < n → a < length ins → Spelt outs n (get_or ins a 0) bytes (at starts (body_number ins q a)) (at starts (body_number ins q a + 1))
  unfolding body
  rhs_spelt q a h g =
      let l = number_less ins q n a h g in
      record { ordered = L.bounds.ordered (body_number ins q a) l; inside = L.bounds.inside (body_number ins q a + 1) (omega arith); whole = L.wholes.rhs q a h g }

-- bodies j and j' are two right-hand sides over r children
pub record Bodies (S : Sides) (outs : List ℕ) (n n' r j j' : ℕ) : Type 0 where
  pub there : j < body_count S.ins n
  pub there' : j' < body_count S.ins n'
  pub left : Spelt outs n r S.bytes (at S.starts j) (at S.starts (j + 1))
  pub right : Spelt outs n' r S.bytes' (at S.starts' j') (at S.starts' (j' + 1))

module _ {S : Sides} {T : Table} (F : Searching S T) where
  pub parent_bodies : (q a : ℕ) → q ≤ T.count → (0 < q → a < length S.ins) → (r : ℕ) × Bodies S F.forms.outs (length T.left) (length T.right) r (left_body S.ins T.list q a) (right_body S.ins T.list q a)
  unfolding body_of
  parent_bodies ℕ.zero a h g = (1, record { there = omega arith; there' = omega arith; left = initial_spelt F.forms.left; right = initial_spelt F.forms.right })
  parent_bodies (suc p) a h g =
      let L = F.linked p (omega arith) in
      let i = g (omega arith) in (
        get_or S.ins a 0,
        record {
          there = number_less S.ins _ _ a L.left i;
          there' = number_less S.ins _ _ a L.right i;
          left = rhs_spelt F.forms.left (pair_left T.list p) a L.left i;
          right = rhs_spelt F.forms.right (pair_right T.list p) a L.right i;
        },
      )

-- ---- the list stays linked
module _ {T T' : Table} (L : Later T T') where
  pub body_kept : (ins : List ℕ) (side : Side) (q a : ℕ) → q ≤ T.count → body_of ins T'.list side q a ≡ body_of ins T.list side q a
  unfolding body_of
  body_kept ins side ℕ.zero a h = refl
  body_kept ins side (suc p) a h = ap (λ x. body_number ins x a) (ap (λ (z : Pair). state_of z side) (L.keeps p (omega arith)))

  linked_kept : {S : Sides} {n n' p : ℕ} → p < T.count → Linked S n n' T.list p → Linked S n n' T'.list p
  linked_kept {S} {n} {n'} {p} h K =
      let e = ap (λ (z : Pair). z.left) (L.keeps p (omega arith)) in
      let f = ap (λ (z : Pair). z.right) (L.keeps p (omega arith)) in
      let q = ap (λ (z : Pair). z.parent) (L.keeps p (omega arith)) in
      let a = ap (λ (z : Pair). z.symbol) (L.keeps p (omega arith)) in
      let m = ap (λ (z : Pair). z.mark) (L.keeps p (omega arith)) in
      let c = ap (λ (z : Pair). z.child) (L.keeps p (omega arith)) in
      let i : pair_parent T.list p ≤ T.count = omega (arith, K.parent) in
      record {
        left = rw e K.left;
        right = rw f K.right;
        parent = rw q K.parent;
        symbol = rw (q, a) K.symbol;
        calls = rw (q, a, m, c, e, f, body_kept S.ins Left (pair_parent T.list p) (pair_symbol T.list p) i, body_kept S.ins Right (pair_parent T.list p) (pair_symbol T.list p) i) K.calls;
      }

-- ---- a walk along two bodies
abbrev pub clash_of : ℕ → ℕ → ℕ → Clash
clash_of q a m = record { parent = q; symbol = a; mark = m }

pub size_of : {from from' to to' n a a' b b' : ℕ} → from ≡ a → from' ≡ a' → to ≡ b → to' ≡ b' → n ≡ min (to - from) (to' - from') → n ≡ min (b - a) (b' - a')
size_of f f' t t' e = rw (← f, ← f', ← t, ← t') e

module _ {S : Sides} {T : Table} {q a j j' : ℕ} (W : Walkable S T q a j j') where
  abbrev lefts : ℕ
  lefts = length T.left

  abbrev rights : ℕ
  rights = length T.right

  walk_bodies : (r : ℕ) × Bodies S W.searching.forms.outs lefts rights r j j'
  walk_bodies = rw (W.left, W.right) at (parent_bodies W.searching q a W.parent W.known)

  -- where they start and end
  pub walk_there : (j < body_count S.ins lefts) × (j' < body_count S.ins rights)
  walk_there = (walk_bodies.1.there, walk_bodies.1.there')

  pub walk_ordered : (at S.starts j ≤ at S.starts (j + 1)) × (at S.starts' j' ≤ at S.starts' (j' + 1))
  walk_ordered = (walk_bodies.1.left.ordered, walk_bodies.1.right.ordered)

  pub walk_inside : (2 * at S.starts (j + 1) ≤ length S.bytes) × (2 * at S.starts' (j' + 1) ≤ length S.bytes')
  walk_inside = (walk_bodies.1.left.inside, walk_bodies.1.right.inside)

  module _ {n : ℕ} {o : Option ℕ} (e : n ≡ min (at S.starts (j + 1) - at S.starts j) (at S.starts' (j' + 1) - at S.starts' j')) (B : FirstClash S.bytes S.bytes' (at S.starts j) (at S.starts' j') n o) where
    -- they clash
    pub walk_clash : (m : ℕ) → o ≡ Some m → Walks S T T.left T.right T.list j j' (Err (clash_of q a m))
    walk_clash m z =
        let h = B.small m z in
        record {
          alike = λ r y. conflict (cc);
          clash = λ f y.
              let i : clash_of q a m ≡ f = cc in
              rw (← i) (record {
                count = T.count;
                few = W.searching.merging.few;
                linked = W.searching.linked;
                parent = W.parent;
                known = W.known;
                clash = rw (W.left, W.right) (record {
                  agree = record { inside = omega (arith, walk_ordered.0); inside' = omega (arith, walk_ordered.1); step = B.step m z };
                  clash = B.clash m z;
                });
              });
        }

    module _ (all : o ≡ None) where
      step_on : (k : ℕ) → k < n → InStep S.bytes S.bytes' (at S.starts j + k) (at S.starts' j' + k)
      step_on = B.none all

      -- they go in step: the states that they call can be joined
      pub walk_joinable : Joinable T S.bytes S.bytes' (at S.starts j) (at S.starts' j') n
      walk_joinable = record {
        merging = W.searching.merging;
        inside = omega (arith, walk_inside.0, walk_ordered.0);
        inside' = omega (arith, walk_inside.1, walk_ordered.1);
        few = omega (arith, W.searching.forms.left.few j walk_there.0);
        step = step_on;
        there = λ k h o. (spelt_state walk_bodies.1.left k (omega arith) o, spelt_state walk_bodies.1.right k (omega arith) (omega (arith, (step_on k h).first)));
      }

      sizes : at S.starts (j + 1) - at S.starts j ≡ at S.starts' (j' + 1) - at S.starts' j'
      sizes = same_size walk_bodies.1.left walk_bodies.1.right (λ k h g. step_on k (omega arith))

      module _ {C D : List ℕ} {P : List Pair} {r : ℕ} (A : JoinsMarks T (table C D P r) S.bytes S.bytes' (at S.starts j) (at S.starts' j') n q a) where
        -- a new pair is linked
        new_linked : (p : ℕ) → T.count ≤ p → p < r → Linked S lefts rights P p
        new_linked p h g =
            let E = A.listed p h g in
            let F = E.entry in
            let o = E.call in
            let k = E.small in
            let s = step_on E.mark k in
            let t = walk_joinable.there E.mark k o in
            let i = W.parent in
            record {
              left = rw F.left t.0;
              right = rw F.right t.1;
              parent = omega (arith, F.parent);
              symbol = rw (F.parent, F.symbol) W.known;
              calls = rw (F.parent, F.symbol, F.mark, F.child, F.left, F.right, body_kept A.later S.ins Left q a i, body_kept A.later S.ins Right q a i, W.left, W.right) (record {
                agree = record { inside = omega (arith, walk_ordered.0); inside' = omega (arith, walk_ordered.1); step = λ x y. step_on x (omega arith) };
                left = record { from_one = o; child = refl; state = refl };
                right = record { from_one = o; child = sym s.first; state = refl };
              });
            }

        walk_goes : Goes S T (table C D P r)
        walk_goes =
            let l = A.later.same_left in
            let m = A.later.same_right in
            record {
              searching = record {
                forms = rw (l, m) W.searching.forms;
                merging = A.merging;
                linked = λ p h. rw (l, m) (by_cases (dec_lt p T.count) (λ g. linked_kept A.later g (W.searching.linked p g)) (λ g. new_linked p (omega arith) h));
              };
              later = A.later;
            }

        -- and then they are one up to classes
        pub walk_alike : Walks S T C D P j j' (Ok r)
        walk_alike = record {
          alike = λ k z.
              let y : r ≡ k = cc in
              rw (← y) (walk_goes, record { size = sizes; step = λ k h. step_on k (omega (arith, sizes)); together = λ k h. A.together k (omega (arith, sizes)) });
          clash = λ k z. conflict (cc);
        }

-- ---- the right-hand sides of a pair
goes_then : {S : Sides} {T T' T'' : Table} → Goes S T T' → Goes S T' T'' → Goes S T T''
goes_then G H = record { searching = H.searching; later = later_then G.later H.later }

-- bodies that are one up to classes stay so
alike_later : {S : Sides} {T T' : Table} {outs : List ℕ} {r j j' : ℕ} → Bodies S outs (length T.left) (length T.right) r j j' → Later T T' → Alike S T j j' → Alike S T' j j'
alike_later B L A = record {
  size = A.size;
  step = A.step;
  together = λ k h o. L.coarser _ _ (spelt_state B.left k h o) (spelt_state B.right k (omega (arith, A.size)) (omega (arith, (A.step k h).first))) (A.together k h o);
}

-- the right-hand sides of pair p for symbol a are one up to classes
abbrev pub AlikeAt : Sides → Table → ℕ → ℕ → Type 0
AlikeAt S T p a = Alike S T (body_number S.ins (pair_left T.list p) a) (body_number S.ins (pair_right T.list p) a)

alike_at_later : {S : Sides} {T T' : Table} → Searching S T → Later T T' → (p a : ℕ) → p < T.count → a < length S.ins → AlikeAt S T p a → AlikeAt S T' p a
unfolding body_of
alike_at_later F L p a h g A = rw (ap (λ (z : Pair). z.left) (L.keeps p (omega arith)), ap (λ (z : Pair). z.right) (L.keeps p (omega arith))) (alike_later (parent_bodies F (suc p) a (omega arith) (λ o. g)).1 L A)

-- the symbols below a are done
pub record PairLoop (S : Sides) (T₀ T : Table) (p a : ℕ) : Type 0 where
  pub small : a ≤ length S.ins
  pub goes : Goes S T₀ T
  pub alike : (b : ℕ) → b < a → AlikeAt S T p b

goes_self : {S : Sides} {T : Table} → Searching S T → Goes S T T
goes_self {T = T} F = record { searching = F; later = later_self T }

module _ {S : Sides} {T₀ T : Table} {p a : ℕ} (L : PairLoop S T₀ T p a) (h : p < T₀.count) where
  pub pair_kept : {x y : ℕ} → x ≡ pair_left T₀.list p → y ≡ pair_right T₀.list p → (pair_left T.list p ≡ x) × (pair_right T.list p ≡ y)
  pair_kept e f = (ap (λ (z : Pair). z.left) (L.goes.later.keeps p (omega arith)) ∙ sym e, ap (λ (z : Pair). z.right) (L.goes.later.keeps p (omega arith)) ∙ sym f)

  pair_inside : p < T.count
  pair_inside = omega (arith, L.goes.later.longer)

  pub pair_walkable : a < length S.ins → {x y : ℕ} → x ≡ pair_left T₀.list p → y ≡ pair_right T₀.list p → Walkable S T (p + 1) a (body_number S.ins x a) (body_number S.ins y a)
  unfolding body_of
  pair_walkable g e f =
      let k = pair_kept e f in
      record {
        searching = L.goes.searching;
        parent = omega (arith, pair_inside);
        symbol = omega (arith, L.goes.searching.forms.left.few_inputs);
        known = λ o. g;
        left = rw (add-one p, k.0);
        right = rw (add-one p, k.1);
      }

  module _ {C D : List ℕ} {P : List Pair} {x y : ℕ} (e : x ≡ pair_left T₀.list p) (f : y ≡ pair_right T₀.list p) (g : a < length S.ins) {w : Result ℕ Clash} (K : Walks S T C D P (body_number S.ins x a) (body_number S.ins y a) w) where
    after_kept : {r : ℕ} → Goes S T (table C D P r) → (pair_left P p ≡ x) × (pair_right P p ≡ y)
    after_kept G = let k = pair_kept e f in (ap (λ (z : Pair). z.left) (G.later.keeps p (omega (arith, pair_inside))) ∙ k.0, ap (λ (z : Pair). z.right) (G.later.keeps p (omega (arith, pair_inside))) ∙ k.1)

    pub pair_next : (r : ℕ) → w ≡ Ok r → PairLoop S T₀ (table C D P r) p (a + 1)
    pair_next r z =
        let k = K.alike r z in
        let q = after_kept k.0 in
        record {
          small = omega arith;
          goes = goes_then L.goes k.0;
          alike = below_more (λ b. AlikeAt S (table C D P r) p b) a (λ b i. alike_at_later L.goes.searching k.0.later p b pair_inside (omega arith) (L.alike b i)) (rw (q.0, q.1) k.1);
        }

pub pair_end : {S : Sides} {T₀ : Table} {C D : List ℕ} {P : List Pair} {n p a : ℕ} → PairLoop S T₀ (table C D P n) p a → length S.ins ≤ a → WalksPair S T₀ C D P p (Ok n)
pair_end {n = n} L h = record {
  alike = λ r y. let i : n ≡ r = cc in rw (← i) (L.goes, λ a g. L.alike a (omega arith));
  clash = λ d y. conflict (cc);
}

-- ---- the listed pairs
-- the pairs below p are done
pub record AllLoop (S : Sides) (T₀ T : Table) (p : ℕ) : Type 0 where
  pub done : p ≤ T.count
  pub goes : Goes S T₀ T
  pub alike : (o : ℕ) → o < p → (a : ℕ) → a < length S.ins → AlikeAt S T o a

module _ {S : Sides} {T₀ T : Table} {p : ℕ} (L : AllLoop S T₀ T p) (h : p < T.count) {C D : List ℕ} {P : List Pair} {w : Result ℕ Clash} (K : WalksPair S T C D P p w) where
  pub all_next : (r : ℕ) → w ≡ Ok r → AllLoop S T₀ (table C D P r) (p + 1)
  all_next r z =
      let k = K.alike r z in
      record {
        done = omega (arith, k.0.later.longer);
        goes = goes_then L.goes k.0;
        alike = below_more (λ o. (a : ℕ) → a < length S.ins → AlikeAt S (table C D P r) o a) p (λ o i a g. alike_at_later L.goes.searching k.0.later o a (omega arith) g (L.alike o i a g)) k.1;
      }

pub all_end : {S : Sides} {T₀ : Table} {C D : List ℕ} {P : List Pair} {n p : ℕ} → AllLoop S T₀ (table C D P n) p → n ≤ p → WalksAll S T₀ C D P (Ok tt)
all_end {n = n} L h = record { alike = λ y. (n, L.goes, λ o i a g. L.alike o (omega arith) a g); clash = λ d y. conflict (cc) }

-- ---- equivalence
-- a value for each of the states in one row
abbrev either : {Z : Type 0} → Bool → Z → Z → Z
either true x y = x
either false x y = y

in_one : {Z : Type 0} → (ℕ → Z) → (ℕ → Z) → ℕ → Z
in_one f g e = either (ltb e 128) (f e) (g (e - 128))

module _ {Z : Type 0} (f g : ℕ → Z) where
  one_left : (x : ℕ) → x < 128 → in_one f g x ≡ f x
  unfolding in_one
  one_left x h = simp (lt-ltb x 128 h)

  one_right : (y : ℕ) → in_one f g (128 + y) ≡ g y
  unfolding in_one
  one_right y = let e : 128 + y - 128 ≡ y = omega arith in simp (le-ltb (128 + y) 128 (omega arith), e)

-- two states are a listed pair
abbrev IsPair : Table → ℕ → ℕ → Type 0
IsPair T x y = (p : ℕ) × (p < T.count) × (x ≡ pair_left T.list p) × (y ≡ pair_right T.list p)

module _ {S : Sides} {T : Table} (F : Searching S T) where
  abbrev lefts' : ℕ
  lefts' = length T.left

  abbrev rights' : ℕ
  rights' = length T.right

  module _ {Z : Type 0} (f g : ℕ → Z) (same : (x y : ℕ) → IsPair T x y → f x ≡ g y) where
    connected_same : {s t : ℕ} → Connected T.list T.count s t → in_one f g s ≡ in_one f g t
    connected_same (pair p h) =
        let K = F.linked p h in
        one_left f g (pair_left T.list p) (omega (arith, K.left, F.merging.few_left)) ∙ same _ _ (p, h, refl, refl) ∙ sym (one_right f g (pair_right T.list p))
    connected_same (itself s) = refl
    connected_same (back x) = sym (connected_same x)
    connected_same (onward x y) = connected_same x ∙ connected_same y

  -- classes are no coarser than the pairs force
  classes_generated : Generated (λ x. x < lefts') (λ y. y < rights') (IsPair T) (at T.left) (at T.right)
  classes_generated = record {
    by_classes = λ Z f g same x y h i e.
        let few = F.merging.few_left in
        let j = F.merging.forced x (128 + y) (inl h) (inr (omega arith, omega arith)) (class_left T.left T.right x (omega arith) ∙ e ∙ sym (class_right T.left T.right y)) in
        sym (one_left f g x (omega arith)) ∙ connected_same f g same j ∙ one_right f g y;
  }

  module _ (outs : List ℕ) (l : Leaf S.ins) (L : Layout S.ins outs S.starts S.bytes lefts') (L' : Layout S.ins outs S.starts' S.bytes' rights') (all : (p : ℕ) → p < T.count → (a : ℕ) → a < length S.ins → AlikeAt S T p a) where
    abbrev left_machine : Transducer ℕ
    left_machine = machine S.ins outs S.starts S.bytes lefts'

    abbrev right_machine : Transducer ℕ
    right_machine = machine S.ins outs S.starts' S.bytes' rights'

    pairs_checked : (x y : ℕ) → IsPair T x y → Checked (alphabet S.ins l) left_machine right_machine (λ x. x < lefts') (λ y. y < rights') (at T.left) (at T.right) x y
    unfolding alphabet transducer body
    pairs_checked x y (p, h, e, f) =
        let K = F.linked p h in
        rw (e, f) (record {
          valid = K.left;
          valid' = K.right;
          sort = refl;
          rhs = λ a k.
              let i = (children_inside S.ins a k).0 in
              let A = all p h a i in
              spelt_match (rhs_spelt L _ a K.left i) (rhs_spelt L' _ a K.right i) T.left T.right A.size A.step A.together;
        })

    -- if all bodies are one up to classes, the two are equivalent
    pub found_equivalent : Alike S T 0 0 → Wf (alphabet S.ins l) left_machine (λ x. x < lefts') → Wf (alphabet S.ins l) right_machine (λ y. y < rights') → Equivalent (alphabet S.ins l) left_machine right_machine
    unfolding transducer body
    found_equivalent A wf wf' = search_equivalent wf wf' classes_generated pairs_checked (spelt_match (initial_spelt L) (initial_spelt L') T.left T.right A.size A.step A.together)

-- ---- the search
-- it starts with each state in a class of its own
pub search_start : {S : Sides} {C D : List ℕ} {P : List Pair} → Forms S (length C) (length D) → 256 ≤ length P → ((x : ℕ) → x < length C → at C x ≡ x) → ((y : ℕ) → y < length D → at D y ≡ 128 + y) → Walkable S (table C D P 0) 0 0 0 0
unfolding body_of
search_start {C = C} {D} {P} F room own own' = record {
  searching = record { forms = F; merging = merging_start C D P F.left.few_states F.right.few_states room own own'; linked = λ p h. absurd (omega arith) };
  parent = omega arith;
  symbol = omega arith;
  known = λ o. absurd (omega arith);
  left = refl;
  right = refl;
}

module _ {S : Sides} {T : Table} {C D : List ℕ} {P : List Pair} {w : Result ℕ Clash} (K : Walks S T C D P 0 0 w) {n n' : ℕ} where
  -- the initial terms clash
  pub search_clash : length T.left ≡ n → length T.right ≡ n' → (f : Clash) → w ≡ Err f → Searches S n n' P (Err f)
  search_clash g h f z = record {
    same = λ y. conflict (cc);
    clash = λ d y.
        let i : f ≡ d = cc in
        rw (← i, ← g, ← h) (K.clash f z);
  }

  -- the listed pairs are walked
  pub search_end : (r : ℕ) → w ≡ Ok r → {C' D' : List ℕ} {P' : List Pair} {v : Result (Unit {0}) Clash} → WalksAll S (table C D P r) C' D' P' v → length C' ≡ n → length D' ≡ n' → length C ≡ n → length D ≡ n' → Searches S n n' P' v
  unfolding body_of
  search_end r z {C'} {D'} {P'} A e f g h =
      let k = K.alike r z in
      record {
        same = λ y outs l L L' wf wf'.
            let a = A.alike y in
            let G = a.1 in
            let i = alike_later (parent_bodies k.0.searching 0 0 (omega arith) (λ o. absurd (omega arith))).1 G.later k.1 in
            rw (e, f) at (found_equivalent G.searching outs l (rw e L) (rw f L') a.2 i (rw e wf) (rw f wf'));
        clash = λ d y. rw (g, h) at (A.clash d y);
      }
