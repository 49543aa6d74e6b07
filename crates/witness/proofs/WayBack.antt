-- The way back along the list of pairs in bytes: what stands in the buffer and at the end of the area, step by step.
-- Assumes nothing.
use Prim.Native.Nat.{ℕ, suc, ◌+◌, ◌*◌, ◌≤◌, ◌<◌}
use native.Mathlib.Decide.{ℕ_discrete}
use native.Mathlib.Omega.{arith}
use mathlib.Core.List.{List, ◌++◌, append_assoc}
use mathlib.Core.Logic.{by_cases}
use mathlib.Core.Path.{◌≡◌, refl, ap, ap₂, ◌∙◌}
use lib.ListN.{length, get_or, take, drop}
use lib.Seq.{sets-eq, length-take-le, drop_at}
use Rattle.theory.specs.Term.{Tree}
use Rattle.trees.specs.Alphabets.{Ranks, Leaf}
use Rattle.formats.specs.Inner.Layout.{body, body_count, transducer}
use Rattle.formats.specs.Inner.Marked.{part}
use Rattle.formats.proofs.Pairs.{number_less, pairs_at}
use Rattle.forms.specs.Alphabet.{alphabet}
use Rattle.forms.specs.Inner.Tables.{machine, Layout}
use Rattle.earliest.specs.Inner.Places.{place}
use Rattle.classes.specs.Inner.Classes.{at}
use Rattle.witness.specs.Inner.Bottoms.{BottomFound, no_path, second_path, first_path, Upable, Upped, RootAsked, RootFound, Stands, Leading, Roomy, StatesBelow, Stand, StepsBack, TracesBack}
use Rattle.pairs.specs.declared.pairs.Pair.{Pair}
use Rattle.pairs.specs.declared.pairs.Side.{Side}
use Rattle.pairs.specs.declared.pairs.Side.TheVariants.{Left}
use Rattle.pairs.specs.Inner.Pairs.{pair_state, pair_parent, pair_symbol, pair_mark, pair_child, body_of, left_body}
use Rattle.witness.specs.Inner.Paths.{term_of, left_term, pair_place, tree_for, Path, path_end, path_on}
use Rattle.witness.specs.Inner.Shown.{steps_tree, Added, StepsAsked, StepsWritten, InBody, AddressAsked, EndsBefore, AddressWritten}
use Rattle.witness.proofs.Bottoms.{bottom_few}
use Rattle.pairs.proofs.Searching.{initial_spelt, rhs_spelt}
use Rattle.pairs.proofs.Stepping.{Spelt, spelt, spelt_state, spelt_child}

-- ---- one step up
-- the initial terms read the tree itself
pub up_none : {ins : List ℕ} {e a i : ℕ} {buffer : List ℕ} {lo hi : ℕ} (q : ℕ) → q ≤ 0 → Upable ins e q a i buffer lo hi → Upped ins e q a i buffer lo hi buffer lo hi
unfolding tree_for
up_none ℕ.zero z R = record { left = omega arith; ordered = R.ordered; right = omega arith; tree = λ l s d h. h }
up_none (suc p) z R = absurd (omega arith)

-- a pair reads it below the symbol
pub up_step : {ins : List ℕ} {e a i : ℕ} {buffer : List ℕ} {lo hi : ℕ} {after : List ℕ} {from to : ℕ} (q : ℕ) → 0 < q → Added ins e a i buffer lo hi after from to → Upped ins e q a i buffer lo hi after from to
unfolding tree_for
up_step ℕ.zero h R = absurd (omega arith)
up_step (suc p) h R = record { left = R.left; ordered = R.ordered; right = R.right; tree = R.tree }

-- ---- the tree of the clash
-- the child that matters is one of the symbol
bottom_child : {ins starts bytes starts' bytes' : List ℕ} {e c x c' x' : ℕ} {steps : List ℕ} {child count b b' r : ℕ} → BottomFound ins starts bytes starts' bytes' e c x c' x' steps child count b b' → c ≤ r → c' ≤ r → child ≤ r
bottom_child (no_path z z') h g = omega arith
bottom_child (second_path z o F) h g = g
bottom_child (first_path o A F) h g = h

-- each step of the path is one
bottom_steps : {ins starts bytes starts' bytes' : List ℕ} {e c x c' x' : ℕ} {steps : List ℕ} {child count b b' : ℕ} → BottomFound ins starts bytes starts' bytes' e c x c' x' steps child count b b' → (k : ℕ) → k < count → (get_or steps (2 * k) 0 < length ins) × (get_or steps (2 * k + 1) 0 ≤ get_or ins (get_or steps (2 * k) 0) 0)
bottom_steps (no_path z z') k h = absurd (omega arith)
bottom_steps (second_path z o F) k h = F.path.inside k h
bottom_steps (first_path o A F) k h = F.path.inside k h

module _ {ins starts bytes : List ℕ} {n : ℕ} {starts' bytes' : List ℕ} {n' e i j q a : ℕ} {buffer : List ℕ} (R : RootAsked ins starts bytes n starts' bytes' n' e i j q a buffer) where
  abbrev Below : List ℕ → ℕ → ℕ → ℕ → ℕ → Type 0
  Below steps child count b b' = BottomFound ins starts bytes starts' bytes' e (get_or bytes (2 * i) 0) (get_or bytes (2 * i + 1) 0) (get_or bytes' (2 * j) 0) (get_or bytes' (2 * j + 1) 0) steps child count b b'

  pub root_below : {c x c' x' : ℕ} {steps : List ℕ} {child count b b' : ℕ} → c ≡ get_or bytes (2 * i) 0 → x ≡ get_or bytes (2 * i + 1) 0 → c' ≡ get_or bytes' (2 * j) 0 → x' ≡ get_or bytes' (2 * j + 1) 0 → BottomFound ins starts bytes starts' bytes' e c x c' x' steps child count b b' → Below steps child count b b'
  root_below f g f' g' B = rw (f, g, f', g') at B

  module _ {steps : List ℕ} {child count b b' : ℕ} (B : Below steps child count b b') where
    pub root_steps : length steps ≡ 256 → StepsAsked ins e steps count buffer
    root_steps s =
        let few = bottom_few B in
        record {
          ranks = R.forms.ins_ranks;
          leaf = R.leaf;
          few = omega arith;
          long = omega arith;
          each = λ k h. let o = bottom_steps B k h in let z = pairs_at steps k (omega arith) in record { there = rw z o.0; child = rw z o.1 };
          room = R.room;
        }

    module _ {tree-bytes : List ℕ} {from to : ℕ} (A : StepsWritten ins e steps count tree-bytes from to) (long : length tree-bytes ≡ length buffer) where
      pub root_upable : Upable ins e q a child tree-bytes from to
      root_upable =
          let few = bottom_few B in
          record {
            ordered = A.ordered;
            step = λ h. record {
              symbols = record { ranks = R.forms.ins_ranks; leaf = R.leaf; there = R.known h };
              child = bottom_child B (R.child h) (R.child' h);
              left = omega (arith, A.left);
              ordered = A.ordered;
              right = omega (arith, A.right, R.room);
            };
          }

      pub root_found : {after : List ℕ} {lo hi : ℕ} → Upped ins e q a child tree-bytes from to after lo hi → RootFound ins starts bytes starts' bytes' e i j q a after lo hi b b'
      root_found U =
          let few = bottom_few B in
          record {
            steps = steps;
            child = child;
            count = count;
            bottom = B;
            left = omega (arith, A.left, U.left);
            ordered = U.ordered;
            right = omega (arith, A.right, U.right);
            tree = λ l s. U.tree l s (steps_tree ins l (part steps 0 count)) (A.tree l s);
          }

-- ---- the bodies of a parent
-- body j is a right-hand side of parent q for symbol a
pub record BodyThere (ins outs starts bytes : List ℕ) (n q a j : ℕ) : Type 0 where
  pub rank : ℕ
  pub spells : Spelt outs n rank bytes (at starts j) (at starts (j + 1))
  pub there : j < body_count ins n
  pub ranked : 0 < q → rank ≡ get_or ins a 0

module _ {ins outs starts bytes : List ℕ} {n q a j : ℕ} (L : Layout ins outs starts bytes n) (B : BodyThere ins outs starts bytes n q a j) where
  pub body_start : j < length starts
  body_start = omega (arith, B.there, L.bounds.long)

  -- mark m of it
  module _ (m : ℕ) (inside : at starts j + m < at starts (j + 1)) where
    pub mark_small : m ≤ 63
    mark_small = omega (arith, L.few j B.there)

    pub mark_inside : 2 * (at starts j + m) + 2 ≤ length bytes
    mark_inside = omega (arith, B.spells.inside)

    pub mark_state : 0 < get_or bytes (2 * (at starts j + m)) 0 → get_or bytes (2 * (at starts j + m) + 1) 0 < n
    mark_state = spelt_state B.spells m (omega arith)

    pub mark_child : 0 < q → get_or bytes (2 * (at starts j + m)) 0 ≤ get_or ins a 0
    mark_child h = by_cases (ℕ_discrete (get_or bytes (2 * (at starts j + m)) 0) 0) (λ z. omega arith) (λ z. omega (arith, spelt_child B.spells m (omega arith) (omega arith), B.ranked h))

    pub mark_body : InBody outs bytes n B.rank (at starts j) (at starts (j + 1)) m
    mark_body = record { whole = B.spells.whole; inside = B.spells.inside; there = inside }

-- the body on one side is the term of the parent
pub record SideThere (ins outs starts bytes : List ℕ) (n : ℕ) (P : List Pair) (side : Side) (q a : ℕ) : Type 0 where
  pub body : BodyThere ins outs starts bytes n q a (body_of ins P side q a)
  pub term : term_of (machine ins outs starts bytes n) P side q a ≡ spelt outs n body.rank bytes (at starts (body_of ins P side q a)) (at starts (body_of ins P side q a + 1))

module _ {ins outs starts bytes : List ℕ} {n : ℕ} (L : Layout ins outs starts bytes n) (P : List Pair) where
  pub side_there : (side : Side) (q a : ℕ) → StatesBelow P side q n → (0 < q → a < length ins) → SideThere ins outs starts bytes n P side q a
  unfolding body_of term_of transducer body
  side_there side ℕ.zero a b g = record { body = record { rank = 1; spells = initial_spelt L; there = omega arith; ranked = λ h. absurd (omega arith) }; term = refl }
  side_there side (suc p) a b g =
      let s = b p (omega arith) in
      let i = g (omega arith) in
      record { body = record { rank = get_or ins a 0; spells = rhs_spelt L (pair_state P side p) a s i; there = number_less ins _ _ a s i; ranked = λ h. refl }; term = refl }

  module _ (q a m : ℕ) (T : SideThere ins outs starts bytes n P Left q a) (inside : at starts (left_body ins P q a) + m < at starts (left_body ins P q a + 1)) where
    pub left_address_asked : (area : List ℕ) (w from : ℕ) → from ≡ at starts (left_body ins P q a) → Ranks 64 outs → m ≤ w → w ≤ length area → AddressAsked outs bytes from m area w
    left_address_asked area w from e R h g = record { low = R.low; states = n; children = T.body.rank; to = at starts (left_body ins P q a + 1); body = rw e (mark_body L T.body m inside); room = h; end = g }

    pub left_address : {area after : List ℕ} {w from r : ℕ} → from ≡ at starts (left_body ins P q a) → AddressWritten outs bytes from m area w after r → EndsBefore (place (left_term (machine ins outs starts bytes n) P q a) m) area w after r
    left_address {area} {after} {w} {from} {r} e C =
        let D : AddressWritten outs bytes (at starts (left_body ins P q a)) m area w after r = rw e at C in
        rw T.term (D.address n T.body.rank (at starts (left_body ins P q a + 1)) (mark_body L T.body m inside))

-- what was written before position `at` stands before what stood behind it
pub ends_before : {v area : List ℕ} {w : ℕ} {after : List ℕ} {r : ℕ} → EndsBefore v area w after r → w ≤ length area → drop r after ≡ v ++ drop w area
ends_before {v} {area} {w} {after} {r} E h =
    let long = E.long in
    ap (drop r) (E.wrote ∙ sets-eq v area r (omega arith) ∙ append_assoc (take r area) v (drop (r + length v) area))
    ∙ drop_at (take r area) (v ++ drop (r + length v) area) r (length-take-le r area (omega arith))
    ∙ ap (λ k. v ++ drop k area) long

-- ---- one step back
module _ {ins outs starts bytes : List ℕ} {P : List Pair} {e : ℕ} (p : ℕ) (L : Leading ins outs starts bytes P e (p + 1)) where
  abbrev K : Stands ins starts L.states P p
  K = L.stands p (omega arith)

  lefts : StatesBelow P Left (pair_parent P p) L.states
  lefts o h = (L.stands o (omega (arith, K.parent))).left

  there : SideThere ins outs starts bytes L.states P Left (pair_parent P p) (pair_symbol P p)
  there = side_there L.layout P Left (pair_parent P p) (pair_symbol P p) lefts K.symbol

  small : pair_mark P p ≤ 63
  small = mark_small L.layout there.body (pair_mark P p) K.inside

  body_is : {q a j : ℕ} → q ≡ pair_parent P p → a ≡ pair_symbol P p → j ≡ left_body ins P q a → j ≡ left_body ins P (pair_parent P p) (pair_symbol P p)
  body_is f g z = z ∙ ap₂ (left_body ins P) f g

  module _ {buffer : List ℕ} {lo hi : ℕ} {area : List ℕ} {w : ℕ} (R : Roomy (p + 1) buffer lo hi area w) {q a : ℕ} (f : q ≡ pair_parent P p) (g : a ≡ pair_symbol P p) where
    pub back_address_asked : {m j from : ℕ} → m ≡ pair_mark P p → j ≡ left_body ins P q a → from ≡ at starts j → AddressAsked outs bytes from m area w
    back_address_asked {from = from} h z s = rw h (left_address_asked L.layout P (pair_parent P p) (pair_symbol P p) (pair_mark P p) there K.inside area w from (s ∙ ap (at starts) (body_is f g z)) L.outs_ranks (omega (arith, small, R.before)) R.end)

    pub back_done : {m i j from : ℕ} {area' : List ℕ} {w' : ℕ} {buffer' : List ℕ} {lo' hi' : ℕ} → m ≡ pair_mark P p → i ≡ pair_child P p → j ≡ left_body ins P q a → from ≡ at starts j → AddressWritten outs bytes from m area w area' w' → length area' ≡ length area → Upped ins e q a i buffer lo hi buffer' lo' hi' → length buffer' ≡ length buffer → StepsBack ins outs starts bytes P e p buffer lo hi area w buffer' lo' hi' area' w'
    back_done {m} {i} {j} {from} {area'} {w'} {buffer'} {lo'} {hi'} h k z s C n U n' =
        let s' = s ∙ ap (at starts) (body_is f g z) in
        let D : AddressWritten outs bytes from (pair_mark P p) area w area' w' = rw h at C in
        let Z : Upped ins e (pair_parent P p) (pair_symbol P p) (pair_child P p) buffer lo hi buffer' lo' hi' = rw (f, g, k) at U in
        let x = left_address L.layout P (pair_parent P p) (pair_symbol P p) (pair_mark P p) there K.inside s' D in
        record {
          roomy = record {
            left = omega (arith, R.left, Z.left, K.parent);
            ordered = Z.ordered;
            right = omega (arith, R.right, Z.right, K.parent);
            before = omega (arith, R.before, K.parent, D.near, small);
            end = omega (arith, x.long, R.end);
          };
          back = λ n l Y y B d v S. (
            Z.tree l y d S.0,
            ends_before (left_address Y P (pair_parent P p) (pair_symbol P p) (pair_mark P p) (side_there Y P Left (pair_parent P p) (pair_symbol P p) (λ o t. B o (omega (arith, K.parent))) K.symbol) K.inside s' D) R.end ∙ ap (◌++◌ (pair_place (machine ins outs starts bytes n) P p)) S.1,
          );
        }

-- ---- all steps back
-- parent r reads d' and v', and wherever the list leads from there it leads from parent q
pub record OnWay (ins outs starts bytes : List ℕ) (P : List Pair) (n : ℕ) (l : Leaf ins) (q : ℕ) (d : Tree) (v buffer : List ℕ) (from to : ℕ) (area : List ℕ) (w r : ℕ) : Type 0 where
  pub tree : Tree
  pub address : List ℕ
  pub stand : Stand buffer from to tree area w address
  pub onward : (T : Tree) (U : List ℕ) → Path (alphabet ins l) ins (machine ins outs starts bytes n) P r tree address T U → Path (alphabet ins l) ins (machine ins outs starts bytes n) P q d v T U

pub record WayLoop (ins outs starts bytes : List ℕ) (P : List Pair) (e q : ℕ) (buffer₀ : List ℕ) (lo hi : ℕ) (area₀ : List ℕ) (at : ℕ) (buffer : List ℕ) (from to : ℕ) (area : List ℕ) (w r : ℕ) : Type 0 where
  pub small : r ≤ q
  pub same_buffer : length buffer ≡ length buffer₀
  pub same_area : length area ≡ length area₀
  pub roomy : Roomy r buffer from to area w
  pub way : (n : ℕ) (l : Leaf ins) → Layout ins outs starts bytes n → l.symbol ≡ e → StatesBelow P Left q n → (d : Tree) (v : List ℕ) → Stand buffer₀ lo hi d area₀ at v → OnWay ins outs starts bytes P n l q d v buffer from to area w r

module _ {ins outs starts bytes : List ℕ} {P : List Pair} {e q : ℕ} (L : Leading ins outs starts bytes P e q) {buffer₀ : List ℕ} {lo hi : ℕ} {area₀ : List ℕ} {at₀ : ℕ} (R : Roomy q buffer₀ lo hi area₀ at₀) where
  abbrev Loop : List ℕ → ℕ → ℕ → List ℕ → ℕ → ℕ → Type 0
  Loop buffer from to area w r = WayLoop ins outs starts bytes P e q buffer₀ lo hi area₀ at₀ buffer from to area w r

  module _ {buffer : List ℕ} {from to : ℕ} {area : List ℕ} {w r : ℕ} (I : Loop buffer from to area w r) where
    pub way_next : (p : ℕ) → r ≡ p + 1 → {r' : ℕ} → r' ≡ pair_parent P p → {buffer' : List ℕ} {from' to' : ℕ} {area' : List ℕ} {w' : ℕ} → length buffer' ≡ length buffer → length area' ≡ length area → StepsBack ins outs starts bytes P e p buffer from to area w buffer' from' to' area' w' → Loop buffer' from' to' area' w' r'
    way_next p z {r'} f n n' B =
        let K = L.stands p (omega (arith, I.small)) in
        let y : r ≡ suc p = omega arith in
        rw f (record {
          small = omega (arith, K.parent, I.small);
          same_buffer = n ∙ I.same_buffer;
          same_area = n' ∙ I.same_area;
          roomy = B.roomy;
          way = λ n l Y s C d v S.
              let O = I.way n l Y s C d v S in
              record {
                tree = tree_for (alphabet ins l) ins (pair_parent P p) (pair_symbol P p) (pair_child P p) O.tree;
                address = pair_place (machine ins outs starts bytes n) P p ++ O.address;
                stand = B.back n l Y s (λ o h. C o (omega (arith, I.small))) O.tree O.address O.stand;
                onward = λ T U r. O.onward T U (rw y (path_on r));
              };
        })

    pub way_end : r ≡ 0 → TracesBack ins outs starts bytes P e q buffer₀ lo hi area₀ at₀ buffer from to area w
    way_end z = record {
      ordered = I.roomy.ordered;
      inside = omega (arith, I.roomy.right);
      end = I.roomy.end;
      led = λ n l Y s C d v S.
          let O = I.way n l Y s C d v S in
          record { tree = O.tree; address = O.address; path = O.onward O.tree O.address (rw z path_end); stand = O.stand };
    }
