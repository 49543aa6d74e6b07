-- Laws of what is written, by position: one mark after the other, and one state applied to one node.
-- Assumes nothing.
use Prim.Native.Nat.{ℕ, suc, ◌+◌, ◌-◌, ◌*◌, ◌≤◌, ◌<◌, max}
use native.Mathlib.Numerals.{add-one}
use native.Mathlib.Omega.{arith}
use mathlib.Core.Bool.{Bool, true, false}
use mathlib.Core.Path.{◌≡◌, refl, sym, ap, ap₂, ◌∙◌}
use mathlib.Core.List.{List, [], ◌∷◌, ◌++◌}
use lib.Dec.{leb, ltb}
use lib.ListN.{length, get_or, drop, length-drop}
use lib.Seq.{drop-cons, slice, slice-cons, slice_empty}
use borrow.Author.Tests.{ltb-true, leb-true}
use Rattle.theory.specs.Term.{node, Terms, none, more, count}
use Rattle.theory.specs.Size.{levels, deepest}
use Rattle.trees.specs.Code.{Mark}
use Rattle.theory.specs.Inner.Forests.{letters_all}
use Rattle.trees.specs.Inner.Decode.{firsts, rests, node_if, put, forest, first}
use Rattle.trees.specs.Inner.Symbols.{symbol_of, symbol_if, trees, tree}
use Rattle.formats.specs.Inner.Layout.{pairs, mark_at, body_number}
use Rattle.trees.specs.Inner.Measured.{Ends}
use Rattle.transducer.specs.Inner.Written.{spell, lowest, made, made_below, called, body_at, levels_by, applied, walked, applied_levels, walked_levels, Callable, Table, Input, hop, Ready, Walkable}
use Rattle.trees.proofs.Forest.{all_drop}
use Rattle.trees.proofs.Extents.{letters_size}
use Rattle.formats.proofs.Pairs.{pairs_length, pairs_at, part_cons, number_less, getD_slice}
use Rattle.transducer.proofs.Levels.{lowest_same}
use Rattle.transducer.proofs.Places.{EndsFrom, Place, place_from, place_inside}

-- ---- every position of an input has a tree
-- the node at position p, with as many of the trees behind it as its rank says
pub record NodeAt (ins s : List ℕ) (p : ℕ) : Type 0 where
  pub known : get_or s p 0 < length ins
  pub enough : get_or ins (get_or s p 0) 0 ≤ count (trees ins (drop (p + 1) s))
  pub there : trees ins (drop p s) ≡ more (node (get_or s p 0) (firsts (get_or ins (get_or s p 0) 0) (trees ins (drop (p + 1) s)))) (rests (get_or ins (get_or s p 0) 0) (trees ins (drop (p + 1) s)))

node_read : (ins : List ℕ) (a : ℕ) (G : Terms ⊥) → 0 < letters_all (put (symbol_of ins a) G) → (a < length ins) × (get_or ins a 0 ≤ count G) × (put (symbol_of ins a) G ≡ more (node a (firsts (get_or ins a 0) G)) (rests (get_or ins a 0) G))
unfolding put symbol_of letters_all
node_read ins a G h = go (ltb a (length ins)) refl h
  where
    deep : (b : Bool) → leb (get_or ins a 0) (count G) ≡ b → 0 < letters_all (node_if b a (get_or ins a 0) G) → (get_or ins a 0 ≤ count G) × (node_if b a (get_or ins a 0) G ≡ more (node a (firsts (get_or ins a 0) G)) (rests (get_or ins a 0) G))
    deep true e h = (leb-true _ _ e, refl)
    deep false e h = absurd (omega arith)

    go : (b : Bool) → ltb a (length ins) ≡ b → 0 < letters_all (put (symbol_if b a (get_or ins a 0)) G) → (a < length ins) × (get_or ins a 0 ≤ count G) × (put (symbol_if b a (get_or ins a 0)) G ≡ more (node a (firsts (get_or ins a 0) G)) (rests (get_or ins a 0) G))
    go true e h = let d = deep (leb (get_or ins a 0) (count G)) refl h in (ltb-true _ _ e, d.0, d.1)
    go false e h = absurd (omega arith)

pub node_at : (ins s : List ℕ) (p : ℕ) → letters_all (trees ins s) ≡ length s → p < length s → NodeAt ins s p
unfolding trees forest
node_at ins s p w h =
    let e : drop p s ≡ get_or s p 0 ∷ drop (p + 1) s = rw add-one (drop-cons s p 0 h) in
    let a : letters_all (trees ins (drop p s)) ≡ length (drop p s) = all_drop (symbol_of ins) s p w in
    let b : 0 < letters_all (trees ins (get_or s p 0 ∷ drop (p + 1) s)) = omega (arith, ap (λ l. letters_all (trees ins l)) e, length-drop p s) in
    let n = node_read ins (get_or s p 0) (trees ins (drop (p + 1) s)) b in
    record { known = n.0; enough = n.1; there = ap (trees ins) e ∙ n.2 }

-- ---- from child to child
-- where the ends from position a on are right, they are by letters
pub by_letters : (ins s ends : List ℕ) (a : ℕ) → Ends ins s ends a (length s) → EndsFrom {A = ⊥} (symbol_of ins) s ends a
unfolding trees tree
by_letters ins s ends a E k g h = E k g h ∙ ap (◌+◌ k) (sym (letters_size (tree ins (drop k s))))

-- the k-th tree from position p on
module _ (ins s ends : List ℕ) (I : Input ins s ends) (k p : ℕ) where
  pub place : k ≤ count (trees ins (drop p s)) → Place {A = ⊥} (symbol_of ins) s ends k p
  unfolding trees
  place h = place_from (symbol_of ins) 0 s ends 0 (by_letters ins s ends 0 I.right) k p (omega arith) h

  pub place_in : k < count (trees ins (drop p s)) → hop ends k p < length s
  unfolding trees
  place_in h = place_inside {A = ⊥} (symbol_of ins) 0 s ends 0 (by_letters ins s ends 0 I.right) k p (omega arith) h

-- ---- levels
deep_child : (F : Terms ⊥) (r k : ℕ) → k < r → r ≤ count F → levels (first (rests k F)) ≤ deepest (firsts r F)
unfolding levels deepest first rests firsts count
deep_child none r k h g = absurd (omega arith)
deep_child (more t ts) ℕ.zero k h g = absurd (omega arith)
deep_child (more t ts) (suc r) ℕ.zero h g = omega arith
deep_child (more t ts) (suc r) (suc k) h g = omega (arith, deep_child ts r k (omega arith) (omega arith))

-- each child of the node at p has a level less
pub child_flat : (ins s ends : List ℕ) → Input ins s ends → (p k : ℕ) → p < length s → k < get_or ins (get_or s p 0) 0 → levels (tree ins (drop (hop ends k (p + 1)) s)) < levels (tree ins (drop p s))
unfolding trees tree first levels
child_flat ins s ends I p k h g =
    let N = node_at ins s p I.whole h in
    let w = place ins s ends I k (p + 1) (omega (arith, N.enough)) in
    let d = deep_child (trees ins (drop (p + 1) s)) (get_or ins (get_or s p 0) 0) k g N.enough in
    omega (arith, d, ap (λ F. levels (first F)) w.terms_there, ap (λ F. levels (first F)) N.there)

-- and there is at least one
pub some_level : (ins s : List ℕ) → letters_all (trees ins s) ≡ length s → (p : ℕ) → p < length s → 0 < levels (tree ins (drop p s))
unfolding tree first levels
some_level ins s w p h = omega (arith, ap (λ F. levels (first F)) (node_at ins s p w h).there)

-- ---- what states make of trees
module _ {B : Type 0} (rhs : (ℕ → ℕ → B) → ℕ → ℕ → B) (z : B) where
  below_rests : (F : Terms ⊥) (k q : ℕ) → k < count F → made_below rhs z F (suc k) q ≡ made rhs z (first (rests k F)) q
  unfolding made_below count rests first
  below_rests none k q h = absurd (omega arith)
  below_rests (more d ds) ℕ.zero q h = refl
  below_rests (more d ds) (suc k) q h = below_rests ds k q (omega arith)

  -- a call is made on one of the first n trees, where it is on one of n
  below_firsts : (F : Terms ⊥) (n i q : ℕ) → i ≤ n → n ≤ count F → made_below rhs z (firsts n F) i q ≡ made_below rhs z F i q
  unfolding made_below count firsts
  below_firsts none ℕ.zero i q h g = refl
  below_firsts none (suc n) i q h g = absurd (omega arith)
  below_firsts (more d ds) ℕ.zero ℕ.zero q h g = refl
  below_firsts (more d ds) ℕ.zero (suc i) q h g = absurd (omega arith)
  below_firsts (more d ds) (suc n) ℕ.zero q h g = refl
  below_firsts (more d ds) (suc n) (suc ℕ.zero) q h g = refl
  below_firsts (more d ds) (suc n) (suc (suc i)) q h g = below_firsts ds n (suc i) q (omega arith) (omega arith)

  -- on the node at p
  made_node : (ins s : List ℕ) (p : ℕ) → NodeAt ins s p → (q : ℕ) → made rhs z (tree ins (drop p s)) q ≡ rhs (λ i r. made_below rhs z (firsts (get_or ins (get_or s p 0) 0) (trees ins (drop (p + 1) s))) i r) q (get_or s p 0)
  unfolding made tree first
  made_node ins s p N q = ap (λ G. made rhs z (first G) q) N.there

-- two ways to make calls that agree on the calls that can be made
pub spell_same : (g g' : ℕ → ℕ → List ℕ) (n r : ℕ) (ms : List Mark) → ((j : ℕ) → j < length ms → Callable n r (get_or ms j (0, 0))) → ((i q : ℕ) → 0 < i → i ≤ r → q < n → g i q ≡ g' i q) → spell g ms ≡ spell g' ms
unfolding spell
spell_same g g' n r [] k e = refl
spell_same g g' n r ((ℕ.zero, b) ∷ ms) k e = ap (◌∷◌ b) (spell_same g g' n r ms (λ j h. k (suc j) (omega arith)) e)
spell_same g g' n r ((suc i, q) ∷ ms) k e =
    let c = k 0 (omega arith) (omega arith) in
    ap₂ ◌++◌ (e (suc i) q (omega arith) c.0 c.1) (spell_same g g' n r ms (λ j h. k (suc j) (omega arith)) e)

-- ---- a state on a node
module _ (ins starts bytes s : List ℕ) (T : Table ins starts bytes) (q p : ℕ) (h : q < T.states) (N : NodeAt ins s p) where
  -- the calls of its right-hand side can be made
  rhs_callable : (j : ℕ) → j < length (body_at ins starts bytes q (get_or s p 0)) → Callable T.states (get_or ins (get_or s p 0) 0) (get_or (body_at ins starts bytes q (get_or s p 0)) j (0, 0))
  unfolding body_at
  rhs_callable j l =
      let a = get_or s p 0 in
      let less = number_less ins q T.states a h N.known in
      let long = pairs_length bytes (get_or starts (body_number ins q a + 1) 0) (T.inside (body_number ins q a + 1) (omega arith)) in
      let d = getD_slice (get_or starts (body_number ins q a) 0) (get_or starts (body_number ins q a + 1) 0) j (pairs bytes) long l in
      rw d.1 (T.callable q a (get_or starts (body_number ins q a) 0 + j) h N.known (omega arith) d.0)

  pub apply_walk : applied ins starts bytes s q p ≡ walked ins starts bytes s (p + 1) (get_or starts (body_number ins q (get_or s p 0)) 0) (get_or starts (body_number ins q (get_or s p 0) + 1) 0)
  unfolding body_at
  apply_walk =
      let a = get_or s p 0 in
      let F = trees ins (drop (p + 1) s) in
      let B = body_at ins starts bytes in
      made_node (λ g q a. spell g (B q a)) (0 ∷ []) ins s p N q
      ∙ spell_same (λ i r. called B (firsts (get_or ins a 0) F) i r) (λ i r. called B F i r) T.states (get_or ins a 0) (B q a) rhs_callable
      (λ i r l m o. below_firsts (λ g q a. spell g (B q a)) (0 ∷ []) F (get_or ins a 0) i r m N.enough)

  pub apply_levels : (depths : List ℕ) → applied_levels ins starts bytes depths s q p ≡ walked_levels ins starts bytes depths s (p + 1) (get_or starts (body_number ins q (get_or s p 0)) 0) (get_or starts (body_number ins q (get_or s p 0) + 1) 0)
  unfolding levels_by body_at
  apply_levels depths =
      let a = get_or s p 0 in
      let F = trees ins (drop (p + 1) s) in
      let R = levels_by ins starts bytes depths in
      made_node R 0 ins s p N q
      ∙ lowest_same (λ i r. made_below R 0 (firsts (get_or ins a 0) F) i r) (λ i r. made_below R 0 F i r) T.states (get_or ins a 0) (slice (get_or starts (body_number ins q a) 0) (get_or starts (body_number ins q a + 1) 0) depths) (body_at ins starts bytes q a) rhs_callable
      (λ i r l m o. below_firsts R 0 F (get_or ins a 0) i r m N.enough)

-- ---- one mark
module _ (ins starts bytes s : List ℕ) (below j to : ℕ) (less : j < to) (inside : 2 * to ≤ length bytes) where
  pub walk_symbol : get_or bytes (2 * j) 0 ≡ 0 → walked ins starts bytes s below j to ≡ get_or bytes (2 * j + 1) 0 ∷ walked ins starts bytes s below (j + 1) to
  unfolding spell
  walk_symbol e = rw (part_cons bytes j to less inside, e)

  pub walk_call : (i : ℕ) → get_or bytes (2 * j) 0 ≡ suc i → walked ins starts bytes s below j to ≡ called (body_at ins starts bytes) (trees ins (drop below s)) (suc i) (get_or bytes (2 * j + 1) 0) ++ walked ins starts bytes s below (j + 1) to
  unfolding spell
  walk_call i e = rw (part_cons bytes j to less inside, e)

  -- and the levels
  module _ (depths : List ℕ) (deep : to ≤ length depths) where
    mark_depth : slice j to depths ≡ get_or depths j 0 ∷ slice (j + 1) to depths
    mark_depth = rw add-one (slice-cons j to depths 0 less deep)

    pub levels_symbol : get_or bytes (2 * j) 0 ≡ 0 → walked_levels ins starts bytes depths s below j to ≡ max (get_or depths j 0 + 1) (walked_levels ins starts bytes depths s below (j + 1) to)
    unfolding lowest
    levels_symbol e = rw (part_cons bytes j to less inside, mark_depth, e)

    levels_call : (i : ℕ) → get_or bytes (2 * j) 0 ≡ suc i → walked_levels ins starts bytes depths s below j to ≡ max (get_or depths j 0 + made_below (levels_by ins starts bytes depths) 0 (trees ins (drop below s)) (suc i) (get_or bytes (2 * j + 1) 0)) (walked_levels ins starts bytes depths s below (j + 1) to)
    unfolding lowest
    levels_call i e = rw (part_cons bytes j to less inside, mark_depth, e)

-- the call at mark j, over the trees from position below on: the child's place, and what the call writes
pub record CallAt (ins starts bytes s ends : List ℕ) (n below j to : ℕ) : Type 0 where
  pub state : get_or bytes (2 * j + 1) 0 < n
  pub hops : (k : ℕ) → k < get_or bytes (2 * j) 0 - 1 → hop ends k below < length ends
  pub after : below ≤ hop ends (get_or bytes (2 * j) 0 - 1) below
  pub inside : hop ends (get_or bytes (2 * j) 0 - 1) below < length s
  pub writes : walked ins starts bytes s below j to ≡ applied ins starts bytes s (get_or bytes (2 * j + 1) 0) (hop ends (get_or bytes (2 * j) 0 - 1) below) ++ walked ins starts bytes s below (j + 1) to
  pub levels : (depths : List ℕ) → to ≤ length depths → walked_levels ins starts bytes depths s below j to ≡ max (get_or depths j 0 + applied_levels ins starts bytes depths s (get_or bytes (2 * j + 1) 0) (hop ends (get_or bytes (2 * j) 0 - 1) below)) (walked_levels ins starts bytes depths s below (j + 1) to)

pub call_at : (ins starts bytes s ends : List ℕ) (n below j to : ℕ) → Input ins s ends → j < to → 2 * to ≤ length bytes → (get_or bytes (2 * j) 0 ≡ 0 → ⊥) → Callable n (count (trees ins (drop below s))) (mark_at bytes j) → CallAt ins starts bytes s ends n below j to
unfolding trees tree
call_at ins starts bytes s ends n below j to I less inside some c = go (get_or bytes (2 * j) 0) refl
  where
    child_made : {B : Type 0} (rhs : (ℕ → ℕ → B) → ℕ → ℕ → B) (z : B) (i : ℕ) → Place {A = ⊥} (symbol_of ins) s ends i below → i < count (trees ins (drop below s)) → made_below rhs z (trees ins (drop below s)) (suc i) (get_or bytes (2 * j + 1) 0) ≡ made rhs z (tree ins (drop (hop ends i below) s)) (get_or bytes (2 * j + 1) 0)
    child_made rhs z i w l = below_rests rhs z (trees ins (drop below s)) i (get_or bytes (2 * j + 1) 0) l ∙ ap (λ G. made rhs z (first G) (get_or bytes (2 * j + 1) 0)) (sym w.terms_there)

    go : (i : ℕ) → get_or bytes (2 * j) 0 ≡ i → CallAt ins starts bytes s ends n below j to
    go ℕ.zero e = absurd (some e)
    go (suc i) e =
        let m = rw (pairs_at bytes j (omega arith)) at c in
        let ok = m (omega arith) in
        let z : get_or bytes (2 * j) 0 - 1 ≡ i = omega arith in
        let w = place ins s ends I i below (omega arith) in
        record {
          state = ok.1;
          hops = λ k h. omega (arith, I.long, place_in ins s ends I k below (omega arith));
          after = rw z w.after;
          inside = rw z (place_in ins s ends I i below (omega arith));
          writes = rw z (walk_call ins starts bytes s below j to less inside i e ∙ ap (λ v. v ++ walked ins starts bytes s below (j + 1) to) (child_made (λ g q a. spell g (body_at ins starts bytes q a)) (0 ∷ []) i w (omega arith)));
          levels = λ depths deep. rw z (levels_call ins starts bytes s below j to less inside depths deep i e ∙ ap (λ l. max (get_or depths j 0 + l) (walked_levels ins starts bytes depths s below (j + 1) to)) (child_made (levels_by ins starts bytes depths) 0 i w (omega arith)));
        }

-- ---- steps from tree to tree
pub hop_next : (ends : List ℕ) (n p : ℕ) → 0 < n → hop ends n p ≡ hop ends (n - 1) (get_or ends p 0)
unfolding hop
hop_next ends ℕ.zero p h = absurd (omega arith)
hop_next ends (suc n) p h = let e : suc n - 1 ≡ n = omega arith in rw e

pub hop_more : (ends : List ℕ) (n k p : ℕ) → k < n - 1 → ((k : ℕ) → k < n → hop ends k p < length ends) → hop ends k (get_or ends p 0) < length ends
unfolding hop
hop_more ends n k p h g = g (suc k) (omega arith)

-- ---- what the two functions ask
pub number_fits : {ins starts bytes s ends : List ℕ} {q p left a : ℕ} → Ready ins starts bytes s ends q p left → a ≡ get_or s p 0 → body_number ins q a + 1 < length starts
number_fits {ins} {s = s} {q} {p} {left} {a} R e =
    let N = node_at ins s p R.input.whole R.place in
    omega (arith, number_less ins q R.table.states a R.state (rw e N.known), R.table.long)

module _ {ins starts bytes s ends : List ℕ} {q p left : ℕ} (R : Ready ins starts bytes s ends q p left) where
  pub body_fits : body_number ins q (get_or s p 0) + 1 < length starts
  body_fits = number_fits R refl

  pub some_left : 0 < left
  some_left = omega (arith, R.few_levels_lem, some_level ins s R.input.whole p R.place)

  -- places where states and trees are noted
  pub few_noted : (q < 256) × (p < 4096)
  few_noted = (omega (arith, R.state, R.table.few_states), omega (arith, R.place, R.input.long, R.all_ends))

  module _ {b from to : ℕ} (e : b ≡ body_number ins q (get_or s p 0)) (f : from ≡ get_or starts b 0) (g : to ≡ get_or starts (b + 1) 0) where
    -- the marks of the right-hand side can be walked, one level less is left, and they are few
    pub body_walk : Walkable ins starts bytes s ends from to (p + 1) (left - 1) × (applied ins starts bytes s q p ≡ walked ins starts bytes s (p + 1) from to) × ((depths : List ℕ) → applied_levels ins starts bytes depths s q p ≡ walked_levels ins starts bytes depths s (p + 1) from to) × (to ≤ from + 64)
    body_walk =
        let N = node_at ins s p R.input.whole R.place in
        let T = R.table in
        let k = N.known in
        let a = get_or s p 0 in
        let n = body_number ins q a in
        let less = number_less ins q T.states a R.state k in
        let f' : from ≡ get_or starts n 0 = f ∙ ap (λ k. get_or starts k 0) e in
        let g' : to ≡ get_or starts (n + 1) 0 = g ∙ ap (λ k. get_or starts (k + 1) 0) e in
        let inside : 2 * to ≤ length bytes = rw g' (T.inside (n + 1) (omega arith)) in (
          record {
            table = T;
            input = R.input;
            ordered = rw (f', g') (T.ordered n less);
            inside = inside;
            callable = λ j h l i. let c = T.callable q a j R.state k (omega arith) (omega arith) i in (omega (arith, c.0, N.enough), c.1);
            few_levels_lem = λ j h l i.
                let c = rw (pairs_at bytes j (omega arith)) at (T.callable q a j R.state k (omega arith) (omega arith)) in
                let d = child_flat ins s ends R.input p (get_or bytes (2 * j) 0 - 1) R.place (omega (arith, (c i).0)) in
                omega (arith, d, R.few_levels_lem);
            all_starts = R.all_starts;
            all_ends = R.all_ends;
          },
          rw (f', g') (apply_walk ins starts bytes s T q p R.state N),
          λ depths. rw (f', g') (apply_levels ins starts bytes s T q p R.state N depths),
          rw (f', g') (T.few n less),
        )

-- the calls of a walk
pub call_in : {ins starts bytes s ends : List ℕ} {from to below left : ℕ} (W : Walkable ins starts bytes s ends from to below left) (j : ℕ) → from ≤ j → j < to → (get_or bytes (2 * j) 0 ≡ 0 → ⊥) → CallAt ins starts bytes s ends W.table.states below j to
call_in {ins} {starts} {bytes} {s} {ends} {from} {to} {below} W j h g e = call_at ins starts bytes s ends W.table.states below j to W.input g W.inside e (W.callable j h g)

pub walk_end : (ins starts bytes s : List ℕ) (below j to : ℕ) → j ≤ to → to ≤ j → walked ins starts bytes s below j to ≡ []
unfolding spell
walk_end ins starts bytes s below j to h g = let e : j ≡ to = omega arith in rw (e, slice_empty to (pairs bytes))

pub levels_end : (ins starts bytes depths s : List ℕ) (below j to : ℕ) → j ≤ to → to ≤ j → walked_levels ins starts bytes depths s below j to ≡ 0
unfolding lowest
levels_end ins starts bytes depths s below j to h g = let e : j ≡ to = omega arith in rw (e, slice_empty to (pairs bytes))

-- a call (i, x) of a walk: the child can be found, at p, and the state x applied there
module _ {ins starts bytes s ends : List ℕ} {from to below left : ℕ} (W : Walkable ins starts bytes s ends from to below left) (j : ℕ) (h : from ≤ j) (g : j < to) where
  pub to_skip : {i : ℕ} → i ≡ get_or bytes (2 * j) 0 → (i ≡ 0 → ⊥) → (k : ℕ) → k < i - 1 → hop ends k below < length ends
  to_skip e some k l = (call_in W j h g (λ z. some (e ∙ z))).hops k (omega arith)

  pub to_apply : {i x p : ℕ} → i ≡ get_or bytes (2 * j) 0 → (i ≡ 0 → ⊥) → x ≡ get_or bytes (2 * j + 1) 0 → p ≡ hop ends (i - 1) below
      → Ready ins starts bytes s ends x p left × (walked ins starts bytes s below j to ≡ applied ins starts bytes s x p ++ walked ins starts bytes s below (j + 1) to)
      × ((depths : List ℕ) → to ≤ length depths → walked_levels ins starts bytes depths s below j to ≡ max (get_or depths j 0 + applied_levels ins starts bytes depths s x p) (walked_levels ins starts bytes depths s below (j + 1) to))
  to_apply {i} {x} {p} e some f k =
      let c = call_in W j h g (λ z. some (e ∙ z)) in
      let z : p ≡ hop ends (get_or bytes (2 * j) 0 - 1) below = k ∙ ap (λ n. hop ends (n - 1) below) e in
      (record { table = W.table; input = W.input; state = rw f c.state; place = rw z c.inside; few_levels_lem = rw z (W.few_levels_lem j h g (pos_of (λ y. some (e ∙ y)))); all_starts = W.all_starts; all_ends = W.all_ends }, rw (z, f) c.writes, λ depths deep. rw (z, f) (c.levels depths deep))
    where
      pos_of : (get_or bytes (2 * j) 0 ≡ 0 → ⊥) → 0 < get_or bytes (2 * j) 0
      pos_of h = omega (arith, h)
