-- A walk over the code of an output tree: what each step does to the text still to come.
-- Assumes nothing.
use Prim.Native.Nat.{ℕ, zero, suc, ◌+◌, ◌-◌, ◌≤◌, ◌<◌}
use native.Mathlib.Decide.{dec_lt}
use native.Mathlib.Numerals.{add-one}
use native.Mathlib.Omega.{arith}
use mathlib.Core.Bool.{Bool, true, false}
use mathlib.Core.List.{List, [], ◌∷◌, ◌++◌, append_assoc, append-nil}
use mathlib.Core.Logic.{◌⊎◌, inl, inr}
use mathlib.Core.Path.{◌≡◌, refl, sym, ap, ◌∙◌}
use lib.Dec.{leb}
use lib.ListN.{length, get_or, take, drop, set, length-set, drop_of_length-le}
use lib.Seq.{take-suc, take-suc-set}
use Rattle.std.proofs.lemmas.List.{reverse-append}
use borrow.Author.Tests.{le-leb, leb-true}
use Rattle.theory.specs.Term.{Terms, node, none, more, count}
use Rattle.theory.specs.Inner.Forests.{letters_all}
use Rattle.trees.specs.Inner.Decode.{symbol, firsts, rests, node_if, put, forest, first}
use Rattle.trees.specs.Inner.Symbols.{symbol_of, trees, tree, IsTree}
use Rattle.trees.proofs.Codes.{single}
use Rattle.trees.proofs.Extents.{letter_here}
use Rattle.trees.proofs.Forest.{all_drop}
use Rattle.trees.proofs.Letters.{symbol_there as symbol_letter, symbol_missing}
use Rattle.xml.specs.Xml.{xml, xmls, opening, closing, empty}
use Rattle.xml.specs.Inner.Measured.{WholeOutput}
use Rattle.xml.specs.Inner.Walk.{open_node, frames, AllKnown, rest, rest_behind, Starts, Walk, to_come, tags_left, Steps}
use Rattle.xml.specs.declared.tag.Tag.{Tag}
use Rattle.xml.specs.declared.tag.Tag.TheVariants as tags
use Rattle.xml.specs.declared.walk.OpenNode.{OpenNode}
use Rattle.xml.specs.declared.walk.TagWalk.{TagWalk}

-- ---- the open nodes
-- one more, or another one in the place of the last
frames_set : (nodes : List OpenNode) (d : ℕ) (x : OpenNode) → d < length nodes → frames (set nodes d x) (d + 1) ≡ x ∷ frames nodes d
unfolding frames
frames_set nodes d x h = rw (add-one, take-suc-set nodes d x h) (reverse-append (take d nodes) (x ∷ []))

-- the last one, before the others
frames_last : (nodes : List OpenNode) (d : ℕ) (x : OpenNode) → d < length nodes → frames nodes (d + 1) ≡ get_or nodes d x ∷ frames nodes d
unfolding frames
frames_last nodes d x h = rw (add-one, take-suc nodes d x h) (reverse-append (take d nodes) (get_or nodes d x ∷ []))

-- ---- the trees from a symbol on
-- a symbol that is not broken is known
symbol_known : (outs : List ℕ) (k : ℕ) (s : List ℕ) → 0 < letters_all (trees outs (k ∷ s)) → k < length outs
unfolding trees forest put letters_all
symbol_known outs k s h = go (dec_lt k (length outs))
  where
    go : Dec (k < length outs) → k < length outs
    go (yes l) = l
    go (no l) = absurd (omega (arith, rw (symbol_missing {A = ⊥} outs k (omega arith)) at h))

-- and there are as many trees behind it as its rank says
rank_behind : (k r : ℕ) (ts : Terms ⊥) → 0 < letters_all (put (symbol k r) ts) → r ≤ count ts
unfolding put letters_all
rank_behind k r ts h = go (leb r (count ts)) refl h
  where
    go : (b : Bool) → leb r (count ts) ≡ b → 0 < letters_all (node_if b k r ts) → r ≤ count ts
    go true e h = leb-true r (count ts) e
    go false e h = absurd (omega arith)

-- the first of them begins with the symbol and has as many of those behind as its rank says
pub record Found (outs s : List ℕ) (at k : ℕ) : Type 0 where
  pub known : k < length outs
  pub enough : get_or outs k 0 ≤ count (trees outs (drop (at + 1) s))
  pub here : trees outs (drop at s) ≡ more (node k (firsts (get_or outs k 0) (trees outs (drop (at + 1) s)))) (rests (get_or outs k 0) (trees outs (drop (at + 1) s)))

pub found : (outs s : List ℕ) → IsTree outs s → (at : ℕ) → at < length s → Found outs s at (get_or s at 0)
unfolding trees forest put
found outs s one at inside =
    let k = get_or s at 0 in
    let n = get_or outs k 0 in
    let G = trees outs (drop (at + 1) s) in
    let here = letter_here s at 0 inside refl in
    let all = rw here at (all_drop (symbol_of outs) s at one.all) in
    let known = symbol_known outs k (drop (at + 1) s) (omega (arith, all)) in
    let put_here : trees outs (k ∷ drop (at + 1) s) ≡ put (symbol k n) G = ap (λ l. put l G) (symbol_letter outs k known) in
    let enough = rank_behind k n G (omega (arith, all, ap letters_all put_here)) in
    record { known = known; enough = enough; here = ap (trees outs) here ∙ put_here ∙ rw (le-leb n (count G) enough) }

-- ---- the text still to come
module _ (fs : List OpenNode) where
  -- a node with no children
  empty_first : (k r : ℕ) (G : Terms ⊥) → r ≡ 0 → xml (node k (firsts r G)) ++ rest fs (rests r G) ≡ empty k ++ rest fs G
  unfolding xml firsts rests
  empty_first k r G e = rw e

  -- one with children is open behind its first tag
  node_first : (k r : ℕ) (G : Terms ⊥) → 0 < r → r ≤ count G → xml (node k (firsts r G)) ++ rest fs (rests r G) ≡ opening k ++ rest (open_node k r ∷ fs) G
  unfolding xml firsts rests rest count
  node_first k zero G h l = absurd (omega arith)
  node_first k (suc r) none h l = absurd (omega arith)
  node_first k (suc r) (more t ts) h l = rw (append_assoc (opening k), append_assoc (xml t ++ xmls (firsts r ts)))

  -- a child of the last open node comes
  child_next : (k n : ℕ) (ts : Terms ⊥) → 0 < count ts → 0 < n → rest (open_node k n ∷ fs) ts ≡ rest_behind (open_node k (n - 1) ∷ fs) ts
  unfolding rest xml firsts rests count
  child_next k n none h l = absurd (omega arith)
  child_next k zero (more t ts) h l = absurd (omega arith)
  child_next k (suc n) (more t ts) h l = let p : suc n - 1 ≡ n = omega arith in rw p (append_assoc (xml t) (xmls (firsts n ts)) (closing k ++ rest fs (rests n ts)))

  -- none does, and the node is closed
  closed_next : (k n : ℕ) (ts : Terms ⊥) → (n ≡ 0) ⊎ (ts ≡ none) → rest (open_node k n ∷ fs) ts ≡ closing k ++ rest fs ts
  unfolding rest xml firsts rests
  closed_next k n ts (inl e) = rw e
  closed_next k zero ts (inr e) = refl
  closed_next k (suc n) ts (inr e) = rw e

-- no node is open: the root comes
root_next : (ts : Terms ⊥) → rest [] ts ≡ rest_behind [] ts
unfolding rest xml
root_next none = refl
root_next (more t ts) = refl

-- ---- the steps
module _ {outs s : List ℕ} {w : TagWalk} (W : Walk outs s w) where
  -- the symbol at w.at is one of the alphabet
  pub symbol_there : w.at < length s → get_or s w.at 0 < length outs
  symbol_there h = (found outs s W.one w.at h).known

  module _ (h : w.at < length s) (k : ℕ) (e : k ≡ get_or s w.at 0) where
    found_here : Found outs s w.at k
    found_here = rw e (found outs s W.one w.at h)

    -- it has no children
    pub entered_leaf : get_or outs k 0 ≡ 0 → Steps outs s (rest_behind (frames w.nodes w.depth) (trees outs (drop w.at s))) (tags_left s w) (record { at = w.at + 1; depth = w.depth; nodes = w.nodes }) (tags.Empty k)
    entered_leaf z = record {
      walk = record { one = W.one; kinds = W.kinds; small = W.small; inside = omega arith; shallow = omega (arith, W.shallow); long = W.long; known = W.known };
      known = omega (arith, found_here.known, W.kinds);
      text = ap (rest_behind (frames w.nodes w.depth)) found_here.here ∙ empty_first (frames w.nodes w.depth) k (get_or outs k 0) (trees outs (drop (w.at + 1) s)) z;
      fewer = omega arith;
    }

    -- it has, and its node is open from here on
    pub entered_node : (get_or outs k 0 ≡ 0 → ⊥) → Steps outs s (rest_behind (frames w.nodes w.depth) (trees outs (drop w.at s))) (tags_left s w) (record { at = w.at + 1; depth = w.depth + 1; nodes = set w.nodes w.depth (open_node k (get_or outs k 0)) }) (tags.Opening k)
    entered_node z =
        let n = get_or outs k 0 in
        let some : 0 < n = omega arith in
        let fs = frames w.nodes w.depth in
        let low : k < 64 = omega (arith, found_here.known, W.kinds) in
        let q = frames_set w.nodes w.depth (open_node k n) (omega (arith, W.long, W.shallow, W.small)) in
        record {
          walk = record {
            one = W.one;
            kinds = W.kinds;
            small = W.small;
            inside = omega arith;
            shallow = omega (arith, W.shallow);
            long = length-set w.nodes w.depth (open_node k n) ∙ W.long;
            known = rw q (low, W.known);
          };
          known = low;
          text =
              ap (rest_behind fs) found_here.here
              ∙ node_first fs k n (trees outs (drop (w.at + 1) s)) some found_here.enough
              ∙ ap (λ f. opening k ++ rest f (trees outs (drop (w.at + 1) s))) (sym q);
          fewer = omega arith;
        }

  -- no node is open: the next tag is that of the root
  pub root_step : w.depth ≡ 0 → to_come outs s w ≡ rest_behind (frames w.nodes w.depth) (trees outs (drop w.at s))
  unfolding frames
  root_step z = rw z (root_next (trees outs (drop w.at s)))

  -- or there is none
  pub end_step : w.depth ≡ 0 → w.at ≡ length s → to_come outs s w ≡ []
  unfolding frames rest xml trees forest
  end_step z e = rw (z, drop_of_length-le s {i = w.at} (omega arith))

  -- d nodes are open below the last one
  module _ (d : ℕ) (e : w.depth ≡ d + 1) (v : OpenNode) where
    abbrev pub last : OpenNode
    last = get_or w.nodes d v

    room : d < length w.nodes
    room = omega (arith, W.long, W.shallow, W.small)

    opened : frames w.nodes w.depth ≡ last ∷ frames w.nodes d
    opened = ap (frames w.nodes) e ∙ frames_last w.nodes d v room

    last_known : (last.symbol < 64) × AllKnown (frames w.nodes d)
    last_known = rw opened at W.known

    -- a child of it comes, and is counted
    module _ (h : w.at < length s) (l : 0 < last.to_come) where
      abbrev pub counted : List OpenNode
      counted = set w.nodes d (open_node last.symbol (last.to_come - 1))

      counted_frames : frames counted w.depth ≡ open_node last.symbol (last.to_come - 1) ∷ frames w.nodes d
      counted_frames = ap (frames counted) e ∙ frames_set w.nodes d (open_node last.symbol (last.to_come - 1)) room

      pub child_walk : Walk outs s (record { at = w.at; depth = w.depth; nodes = counted })
      child_walk = record {
        one = W.one;
        kinds = W.kinds;
        small = W.small;
        inside = W.inside;
        shallow = W.shallow;
        long = length-set w.nodes d (open_node last.symbol (last.to_come - 1)) ∙ W.long;
        known = rw counted_frames last_known;
      }

      pub child_step : to_come outs s w ≡ rest_behind (frames counted w.depth) (trees outs (drop w.at s))
      unfolding count
      child_step =
          let ts = trees outs (drop w.at s) in
          let some : 0 < count ts = rw (found outs s W.one w.at h).here (omega arith) in
          rw (opened, counted_frames) (child_next (frames w.nodes d) last.symbol last.to_come ts some l)

    -- it is closed
    pub close_step : (last.to_come ≡ 0) ⊎ (length s ≤ w.at) → Steps outs s (to_come outs s w) (tags_left s w) (record { at = w.at; depth = d; nodes = w.nodes }) (tags.Closing last.symbol)
    unfolding trees forest
    close_step x = record {
      walk = record { one = W.one; kinds = W.kinds; small = W.small; inside = W.inside; shallow = omega (arith, W.shallow); long = W.long; known = last_known.1 };
      known = last_known.0;
      text = rw opened (closed_next (frames w.nodes d) last.symbol last.to_come (trees outs (drop w.at s)) (done x));
      fewer = omega arith;
    }
      where
        done : (last.to_come ≡ 0) ⊎ (length s ≤ w.at) → (last.to_come ≡ 0) ⊎ (trees outs (drop w.at s) ≡ none)
        done (inl z) = inl z
        done (inr l) = inr (ap (forest (symbol_of outs)) (drop_of_length-le s l))

-- what is still to come, said in another way
pub restart : {outs s x y : List ℕ} {m : ℕ} {w : TagWalk} {t : Tag} → y ≡ x → Steps outs s x m w t → Steps outs s y m w t
restart e S = record { walk = S.walk; known = S.known; text = e ∙ S.text; fewer = S.fewer }

-- ---- the whole walk
-- before its first step all of the text is still to come
pub start_text : (outs s : List ℕ) → IsTree outs s → (w : TagWalk) → Starts w → to_come outs s w ≡ xml (tree outs s)
unfolding frames rest xml tree trees
start_text outs s one w b = rw (b.0, b.1) (ap xmls (single (forest (symbol_of outs) s) one.one) ∙ append-nil (xml (first (forest (symbol_of outs) s))))

pub walk_start : {outs s : List ℕ} → WholeOutput outs s → length outs ≤ 64 → (w : TagWalk) → Starts w → Walk outs s w
unfolding frames
walk_start O h w b = record {
  one = O.one;
  kinds = h;
  small = O.small;
  inside = omega (arith, b.0);
  shallow = omega (arith, b.1);
  long = b.2;
  known = rw (b.1) tt;
}
