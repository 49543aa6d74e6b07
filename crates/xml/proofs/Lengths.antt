-- How long the text of a tree is: the tags of its symbols, added up along its code.
-- Assumes nothing.
use Prim.Native.Nat.{ℕ, zero, suc, ◌+◌, ◌*◌, ◌≤◌}
use native.Mathlib.Omega.{arith}
use mathlib.Core.List.{List, [], ◌∷◌, ◌++◌}
use mathlib.Core.Path.{◌≡◌, refl, ap, ◌∙◌}
use lib.ListN.{length, get_or, drop, length-append, drop_of_length-le}
use Rattle.theory.specs.Term.{Tree, Terms, var, node, none, more, count}
use Rattle.trees.specs.Code.{Ranked, AllRanked, code, preorder, preorders}
use Rattle.trees.specs.Inner.Symbols.{tree, IsTree}
use Rattle.trees.proofs.Letters.{ranked_tree}
use Rattle.trees.proofs.Trees.{whole_coded}
use Rattle.xml.specs.Xml.{xml, xmls, closing}
use Rattle.xml.specs.Inner.Measured.{node_size}

-- how many bytes the tags of these symbols have
abbrev tags_size : List ℕ → List ℕ → ℕ
tags_size outs [] = 0
tags_size outs (k ∷ s) = node_size (get_or outs k 0) + tags_size outs s

-- a node's tags stand around the text of its children
node_text : (k : ℕ) (ts : Terms ⊥) → length (xml (node k ts)) ≡ node_size (count ts) + length (xmls ts)
unfolding xml count
node_text k none = refl
node_text k (more t ts) = omega (arith, length-append (xmls (more t ts)) (closing k))

module _ (outs : List ℕ) where
  tags_append : (s w : List ℕ) → tags_size outs (s ++ w) ≡ tags_size outs s + tags_size outs w
  tags_append [] w = omega arith
  tags_append (k ∷ s) w = omega (arith, tags_append s w)

  mutual
    unfolding xml preorder Ranked

    text_size : (t : Tree) → Ranked (λ x. ⊥) outs t → length (xml t) ≡ tags_size outs (code t)
    text_size (var x) r = absurd x
    text_size (node k ts) r = omega (arith, node_text k ts, ap node_size r.1, texts_size ts r.2)

    texts_size : (ts : Terms ⊥) → AllRanked (λ x. ⊥) outs ts → length (xmls ts) ≡ tags_size outs (preorders (λ x. absurd x) (λ k. k) ts)
    texts_size none r = refl
    texts_size (more t ts) r = omega (arith, length-append (xml t) (xmls ts), tags_append (code t) (preorders (λ x. absurd x) (λ k. k) ts), text_size t r.0, texts_size ts r.1)

-- the text of the tree whose code s is
whole_text : (outs s : List ℕ) → IsTree outs s → length (xml (tree outs s)) ≡ tags_size outs s
whole_text outs s W =
    let w = whole_coded outs s W in
    text_size outs (tree outs s) (ranked_tree outs (tree outs s) w.0) ∙ ap (tags_size outs) w.1

-- ---- the loop
-- the tags of the symbols before i have this size
pub record Added (outs s : List ℕ) (size i : ℕ) : Type 0 where
  pub inside : i ≤ length s
  pub sized : size + tags_size outs (drop i s) ≡ tags_size outs s
  pub small : size ≤ 9 * i

-- the larger of the two sizes
pub node_small : (r : ℕ) → node_size r ≤ 9
node_small zero = omega arith
node_small (suc r) = omega arith

module _ {outs s : List ℕ} {size i : ℕ} (P : Added outs s size i) where
  pub all_added : length s ≤ i → IsTree outs s → size ≡ length (xml (tree outs s))
  all_added h W = omega (arith, P.sized, ap (tags_size outs) (drop_of_length-le s {i = i} h), whole_text outs s W)
