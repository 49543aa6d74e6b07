-- A walk over the code of an output tree, tag by tag, with the nodes that are open: of each its symbol and how many children are still to come.
use Rattle.std.specs.Prelude.{ℕ, ◌+◌, ◌*◌, ◌-◌, ◌≤◌, ◌<◌, List, [], ◌∷◌, ◌++◌, ◌≡◌, Option, Some, None, length, take, drop, reverse}
use Rattle.theory.specs.Term.{Terms, none, more}
use Rattle.trees.specs.Inner.Decode.{firsts, rests}
use Rattle.trees.specs.Inner.Symbols.{trees, IsTree}
use Rattle.xml.specs.Xml.{xml, xmls, closing}
use Rattle.xml.specs.Inner.Tags.{tag_text, Known}
use Rattle.xml.specs.declared.tag.Tag.{Tag}
use Rattle.xml.specs.declared.walk.OpenNode.{OpenNode}
use Rattle.xml.specs.declared.walk.TagWalk.{TagWalk}

abbrev pub open_node : ℕ → ℕ → OpenNode
open_node k n = record { symbol = k; to_come = n }

-- the first `depth` nodes, the last first
unfoldable pub frames : List OpenNode → ℕ → List OpenNode
frames nodes depth = reverse (take depth nodes)

-- their symbols have codes
abbrev pub AllKnown : List OpenNode → Type 0
AllKnown [] = Unit {0}
AllKnown (f ∷ fs) = (f.symbol < 64) × AllKnown fs

-- the text still to come, where these nodes are open and ts are the trees behind
unfoldable pub rest : List OpenNode → Terms ⊥ → List ℕ
rest [] ts = xmls ts
rest (f ∷ fs) ts = xmls (firsts f.to_come ts) ++ (closing f.symbol ++ rest fs (rests f.to_come ts))

-- the same where the first of these trees is a child of the last open node that is counted no more, or the root
abbrev pub rest_behind : List OpenNode → Terms ⊥ → List ℕ
rest_behind fs none = rest fs none
rest_behind fs (more t ts) = xml t ++ rest fs ts

-- before the first tag
abbrev pub Starts : TagWalk → Type 0
Starts w = (w.at ≡ 0) × (w.depth ≡ 0) × (length w.nodes ≡ 4096)

-- the tree is s; the walk is at symbol w.at, and w.depth nodes are open
pub record Walk (outs s : List ℕ) (w : TagWalk) : Type 0 where
  pub one : IsTree outs s
  pub kinds : length outs ≤ 64
  pub small : length s ≤ 4096
  pub inside : w.at ≤ length s
  pub shallow : w.depth ≤ w.at
  pub long : length w.nodes ≡ 4096
  pub known : AllKnown (frames w.nodes w.depth)

-- the text still to come
abbrev pub to_come : List ℕ → List ℕ → TagWalk → List ℕ
to_come outs s w = rest (frames w.nodes w.depth) (trees outs (drop w.at s))

-- and at most so many tags
abbrev pub tags_left : List ℕ → TagWalk → ℕ
tags_left s w = 2 * (length s - w.at) + w.depth

-- one step: its tag begins the text `before`, and what is still to come is the rest
pub record Steps (outs s before : List ℕ) (most : ℕ) (w : TagWalk) (t : Tag) : Type 0 where
  pub walk : Walk outs s w
  pub known : Known t
  pub text : before ≡ tag_text t ++ to_come outs s w
  pub fewer : tags_left s w < most

-- a step from w to w', or no text is still to come
abbrev pub NextTag : List ℕ → List ℕ → TagWalk → TagWalk → Option Tag → Type 0
NextTag outs s w w' None = to_come outs s w ≡ []
NextTag outs s w w' (Some t) = Steps outs s (to_come outs s w) (tags_left s w) w' t
