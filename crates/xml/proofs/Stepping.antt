-- A step of the walk in the loop that compares a text. (In the one that writes it, the check finds the step alone.)
-- Assumes nothing.
use Prim.Native.Nat.{ℕ, ◌+◌}
use mathlib.Core.List.{List}
use mathlib.Core.Path.{◌≡◌}
use lib.ListN.{length, drop}
use Rattle.xml.specs.Inner.Tags.{tag_text, Begins}
use Rattle.xml.specs.Inner.Walk.{to_come, Steps}
use Rattle.xml.specs.declared.tag.Tag.{Tag}
use Rattle.xml.specs.declared.walk.TagWalk.{TagWalk}
use Rattle.xml.proofs.Comparing.{Comparing, same_word}

module _ {outs s before whole : List ℕ} {most : ℕ} {w : TagWalk} {t : Tag} (S : Steps outs s before most w t) where
  module _ {text : List ℕ} {end : ℕ} (C : Comparing whole text before end) where
    pub same_tag : Begins (tag_text t) (drop end text) → {end' : ℕ} → end' ≡ end + length (tag_text t) → Comparing whole text (to_come outs s w) end'
    same_tag b e = same_word C (tag_text t) (to_come outs s w) S.text b e
