-- A text that begins with a word, or with words one behind the other.
-- Assumes nothing.
use Prim.Native.Nat.{ℕ, ◌+◌, ◌≤◌}
use native.Mathlib.Omega.{arith}
use mathlib.Core.Bool.{Bool}
use mathlib.Core.List.{List, [], ◌∷◌, ◌++◌}
use mathlib.Core.Path.{◌≡◌, refl, ap₂}
use lib.ListN.{length, drop, length-drop}
use lib.Seq.{drop-drop}
use Rattle.theory.proofs.Terms.{conflict}
use Rattle.trees.specs.Refusal.{Decides}
use Rattle.trees.proofs.Deciding.{decides_same}
use Rattle.codes.specs.Codes.{symbol_code}
use Rattle.xml.specs.Xml.{tag}
use Rattle.xml.specs.Inner.Tags.{tag_text, Begins}
use Rattle.xml.specs.declared.tag.Tag.{Tag}
use Rattle.xml.specs.declared.tag.Tag.TheVariants as tags

pub begins_room : (w l : List ℕ) → Begins w l → length w ≤ length l
begins_room [] l b = omega arith
begins_room (x ∷ w) [] b = conflict (cc)
begins_room (x ∷ w) (y ∷ l) b = let t : Begins w l = cc in omega (arith, begins_room w l t)

begins_both : (v w l : List ℕ) → Begins v l → Begins w (drop (length v) l) → Begins (v ++ w) l
begins_both [] w l a b = b
begins_both (x ∷ v) w [] a b = conflict (cc)
begins_both (x ∷ v) w (y ∷ l) a b =
    let h : y ≡ x = cc in
    let t : Begins v l = cc in
    ap₂ ◌∷◌ h (begins_both v w l t b)

begins_first : (v w l : List ℕ) → Begins (v ++ w) l → Begins v l
begins_first [] w l b = refl
begins_first (x ∷ v) w [] b = conflict (cc)
begins_first (x ∷ v) w (y ∷ l) b =
    let h : y ≡ x = cc in
    let t : Begins (v ++ w) l = cc in
    ap₂ ◌∷◌ h (begins_first v w l t)

begins_second : (v w l : List ℕ) → Begins (v ++ w) l → Begins w (drop (length v) l)
begins_second [] w l b = b
begins_second (x ∷ v) w [] b = conflict (cc)
begins_second (x ∷ v) w (y ∷ l) b = let t : Begins (v ++ w) l = cc in begins_second v w l t

-- ---- from a position on
module _ (v w text : List ℕ) (at : ℕ) where
  pub both_at : Begins v (drop at text) → Begins w (drop (at + length v) text) → Begins (v ++ w) (drop at text)
  both_at a b = begins_both v w (drop at text) a (rw (drop-drop (length v) at text) b)

  pub first_at_lem : Begins (v ++ w) (drop at text) → Begins v (drop at text)
  first_at_lem b = begins_first v w (drop at text) b

  pub second_at : Begins (v ++ w) (drop at text) → Begins w (drop (at + length v) text)
  second_at b = rw (drop-drop (length v) at text) at (begins_second v w (drop at text) b)

pub room_at : (w text : List ℕ) (at : ℕ) → at ≤ length text → Begins w (drop at text) → at + length w ≤ length text
room_at w text at h b = omega (arith, begins_room w (drop at text) b, length-drop at text)

-- ---- a tag: a word, the code, and a word
module _ (before behind text : List ℕ) (k at : ℕ) where
  pub no_first : (Begins before (drop at text) → ⊥) → Begins (tag before k behind) (drop at text) → ⊥
  no_first f b = f (first_at_lem before (symbol_code k ++ behind) text at b)

  pub no_code : {code : List ℕ} → code ≡ symbol_code k → (Begins code (drop (at + length before) text) → ⊥) → Begins (tag before k behind) (drop at text) → ⊥
  no_code e f b = f (rw e (first_at_lem (symbol_code k) behind text (at + length before) (second_at before (symbol_code k ++ behind) text at b)))

  pub last_decides : {code : List ℕ} {r : Bool} → code ≡ symbol_code k → Begins before (drop at text) → Begins code (drop (at + length before) text) → Decides (Begins behind (drop (at + length before + 2) text)) r → Decides (Begins (tag before k behind) (drop at text)) r
  last_decides e a b D =
      decides_same
      (λ d. both_at before (symbol_code k ++ behind) text at a (both_at (symbol_code k) behind text (at + length before) (rw e at b) d))
      (λ d. second_at (symbol_code k) behind text (at + length before) (second_at before (symbol_code k ++ behind) text at d))
      D

-- no tag has more than 5 bytes
pub tag_short : (t : Tag) → length (tag_text t) ≤ 5
tag_short (tags.Empty k) = omega arith
tag_short (tags.Opening k) = omega arith
tag_short (tags.Closing k) = omega arith
