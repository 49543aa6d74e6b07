-- The tags as the code has them, and what comparing them answers.
use Rattle.std.specs.Prelude.{ℕ, ◌<◌, List, ◌≡◌, length, take}
use Rattle.xml.specs.Xml.{tag, opening, closing, empty}
use Rattle.xml.specs.declared.tag.Tag.{Tag}
use Rattle.xml.specs.declared.tag.TagParts.{TagParts}
use Rattle.xml.specs.declared.tag.Tag.TheVariants as tags

abbrev pub tag_text : Tag → List ℕ
tag_text (tags.Empty k) = empty k
tag_text (tags.Opening k) = opening k
tag_text (tags.Closing k) = closing k

abbrev pub tag_symbol : Tag → ℕ
tag_symbol (tags.Empty k) = k
tag_symbol (tags.Opening k) = k
tag_symbol (tags.Closing k) = k

-- its symbol has a code
abbrev pub Known : Tag → Type 0
Known t = tag_symbol t < 64

-- the parts of a tag, one behind the other
abbrev pub parts_text : {B E : ℕ} → TagParts B E → List ℕ
parts_text p = tag p.before p.symbol p.behind

-- they are its text
abbrev pub HasParts : {B E : ℕ} → Tag → TagParts B E → Type 0
HasParts t p = (p.symbol ≡ tag_symbol t) × (tag_text t ≡ parts_text p)

-- l begins with w
abbrev pub Begins : List ℕ → List ℕ → Type 0
Begins w l = take (length w) l ≡ w
