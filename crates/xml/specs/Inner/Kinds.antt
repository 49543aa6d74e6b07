-- The output symbols of a text's tags, but for those that close: the code of the output tree, if the text is one's.
use Rattle.std.specs.Prelude.{ℕ, ◌≤◌, Bool, true, false, ◌&&◌, not, List, [], ◌∷◌, ◌≡◌, eqb, length, get_or, take}
use Rattle.std.specs.Option.{unwrap_or}
use Rattle.theory.specs.Term.{Tree}
use Rattle.trees.specs.Code.{code}
use Rattle.codes.specs.Inner.Table.{symbol_with}
use Rattle.xml.specs.Xml.{xml, OutputTree}

-- a tag begins here, and does not close
abbrev pub opens : List ℕ → Bool
opens w = eqb (get_or w 0 0) 60 && not (eqb (get_or w 1 0) 47)

abbrev pub cons_if : Bool → ℕ → List ℕ → List ℕ
cons_if true k ks = k ∷ ks
cons_if false k ks = ks

-- the symbol of each tag, or 64
unfoldable pub kinds_in : List ℕ → List ℕ
kinds_in [] = []
kinds_in (x ∷ w) = cons_if (opens (x ∷ w)) (unwrap_or (symbol_with (get_or w 0 0 ∷ get_or w 1 0 ∷ [])) 64) (kinds_in w)

-- the first 4,096 of them, or fewer, were written to the start of the table
pub record Collects (text table : List ℕ) (r : ℕ) : Type 0 where
  pub few : r ≤ 4096
  pub wrote : take r table ≡ take 4096 (kinds_in text)
  pub long : length table ≡ 4096

-- s is the code, and `text` the XML, of an output tree
pub record Both (outs s text : List ℕ) : Type 0 where
  pub one : Tree
  pub output : OutputTree outs one
  pub coded : code one ≡ s
  pub written : xml one ≡ text
