-- What a comparison answers.
use Rattle.std.specs.Prelude.{None, Option, Result, Some, ℕ, ◌≤◌, ◌<◌, List, [], ◌⊎◌, ◌≡◌, length}
use Rattle.trees.specs.declared.refusal.Refusal.{Refusal}
use Rattle.witness.specs.declared.witness.Shown.{Shown}
use Rattle.trees.specs.Refusal.{outcome_of, Checks, done, check, Judged, Handed}
use Rattle.theory.specs.Term.{Tree}
use Rattle.theory.specs.Transducer.{Transducer}
use Rattle.trees.specs.Alphabets.{inputs, outputs, alphabet_check}
use Rattle.formats.specs.Sheet.{Sheet, sheet_check}
use Rattle.earliest.specs.Answers.{form_check}
use Rattle.canonical.specs.Answers.{SewAlike}
use Rattle.witness.specs.Difference.{tree_area, address_area, Difference, Written}

-- the transducers of the files s and s' differ, as the areas show
pub record Differ (stock s s' tree tree' address address' : List ℕ) (nodes numbers b b' : ℕ) : Type 0 where
  pub shown : Tree
  pub place : List ℕ
  pub written : Written shown place tree tree' address address' nodes numbers
  pub differ : (n n' : ℕ) (M M' : Transducer ℕ) → Sheet (inputs stock) (outputs stock) s n M → Sheet (inputs stock) (outputs stock) s' n' M' → Difference (inputs stock) (outputs stock) M M' shown place b b'

-- None where they are alike, or what is shown: the numbers of nodes and of address numbers and the two symbols
abbrev pub Found : List ℕ → List ℕ → List ℕ → List ℕ → List ℕ → List ℕ → List ℕ → Option Shown → Type 0
Found stock s s' tree tree' address address' None = SewAlike stock s s' × (tree' ≡ tree) × (address' ≡ address)
Found stock s s' tree tree' address address' (Some v) = Differ stock s s' tree tree' address address' v.nodes v.numbers v.left v.right

-- refusals 2, 4, 5 and 7 of two files
abbrev pub pair_check : List ℕ → List ℕ → List ℕ → Checks
pair_check stock s s' = alphabet_check stock (sheet_check stock s (sheet_check stock s' (form_check stock s (form_check stock s' done))))

-- ---- comparison
abbrev pub Compares : List ℕ → List ℕ → List ℕ → List ℕ → List ℕ → List ℕ → List ℕ → Result (Option Shown) Refusal → Type 0
Compares stock s s' tree tree' address address' r =
    Judged ((tree' ≡ tree) × (address' ≡ address)) (Found stock s s' tree tree' address address')
    (check 1 ((tree_area ≤ length tree) × (address_area ≤ length address)) (pair_check stock s s'))
    (outcome_of r)

-- ---- the marks of the alike one with fewer
-- part is the marks of the transducer of s or of s', whichever has fewer, and of s if both have as many
pub record FewerMarks (stock s s' part : List ℕ) : Type 0 where
  pub states : ℕ
  pub machine : Transducer ℕ
  pub sheet : Sheet (inputs stock) (outputs stock) s states machine
  pub states' : ℕ
  pub machine' : Transducer ℕ
  pub sheet' : Sheet (inputs stock) (outputs stock) s' states' machine'
  pub left : length sheet.bytes ≤ length sheet'.bytes → part ≡ sheet.bytes
  pub right : length sheet'.bytes < length sheet.bytes → part ≡ sheet'.bytes

-- empty if they differ
abbrev pub HandsShorter : List ℕ → List ℕ → List ℕ → List ℕ → Type 0
HandsShorter stock s s' part = Handed (λ p. (SewAlike stock s s' × FewerMarks stock s s' p) ⊎ ((SewAlike stock s s' → ⊥) × (p ≡ []))) (pair_check stock s s') part
