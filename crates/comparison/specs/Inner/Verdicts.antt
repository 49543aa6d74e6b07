-- What is answered of two earliest forms in tables, and of the parts of two files.
use Rattle.std.specs.Prelude.{Err, None, Ok, Option, Result, Some, ℕ, List, ◌≡◌}
use Rattle.witness.specs.declared.witness.Shown.{Shown}
use Rattle.trees.specs.Refusal.{outcome_of, done, check, Judged}
use Rattle.theory.specs.Equivalent.{Equivalent}
use Rattle.theory.specs.Term.{Tree}
use Rattle.theory.specs.Transducer.{Transducer}
use Rattle.trees.specs.Alphabets.{Leaf, inputs, outputs}
use Rattle.formats.specs.Sheet.{Encodes}
use Rattle.trees.specs.declared.refusal.Refusal.{Refusal}
use Rattle.forms.specs.Alphabet.{alphabet}
use Rattle.forms.specs.Inner.Tables.{machine}
use Rattle.transducer.specs.Inner.Machine.{Machine}
use Rattle.earliest.specs.Inner.Loaded.{EarliestOf, FormOfParts}
use Rattle.canonical.specs.Answers.{Alike}
use Rattle.witness.specs.Difference.{Difference, Written}
use Rattle.witness.specs.Inner.Forms.{Shows}

-- what is answered of two earliest forms: they are equivalent, or a difference
pub record ComparesForms (ins outs starts bytes : List ℕ) (k : ℕ) (starts' bytes' : List ℕ) (k' : ℕ) (tree tree' address address' : List ℕ) (r : Result (Option Shown) Refusal) : Type 0 where
  pub same : r ≡ Ok None → ((l : Leaf ins) → Equivalent (alphabet ins l) (machine ins outs starts bytes k) (machine ins outs starts' bytes' k')) × (tree' ≡ tree) × (address' ≡ address)
  pub differ : (v : Shown) → r ≡ Ok (Some v) → Shows ins outs (machine ins outs starts bytes k) (machine ins outs starts' bytes' k') tree tree' address address' v.nodes v.numbers v.left v.right
  pub answered : (x : Refusal) → r ≡ Err x → ⊥

-- what is answered of the parts of two files
abbrev pub FoundParts : List ℕ → ℕ → List ℕ → List ℕ → ℕ → List ℕ → List ℕ → List ℕ → List ℕ → List ℕ → List ℕ → Option Shown → Type 0
FoundParts stock n counts bytes n' counts' bytes' tree tree' address address' None =
    ((M M' : Transducer ℕ) → Encodes (inputs stock) (outputs stock) n counts bytes M → Encodes (inputs stock) (outputs stock) n' counts' bytes' M' → Alike (inputs stock) M M') × (tree' ≡ tree) × (address' ≡ address)
FoundParts stock n counts bytes n' counts' bytes' tree tree' address address' (Some v) =
    (d : Tree) × ((place : List ℕ) × (Written d place tree tree' address address' v.nodes v.numbers × ((M M' : Transducer ℕ) → Encodes (inputs stock) (outputs stock) n counts bytes M → Encodes (inputs stock) (outputs stock) n' counts' bytes' M' → Difference (inputs stock) (outputs stock) M M' d place v.left v.right)))

abbrev pub ComparesParts : List ℕ → ℕ → List ℕ → List ℕ → ℕ → List ℕ → List ℕ → List ℕ → List ℕ → List ℕ → List ℕ → Result (Option Shown) Refusal → Type 0
ComparesParts stock n counts bytes n' counts' bytes' tree tree' address address' r =
    Judged ((tree' ≡ tree) × (address' ≡ address)) (FoundParts stock n counts bytes n' counts' bytes' tree tree' address address')
    (check 7 ((k : ℕ) × ((cs : List ℕ) × ((bs : List ℕ) × EarliestOf stock n counts bytes k cs bs))) (check 7 ((k : ℕ) × ((cs : List ℕ) × ((bs : List ℕ) × EarliestOf stock n' counts' bytes' k cs bs))) done))
    (outcome_of r)

-- an earliest form in tables, with k states, of a transducer
pub record EarlyForm (stock starts out : List ℕ) (k : ℕ) : Type 0 where
  pub states : ℕ
  pub counts : List ℕ
  pub bytes : List ℕ
  pub machine : Machine stock states counts bytes
  pub earliest : FormOfParts stock states counts bytes starts out (Some k)

-- what is answered of it and of the parts of a second file: that of the parts of any file whose earliest form it is
abbrev pub ComparesWith : List ℕ → List ℕ → List ℕ → ℕ → ℕ → List ℕ → List ℕ → List ℕ → List ℕ → List ℕ → List ℕ → Result (Option Shown) Refusal → Type 0
ComparesWith stock starts out k n' counts' bytes' tree tree' address address' r =
    (n : ℕ) (counts bytes : List ℕ) → Machine stock n counts bytes → FormOfParts stock n counts bytes starts out (Some k) → ComparesParts stock n counts bytes n' counts' bytes' tree tree' address address' r
