-- What the writer and the reader of XML promise: each turns an output tree from one form into the other.
use Rattle.std.specs.Prelude.{Result, ℕ, ◌≤◌, List, ◌≡◌, length}
use Rattle.trees.specs.declared.refusal.Refusal.{Refusal}
use Rattle.trees.specs.Refusal.{outcome_of, Checks, done, check, Judged}
use Rattle.std.proofs.lemmas.List.Edits.{sets}
use Rattle.theory.specs.Term.{Tree}
use Rattle.trees.specs.Alphabets.{outputs, alphabet_check}
use Rattle.trees.specs.Code.{code}
use Rattle.xml.specs.Xml.{xml, OutputTree}

-- a form of output trees: what each is as bytes
abbrev pub Form : Type 0
Form = Tree → List ℕ

-- s is the output tree t under the stock, in this form
pub record InForm (form : Form) (stock s : List ℕ) (t : Tree) : Type 0 where
  pub output : OutputTree (outputs stock) t
  pub is : form t ≡ s

-- refusals 11 and 12: s is no output tree in the one form; the area is shorter than that tree in the other
abbrev pub forms_check : Form → Form → List ℕ → List ℕ → List ℕ → Checks → Checks
forms_check from to stock s area others =
    check 11 ((t : Tree) × InForm from stock s t) (check 12 ((t : Tree) × (InForm from stock s t × (length (to t) ≤ length area))) others)

-- the length of the output tree in the other form, with which the area then begins; the rest of the area stays
abbrev pub Converts : Form → Form → List ℕ → List ℕ → List ℕ → List ℕ → Result ℕ Refusal → Type 0
Converts from to stock s area area' r =
    Judged (area' ≡ area) (λ n. (t : Tree) × (InForm from stock s t × (n ≡ length (to t)) × (area' ≡ sets area 0 (to t))))
    (alphabet_check stock (forms_check from to stock s area done))
    (outcome_of r)

-- from the code, a byte for each node, to XML, and back
abbrev pub WritesXml : List ℕ → List ℕ → List ℕ → List ℕ → Result ℕ Refusal → Type 0
WritesXml = Converts code xml

abbrev pub ReadsXml : List ℕ → List ℕ → List ℕ → List ℕ → Result ℕ Refusal → Type 0
ReadsXml = Converts xml code
