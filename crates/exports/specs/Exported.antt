-- What the exported functions return and leave: the number and the values of an answer that keeps the library's promise.
use Rattle.trees.specs.Refusal.{outcome_of, Outcome, accepted, refused}
use Rattle.std.specs.Prelude.{Option, Some, None, Result, ℕ, ◌<◌, List, [], ◌⊎◌, ◌≡◌, length, drop}
use Rattle.forms.specs.declared.write.Form.{Form}
use Rattle.trees.specs.declared.alphabet.AlphabetSizes.{AlphabetSizes}
use Rattle.trees.specs.declared.refusal.Refusal.{Refusal}
use Rattle.trees.specs.declared.tree.TreeSize.{TreeSize}
use Rattle.witness.specs.declared.witness.Shown.{Shown}
use Rattle.theory.specs.Transducer.{Transducer}
use Rattle.trees.specs.Alphabets.{inputs, outputs}
use Rattle.trees.specs.Answers.{ReadsAlphabets, ReadsTree}
use Rattle.formats.specs.Answers.{ReadsFile, WritesFile, HandsMarks}
use Rattle.formats.specs.Sheet.{Sheet}
use Rattle.queries.specs.Answers.{TestsLinear, FindsSymbol}
use Rattle.transducer.specs.Answers.{Translates}
use Rattle.theory.specs.Weight.{one_if}
use Rattle.earliest.specs.Answers.{MakesEarliest}
use Rattle.canonical.specs.Answers.{Cleans}
use Rattle.join.specs.Answers.{Joins}
use Rattle.codes.specs.Answers.{WritesCodes}
use Rattle.xml.specs.Answers.{WritesXml, ReadsXml}
use Rattle.comparison.specs.Answers.{Compares, HandsShorter}

-- an acceptance is returned as 0, and what is left is told by its values; a refusal as its number, and all is left as before
unfoldable pub IsTold : {A L : Type 0} → (A → L → Type 0) → Outcome A → L → L → ℕ → Type 0
IsTold Left (accepted a) before after r = (r ≡ 0) × Left a after
IsTold Left (refused k) before after r = (r ≡ k) × (after ≡ before)

-- r is returned, and `after` left where `before` stood, for an answer that keeps the promise
pub record Exported {E A L : Type 0} (Promise : E → Type 0) (outcome : E → Outcome A) (Left : A → L → Type 0) (before after : L) (r : ℕ) : Type 0 where
  pub answer : E
  pub promise : Promise answer
  pub says : IsTold Left (outcome answer) before after r

-- what is told of an answer without a value, of one whose value is a number, and of one that tells a form: its states and marks, and the length of its file
abbrev pub TellsDone : Result (Unit {0}) Refusal → ℕ → Type 0
TellsDone a r = Exported (λ e. e ≡ a) outcome_of (λ v after. after ≡ v) tt tt r

abbrev pub TellsNumber : Result ℕ Refusal → ℕ → ℕ → ℕ → Type 0
TellsNumber a before after r = Exported (λ e. e ≡ a) outcome_of (λ v after. after ≡ v) before after r

abbrev pub TellsForm : Result Form Refusal → ℕ × ℕ × ℕ → ℕ × ℕ × ℕ → ℕ → Type 0
TellsForm a before after r = Exported (λ e. e ≡ a) outcome_of (λ (v : Form) after. after ≡ (v.states, v.marks, v.bytes)) before after r

-- the numbers of input and output symbols
abbrev pub ExportsAlphabets : List ℕ → ℕ × ℕ → ℕ × ℕ → ℕ → Type 0
ExportsAlphabets stock before after r = Exported (ReadsAlphabets stock) outcome_of (λ (v : AlphabetSizes) after. after ≡ (v.inputs, v.outputs)) before after r

-- the numbers of nodes and levels
abbrev pub ExportsTree : List ℕ → List ℕ → ℕ × ℕ → ℕ × ℕ → ℕ → Type 0
ExportsTree stock s before after r = Exported (ReadsTree stock s) outcome_of (λ (v : TreeSize) after. after ≡ (v.nodes, v.levels)) before after r

-- the number of states, and the lengths of the counts and of the marks
pub record FileParts (stock s : List ℕ) (n : ℕ) (after : ℕ × ℕ × ℕ) : Type 0 where
  pub states : after.0 ≡ n
  pub machine : Transducer ℕ
  pub sheet : Sheet (inputs stock) (outputs stock) s n machine
  pub counts : after.1 ≡ length sheet.counts
  pub marks : after.2 ≡ length sheet.bytes

abbrev pub ExportsFile : List ℕ → List ℕ → ℕ × ℕ × ℕ → ℕ × ℕ × ℕ → ℕ → Type 0
ExportsFile stock s before after r = Exported (ReadsFile stock s) outcome_of (FileParts stock s) before after r

-- the length of what was written; the promise says what is left in the area, also by a refusal
abbrev pub ExportsWriting : List ℕ → ℕ → List ℕ → List ℕ → List ℕ → List ℕ → ℕ → ℕ → ℕ → Type 0
ExportsWriting stock n counts marks area area' before after r = Exported (WritesFile stock n counts marks area area') outcome_of (λ v after. after ≡ v) before after r

-- 1 for yes and 0 for no
abbrev pub ExportsLinear : List ℕ → List ℕ → ℕ → ℕ → ℕ → Type 0
ExportsLinear stock s before after r = Exported (TestsLinear stock s) outcome_of (λ v after. after ≡ one_if v) before after r

-- the number of symbols; the promise says what is left in the area, also by a refusal
abbrev pub ExportsTranslation : List ℕ → List ℕ → List ℕ → List ℕ → List ℕ → ℕ → ℕ → ℕ → Type 0
ExportsTranslation stock file tree area area' before after r = Exported (Translates stock file tree area area') outcome_of (λ v after. after ≡ v) before after r

-- 1 and the symbol; 0 where there is none, and what stood for the symbol stays
abbrev pub symbol_left : ℕ × ℕ → Option ℕ → ℕ × ℕ
symbol_left before (Some b) = (1, b)
symbol_left before None = (0, before.1)

abbrev pub ExportsSymbol : List ℕ → List ℕ → List ℕ → List ℕ → ℕ × ℕ → ℕ × ℕ → ℕ → Type 0
ExportsSymbol stock file tree address before after r = Exported (FindsSymbol stock file tree address) outcome_of (λ v after. after ≡ symbol_left before v) before after r

-- the numbers of states and marks, and the length of what was written; the promise says what is left in the area, also by a refusal
abbrev pub ExportsEarliest : List ℕ → List ℕ → List ℕ → List ℕ → ℕ × ℕ × ℕ → ℕ × ℕ × ℕ → ℕ → Type 0
ExportsEarliest stock file area area' before after r = Exported (MakesEarliest stock file area area') outcome_of (λ (v : Form) after. after ≡ (v.states, v.marks, v.bytes)) before after r

abbrev pub ExportsClean : List ℕ → List ℕ → List ℕ → List ℕ → ℕ × ℕ × ℕ → ℕ × ℕ × ℕ → ℕ → Type 0
ExportsClean stock file area area' before after r = Exported (Cleans stock file area area') outcome_of (λ (v : Form) after. after ≡ (v.states, v.marks, v.bytes)) before after r

abbrev pub ExportsJoin : List ℕ → List ℕ → List ℕ → List ℕ → List ℕ → List ℕ → ℕ × ℕ × ℕ → ℕ × ℕ × ℕ → ℕ → Type 0
ExportsJoin first second file file' area area' before after r = Exported (Joins first second file file' area area') outcome_of (λ (v : Form) after. after ≡ (v.states, v.marks, v.bytes)) before after r

-- 1 if alike, and the other values stay; else 0 and the values
abbrev pub comparison_left : ℕ × ℕ × ℕ × ℕ × ℕ → Option Shown → ℕ × ℕ × ℕ × ℕ × ℕ
comparison_left before None = (1, before.1, before.2, before.3, before.4)
comparison_left before (Some v) = (0, v.nodes, v.numbers, v.left, v.right)

-- the numbers of nodes and of address numbers, and the two symbols; the promise says what is left in the areas, also by a refusal
abbrev pub ExportsComparison : List ℕ → List ℕ → List ℕ → List ℕ → List ℕ → List ℕ → List ℕ → ℕ × ℕ × ℕ × ℕ × ℕ → ℕ × ℕ × ℕ × ℕ × ℕ → ℕ → Type 0
ExportsComparison stock s s' tree tree' address address' before after r = Exported (Compares stock s s' tree tree' address address') outcome_of (λ v after. after ≡ comparison_left before v) before after r

-- the part is the marks of the file s, which they end: from `start` on, so long
pub record EndsFile (stock s part : List ℕ) (start size : ℕ) : Type 0 where
  pub marks : HandsMarks stock s part
  pub some : 0 < length part
  pub length_is : size ≡ length part
  pub there : part ≡ drop start s

-- which of two files has the part, and where: the first if it is its marks
unfoldable pub TellsPart : List ℕ → List ℕ → List ℕ → List ℕ → ℕ → ℕ → ℕ → Type 0
TellsPart stock s s' part start size which =
    ((which ≡ 0) × (part ≡ []) × (start ≡ 0) × (size ≡ 0))
    ⊎ (((which ≡ 1) × EndsFile stock s part start size)
    ⊎ ((which ≡ 2) × (HandsMarks stock s part → ⊥) × EndsFile stock s' part start size))

pub record ExportsShorter (stock s s' : List ℕ) (start size which : ℕ) : Type 0 where
  pub part : List ℕ
  pub handed : HandsShorter stock s s' part
  pub told_by : TellsPart stock s s' part start size which

-- an acceptance has no value; the promise says what is left in the area, also by a refusal
abbrev pub ExportsCodes : List ℕ → List ℕ → ℕ → Type 0
ExportsCodes area area' r = Exported (WritesCodes area area') outcome_of (λ v after. after ≡ v) tt tt r

-- the length of the text, and the number of symbols; the promise says what is left in the area, also by a refusal
abbrev pub ExportsXmlWriting : List ℕ → List ℕ → List ℕ → List ℕ → ℕ → ℕ → ℕ → Type 0
ExportsXmlWriting stock tree text text' before after r = Exported (WritesXml stock tree text text') outcome_of (λ v after. after ≡ v) before after r

abbrev pub ExportsXmlReading : List ℕ → List ℕ → List ℕ → List ℕ → ℕ → ℕ → ℕ → Type 0
ExportsXmlReading stock text area area' before after r = Exported (ReadsXml stock text area area') outcome_of (λ v after. after ≡ v) before after r
