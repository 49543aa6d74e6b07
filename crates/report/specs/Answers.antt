-- What the function that writes the lines of the program `sheets` promises.
use Rattle.std.specs.Prelude.{Result, ℕ, ◌*◌, ◌≤◌, List, ◌++◌, ◌⊎◌, ◌≡◌, length}
use Rattle.trees.specs.declared.refusal.Refusal.{Refusal}
use Rattle.trees.specs.Refusal.{outcome_of, Outcome, accepted, refused, Judged, check, done}
use Rattle.std.proofs.lemmas.List.Edits.{sets}
use Rattle.theory.specs.Term.{Tree}
use Rattle.theory.specs.Transducer.{Transducer}
use Rattle.trees.specs.Alphabets.{inputs, outputs}
use Rattle.trees.specs.Code.{code}
use Rattle.formats.specs.Sheet.{Sheet}
use Rattle.canonical.specs.Answers.{SewAlike, NormalFile}
use Rattle.witness.specs.Difference.{Difference}
use Rattle.comparison.specs.Answers.{pair_check}
use Rattle.report.specs.Text.{refused_line, sizes_line, alike_line, differ_line, first_word, second_word}

-- The area of the text: 15 and 16 bytes for the first two lines; for the third 7, 1,536 input symbols of two digits with commas, 4, 16,128 digits with dots, and 7.
abbrev pub text_area : ℕ
text_area = 36911

-- the normal form of the transducer of the file s has this many states and marks
pub record Sizes (stock s : List ℕ) (states marks : ℕ) : Type 0 where
  pub counts : List ℕ
  pub bytes : List ℕ
  pub normal : NormalFile stock s states counts bytes
  pub two : length bytes ≡ 2 * marks

-- the third line where the two differ: a tree, an address and two symbols that show it. Which tree and which address is the program's choice.
pub record Shows (stock s s' line : List ℕ) : Type 0 where
  pub tree : Tree
  pub place : List ℕ
  pub left : ℕ
  pub right : ℕ
  pub differ : (n n' : ℕ) (M M' : Transducer ℕ) → Sheet (inputs stock) (outputs stock) s n M → Sheet (inputs stock) (outputs stock) s' n' M' → Difference (inputs stock) (outputs stock) M M' tree place left right
  pub says : line ≡ differ_line (code tree) place left right

-- three lines: the normal form of each, and the verdict
pub record Report (stock s s' text : List ℕ) : Type 0 where
  pub states : ℕ
  pub marks : ℕ
  pub first : Sizes stock s states marks
  pub states' : ℕ
  pub marks' : ℕ
  pub second : Sizes stock s' states' marks'
  pub line : List ℕ
  pub verdict : (SewAlike stock s s' × (line ≡ alike_line)) ⊎ Shows stock s s' line
  pub says : text ≡ sizes_line first_word states marks ++ sizes_line second_word states' marks' ++ line

-- a refusal prints one line
abbrev pub printed : Outcome (List ℕ) → List ℕ
printed (accepted text) = text
printed (refused k) = refused_line k

-- the text for these files: refusals 2, the first's 4 and 5, the second's, the first's 7, the second's, in this order
pub record Lines (stock s s' text : List ℕ) : Type 0 where
  pub outcome : Outcome (List ℕ)
  pub judged : Judged (Unit {0}) (Report stock s s') (pair_check stock s s') outcome
  pub says : text ≡ printed outcome

-- n bytes were written: the area begins with the text, and keeps what stands behind it
pub record Prints (stock s s' area area' : List ℕ) (n : ℕ) : Type 0 where
  pub text : List ℕ
  pub lines : Lines stock s s' text
  pub size : n ≡ length text
  pub wrote : area' ≡ sets area 0 text

-- how many bytes were written, or the refusal of the area
abbrev pub Reports : List ℕ → List ℕ → List ℕ → List ℕ → List ℕ → Result ℕ Refusal → Type 0
Reports stock s s' area area' r = Judged (area' ≡ area) (Prints stock s s' area area') (check 1 (text_area ≤ length area) done) (outcome_of r)
