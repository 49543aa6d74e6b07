-- What cleaning answers, and when two transducers are alike.
use Rattle.std.specs.Prelude.{Result, ℕ, ◌<◌, List, ◌↔◌, ◌≡◌}
use Rattle.trees.specs.declared.refusal.Refusal.{Refusal}
use Rattle.forms.specs.declared.write.Form.{Form}
use Rattle.theory.specs.Equivalent.{EquivStates}
use Rattle.theory.specs.NormalForm.{NormalForm, Identical}
use Rattle.theory.specs.Numbered.{Numbered}
use Rattle.theory.specs.Quotient.{Classes, quotient}
use Rattle.theory.specs.Term.{Tree}
use Rattle.theory.specs.Transducer.{Transducer, translate}
use Rattle.theory.specs.Trimmed.{Trimmed}
use Rattle.trees.specs.Alphabets.{Leaf, Alphabets, inputs, outputs}
use Rattle.trees.specs.Code.{Ranked}
use Rattle.formats.specs.Sheet.{Encodes, Sheet}
use Rattle.forms.specs.Alphabet.{alphabet}
use Rattle.earliest.specs.Answers.{MakesForm}

-- two transducers over one input alphabet are equivalent (01: sew alike): they give equal output trees on every input tree, of any size
pub record Alike (ins : List ℕ) (M M' : Transducer ℕ) : Type 0 where
  pub plans : (d : Tree) → Ranked (λ x. ⊥) ins d → translate M d ≡ translate M' d

-- the files s and s' are those of two transducers that are (01: two sheets sew alike)
pub record SewAlike (stock s s' : List ℕ) : Type 0 where
  pub states : ℕ
  pub machine : Transducer ℕ
  pub sheet : Sheet (inputs stock) (outputs stock) s states machine
  pub states' : ℕ
  pub machine' : Transducer ℕ
  pub sheet' : Sheet (inputs stock) (outputs stock) s' states' machine'
  pub alike : Alike (inputs stock) machine machine'

-- k, the counts and the marks are those of the normal form (01: clean sheet) of the transducer of the file s
pub record NormalFile (stock s : List ℕ) (k : ℕ) (counts bytes : List ℕ) : Type 0 where
  pub alphabets : Alphabets stock
  pub states : ℕ
  pub machine : Transducer ℕ
  pub sheet : Sheet (inputs stock) (outputs stock) s states machine
  pub form : Transducer ℕ
  pub normal : (l : Leaf (inputs stock)) → NormalForm (alphabet (inputs stock) l) machine form k
  pub encodes : Encodes (inputs stock) (outputs stock) k counts bytes form

-- The same in document 01's words: the trimmed sheet, with passes that give equal results on every design made one, and numbered as first met.
pub record MergedFile (stock s : List ℕ) (k : ℕ) (counts bytes : List ℕ) : Type 0 where
  pub alphabets : Alphabets stock
  pub states : ℕ
  pub machine : Transducer ℕ
  pub sheet : Sheet (inputs stock) (outputs stock) s states machine
  -- the trimmed sheet, and the number of its passes
  pub early : Transducer ℕ
  pub passes : ℕ
  pub trimmed : Trimmed (alphabet (inputs stock) alphabets.leaf) machine (λ q. q < states) early passes
  -- passes that give equal results are of one class, and no others are
  pub class : ℕ → ℕ
  pub least : ℕ → ℕ
  pub classes : Classes class least passes k
  pub equal : (p q : ℕ) → p < passes → q < passes → (class p ≡ class q) ↔ EquivStates (alphabet (inputs stock) alphabets.leaf) early early p q
  -- each class is made one pass
  pub form : Transducer ℕ
  pub merged : Identical (alphabet (inputs stock) alphabets.leaf) form (quotient early class least) k k
  pub numbered : Numbered (alphabet (inputs stock) alphabets.leaf) form k
  pub encodes : Encodes (inputs stock) (outputs stock) k counts bytes form

-- ---- cleaning: the file of the normal form
abbrev pub Cleans : List ℕ → List ℕ → List ℕ → List ℕ → Result Form Refusal → Type 0
Cleans stock s before after r = MakesForm (NormalFile stock s) stock s before after r
