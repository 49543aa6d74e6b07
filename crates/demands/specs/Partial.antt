-- Request F-10 of document 02, nothing is earlier than a clean sheet, of whatever keeps the promise of cleaning: each field is a sentence of its text. Blanks are variables, of names of any type A, all different or not.
use Rattle.std.specs.Prelude.{Result, ℕ, ◌<◌, List, ◌≡◌, length, take}
use Rattle.trees.specs.declared.refusal.Refusal.{Refusal}
use Rattle.forms.specs.declared.write.Form.{Form}
use Rattle.trees.specs.Refusal.{outcome_of, accepted}
use Rattle.std.proofs.lemmas.List.Edits.{sets}
use Rattle.theory.specs.Prefix.{Prefix}
use Rattle.theory.specs.Term.{Term, var, node, none, bind, Tree, mapT}
use Rattle.theory.specs.Transducer.{Transducer, translate}
use Rattle.trees.specs.Alphabets.{Alphabets, inputs, outputs}
use Rattle.trees.specs.Code.{Ranked}
use Rattle.formats.specs.Answers.{ReadsFile}
use Rattle.formats.specs.Samples.{S, T, T'}
use Rattle.formats.specs.Sheet.{Sheet}
use Rattle.transducer.specs.Answers.{Translates}
use Rattle.canonical.specs.Answers.{Cleans}
use Rattle.partial.specs.AsSymbol.{blank_stock, BlankSheet}
use Rattle.partial.specs.Partial.{PartialTree, Lays, NothingEarlier, whole, partial_code}
use Rattle.demands.specs.Third.{Wrote}

-- cleaning the sheet s answered an acceptance, and x stands at the start of the area that it left: x is its clean sheet
pub record CleansTo (stock s x : List ℕ) : Type 0 where
  -- the area before and after the call, and the answer
  pub before : List ℕ
  pub after : List ℕ
  pub answer : Result Form Refusal
  pub promise : Cleans stock s before after answer
  pub wrote : Wrote answer after x

pub record Request10 : Type 1 where
  -- An accepted cleaning is such a call, of what stands at the start of its area.
  pub cleans : {stock s before after : List ℕ} {v : Form} (r : Result Form Refusal) → Cleans stock s before after r → outcome_of r ≡ accepted v → CleansTo stock s (take v.bytes after)
  -- What a sheet lays is defined for every sheet that 4 and 5 accept and every design with any number of blanks, and is one.
  pub lays : {A : Type 0} {stock s : List ℕ} {n : ℕ} {M : Transducer ℕ} → Sheet (inputs stock) (outputs stock) s n M → (d : Term A) → PartialTree (inputs stock) d → (t : Term (A × ℕ)) × Lays stock s d t
  pub lays_one : {A : Type 0} {stock s : List ℕ} {d : Term A} {t t' : Term (A × ℕ)} → Alphabets stock → Lays stock s d t → Lays stock s d t' → t ≡ t'
  -- Where a pass meets a blank an open end stays: for a design that is one blank that is the opening, with that blank for the design.
  pub opening : {A : Type 0} {stock s : List ℕ} {n : ℕ} {M : Transducer ℕ} → Sheet (inputs stock) (outputs stock) s n M → (x : A) → Lays stock s (var x) (mapT (λ e. (x, e.1)) M.initial)
  -- For a design without blanks it is the plan.
  pub plan : {A : Type 0} {stock s : List ℕ} {n : ℕ} {M : Transducer ℕ} → Sheet (inputs stock) (outputs stock) s n M → (d : Tree) → Ranked (λ y. ⊥) (inputs stock) d → Lays {A = A} stock s (whole d) (whole (translate M d))
  -- For every design with any number of blanks, and every sheet that sews alike, each block that sheet already lays is laid by the clean sheet too, the same block at the same place; whether the other sheet could itself be cleaned or not.
  pub nothing_earlier : {stock s x : List ℕ} → CleansTo stock s x → NothingEarlier stock s x
  -- It does not hold of every sheet: T lays what T', which sews alike, does not lay yet.
  pub not_round : NothingEarlier S T T' → ⊥
  -- What is laid stays: however the blanks are filled in, it is a prefix of the plan.
  pub stays : {A : Type 0} {stock s : List ℕ} {n : ℕ} {M : Transducer ℕ} {d : Term A} {t : Term (A × ℕ)} → Alphabets stock → Sheet (inputs stock) (outputs stock) s n M → Lays stock s d t → (f : A → Tree) → Prefix t (translate M (bind d f))
  -- The clean sheet lays all that is sure: what is a prefix of the plan however the blanks are filled in is a prefix of what it lays.
  pub all_sure : {A B : Type 0} {stock s x : List ℕ} {n : ℕ} {M : Transducer ℕ} {d : Term A} {u : Term (A × ℕ)} {h : Term B} → CleansTo stock s x → Sheet (inputs stock) (outputs stock) s n M → Lays stock x d u
      → ((f : A → Tree) → ((y : A) → Ranked (λ z. ⊥) (inputs stock) (f y)) → Prefix h (translate M (bind d f))) → Prefix h u
  -- Two sheets that the reader accepts, of as many passes, the second with a line more for each, are such a pair as is named next.
  pub blank_sheet : {stock s x : List ℕ} {n : ℕ} (r r' : Result ℕ Refusal) → ReadsFile stock s r → outcome_of r ≡ accepted n → ReadsFile (blank_stock stock) x r' → outcome_of r' ≡ accepted n
      → ((M W : Transducer ℕ) → Sheet (inputs stock) (outputs stock) s n M → Sheet (inputs (blank_stock stock)) (outputs (blank_stock stock)) x n W
      → (W.initial ≡ M.initial) × ((q a : ℕ) → q < n → a < length (inputs stock) → W.rhs q a ≡ M.rhs q a) × ((q : ℕ) → q < n → W.rhs q (length (inputs stock)) ≡ node (length (outputs stock)) none))
      → BlankSheet stock s x
  -- Sewing shows what is laid: with a part kind more for the blanks and a block kind more for the open ends, both without places, and for each pass a line more, the open end on the blank, a sewing that is accepted has written it.
  pub sewn : {A : Type 0} {stock s x before after : List ℕ} {k : ℕ} {d : Term A} {t : Term (A × ℕ)} (r : Result ℕ Refusal) → Alphabets stock → BlankSheet stock s x → Lays stock s d t
      → Translates (blank_stock stock) x (partial_code (length (inputs stock)) d) before after r → outcome_of r ≡ accepted k → after ≡ sets before 0 (partial_code (length (outputs stock)) t)
