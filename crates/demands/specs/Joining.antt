-- Request F-9 of document 02, sheet after sheet, of whatever keeps the promise of joining: each field is a sentence of its text. That the checks are made in their order is a field of demand 1.
use Rattle.std.specs.Prelude.{Err, Ok, Result, ℕ, List, [], ◌≡◌, take}
use Rattle.trees.specs.declared.refusal.Refusal.{Refusal}
use Rattle.forms.specs.declared.write.Form.{Form}
use Rattle.trees.specs.Refusal.{outcome_of, accepted, done, Holds}
use Rattle.theory.specs.Term.{Tree}
use Rattle.theory.specs.Transducer.{Transducer, translate}
use Rattle.trees.specs.Alphabets.{inputs, outputs, alphabet_check}
use Rattle.trees.specs.Code.{Ranked, code}
use Rattle.formats.specs.Sheet.{Sheet, sheet_check}
use Rattle.transducer.specs.Output.{Output}
use Rattle.join.specs.Answers.{joined_stock, Joins}
use Rattle.canonical.specs.Answers.{SewAlike}
use Rattle.demands.specs.Third.{Wrote}

-- joining the sheets s and t, under the stocks a and b, answered an acceptance, and x stands at the start of the area that it left
pub record JoinsTo (a b s t x : List ℕ) : Type 0 where
  -- the area before and after the call, and the answer
  pub before : List ℕ
  pub after : List ℕ
  pub answer : Result Form Refusal
  pub promise : Joins a b s t before after answer
  pub wrote : Wrote answer after x

pub record Request9 : Type 0 where
  -- An accepted call is such a joining, of what stands at the start of its area.
  pub joins : {a b s t before after : List ℕ} {v : Form} (r : Result Form Refusal) → Joins a b s t before after r → outcome_of r ≡ accepted v → JoinsTo a b s t (take v.bytes after)
  -- The joined sheet's plan for a design is the second's plan for the first's plan, whatever their size;
  pub plan : {a b s t x : List ℕ} → JoinsTo a b s t x → {n m k : ℕ} {M N J : Transducer ℕ} → Sheet (inputs a) (outputs a) s n M → Sheet (inputs b) (outputs b) t m N → Sheet (inputs a) (outputs b) x k J
      → (d : Tree) → Ranked (λ y. ⊥) (inputs a) d → translate J d ≡ translate N (translate M d)
  -- in the terms of files: where the first's plan is a design for the second.
  pub plan_of_plan : {a b s t x design : List ℕ} {p u : Tree} → JoinsTo a b s t x → Output a s design p → Output b t (code p) u → Output (joined_stock a b) x design u
  -- It stands under the first's part kinds and the second's block kinds, and is accepted under them.
  pub stands : {a b s t x : List ℕ} → JoinsTo a b s t x → Holds (alphabet_check (joined_stock a b) (sheet_check (joined_stock a b) x done))
  -- Its passes are the pairs reached from the joined opening, numbered as first met: so there is one joined sheet.
  pub one : {a b s t x y : List ℕ} → JoinsTo a b s t x → JoinsTo a b s t y → x ≡ y
  -- Joining three sheets either way sews alike, wherever both ways are accepted;
  pub three : {a b c s t u x y z w : List ℕ} → JoinsTo a b s t x → JoinsTo (joined_stock a b) c x u y → JoinsTo b c t u z → JoinsTo a (joined_stock b c) s z w → SewAlike (joined_stock a c) y w
  -- what is more, it gives the same bytes.
  pub three_same : {a b c s t u x y z w : List ℕ} → JoinsTo a b s t x → JoinsTo (joined_stock a b) c x u y → JoinsTo b c t u z → JoinsTo a (joined_stock b c) s z w → y ≡ w
  -- Sheets that sew alike, joined with one sheet, sew alike, on either side.
  pub alike_first : {a b s s' t x x' : List ℕ} → SewAlike a s s' → JoinsTo a b s t x → JoinsTo a b s' t x' → SewAlike (joined_stock a b) x x'
  pub alike_second : {a b s t t' x x' : List ℕ} → SewAlike b t t' → JoinsTo a b s t x → JoinsTo a b s t' x' → SewAlike (joined_stock a b) x x'

-- the file that a call wrote to the start of this area; no byte, where it was refused
abbrev pub file_in : Result Form Refusal → List ℕ → List ℕ
file_in (Ok v) area = take v.bytes area
file_in (Err r) area = []

-- what the request says of four joinings of three sheets, both ways, where ab and bc are the joined stocks: if all are accepted, the two sheets joined last are the same bytes, and sew alike
abbrev pub JoinsThree : List ℕ → List ℕ → List ℕ → List ℕ → List ℕ → Result Form Refusal → Result Form Refusal → Result Form Refusal → Result Form Refusal → List ℕ → List ℕ → Type 0
JoinsThree a b c ab bc first left second right after after' =
    ab ≡ joined_stock a b → bc ≡ joined_stock b c → (v v₁ v₂ v₃ : Form) → outcome_of first ≡ accepted v → outcome_of left ≡ accepted v₁ → outcome_of second ≡ accepted v₂ → outcome_of right ≡ accepted v₃
    → (file_in left after ≡ file_in right after') × SewAlike (joined_stock a c) (file_in left after) (file_in right after')
