-- What making a form promises whatever form it is: the contract determines the answer and the area.
-- Assumes nothing.
use Rattle.std.specs.Prelude.{Result}
use Rattle.trees.specs.declared.refusal.Refusal.{Refusal}
use Rattle.forms.specs.declared.write.Form.{Form}
use Rattle.trees.specs.Refusal.{outcome_of, done, check}
use Prim.Native.Nat.{ℕ, ◌≤◌, ◌<◌}
use mathlib.Core.List.{List}
use mathlib.Core.Path.{◌≡◌, sym, ◌∙◌}
use lib.ListN.{length}
use Rattle.theory.specs.Grammar.{Grammar}
use Rattle.theory.specs.NormalForm.{Identical}
use Rattle.theory.specs.Transducer.{Transducer}
use Rattle.theory.specs.Trimmed.{Trimmed}
use Rattle.theory.specs.Wf.{Wf}
use Rattle.theory.proofs.Trimming.{trimmed_same, trimmed_unique}
use Rattle.trees.specs.Alphabets.{alphabet_check}
use Rattle.trees.proofs.Judging.{one_answer}
use Rattle.formats.specs.Sheet.{longest, sheet_check}
use Rattle.forms.proofs.Files.{encoded_wf, same_file, parts_same, file_one}
use Rattle.forms.proofs.Leaves.{trimmed_leaf}
use Rattle.earliest.specs.Answers.{EarliestFile, form_check, MakesForm, MakesEarliest}
use Rattle.forms.specs.Answers.{FileOf}

-- ---- what is answered is determined
-- Where one file alone is of the form, the answer and the area are determined.
pub made_one : {Is : ℕ → List ℕ → List ℕ → Type 0} → ((k k' : ℕ) (counts counts' bytes bytes' : List ℕ) → Is k counts bytes → Is k' counts' bytes' → (k ≡ k') × (counts ≡ counts') × (bytes ≡ bytes'))
    → {stock s before after after' : List ℕ} (r r' : Result Form Refusal) → MakesForm Is stock s before after r → MakesForm Is stock s before after' r' → (after ≡ after') × (outcome_of r ≡ outcome_of r')
made_one {Is} one {stock} {s} {before} {after} {after'} r r' J J' =
    one_answer (λ u u'. u ∙ sym u') (check 1 (longest ≤ length before) (alphabet_check stock (sheet_check stock s (form_check stock s done)))) (outcome_of r) (outcome_of r') (λ h. good) J.verdict J'.verdict
  where
    good : (v v' : Form) → (counts : List ℕ) × ((bytes : List ℕ) × (Is v.states counts bytes × FileOf v counts bytes before after))
        → (counts : List ℕ) × ((bytes : List ℕ) × (Is v'.states counts bytes × FileOf v' counts bytes before after')) → (after ≡ after') × (v ≡ v')
    good v v' (counts, (bytes, (F, O))) (counts', (bytes', (F', O'))) = file_one O O' (one v.states v'.states counts counts' bytes bytes' F F')

-- the trimmed forms of identical transducers are identical
trimmed_one : {G : Grammar} {M M' N N' : Transducer ℕ} {n n' k k' : ℕ} → Wf G M (λ q. q < n) → Wf G M' (λ q. q < n') → Identical G M' M n' n → Trimmed G M (λ q. q < n) N k → Trimmed G M' (λ q. q < n') N' k' → Identical G N N' k k'
trimmed_one W W' i T T' = let e = i.number in trimmed_unique W T (trimmed_same (rw e at W') (rw e at i) (rw e at T'))

-- A transducer's file has one earliest form.
pub earliest_one : {stock s : List ℕ} (k k' : ℕ) (counts counts' bytes bytes' : List ℕ) → EarliestFile stock s k counts bytes → EarliestFile stock s k' counts' bytes' → (k ≡ k') × (counts ≡ counts') × (bytes ≡ bytes')
earliest_one k k' counts counts' bytes bytes' F F' =
    let l = F.alphabets.leaf in
    let few = F.alphabets.ins.few in
    parts_same l F.encodes F'.encodes
    (trimmed_one (encoded_wf few l F.sheet.encodes) (encoded_wf few l F'.sheet.encodes) (same_file l F'.sheet F.sheet) F.trimmed (trimmed_leaf F'.alphabets.leaf l F'.trimmed))

-- The contract of making the earliest form determines the answer and the area.
pub makes_one : {stock s before after after' : List ℕ} (r r' : Result Form Refusal) → MakesEarliest stock s before after r → MakesEarliest stock s before after' r' → (after ≡ after') × (outcome_of r ≡ outcome_of r')
makes_one {stock} {s} = made_one {Is = EarliestFile stock s} earliest_one
