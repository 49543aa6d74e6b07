-- Request F-9 is met.
-- Assumes nothing.
use Rattle.std.specs.Prelude.{Err, Ok, Result}
use Rattle.trees.specs.declared.refusal.Refusal.{Refusal}
use Rattle.forms.specs.declared.write.Form.{Form}
use Rattle.trees.specs.Refusal.{outcome_of, accepted, done, Holds}
use Prim.Native.Nat.{ℕ}
use mathlib.Core.List.{List}
use mathlib.Core.Path.{◌≡◌, refl, sym, ap, ◌∙◌, subst}
use lib.ListN.{take}
use Rattle.theory.specs.Term.{Tree}
use Rattle.theory.specs.Transducer.{Transducer, translate}
use Rattle.theory.proofs.Terms.{conflict}
use Rattle.trees.specs.Alphabets.{Alphabets, inputs, outputs, alphabet_check}
use Rattle.trees.specs.Code.{Ranked, code}
use Rattle.trees.proofs.Stock.{stock_reads, stock_reads_outputs}
use Rattle.formats.specs.Sheet.{file, Sheet, sheet_check}
use Rattle.transducer.specs.Output.{Output}
use Rattle.join.specs.Answers.{JoinedFile, joined_stock, Joins}
use Rattle.join.proofs.Laws.{TranslateAlike, sheet_alike, joined_sheet, join_translates_any, join_output, JoinWritten, join_written, join_sheet, join_unique, join_alike_first, join_alike_second, join_assoc_files}
use Rattle.canonical.specs.Answers.{SewAlike}
use Rattle.demands.specs.Joining.{JoinsTo, Request9, file_in, JoinsThree}

same_file_bytes : {k k' : ℕ} {counts counts' bytes bytes' : List ℕ} → k ≡ k' → counts ≡ counts' → bytes ≡ bytes' → file k counts bytes ≡ file k' counts' bytes'
same_file_bytes e f g = rw (e, f, g)

-- ---- a joined file, by its bytes
module _ {a b s t x : List ℕ} {k : ℕ} {counts bytes : List ℕ} (F : JoinedFile a b s t k counts bytes) (e : x ≡ file k counts bytes) where
  sheet_of : Sheet (inputs a) (outputs b) x k F.form
  sheet_of = rw e (joined_sheet F)

  plan_of : outputs a ≡ inputs b → {n m j : ℕ} {M N J : Transducer ℕ} → Sheet (inputs a) (outputs a) s n M → Sheet (inputs b) (outputs b) t m N → Sheet (inputs a) (outputs b) x j J → (d : Tree) → Ranked (λ y. ⊥) (inputs a) d → translate J d ≡ translate N (translate M d)
  plan_of fits S S' S'' = join_translates_any F fits S S' (rw e at S'')

  output_of : outputs a ≡ inputs b → {design : List ℕ} {p u : Tree} → Output a s design p → Output b t (code p) u → Output (joined_stock a b) x design u
  output_of fits O O' = rw e (join_output F fits O O')

-- two sheets over the first's inputs and the second's outputs that translate alike sew alike under the joined stock
sews_alike : (a b : List ℕ) {x y : List ℕ} {k l : ℕ} {J K : Transducer ℕ} → Sheet (inputs a) (outputs b) x k J → Sheet (inputs a) (outputs b) y l K → TranslateAlike (inputs a) J K → SewAlike (joined_stock a b) x y
sews_alike a b {k = k} {l} {J} {K} S S' e = record {
  states = k;
  machine = J;
  sheet = rw (stock_reads (inputs a) (outputs b), stock_reads_outputs (inputs a) (outputs b)) S;
  states' = l;
  machine' = K;
  sheet' = rw (stock_reads (inputs a) (outputs b), stock_reads_outputs (inputs a) (outputs b)) S';
  alike = record { plans = λ d r. e d (rw (stock_reads (inputs a) (outputs b)) at r) };
}

-- three sheets, either way
same_three : {a b c s t u x y z w : List ℕ} {k k₁ k₂ k₃ : ℕ} {counts bytes counts₁ bytes₁ counts₂ bytes₂ counts₃ bytes₃ : List ℕ} → outputs a ≡ inputs b → outputs b ≡ inputs c → Alphabets c
    → JoinedFile a b s t k counts bytes → x ≡ file k counts bytes → JoinedFile (joined_stock a b) c x u k₁ counts₁ bytes₁ → y ≡ file k₁ counts₁ bytes₁
    → JoinedFile b c t u k₂ counts₂ bytes₂ → z ≡ file k₂ counts₂ bytes₂ → JoinedFile a (joined_stock b c) s z k₃ counts₃ bytes₃ → w ≡ file k₃ counts₃ bytes₃ → y ≡ w
same_three fits fits' C F e G g H f K l = let u = join_assoc_files fits fits' F (rw e at G) H (rw f at K) C in g ∙ (same_file_bytes u.0 u.1 u.2 ∙ sym l)

-- sheets that sew alike, and the transducers of their files
alike_machines : {stock s s' : List ℕ} {n n' : ℕ} {M M' : Transducer ℕ} → SewAlike stock s s' → Sheet (inputs stock) (outputs stock) s n M → Sheet (inputs stock) (outputs stock) s' n' M' → TranslateAlike (inputs stock) M M'
alike_machines E S S' d r = sheet_alike S E.sheet d r ∙ (E.alike.plans d r ∙ sheet_alike E.sheet' S' d r)

-- ---- what was written
module _ {a b s t x : List ℕ} (Q : JoinsTo a b s t x) where
  written : JoinWritten a b s t Q.after Q.wrote.values
  written = join_written Q.answer Q.promise Q.wrote.answer

  file_is : x ≡ file Q.wrote.values.states written.counts written.bytes
  file_is = sym Q.wrote.bytes ∙ written.begins

  sheet_is : Sheet (inputs a) (outputs b) x Q.wrote.values.states written.joined.form
  sheet_is = sheet_of written.joined file_is

  stands_there : Holds (alphabet_check (joined_stock a b) (sheet_check (joined_stock a b) x done))
  stands_there = subst (λ y. Holds (alphabet_check (joined_stock a b) (sheet_check (joined_stock a b) y done))) Q.wrote.bytes (join_sheet written).0

-- three sheets joined either way are one file
three_one : {a b c s t u x y z w : List ℕ} → JoinsTo a b s t x → JoinsTo (joined_stock a b) c x u y → JoinsTo b c t u z → JoinsTo a (joined_stock b c) s z w → y ≡ w
three_one A B C D = same_three (written A).fits (written C).fits (written C).alphabets' (written A).joined (file_is A) (written B).joined (file_is B) (written C).joined (file_is C) (written D).joined (file_is D)

-- what is joined with a joined sheet is over the inputs of the first
first_inputs : (a b : List ℕ) {c x u y : List ℕ} (Q : JoinsTo (joined_stock a b) c x u y) → Sheet (inputs a) (outputs c) y Q.wrote.values.states (written Q).joined.form
first_inputs a b Q = rw (stock_reads (inputs a) (outputs b)) at (sheet_is Q)

pub joining : Request9
joining = record {
  joins = λ {before = before} {after = after} r J e. record { before = before; after = after; answer = r; promise = J; wrote = record { values = _; answer = e; bytes = refl } };
  plan = λ Q S S' S'' d r. plan_of (written Q).joined (file_is Q) (written Q).fits S S' S'' d r;
  plan_of_plan = λ Q O O'. output_of (written Q).joined (file_is Q) (written Q).fits O O';
  stands = λ Q. stands_there Q;
  one = λ Q R. let u = join_unique (written Q).alphabets' (written Q).fits (written Q).joined (written R).joined in file_is Q ∙ (same_file_bytes u.0 u.1 u.2 ∙ sym (file_is R));
  three = λ {a} {b} {c} {y = y} A B C D. subst (λ v. SewAlike (joined_stock a c) y v) (three_one A B C D) (sews_alike a c (first_inputs a b B) (first_inputs a b B) (λ d r. refl));
  three_same = three_one;
  alike_first = λ {a} {b} E Q R. sews_alike a b (sheet_is Q) (sheet_is R) (join_alike_first (written Q).fits (written Q).joined (written R).joined (alike_machines E (written Q).joined.sheet (written R).joined.sheet));
  alike_second = λ {a} {b} E Q R. sews_alike a b (sheet_is Q) (sheet_is R) (join_alike_second (written Q).fits (written Q).joined (written R).joined (alike_machines E (written Q).joined.sheet' (written R).joined.sheet'));
}

-- ---- of the functions themselves
-- what an accepted call wrote
wrote_file : (r : Result Form Refusal) (area : List ℕ) (v : Form) → outcome_of r ≡ accepted v → file_in r area ≡ take v.bytes area
wrote_file (Ok u) area v e = let w : u ≡ v = cc in ap (λ (w : Form). take w.bytes area) w
wrote_file (Err x) area v e = conflict (cc)

-- joining what a call wrote, as the first sheet or as the second
pub joins_first : {a b f f' t x x' : List ℕ} (r : Result Form Refusal) → f ≡ f' → Joins a b f t x x' r → Joins a b f' t x x' r
joins_first r e J = rw e at J

pub joins_second : {a b s f f' x x' : List ℕ} (r : Result Form Refusal) → f ≡ f' → Joins a b s f x x' r → Joins a b s f' x x' r
joins_second r e J = rw e at J

pub both_ways : {a b c ab bc s t u x x' y y' z z' w w' : List ℕ} (first left second right : Result Form Refusal) → Joins a b s t x x' first → Joins ab c (file_in first x') u y y' left → Joins b c t u z z' second → Joins a bc s (file_in second z') w w' right → JoinsThree a b c ab bc first left second right y' w'
both_ways {x' = x'} {y' = y'} {z' = z'} {w' = w'} first left second right J J₁ J₂ J₃ e f v v₁ v₂ v₃ h h₁ h₂ h₃ =
    let A = joining.joins first J h in
    let B = joining.joins left (rw (e, wrote_file first x' v h) at J₁) h₁ in
    let C = joining.joins second J₂ h₂ in
    let D = joining.joins right (rw (f, wrote_file second z' v₂ h₂) at J₃) h₃ in
    rw (wrote_file left y' v₁ h₁, wrote_file right w' v₃ h₃) (joining.three_same A B C D, joining.three A B C D)
