-- What cleaning promises of two files and of its own results: equal clean files exactly for transducers that are alike; a clean file is accepted again, translates as its transducer, and cleans to itself; the contract determines the answer and the area; a clean file is the trimmed one with equal states made one.
use Rattle.std.specs.Prelude.{Result}
use Rattle.trees.specs.declared.refusal.Refusal.{Refusal}
use Rattle.forms.specs.declared.write.Form.{Form}
use Rattle.trees.specs.Refusal.{outcome_of, accepted, done, Holds}
use Prim.Native.Nat.{ℕ, ◌≤◌}
use native.Mathlib.Omega.{arith}
use mathlib.Core.List.{List}
use mathlib.Core.Logic.{◌↔◌}
use mathlib.Core.Path.{◌≡◌, refl, sym, ◌∙◌}
use lib.ListN.{length, take}
use Rattle.theory.specs.Equivalent.{Equivalent}
use Rattle.theory.specs.NormalForm.{NormalForm, Identical}
use Rattle.theory.specs.Quotient.{quotient}
use Rattle.theory.specs.Transducer.{Transducer}
use Rattle.theory.proofs.Classes.{loop_classes, loop_exact}
use Rattle.theory.proofs.Decide.{classes_exist}
use Rattle.theory.proofs.Equivalences.{equivalent_trans}
use Rattle.theory.proofs.Existence.{normal_trimmed}
use Rattle.theory.proofs.Identity.{identical_sym, identical_equivalent, identical_normal}
use Rattle.theory.proofs.NormalForms.{normal_unique, classes_normal, quotient_normal}
use Rattle.theory.proofs.Trimming.{trimmed_equivalent, trimmed_wf, trimmed_earliest, trimmed_numbered}
use Rattle.trees.specs.Alphabets.{Leaf, Alphabets, inputs, outputs, alphabet_check}
use Rattle.formats.specs.Sheet.{file, Sheet, sheet_check}
use Rattle.trees.proofs.Judging.{accepted_holds}
use Rattle.formats.proofs.Laws.{written_take}
use Rattle.formats.proofs.Sheets.{sheet_counted, encodes_counted, file_short}
use Rattle.forms.specs.Alphabet.{alphabet}
use Rattle.earliest.specs.Answers.{EarliestFile, form_check}
use Rattle.forms.proofs.Files.{encoded_wf, same_file, parts_same, file_same}
use Rattle.forms.proofs.Leaves.{identical_leaf, equiv_leaf, trimmed_leaf}
use Rattle.earliest.proofs.Laws.{made_one}
use Rattle.canonical.specs.Answers.{Alike, SewAlike, NormalFile, MergedFile, Cleans}
use Rattle.canonical.proofs.Alike.{equivalent_alike}

-- transducers with one file are equivalent
same_equivalent : {ins outs : List ℕ} → length ins ≤ 16 → (l : Leaf ins) {s : List ℕ} {n n' : ℕ} {M M' : Transducer ℕ} → Sheet ins outs s n M → Sheet ins outs s n' M' → Equivalent (alphabet ins l) M M'
same_equivalent few l S S' = identical_equivalent (same_file l S S') (encoded_wf few l S.encodes)

-- a clean file is the file of the normal form
form_sheet : {stock s : List ℕ} {k : ℕ} {counts bytes : List ℕ} (F : NormalFile stock s k counts bytes) → Sheet (inputs stock) (outputs stock) (file k counts bytes) k F.form
form_sheet F = record { counts = _; bytes = _; coded = refl; encodes = F.encodes }

module _ {stock s s' : List ℕ} {k k' : ℕ} {counts bytes counts' bytes' : List ℕ} (F : NormalFile stock s k counts bytes) (F' : NormalFile stock s' k' counts' bytes') where
  -- Two clean files are equal exactly if their transducers are alike.
  pub clean_exact : (file k counts bytes ≡ file k' counts' bytes') ↔ Alike (inputs stock) F.machine F'.machine
  clean_exact =
      let l = F.alphabets.leaf in
      let u = normal_unique (F.normal l) (F'.normal l) in (
        λ e. (equivalent_alike l).0 (u.1 (same_file l (form_sheet F) (record { counts = counts'; bytes = bytes'; coded = sym e; encodes = F'.encodes }))),
        λ a. file_same l F.encodes F'.encodes (u.0 ((equivalent_alike l).1 a)),
      )

module _ {stock s : List ℕ} {k : ℕ} {counts bytes : List ℕ} (F : NormalFile stock s k counts bytes) where
  -- A clean file translates as its transducer.
  pub clean_alike : Alike (inputs stock) F.machine F.form
  clean_alike = let l = F.alphabets.leaf in (equivalent_alike l).0 (F.normal l).equivalent

  -- A clean file is accepted, also for cleaning.
  pub clean_accepted : Holds (alphabet_check stock (sheet_check stock (file k counts bytes) (form_check stock (file k counts bytes) done)))
  unfolding Holds
  clean_accepted =
      let S = form_sheet F in
      let N = F.normal F.alphabets.leaf in
      let E : EarliestFile stock (file k counts bytes) k counts bytes = record { alphabets = F.alphabets; states = k; machine = F.form; sheet = S; form = F.form; trimmed = normal_trimmed N.canonical N.numbered; encodes = F.encodes } in
      (F.alphabets, (sheet_counted S, ((k, (F.form, S)), ((k, (counts, (bytes, E))), tt))))

  -- A clean file cleans to itself.
  pub clean_again : {k' : ℕ} {counts' bytes' : List ℕ} → NormalFile stock (file k counts bytes) k' counts' bytes' → file k' counts' bytes' ≡ file k counts bytes
  clean_again F' =
      let l = F.alphabets.leaf in
      let N = F.normal l in
      let i = same_file l (form_sheet F) F'.sheet in
      sym ((clean_exact F F').1 ((equivalent_alike l).0 (equivalent_trans N.equivalent (identical_equivalent i N.canonical.wf))))

-- ---- the same of what `clean` answers and leaves
-- what an accepted answer says: a normal form, whose file the area begins with
pub record Cleaned (stock s after : List ℕ) (v : Form) : Type 0 where
  pub counts : List ℕ
  pub bytes : List ℕ
  pub normal : NormalFile stock s v.states counts bytes
  pub begins : take v.bytes after ≡ file v.states counts bytes

pub cleaned : {stock s before after : List ℕ} (r : Result Form Refusal) {v : Form} → Cleans stock s before after r → outcome_of r ≡ accepted v → Cleaned stock s after v
unfolding Holds
cleaned {stock} {s} {before} {after} r {v} J e =
    let w = accepted_holds (rw e at J) in
    let G = w.1 in
    let counts = G.0 in
    let bytes = G.1.0 in
    let F = G.1.1.0 in
    let O = G.1.1.1 in
    let C = encodes_counted (inputs stock) (outputs stock) v.states counts bytes F.form F.encodes in
    let long : length (file v.states counts bytes) ≤ length before = omega (arith, file_short (inputs stock) v.states counts bytes F.alphabets.ins.few C, w.0.0) in
    record { counts = counts; bytes = bytes; normal = F; begins = written_take (file v.states counts bytes) before after v.bytes O.size long O.wrote }

-- whatever transducers the two files have, they are alike
pub all_alike : {stock s s' : List ℕ} {n n' : ℕ} {M M' : Transducer ℕ} → Alphabets stock → SewAlike stock s s' → Sheet (inputs stock) (outputs stock) s n M → Sheet (inputs stock) (outputs stock) s' n' M' → Alike (inputs stock) M M'
all_alike A a S S' =
    let l = A.leaf in
    let few = A.ins.few in
    (equivalent_alike l).0 (equivalent_trans (same_equivalent few l S a.sheet) (equivalent_trans ((equivalent_alike l).1 a.alike) (same_equivalent few l a.sheet' S')))

-- the transducers of two files are alike if two of them are
pub sheets_alike : {stock s s' : List ℕ} {k k' : ℕ} {counts bytes counts' bytes' : List ℕ} (F : NormalFile stock s k counts bytes) (F' : NormalFile stock s' k' counts' bytes') → Alike (inputs stock) F.machine F'.machine ↔ SewAlike stock s s'
sheets_alike F F' = (
  λ a. record { states = F.states; machine = F.machine; sheet = F.sheet; states' = F'.states; machine' = F'.machine; sheet' = F'.sheet; alike = a },
  λ a. all_alike F.alphabets a F.sheet F'.sheet,
)

-- For two files accepted for cleaning under one stock: the clean files are equal exactly if the two sew alike.
pub cleaned_exact : {stock s s' before after before' after' : List ℕ} (r r' : Result Form Refusal) {v v' : Form} → Cleans stock s before after r → outcome_of r ≡ accepted v → Cleans stock s' before' after' r' → outcome_of r' ≡ accepted v' → (take v.bytes after ≡ take v'.bytes after') ↔ SewAlike stock s s'
cleaned_exact r r' J e J' e' =
    let C = cleaned r J e in
    let C' = cleaned r' J' e' in
    let x = clean_exact C.normal C'.normal in
    let y = sheets_alike C.normal C'.normal in
    (λ b. y.0 (x.0 (sym C.begins ∙ (b ∙ C'.begins))), λ a. C.begins ∙ (x.1 (y.1 a) ∙ sym C'.begins))

-- ---- the contract determines the result
-- A transducer's file has one normal form.
pub normal_one : {stock s : List ℕ} (k k' : ℕ) (counts counts' bytes bytes' : List ℕ) → NormalFile stock s k counts bytes → NormalFile stock s k' counts' bytes' → (k ≡ k') × (counts ≡ counts') × (bytes ≡ bytes')
normal_one k k' counts counts' bytes bytes' F F' =
    let l = F.alphabets.leaf in
    parts_same l F.encodes F'.encodes ((normal_unique (F.normal l) (F'.normal l)).0 (same_equivalent F.alphabets.ins.few l F.sheet F'.sheet))

-- The contract of cleaning determines the answer and the area.
pub cleans_one : {stock s before after after' : List ℕ} (r r' : Result Form Refusal) → Cleans stock s before after r → Cleans stock s before after' r' → (after ≡ after') × (outcome_of r ≡ outcome_of r')
cleans_one {stock} {s} = made_one {Is = NormalFile stock s} normal_one

-- ---- the clean sheet in document 01's words
module _ {stock s : List ℕ} {k : ℕ} {counts bytes : List ℕ} where
  -- the trimmed sheet with equal passes made one is the normal form
  pub merged_normal : MergedFile stock s k counts bytes → NormalFile stock s k counts bytes
  merged_normal F = record { alphabets = F.alphabets; states = F.states; machine = F.machine; sheet = F.sheet; form = F.form; normal = normal; encodes = F.encodes }
    where
      normal : (l : Leaf (inputs stock)) → NormalForm (alphabet (inputs stock) l) F.machine F.form k
      normal l =
          let g = F.alphabets.leaf in
          let W = encoded_wf F.alphabets.ins.few l F.sheet.encodes in
          let T = trimmed_leaf g l F.trimmed in
          identical_normal (identical_sym (identical_leaf g l F.merged))
          (classes_normal (trimmed_equivalent W T) (trimmed_wf W T) (trimmed_earliest W T) (trimmed_numbered W T) F.classes (λ p q h h'. let x = F.equal p q h h' in (λ e. equiv_leaf g l (x.0 e), λ z. x.1 (equiv_leaf l g z))))

  -- and the normal form is that, as the trimmed sheet is within the limits
  pub normal_merged : {k' : ℕ} {counts' bytes' : List ℕ} → EarliestFile stock s k' counts' bytes' → NormalFile stock s k counts bytes → MergedFile stock s k counts bytes
  normal_merged {k'} E F =
      let l = E.alphabets.leaf in
      let W = encoded_wf E.alphabets.ins.few l E.sheet.encodes in
      let T = E.trimmed in
      let C = classes_exist (trimmed_wf W T) (trimmed_earliest W T) in
      let N = quotient_normal (trimmed_equivalent W T) (trimmed_wf W T) (trimmed_earliest W T) (trimmed_numbered W T) C.loop in
      let i : Identical (alphabet (inputs stock) l) F.form (quotient E.form C.class C.least) k C.number = (normal_unique (F.normal l) N).0 (same_equivalent F.alphabets.ins.few l F.sheet E.sheet) in
      record {
        alphabets = E.alphabets;
        states = E.states;
        machine = E.machine;
        sheet = E.sheet;
        early = E.form;
        passes = k';
        trimmed = T;
        class = C.class;
        least = C.least;
        classes = rw i.number (loop_classes C.loop);
        equal = loop_exact C.loop;
        form = F.form;
        merged = rw (← i.number) at i;
        numbered = (F.normal l).numbered;
        encodes = F.encodes;
      }

-- What is written is the file of the trimmed sheet with equal passes made one, and numbered as first met.
pub cleaned_merged : {stock s before after : List ℕ} (r : Result Form Refusal) {v : Form} → Cleans stock s before after r → outcome_of r ≡ accepted v → {counts bytes : List ℕ} → NormalFile stock s v.states counts bytes → MergedFile stock s v.states counts bytes
unfolding Holds
cleaned_merged r J e F = let w = accepted_holds (rw e at J) in normal_merged w.0.1.1.1.1.0.1.1.1 F
