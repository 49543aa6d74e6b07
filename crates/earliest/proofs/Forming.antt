-- The earliest form from its ends: what is read from the table of the common prefixes is the trimmed form of the transducer, and of the parts of a file. Any form of such parts, as a file.
-- Assumes nothing.
use Rattle.std.specs.Prelude.{Err, None, Ok, Option, Result, Some}
use Rattle.trees.specs.declared.refusal.Refusal.{Refusal}
use Rattle.forms.specs.declared.write.Form.{Form}
use Rattle.trees.specs.Refusal.{outcome_of, done, check, IsJudged, Holds, Judged}
use Prim.Native.Nat.{ℕ, ◌-◌, ◌≤◌, ◌<◌}
use native.Mathlib.Omega.{arith}
use mathlib.Core.List.{List}
use mathlib.Core.Logic.{inl, inr}
use mathlib.Core.Path.{◌≡◌, refl, ap, ◌∙◌}
use lib.ListN.{length, take, replicate, length-append, length-replicate}
use lib.Seq.{length-take-le, take_at}
use borrow.Rule.Slice.PartMut.{put_mid, post_of}
use Rattle.theory.specs.NormalForm.{Identical}
use Rattle.theory.specs.Pref.{Prefs}
use Rattle.theory.specs.Transducer.{Transducer}
use Rattle.theory.specs.Trimmed.{Trimmed}
use Rattle.theory.specs.Wf.{Wf}
use Rattle.theory.proofs.Identity.{identical_sym, identical_wf}
use Rattle.theory.proofs.Trimming.{trimmed_by, trimmed_follows_stage, trimmed_follows_states, trimmed_form, trimmed_same}
use Rattle.trees.specs.Alphabets.{Leaf, inputs, outputs}
use Rattle.formats.specs.Inner.Layout.{body_count, Starts}
use Rattle.formats.specs.Sheet.{longest, Encodes}
use Rattle.trees.proofs.Judging.{refuse, pass, accept}
use Rattle.formats.proofs.Sheets.{sheet_unique}
use Rattle.transducer.specs.Inner.Machine.{Machine}
use Rattle.transducer.proofs.Opening.{Opened, opened_sheet}
use Rattle.transducer.proofs.Translating.{starts_fit}
use Rattle.forms.specs.Alphabet.{alphabet}
use Rattle.prefixes.specs.Inner.Heads.{head_of, Prefixable, Prefixes}
use Rattle.forms.specs.Inner.Tables.{machine, Layout}
use Rattle.forms.proofs.Files.{machine_wf}
use Rattle.forms.proofs.Filing.{packed_encoded}
use Rattle.forms.specs.Answers.{FileOf}
use Rattle.discovery.specs.Inner.Discovering.{Discovers}
use Rattle.discovery.proofs.Stages.{numbers_wf}
use Rattle.earliest.specs.Answers.{form_check, EarliestFile, MakesForm}
use Rattle.forms.specs.Inner.Writing.{WritesForm, WritesFound}
use Rattle.earliest.specs.Inner.Discovering.{Formable, FormOfTable}
use Rattle.discovery.specs.Inner.Bodies.{AllFollow}
use Rattle.earliest.specs.Inner.Letters.{earliest, Expanding}
use Rattle.earliest.specs.Inner.Loaded.{EarliestOf, FormOfParts, FormMade, FormsFile, Whole, earliest_whole}
use Rattle.earliest.proofs.Expanding.{pair}
use Rattle.forms.proofs.Loading.{encoded_layout, encoded_same}
use Rattle.earliest.proofs.Numbers.{prefixed_by, pair_injective, by_numbers, earliest_maps, pair_sort}

-- ---- by the common prefixes
module _ {ins outs starts bytes heads sizes : List ℕ} (X : Expanding ins outs starts bytes heads sizes)
    (H : (l : Leaf ins) → Prefs (alphabet ins l) (machine ins outs starts bytes (length sizes)) (λ q. q < length sizes) (head_of outs heads sizes)) where
  -- the trimmed form is what the reading of the earliest form finds
  all_follow : (l : Leaf ins) {N : Transducer ℕ} {k : ℕ} → Trimmed (alphabet ins l) (machine ins outs starts bytes (length sizes)) (λ q. q < length sizes) N k → AllFollow (alphabet ins l) (earliest ins outs starts bytes heads sizes) N k
  all_follow l T =
      let h = head_of outs heads sizes in
      let W = machine_wf l X.layout.wholes in
      record {
        states = λ p L s g. trimmed_follows_states W h (H l) (numbers_wf (by_numbers X) l) (pair h) (earliest_maps X l) (λ c v. pair_sort X c) (λ c d v w e. pair_injective X.table X.layout.few_symbols v w e) s g T;
        stage = λ p c a L L' s e r g. trimmed_follows_stage W h (H l) (numbers_wf (by_numbers X) l) (pair h) (earliest_maps X l) (λ c v. pair_sort X c) (λ c d v w e. pair_injective X.table X.layout.few_symbols v w e) s e r g T;
      }

  -- and what it finds is the trimmed form
  makes_form : {starts' out : List ℕ} {r : Option ℕ} → Discovers ins outs (earliest ins outs starts bytes heads sizes) starts' out r → FormOfTable ins outs starts bytes (length sizes) starts' out r
  makes_form G = record {
    over = λ e l N k counts marks T E. G.over e l N k counts marks (all_follow l T) E;
    layout = G.layout;
    packed = G.packed;
    trimmed = λ k e l.
        let m = G.met k e in
        trimmed_by (machine_wf l X.layout.wholes) (head_of outs heads sizes) (H l) (numbers_wf (by_numbers X) l) (pair (head_of outs heads sizes)) (earliest_maps X l) (λ c v. pair_sort X c) (λ c d v w e. pair_injective X.table X.layout.few_symbols v w e) (m.met l) m.indexes (m.form l);
  }

-- the array of the sizes as it starts
abbrev pub no_sizes : List ℕ
no_sizes = replicate 128 0

module _ {ins outs starts bytes : List ℕ} {n : ℕ} (F : Formable ins outs starts bytes n) where
  -- the sizes of n states, as they are lent
  sizes_long : length (take (n - 0) no_sizes) ≡ n
  sizes_long = let z : n - 0 ≡ n = omega arith in ap (λ k. length (take k no_sizes)) z ∙ length-take-le n no_sizes (omega (arith, F.layout.few_states, length-replicate {A = ℕ} 128 0))

  -- what the common prefixes ask
  pub can_prefix : {heads other : List ℕ} → length heads ≡ 8192 → length other ≡ 4096 → Prefixable ins outs starts bytes heads (take (n - 0) no_sizes) other
  can_prefix h o = record { layout = rw sizes_long F.layout; leaf = F.leaf; long = omega (arith, F.layout.few_states, sizes_long); room = omega arith }

  module _ {heads' sizes' : List ℕ} (P : Prefixes ins outs starts bytes (take (n - 0) no_sizes) heads' sizes') where
    here_prefs : (l : Leaf ins) → Prefs (alphabet ins l) (machine ins outs starts bytes (length sizes')) (λ q. q < length sizes') (head_of outs heads' sizes')
    here_prefs l = rw P.same (P.prefs l)

    here_layout : Layout ins outs starts bytes (length sizes')
    here_layout = rw (P.same ∙ sizes_long) F.layout

    -- they are prefixes of the expanded right-hand sides
    here_expand : Expanding ins outs starts bytes heads' sizes'
    here_expand = record { table = P.table; layout = here_layout; ranks = F.ranks; prefixed = prefixed_by P.table here_layout F.leaf (here_prefs F.leaf) }

    -- the sizes that were put back are lent again
    lent_again : take (n - 0) (put_mid 0 (n - 0) no_sizes sizes') ≡ sizes'
    lent_again = take_at sizes' (post_of 0 (n - 0) no_sizes) (n - 0) (P.same ∙ sizes_long ∙ omega arith)

    pub put_inside : n ≤ length (put_mid 0 (n - 0) no_sizes sizes')
    put_inside = omega (arith, length-append sizes' (post_of 0 (n - 0) no_sizes), P.same, sizes_long)

    pub can_discover : Expanding ins outs starts bytes heads' (take (n - 0) (put_mid 0 (n - 0) no_sizes sizes'))
    can_discover = rw lent_again here_expand

    -- the contract of `form_of_table`
    pub form_by_table : {starts' out : List ℕ} {r : Option ℕ} → Discovers ins outs (earliest ins outs starts bytes heads' (take (n - 0) (put_mid 0 (n - 0) no_sizes sizes'))) starts' out r → FormOfTable ins outs starts bytes n starts' out r
    form_by_table G = rw (P.same ∙ sizes_long) at (makes_form here_expand here_prefs (rw lent_again at G))

-- ---- of the parts of a file
module _ {stock counts bytes : List ℕ} {n : ℕ} (X : Machine stock n counts bytes) {ins outs : List ℕ} (i : ins ≡ inputs stock) (o : outs ≡ outputs stock) (from : List ℕ) (S : Starts counts from (body_count ins n)) (long : length from ≡ 2050) where
  starts_are : Starts counts from (body_count (inputs stock) n)
  starts_are = rw i at S

  machine_layout : Layout (inputs stock) (outputs stock) from bytes n
  machine_layout = encoded_layout X.encodes X.alphabets.ins.few X.alphabets.outs.few starts_are (omega (arith, (starts_fit X refl).1))

  pub parts_formable : Formable ins outs from bytes n
  parts_formable = rw (i, o) (record { layout = machine_layout; leaf = X.alphabets.leaf; ranks = X.alphabets.ins.low })

  -- a transducer with these parts is the one that is read from them
  parts_same : {M : Transducer ℕ} → Encodes (inputs stock) (outputs stock) n counts bytes M → (l : Leaf (inputs stock)) → Identical (alphabet (inputs stock) l) M (machine (inputs stock) (outputs stock) from bytes n) n n
  parts_same E l = encoded_same E X.alphabets.ins.few from starts_are l

  parts_wf : (l : Leaf (inputs stock)) → Wf (alphabet (inputs stock) l) (machine (inputs stock) (outputs stock) from bytes n) (λ q. q < n)
  parts_wf l = machine_wf l machine_layout.wholes

  -- so it has one trimmed form with it
  form_parts : {starts out : List ℕ} {r : Option ℕ} → FormOfTable (inputs stock) (outputs stock) from bytes n starts out r → FormOfParts stock n counts bytes starts out r
  form_parts G = record {
    over = λ e k counts' bytes' K.
        let l = K.alphabets.leaf in
        let s = parts_same K.machine_coded l in
        G.over e l K.form k counts' bytes' (trimmed_same (identical_wf (identical_sym s) (parts_wf l)) s K.trimmed) K.form_coded;
    layout = G.layout;
    packed = G.packed;
    trimmed = λ k e M E l. trimmed_same (parts_wf l) (identical_sym (parts_same E l)) (G.trimmed k e l);
  }

  -- the contract of `form_of_parts`
  pub form_by : {starts out : List ℕ} {r : Option ℕ} → FormOfTable ins outs from bytes n starts out r → FormOfParts stock n counts bytes starts out r
  form_by G = form_parts (rw (i, o) at G)

-- ---- the table of a kind's form
-- the earliest form that was found as a file
module _ {stock counts bytes starts out : List ℕ} {n : ℕ} {found : Option ℕ} (B : FormOfParts stock n counts bytes starts out found) (X : Machine stock n counts bytes) where
  earliest_of : (k : ℕ) → found ≡ Some k → (counts' bytes' : List ℕ) (N : Transducer ℕ) → Encodes (inputs stock) (outputs stock) k counts' bytes' N → ((l : Leaf (inputs stock)) → Identical (alphabet (inputs stock) l) N (machine (inputs stock) (outputs stock) starts out k) k k) → EarliestOf stock n counts bytes k counts' bytes'
  earliest_of k e counts' bytes' N E same = record {
    alphabets = X.alphabets;
    machine = X.machine;
    machine_coded = X.encodes;
    form = N;
    trimmed = trimmed_form (identical_sym (same X.alphabets.leaf)) (B.trimmed k e X.machine X.encodes X.alphabets.leaf);
    form_coded = E;
  }

  pub early_file : (k : ℕ) → found ≡ Some k → (k' : ℕ) × ((counts' : List ℕ) × ((bytes' : List ℕ) × EarliestOf stock n counts bytes k' counts' bytes'))
  early_file k e = let w = packed_encoded X.alphabets (B.layout k e) (B.packed k e) in (k, (w.0, (w.1, earliest_of k e w.0 w.1 w.2 w.3 w.4)))

  -- the contract of `Earliest::make`
  pub earliest_made : FormMade EarliestOf stock n counts bytes starts out found
  earliest_made = record { over = B.over; within = early_file; layout = B.layout; packed = B.packed; made = earliest_of }

-- ---- the file of the form that was found
-- a form with a property is answered, where no form is over the limits but one whose earliest form is
module _ (Good : ℕ → List ℕ → List ℕ → Type 0) {stock counts bytes starts out before after : List ℕ} {n : ℕ} where
  pub found_file : (found : Option ℕ) {r : Result Form Refusal} → WritesFound stock found starts out before after r
      → (found ≡ None → (k : ℕ) (counts' bytes' : List ℕ) → EarliestOf stock n counts bytes k counts' bytes' → ⊥)
      → ((k : ℕ) → found ≡ Some k → (size : ℕ) (W : WritesForm stock starts out k before after size) → Good k W.counts W.marks × ((k' : ℕ) × ((counts' : List ℕ) × ((bytes' : List ℕ) × EarliestOf stock n counts bytes k' counts' bytes'))))
      → FormsFile Good stock n counts bytes before after r
  found_file (Some k) W over form =
      let w = W.form k refl in
      let f = w.written in
      let g = form k refl w.size f in
      rw w.answer (pass g.1 (accept (f.counts, (f.marks, (g.0, record { marks = omega (arith, w.many, f.long); size = f.size; wrote = f.wrote })))))
  found_file None W over form = let w = W.over refl in rw w.0 (refuse (λ x. over refl x.0 x.1.0 x.1.1.0 x.1.1.1) w.1)

-- the contract of `form_file`
pub form_file : {Parts : List ℕ → ℕ → List ℕ → List ℕ → ℕ → List ℕ → List ℕ → Type 0} {stock counts bytes starts out before after : List ℕ} {n : ℕ} (found : Option ℕ) {r : Result Form Refusal} → FormMade Parts stock n counts bytes starts out found → WritesFound stock found starts out before after r → FormsFile (Parts stock n counts bytes) stock n counts bytes before after r
form_file {Parts} {stock} {counts} {bytes} {n = n} found B W = found_file (Parts stock n counts bytes) found W B.over (λ k e size f. (B.made k e f.counts f.marks f.form f.encodes f.same, B.within k e))

-- ---- of a file: what is answered of its parts is answered of it
module _ {stock sheet ins counts bytes : List ℕ} {n : ℕ} (O : Opened stock sheet n ins counts bytes) where
  pub from_parts : {k : ℕ} {counts' bytes' : List ℕ} → EarliestOf stock n counts bytes k counts' bytes' → EarliestFile stock sheet k counts' bytes'
  from_parts {k} {counts'} {bytes'} K = earliest_whole stock sheet n counts bytes O.coded k counts' bytes' K

  pub to_parts : {k : ℕ} {counts' bytes' : List ℕ} → EarliestFile stock sheet k counts' bytes' → EarliestOf stock n counts bytes k counts' bytes'
  to_parts F =
      let u = sheet_unique (inputs stock) (outputs stock) sheet F.states n F.machine O.machine F.sheet (opened_sheet O) in
      record {
        alphabets = F.alphabets;
        machine = F.machine;
        machine_coded = rw (← u.0, ← u.1, ← u.2) F.sheet.encodes;
        form = F.form;
        trimmed = rw (← u.0) F.trimmed;
        form_coded = F.encodes;
      }

  -- the contract of `form_of_file`
  pub file_made : {Parts : List ℕ → ℕ → List ℕ → List ℕ → ℕ → List ℕ → List ℕ → Type 0} {File : List ℕ → List ℕ → ℕ → List ℕ → List ℕ → Type 0} → Whole Parts File → {before after : List ℕ} → longest ≤ length before → (r : Result Form Refusal) → FormsFile (Parts stock n counts bytes) stock n counts bytes before after r → MakesForm (File stock sheet) stock sheet before after r
  unfolding IsJudged Holds
  file_made {Parts} {File} whole {before} {after} long r J = go r J.verdict
    where
      start : (r : Result Form Refusal) → Judged (after ≡ before) (λ (v : Form). (counts' : List ℕ) × ((bytes' : List ℕ) × (File stock sheet v.states counts' bytes' × FileOf v counts' bytes' before after))) (form_check stock sheet done) (outcome_of r) → MakesForm (File stock sheet) stock sheet before after r
      start r j = let w = O.holds in pass long (pass w.0 (pass w.1.0 (pass w.1.1.0 j)))

      go : (r : Result Form Refusal) → IsJudged (after ≡ before) (λ (v : Form). (counts' : List ℕ) × ((bytes' : List ℕ) × (Parts stock n counts bytes v.states counts' bytes' × FileOf v counts' bytes' before after))) (check 7 ((k : ℕ) × ((counts' : List ℕ) × ((bytes' : List ℕ) × EarliestOf stock n counts bytes k counts' bytes'))) done) (outcome_of r) → MakesForm (File stock sheet) stock sheet before after r
      go r (inl (h, q, kept)) = start r (rw q (refuse (λ w. h (w.0, (w.1.0, (w.1.1.0, to_parts w.1.1.1)))) kept))
      go (Ok v) (inr (R, (counts', (bytes', (P, f))))) = start (Ok v) (pass (R.0, (R.1.0, (R.1.1.0, from_parts R.1.1.1))) (accept (counts', (bytes', (whole stock sheet n counts bytes O.coded v.states counts' bytes' P, f)))))
      go (Err x) (inr (R, u)) = absurd u
