-- The joined transducer from its ends: what is read from the tables of two transducers is the second after the first; of the parts of two files, and of two files.
-- Assumes nothing.
use Rattle.std.specs.Prelude.{Err, None, Ok, Option, Result, Some}
use Rattle.trees.specs.declared.refusal.Refusal.{Refusal}
use Rattle.forms.specs.declared.write.Form.{Form}
use Rattle.trees.specs.Refusal.{outcome_of, done, check, IsJudged, Holds, Judged}
use Prim.Native.Nat.{ℕ, ◌≤◌}
use native.Mathlib.Omega.{arith}
use mathlib.Core.List.{List}
use mathlib.Core.Logic.{inl, inr}
use mathlib.Core.Path.{◌≡◌, refl, ap, ◌∙◌}
use lib.ListN.{length, take}
use Rattle.theory.specs.Joined.{Joined}
use Rattle.theory.specs.NormalForm.{Identical}
use Rattle.theory.specs.Transducer.{Transducer}
use Rattle.theory.proofs.Identity.{identical_sym, identical_trans, identical_wf}
use Rattle.theory.proofs.Joining.{joined_by, joined_follows_stage, joined_follows_states, joined_same}
use Rattle.trees.specs.Alphabets.{Leaf, Alphabets, inputs, outputs, stock as stockFile}
use Rattle.trees.specs.declared.refusal.Refusal.TheVariants.{JoinOverLimits}
use Rattle.trees.proofs.Judging.{refuse, pass, accept}
use Rattle.trees.proofs.Stock.{stock_reads, stock_reads_outputs, stock_right}
use Rattle.formats.specs.Inner.Layout.{body_count, Starts}
use Rattle.formats.specs.Sheet.{longest, Encodes}
use Rattle.formats.proofs.Sheets.{sheet_unique}
use Rattle.transducer.proofs.Opening.{Opened, opened_sheet}
use Rattle.transducer.proofs.Translating.{starts_fit}
use Rattle.forms.specs.Alphabet.{alphabet}
use Rattle.forms.specs.Answers.{FileOf}
use Rattle.forms.specs.Inner.Tables.{machine, Layout}
use Rattle.forms.specs.Inner.Writing.{FoundWritable, WritesForm, WritesFound}
use Rattle.forms.proofs.Filing.{found_writable}
use Rattle.forms.proofs.Loading.{encoded_layout, encoded_same}
use Rattle.discovery.specs.Inner.Bodies.{AllFollow}
use Rattle.discovery.specs.Inner.Discovering.{Discovers}
use Rattle.join.specs.Answers.{JoinedFile, join_check}
use Rattle.join.specs.Inner.Pairs.{product, Tables}
use Rattle.join.specs.Inner.Parts.{StockJoined, Joinable, JoinedOf, JoinsParts, JoinsFile, JoinsSheets}
use Rattle.runs.specs.Inner.Walked.{tabled}
use Rattle.join.proofs.Numbers.{over_outputs, first_wf, second_wf, first_outputs}
use Rattle.runs.proofs.Wider.{tabled_same}

-- ---- by the tables
module _ {stock stock' starts bytes starts' bytes' : List ℕ} (T : Tables stock stock' starts bytes starts' bytes') (l : Leaf (inputs stock)) where
  -- the joined transducer is what the reading of the pairs finds
  pub all_follow : {J : Transducer ℕ} {k : ℕ} → Joined (alphabet (inputs stock) l) (tabled (inputs stock) (inputs stock') starts bytes) (tabled (inputs stock') (outputs stock') starts' bytes') J k → AllFollow (alphabet (inputs stock) l) (product stock stock' starts bytes starts' bytes') J k
  unfolding product
  all_follow A =
      let l' = T.alphabets'.leaf in
      record {
        states = λ p L s g. joined_follows_states (first_wf T l) (second_wf T l') (first_outputs T l l') {b = 128} T.second.layout.few_states s g A;
        stage = λ p c a L L' s e r g. joined_follows_stage (first_wf T l) (second_wf T l') (first_outputs T l l') {b = 128} T.second.layout.few_states s e r g A;
      }

  -- and what it finds is the joined transducer
  tables_joined : {starts'' out : List ℕ} {r : Option ℕ} → Discovers (inputs stock) (outputs stock') (product stock stock' starts bytes starts' bytes') starts'' out r → (k : ℕ) → r ≡ Some k
      → Joined (alphabet (inputs stock) l) (tabled (inputs stock) (inputs stock') starts bytes) (tabled (inputs stock') (outputs stock') starts' bytes') (machine (inputs stock) (outputs stock') starts'' out k) k
  unfolding product
  tables_joined G k e =
      let l' = T.alphabets'.leaf in
      let m = G.met k e in
      joined_by (first_wf T l) (second_wf T l') (first_outputs T l l') {b = 128} T.second.layout.few_states (m.met l) m.indexes (m.form l)

-- ---- of the parts of two files
module _ {stock stock' : List ℕ} {n : ℕ} {counts bytes : List ℕ} {m : ℕ} {counts' bytes' : List ℕ} (X : Joinable stock stock' n counts bytes m counts' bytes')
    (starts starts' : List ℕ) (S : Starts counts starts (body_count (inputs stock) n)) (S' : Starts counts' starts' (body_count (inputs stock') m)) (long : length starts ≡ 2050) (long' : length starts' ≡ 2050) where
  -- a transducer with the first parts, whose outputs are the inputs of the second
  first_encodes : {M : Transducer ℕ} → Encodes (inputs stock) (outputs stock) n counts bytes M → Encodes (inputs stock) (inputs stock') n counts bytes M
  first_encodes E = rw X.fits at E

  first_layout : Layout (inputs stock) (inputs stock') starts bytes n
  first_layout = encoded_layout (first_encodes X.first.encodes) X.first.alphabets.ins.few (omega (arith, ap length X.fits, X.first.alphabets.outs.few)) S (omega (arith, (starts_fit X.first refl).1))

  second_layout : Layout (inputs stock') (outputs stock') starts' bytes' m
  second_layout = encoded_layout X.second.encodes X.second.alphabets.ins.few X.second.alphabets.outs.few S' (omega (arith, (starts_fit X.second refl).1))

  pub tables_of_lem : Tables stock stock' starts bytes starts' bytes'
  tables_of_lem = record {
    alphabets = X.first.alphabets;
    alphabets' = X.second.alphabets;
    first = record { states = n; layout = first_layout };
    second = record { states = m; layout = second_layout };
  }

  -- transducers with these parts are those that are read from the tables
  first_same : {M : Transducer ℕ} → Encodes (inputs stock) (outputs stock) n counts bytes M → (l : Leaf (inputs stock)) → Identical (alphabet (inputs stock) l) M (tabled (inputs stock) (inputs stock') starts bytes) n n
  first_same E l = identical_trans (encoded_same (first_encodes E) X.first.alphabets.ins.few starts S l) (tabled_same first_layout l)

  second_same : {N : Transducer ℕ} → Encodes (inputs stock') (outputs stock') m counts' bytes' N → (l' : Leaf (inputs stock')) → Identical (alphabet (inputs stock') l') N (tabled (inputs stock') (outputs stock') starts' bytes') m m
  second_same E l' = identical_trans (encoded_same E X.second.alphabets.ins.few starts' S' l') (tabled_same second_layout l')

  -- so they have one joined transducer with them
  pub joins_parts : {starts'' out : List ℕ} {r : Option ℕ} → Discovers (inputs stock) (outputs stock') (product stock stock' starts bytes starts' bytes') starts'' out r → JoinsParts stock stock' n counts bytes m counts' bytes' starts'' out r
  unfolding tables_of_lem
  joins_parts G = let l' = X.second.alphabets.leaf in record {
    over = λ e k counts'' bytes'' K.
        let l = K.alphabets.leaf in
        let s = first_same K.machine_coded l in
        let s' = second_same K.machine_coded' l' in
        G.over e l K.form k counts'' bytes''
        (all_follow tables_of_lem l (joined_same (identical_wf (identical_sym s) (first_wf tables_of_lem l)) (identical_wf (identical_sym s') (second_wf tables_of_lem l')) (over_outputs (first_encodes K.machine_coded).over l l') s s' K.joined))
        K.form_coded;
    layout = G.layout;
    packed = G.packed;
    joined = λ k e M N E E' l.
        joined_same (first_wf tables_of_lem l) (second_wf tables_of_lem l') (first_outputs tables_of_lem l l') (identical_sym (first_same E l)) (identical_sym (second_same E' l')) (tables_joined tables_of_lem l G k e);
  }

-- ---- the file of the joined transducer that was found
-- the alphabets of the joined transducer, as they are lent
pub stock_lent : {stock stock' area : List ℕ} {r : ℕ} → StockJoined stock stock' area r → take r area ≡ stockFile (inputs stock) (outputs stock')
stock_lent K = K.coded

-- they are right
stock_alphabets : {stock stock' : List ℕ} → Alphabets stock → Alphabets stock' → Alphabets (stockFile (inputs stock) (outputs stock'))
stock_alphabets A A' = stock_right A.ins A'.outs A.leaf

module _ {stock stock' : List ℕ} {n : ℕ} {counts bytes : List ℕ} {m : ℕ} {counts' bytes' starts out : List ℕ} {found : Option ℕ}
    (B : JoinsParts stock stock' n counts bytes m counts' bytes' starts out found) (X : Joinable stock stock' n counts bytes m counts' bytes') where
  -- what writing it asks
  pub file_writable : {k : ℕ} → found ≡ Some k → {s : List ℕ} → s ≡ stockFile (inputs stock) (outputs stock') → {area : List ℕ} → longest ≤ length area → FoundWritable s (Some k) starts out area
  file_writable e c h =
      rw c (found_writable (stock_alphabets X.first.alphabets X.second.alphabets)
      (λ k z. rw (stock_reads (inputs stock) (outputs stock'), stock_reads_outputs (inputs stock) (outputs stock')) (B.layout k (e ∙ z)))
      (λ k z. rw (stock_reads (inputs stock) (outputs stock')) (B.packed k (e ∙ z))) h)

  -- it is the joined transducer
  joined_of : {k : ℕ} → found ≡ Some k → {before after : List ℕ} {size : ℕ} (W : WritesForm (stockFile (inputs stock) (outputs stock')) starts out k before after size) → JoinedOf stock stock' n counts bytes m counts' bytes' k W.counts W.marks
  joined_of {k} e W =
      let l = X.first.alphabets.leaf in
      let A = B.joined k e X.first.machine X.second.machine X.first.encodes X.second.encodes l in
      let same : (l : Leaf (inputs stock)) → Identical (alphabet (inputs stock) l) W.form (machine (inputs stock) (outputs stock') starts out k) k k = rw (stock_reads (inputs stock) (outputs stock'), stock_reads_outputs (inputs stock) (outputs stock')) at W.same in
      record {
        alphabets = X.first.alphabets;
        machine = X.first.machine;
        machine_coded = X.first.encodes;
        machine' = X.second.machine;
        machine_coded' = X.second.encodes;
        form = W.form;
        joined = record { states = A.states; number = A.number; numbers = A.numbers; met = A.met; form = identical_trans (same l) A.form };
        form_coded = rw (stock_reads (inputs stock) (outputs stock'), stock_reads_outputs (inputs stock) (outputs stock')) at W.encodes;
      }

  -- the contract of `join_file`: it is written, or it is over the limits
  pub file_joined : {k : ℕ} → found ≡ Some k → {s : List ℕ} → s ≡ stockFile (inputs stock) (outputs stock') → {before after : List ℕ} {r : Result Form Refusal} → WritesFound s (Some k) starts out before after r → JoinsFile stock stock' n counts bytes m counts' bytes' before after r
  file_joined {k} e c W =
      let w = (rw c at W).form k refl in
      let f = w.written in
      let g = joined_of e f in
      rw w.answer (pass (k, (f.counts, (f.marks, g))) (accept (f.counts, (f.marks, (g, record { marks = omega (arith, w.many, f.long); size = f.size; wrote = f.wrote })))))

  pub file_over : found ≡ None → {area : List ℕ} → JoinsFile stock stock' n counts bytes m counts' bytes' area area (Err JoinOverLimits)
  file_over e = refuse (λ x. B.over e x.0 x.1.0 x.1.1.0 x.1.1.1) refl

-- ---- of two files: what is answered of their parts is answered of them
module _ {stock s ins counts bytes : List ℕ} {n : ℕ} (O : Opened stock s n ins counts bytes) {stock' s' ins' counts' bytes' : List ℕ} {m : ℕ} (O' : Opened stock' s' m ins' counts' bytes') where
  from_parts : {k : ℕ} {counts'' bytes'' : List ℕ} → JoinedOf stock stock' n counts bytes m counts' bytes' k counts'' bytes'' → JoinedFile stock stock' s s' k counts'' bytes''
  from_parts K = record {
    alphabets = K.alphabets;
    states = n;
    machine = K.machine;
    sheet = record { counts = counts; bytes = bytes; coded = O.coded; encodes = K.machine_coded };
    states' = m;
    machine' = K.machine';
    sheet' = record { counts = counts'; bytes = bytes'; coded = O'.coded; encodes = K.machine_coded' };
    form = K.form;
    joined = K.joined;
    encodes = K.form_coded;
  }

  to_parts : {k : ℕ} {counts'' bytes'' : List ℕ} → JoinedFile stock stock' s s' k counts'' bytes'' → JoinedOf stock stock' n counts bytes m counts' bytes' k counts'' bytes''
  to_parts F =
      let u = sheet_unique (inputs stock) (outputs stock) s F.states n F.machine O.machine F.sheet (opened_sheet O) in
      let u' = sheet_unique (inputs stock') (outputs stock') s' F.states' m F.machine' O'.machine F.sheet' (opened_sheet O') in
      record {
        alphabets = F.alphabets;
        machine = F.machine;
        machine_coded = rw (← u.0, ← u.1, ← u.2) F.sheet.encodes;
        machine' = F.machine';
        machine_coded' = rw (← u'.0, ← u'.1, ← u'.2) F.sheet'.encodes;
        form = F.form;
        joined = F.joined;
        form_coded = F.encodes;
      }

  -- the contract of `join_sheets`, where both files are read
  pub sheets_joined : {before after : List ℕ} (r : Result Form Refusal) → JoinsFile stock stock' n counts bytes m counts' bytes' before after r → JoinsSheets stock stock' s s' before after r
  unfolding IsJudged Holds
  sheets_joined {before} {after} r J = go r J.verdict
    where
      start : (r : Result Form Refusal) → Judged (after ≡ before) (λ v. (counts'' : List ℕ) × ((bytes'' : List ℕ) × (JoinedFile stock stock' s s' v.states counts'' bytes'' × FileOf v counts'' bytes'' before after))) (join_check stock stock' s s' done) (outcome_of r) → JoinsSheets stock stock' s s' before after r
      start r j = let w = O.holds.1 in let w' = O'.holds.1 in pass w.0 (pass w.1.0 (pass w'.0 (pass w'.1.0 j)))

      go : (r : Result Form Refusal) → IsJudged (after ≡ before) (λ v. (counts'' : List ℕ) × ((bytes'' : List ℕ) × (JoinedOf stock stock' n counts bytes m counts' bytes' v.states counts'' bytes'' × FileOf v counts'' bytes'' before after))) (check 17 ((k : ℕ) × ((counts'' : List ℕ) × ((bytes'' : List ℕ) × JoinedOf stock stock' n counts bytes m counts' bytes' k counts'' bytes''))) done) (outcome_of r) → JoinsSheets stock stock' s s' before after r
      go r (inl (h, q, kept)) = start r (rw q (refuse (λ w. h (w.0, (w.1.0, (w.1.1.0, to_parts w.1.1.1)))) kept))
      go (Ok v) (inr (R, (counts'', (bytes'', (P, f))))) = start (Ok v) (pass (R.0, (R.1.0, (R.1.1.0, from_parts R.1.1.1))) (accept (counts'', (bytes'', (from_parts P, f)))))
      go (Err x) (inr (R, u)) = absurd u
