-- What joining promises whatever transducers the two files have: the joined file translates as the second after the first, also in the terms of output trees; it is accepted under the joined stock; the contract determines the answer and the area; files that translate alike have joined files that do; joining three files either way gives one file.
-- Assumes nothing.
use Rattle.std.specs.Prelude.{Result}
use Rattle.trees.specs.declared.refusal.Refusal.{Refusal}
use Rattle.forms.specs.declared.write.Form.{Form}
use Rattle.trees.specs.Refusal.{outcome_of, accepted, done, check, Holds}
use Prim.Native.Nat.{ℕ, ◌≤◌}
use native.Mathlib.Omega.{arith}
use mathlib.Core.List.{List, [], ◌∷◌}
use mathlib.Core.Path.{◌≡◌, refl, ap, sym, ◌∙◌, fun_ext, subst}
use lib.ListN.{length, take}
use Rattle.theory.specs.Grammar.{Grammar, Allowed}
use Rattle.theory.specs.Joined.{Joined}
use Rattle.theory.specs.NormalForm.{Identical}
use Rattle.theory.specs.Term.{Tree, var}
use Rattle.theory.specs.Transducer.{Transducer, translate}
use Rattle.theory.proofs.Accessibility.{accessible_unique}
use Rattle.theory.proofs.Composition.{compose_wf}
use Rattle.theory.proofs.Joining.{joined_translate, joined_same}
use Rattle.theory.proofs.OpenRuns.{open_allowed}
use Rattle.theory.proofs.Terms.{bind_var}
use Rattle.trees.specs.Alphabets.{Leaf, Alphabets, inputs, outputs, alphabet_check}
use Rattle.trees.specs.Code.{Ranked, preorder, code}
use Rattle.trees.specs.Inner.Symbols.{symbol_of}
use Rattle.trees.proofs.Codes.{unique}
use Rattle.trees.proofs.Judging.{accepted_holds, one_answer}
use Rattle.trees.proofs.Letters.{over_tree}
use Rattle.trees.proofs.Stock.{stock_reads, stock_reads_outputs, stock_right}
use Rattle.formats.specs.Sheet.{longest, OverAlphabets, Encodes, file, Sheet, sheet_check}
use Rattle.formats.proofs.Laws.{sheet_holds, written_take}
use Rattle.formats.proofs.Sheets.{sheet_unique, encodes_counted, file_short}
use Rattle.transducer.specs.Output.{Output}
use Rattle.transducer.proofs.Outputs.{encodes_translate}
use Rattle.forms.specs.Alphabet.{alphabet}
use Rattle.forms.specs.Answers.{FileOf}
use Rattle.forms.proofs.Files.{encoded_wf, same_file, parts_same, file_one}
use Rattle.forms.proofs.Leaves.{accessible_leaf}
use Rattle.discovery.proofs.Ranks.{ranked_open, translate_ranked}
use Rattle.join.specs.Answers.{JoinedFile, joined_stock, joinable, Joins}
use Rattle.theory.proofs.Associating.{joined_assoc_one}
use Rattle.join.proofs.Numbers.{over_outputs}

-- ---- trees over an alphabet
-- M and M' give equal output trees on every input tree, of any size
abbrev pub TranslateAlike : List ℕ → Transducer ℕ → Transducer ℕ → Type 0
TranslateAlike ins M M' = (d : Tree) → Ranked (λ x. ⊥) ins d → translate M d ≡ translate M' d

-- a tree over the alphabet is one of the grammar
tree_allowed : {ins : List ℕ} (l : Leaf ins) (d : Tree) → Ranked (λ x. ⊥) ins d → Allowed (alphabet ins l) 0 d
tree_allowed {ins} l d r = subst (Allowed (alphabet ins l) 0) (bind_var d) (open_allowed {f = λ x. var x} (λ x. absurd x) (ranked_open (λ x. ⊥) ins l d r))

-- trees over an alphabet with one code are one
code_one : (ins : List ℕ) {t u : Tree} → Ranked (λ x. ⊥) ins t → Ranked (λ x. ⊥) ins u → code t ≡ code u → t ≡ u
code_one ins {t} {u} r r' e = unique (symbol_of ins) (λ x. absurd x) (λ k. k) t u (over_tree ins t r) (over_tree ins u r') (ground t ∙ (e ∙ sym (ground u)))
  where
    ground : (d : Tree) → preorder {X = ℕ} (λ x. absurd x ∷ []) (λ k. k) d ≡ code d
    ground d = ap (λ h. preorder h (λ k. k) d) (fun_ext (λ x. absurd x))

-- transducers with one file translate alike
pub sheet_alike : {ins outs s : List ℕ} {n n' : ℕ} {M M' : Transducer ℕ} → Sheet ins outs s n M → Sheet ins outs s n' M' → TranslateAlike ins M M'
sheet_alike {ins} {outs} {s} {n} {n'} {M} {M'} S S' d r =
    let u = sheet_unique ins outs s n n' M M' S S' in
    encodes_translate (rw (← u.0, ← u.1, ← u.2) S.encodes) S'.encodes d r

-- ---- the joined file translates as the second after the first
module _ {stock stock' s s' : List ℕ} {k : ℕ} {counts bytes : List ℕ} (F : JoinedFile stock stock' s s' k counts bytes) where
  -- it is the file of the joined transducer
  pub joined_sheet : Sheet (inputs stock) (outputs stock') (file k counts bytes) k F.form
  joined_sheet = record { counts = counts; bytes = bytes; coded = refl; encodes = F.encodes }

  -- under the joined stock
  pub stock_sheet : Sheet (inputs (joined_stock stock stock')) (outputs (joined_stock stock stock')) (file k counts bytes) k F.form
  stock_sheet = rw (stock_reads (inputs stock) (outputs stock'), stock_reads_outputs (inputs stock) (outputs stock')) joined_sheet

  -- what the first gives is an input tree of the second
  pub first_gives : outputs stock ≡ inputs stock' → (d : Tree) → Ranked (λ x. ⊥) (inputs stock) d → Ranked (λ x. ⊥) (inputs stock') (translate F.machine d)
  first_gives fits d r = subst (λ rs. Ranked (λ x. ⊥) rs (translate F.machine d)) fits (translate_ranked F.sheet.encodes.over d r)

  -- The joined transducer gives on every input tree what the second gives on what the first gives.
  pub join_translates : (d : Tree) → Ranked (λ x. ⊥) (inputs stock) d → translate F.form d ≡ translate F.machine' (translate F.machine d)
  join_translates d r = let l = F.alphabets.leaf in joined_translate (encoded_wf F.alphabets.ins.few l F.sheet.encodes) F.machine' F.joined (tree_allowed l d r)

  -- The same of whatever transducers the three files have.
  pub join_translates_any : outputs stock ≡ inputs stock' → {n n' j : ℕ} {M N J : Transducer ℕ} → Sheet (inputs stock) (outputs stock) s n M → Sheet (inputs stock') (outputs stock') s' n' N → Sheet (inputs stock) (outputs stock') (file k counts bytes) j J
      → (d : Tree) → Ranked (λ x. ⊥) (inputs stock) d → translate J d ≡ translate N (translate M d)
  join_translates_any fits {N = N} S S' S'' d r =
      sheet_alike S'' joined_sheet d r
      ∙ (join_translates d r
      ∙ (sheet_alike F.sheet' S' (translate F.machine d) (first_gives fits d r)
      ∙ ap (translate N) (sheet_alike F.sheet S d r)))

  -- In the terms of output trees: if the file s gives t on an input tree, and the file s' gives u on t, then the joined file gives u on that input tree.
  pub join_output : outputs stock ≡ inputs stock' → {design : List ℕ} {t u : Tree} → Output stock s design t → Output stock' s' (code t) u → Output (joined_stock stock stock') (file k counts bytes) design u
  join_output fits {design} {t} {u} O O' =
      let r = O.is_tree.ranked in
      let e = translate_ranked O.is_sheet.encodes.over O.input r in
      let t-ranked : Ranked (λ x. ⊥) (inputs stock') t = subst (λ x. Ranked (λ x. ⊥) (inputs stock') x) O.given (subst (λ rs. Ranked (λ x. ⊥) rs (translate O.machine O.input)) fits e) in
      let same : O'.input ≡ t = code_one (inputs stock') O'.is_tree.ranked t-ranked O'.is_tree.coded in
      record {
        states = k;
        machine = F.form;
        input = O.input;
        is_sheet = stock_sheet;
        is_tree = rw (stock_reads (inputs stock) (outputs stock')) O.is_tree;
        given = join_translates_any fits O.is_sheet O'.is_sheet joined_sheet O.input r ∙ (ap (translate O'.machine) (O.given ∙ sym same) ∙ O'.given);
      }

-- ---- what was written
-- what an accepted answer says: both stocks are right and fit, and the area begins with the joined file
pub record JoinWritten (stock stock' s s' after : List ℕ) (v : Form) : Type 0 where
  pub alphabets : Alphabets stock
  pub alphabets' : Alphabets stock'
  pub fits : outputs stock ≡ inputs stock'
  pub counts : List ℕ
  pub bytes : List ℕ
  pub joined : JoinedFile stock stock' s s' v.states counts bytes
  pub begins : take v.bytes after ≡ file v.states counts bytes

pub join_written : {stock stock' s s' before after : List ℕ} (r : Result Form Refusal) {v : Form} → Joins stock stock' s s' before after r → outcome_of r ≡ accepted v → JoinWritten stock stock' s s' after v
unfolding Holds
join_written {stock} {stock'} {s} {s'} {before} {after} r {v} J e =
    let w = accepted_holds (rw e at J) in
    let counts = w.1.0 in
    let bytes = w.1.1.0 in
    let F = w.1.1.1.0 in
    let O = w.1.1.1.1 in
    let A = w.0.1.0 in
    let C = encodes_counted (inputs stock) (outputs stock') v.states counts bytes F.form F.encodes in
    let long : length (file v.states counts bytes) ≤ length before = omega (arith, file_short (inputs stock) v.states counts bytes A.ins.few C, w.0.0) in
    record { alphabets = A; alphabets' = w.0.1.1.0; fits = w.0.1.1.1.0; counts = counts; bytes = bytes; joined = F; begins = written_take (file v.states counts bytes) before after v.bytes O.size long O.wrote }

module _ {stock stock' s s' after : List ℕ} {v : Form} (W : JoinWritten stock stock' s s' after v) where
  -- What was written is a file that is accepted under the joined stock, which is right; and it is the file of the joined transducer.
  pub join_sheet : Holds (alphabet_check (joined_stock stock stock') (sheet_check (joined_stock stock stock') (take v.bytes after) done)) × Sheet (inputs stock) (outputs stock') (take v.bytes after) v.states W.joined.form
  join_sheet =
      let F = W.joined in
      rw W.begins (sheet_holds (joined_stock stock stock') (file v.states W.counts W.bytes) (stock_right W.alphabets.ins W.alphabets'.outs W.alphabets.leaf) v.states F.form (stock_sheet F), joined_sheet F)

-- ---- the contract determines the answer and the area
-- identical transducers, with one number of states
same_number : {G : Grammar} {M M' : Transducer ℕ} {n n' : ℕ} → Identical G M M' n n' → Identical G M M' n n
same_number i = record { number = refl; initial = i.initial; sort = i.sort; rhs = i.rhs }

-- Whatever transducers the two files have, the joined file is that of the second after the first.
pub joined_any : {stock stock' s s' : List ℕ} → Alphabets stock' → outputs stock ≡ inputs stock' → {k : ℕ} {counts bytes : List ℕ} (F : JoinedFile stock stock' s s' k counts bytes) {n n' : ℕ} {M N : Transducer ℕ}
    → Sheet (inputs stock) (outputs stock) s n M → Sheet (inputs stock') (outputs stock') s' n' N → (l : Leaf (inputs stock)) → Joined (alphabet (inputs stock) l) M N F.form k
joined_any {stock} {stock'} A' fits F S S' l =
    let g = F.alphabets.leaf in
    let l' = A'.leaf in
    let over : OverAlphabets (inputs stock) (inputs stock') F.states F.machine = rw fits at F.sheet.encodes.over in
    accessible_leaf g l
    (joined_same (encoded_wf F.alphabets.ins.few g F.sheet.encodes) (encoded_wf A'.ins.few l' F.sheet'.encodes) (over_outputs over g l') (same_number (same_file g F.sheet S)) (same_number (same_file l' F.sheet' S')) F.joined)

-- Two files have one joined file.
pub join_unique : {stock stock' s s' : List ℕ} → Alphabets stock' → outputs stock ≡ inputs stock' → {k k' : ℕ} {counts counts' bytes bytes' : List ℕ} → JoinedFile stock stock' s s' k counts bytes → JoinedFile stock stock' s s' k' counts' bytes' → (k ≡ k') × (counts ≡ counts') × (bytes ≡ bytes')
join_unique A' fits F F' =
    let l = F.alphabets.leaf in
    let U = compose_wf (encoded_wf F.alphabets.ins.few l F.sheet.encodes) F.machine' in
    parts_same l F.encodes F'.encodes (accessible_unique U F.joined (joined_any A' fits F' F.sheet F.sheet' l))

-- The contract of joining determines the answer and the area.
pub joins_determined : {stock stock' s s' before after after' : List ℕ} (r r' : Result Form Refusal) → Joins stock stock' s s' before after r → Joins stock stock' s s' before after' r' → (after ≡ after') × (outcome_of r ≡ outcome_of r')
unfolding Holds
joins_determined {stock} {stock'} {s} {s'} {before} {after} {after'} r r' J J' =
    one_answer (λ u u'. u ∙ sym u') (check 1 (longest ≤ length before) (joinable stock stock' s s')) (outcome_of r) (outcome_of r') (λ h. good h.1.1.0 h.1.1.1.0) J.verdict J'.verdict
  where
    good : Alphabets stock' → outputs stock ≡ inputs stock' → (v v' : Form) → (counts : List ℕ) × ((bytes : List ℕ) × (JoinedFile stock stock' s s' v.states counts bytes × FileOf v counts bytes before after))
        → (counts : List ℕ) × ((bytes : List ℕ) × (JoinedFile stock stock' s s' v'.states counts bytes × FileOf v' counts bytes before after')) → (after ≡ after') × (v ≡ v')
    good A' fits v v' (counts, (bytes, (F, O))) (counts', (bytes', (F', O'))) = file_one O O' (join_unique A' fits F F')

-- ---- files that translate alike
-- If two first files translate alike, then joined with one second file they do.
pub join_alike_first : {stock stock' s₁ s₂ s' : List ℕ} → outputs stock ≡ inputs stock' → {k₁ k₂ : ℕ} {counts₁ bytes₁ counts₂ bytes₂ : List ℕ} (F₁ : JoinedFile stock stock' s₁ s' k₁ counts₁ bytes₁) (F₂ : JoinedFile stock stock' s₂ s' k₂ counts₂ bytes₂)
    → TranslateAlike (inputs stock) F₁.machine F₂.machine → TranslateAlike (inputs stock) F₁.form F₂.form
join_alike_first fits F₁ F₂ a d r =
    join_translates F₁ d r ∙ (ap (translate F₁.machine') (a d r) ∙ (sheet_alike F₁.sheet' F₂.sheet' (translate F₂.machine d) (first_gives F₂ fits d r) ∙ sym (join_translates F₂ d r)))

-- If two second files translate alike, then a first file joined with either does.
pub join_alike_second : {stock stock' s s₁ s₂ : List ℕ} → outputs stock ≡ inputs stock' → {k₁ k₂ : ℕ} {counts₁ bytes₁ counts₂ bytes₂ : List ℕ} (F₁ : JoinedFile stock stock' s s₁ k₁ counts₁ bytes₁) (F₂ : JoinedFile stock stock' s s₂ k₂ counts₂ bytes₂)
    → TranslateAlike (inputs stock') F₁.machine' F₂.machine' → TranslateAlike (inputs stock) F₁.form F₂.form
join_alike_second fits F₁ F₂ a d r =
    join_translates F₁ d r ∙ (a (translate F₁.machine d) (first_gives F₁ fits d r) ∙ (ap (translate F₂.machine') (sheet_alike F₁.sheet F₂.sheet d r) ∙ sym (join_translates F₂ d r)))

-- ---- joining three files either way
module _ {a b c x y z : List ℕ} (fits : outputs a ≡ inputs b) (fits' : outputs b ≡ inputs c) {k k₁ k₂ k₃ : ℕ} {counts bytes counts₁ bytes₁ counts₂ bytes₂ counts₃ bytes₃ : List ℕ}
    (F : JoinedFile a b x y k counts bytes) (F₁ : JoinedFile (joined_stock a b) c (file k counts bytes) z k₁ counts₁ bytes₁)
    (H : JoinedFile b c y z k₂ counts₂ bytes₂) (H₁ : JoinedFile a (joined_stock b c) x (file k₂ counts₂ bytes₂) k₃ counts₃ bytes₃) where
  -- The two files that are joined from the three, either way, are equal byte for byte.
  pub join_assoc_files : Alphabets c → (k₁ ≡ k₃) × (counts₁ ≡ counts₃) × (bytes₁ ≡ bytes₃)
  join_assoc_files C =
      let A = F.alphabets in
      let B = H.alphabets in
      let l = A.leaf in
      let over : OverAlphabets (inputs a) (inputs b) F.states F.machine = rw fits at F.sheet.encodes.over in
      let second : (l : Leaf (inputs a)) → Joined (alphabet (inputs a) l) F.form H.machine' F₁.form k₁ = rw (stock_reads (inputs a) (outputs b)) at (joined_any C (stock_reads_outputs (inputs a) (outputs b) ∙ fits') F₁ (stock_sheet F) H.sheet') in
      let E : Encodes (inputs a) (outputs c) k₁ counts₁ bytes₁ F₁.form = rw (stock_reads (inputs a) (outputs b)) at F₁.encodes in
      let E' : Encodes (inputs a) (outputs c) k₃ counts₃ bytes₃ H₁.form = rw (stock_reads_outputs (inputs b) (outputs c)) at H₁.encodes in
      parts_same l E E'
      (joined_assoc_one (encoded_wf A.ins.few l F.sheet.encodes) (encoded_wf B.ins.few B.leaf H.sheet.encodes) (over_outputs over l B.leaf) H.machine'
      (joined_any B fits F F.sheet H.sheet l) (second l) H.joined (joined_any (stock_right B.ins C.outs B.leaf) (fits ∙ sym (stock_reads (inputs b) (outputs c))) H₁ F.sheet (stock_sheet H) l))
