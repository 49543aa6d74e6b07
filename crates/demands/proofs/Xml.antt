-- Request F-4 is met.
-- Assumes nothing.
use Rattle.std.specs.Prelude.{Err, Ok, Result}
use Rattle.trees.specs.Refusal.{outcome_of, accepted, done, check, Holds, Judged}
use Prim.Native.Nat.{ℕ, ◌≤◌}
use native.Mathlib.Decide.{dec_le}
use native.Mathlib.Omega.{arith}
use mathlib.Core.List.{List}
use mathlib.Core.Path.{◌≡◌, refl, sym, ap, subst, ◌∙◌}
use lib.ListN.{length, take, length-take}
use lib.Seq.{sets, length-take-le}
use Rattle.theory.specs.Term.{Tree}
use Rattle.trees.specs.Alphabets.{Alphabets, outputs, alphabet_check}
use Rattle.trees.specs.Code.{code}
use Rattle.trees.specs.declared.refusal.Refusal.{Refusal}
use Rattle.trees.proofs.Judging.{refuse, pass, accept, accepted_holds, refused_early, must_refuse}
use Rattle.xml.specs.Answers.{Form, InForm, forms_check, Converts, WritesXml, ReadsXml}
use Rattle.xml.specs.Xml.{xml, OutputTree}
use Rattle.xml.proofs.Collecting.{code_size}
use Rattle.xml.proofs.Laws.{Distinct, code_distinct, xml_distinct, conversion, converted_so, stands_there, was_formed, longest_xml}
use Rattle.demands.specs.Xml.{Gave, WriterGives, Request4, ReadsBack}

-- ---- any conversion between two forms
-- the stock of one that is accepted
was_stock : (from to : Form) (stock s area area' : List ℕ) (r : Result ℕ Refusal) (n : ℕ) → Converts from to stock s area area' r → outcome_of r ≡ accepted n → Alphabets stock
unfolding Holds
was_stock from to stock s area area' r n C e = (accepted_holds (rw e at C)).0.0

-- what an output tree is converted to
gives : (from to : Form) (stock : List ℕ) → Alphabets stock → Distinct from (outputs stock) → (s area area' : List ℕ) (r : Result ℕ Refusal) → Converts from to stock s area area' r → (t : Tree) → InForm from stock s t → length (to t) ≤ length area → Gave r area' (to t)
gives from to stock A D s area area' r C t F h =
    let w = converted_so from to stock A D s area area' r C t F h in
    record { answer = w.0; bytes = ap (take (length (to t))) w.1 ∙ stands_there area (to t) h }

-- and back
undone : (from to : Form) (stock : List ℕ) → (Alphabets stock → Distinct from (outputs stock)) → (Alphabets stock → Distinct to (outputs stock)) → (s before after area area' : List ℕ) (n : ℕ) (r r' : Result ℕ Refusal)
    → Converts from to stock s before after r → outcome_of r ≡ accepted n → Converts to from stock (take n after) area area' r' → length s ≤ length area → Gave r' area' s
undone from to stock D E s before after area area' n r r' C e C' h =
    let A = was_stock from to stock s before after r n C e in
    let w = was_formed from to stock (D A) s before after r n C e in
    let F = w.1.0 in
    let room : length (from w.0) ≤ length area = omega (arith, ap length F.is) in
    subst (λ x. Gave r' area' x) F.is (gives to from stock A (E A) (take n after) area area' r' C' w.0 (record { output = F.output; is = sym w.1.2 }) room)

-- ---- the two of them
codes_apart : {stock : List ℕ} → Alphabets stock → Distinct code (outputs stock)
codes_apart {stock} A = code_distinct (outputs stock)

texts_apart : {stock : List ℕ} → Alphabets stock → Distinct xml (outputs stock)
texts_apart {stock} A = xml_distinct (outputs stock) A.outs.few

few_symbols : {outs : List ℕ} {t : Tree} → OutputTree outs t → length (code t) ≤ 4096
few_symbols {outs} {t} O = omega (arith, code_size outs t O.ranked, O.small)

-- an accepted writing gives the text that stands at the start of its area
text_given : {stock s before after : List ℕ} {n : ℕ} (r : Result ℕ Refusal) → WritesXml stock s before after r → outcome_of r ≡ accepted n → WriterGives stock (take n after)
text_given {stock} {s} {before} {after} {n} r C e =
    let A = was_stock code xml stock s before after r n C e in
    let w = was_formed code xml stock (codes_apart A) s before after r n C e in
    let l : n ≡ length (take n after) = w.1.1 ∙ ap length (sym w.1.2) in
    record { plan = s; before = before; after = after; r = r; promise = C; gave = record { answer = e ∙ ap (λ k. accepted k) l; bytes = ap (λ k. take k after) (sym l) } }

-- a text that is read is one that the writer gives
module _ {stock text : List ℕ} (A : Alphabets stock) where
  writer_gives : (t : Tree) → InForm xml stock text t → WriterGives stock text
  writer_gives t F =
      let C : InForm code stock (code t) t = record { output = F.output; is = refl } in
      let P = conversion code xml stock A (code t) (xml t) t C (omega arith) in
      record {
        plan = code t;
        before = xml t;
        after = sets (xml t) 0 (xml t);
        r = Ok (length (xml t));
        promise = P;
        gave = subst (λ x. Gave (Ok (length (xml t))) (sets (xml t) 0 (xml t)) x) F.is (gives code xml stock A (codes_apart A) (code t) (xml t) (sets (xml t) 0 (xml t)) (Ok (length (xml t))) P t C (omega arith));
      }

  reader_takes : WriterGives stock text → (t : Tree) × InForm xml stock text t
  reader_takes W =
      let w = was_formed code xml stock (codes_apart A) W.plan W.before W.after W.r (length text) W.promise W.gave.answer in
      (w.0, record { output = w.1.0.output; is = sym w.1.2 ∙ W.gave.bytes })

pub xml_plans : Request4
unfolding xml
xml_plans = record {
  writes = text_given;
  written = λ {stock} {s} {before} {after} {t} r A F C h. gives code xml stock A (codes_apart A) s before after r C t F h;
  read = λ {stock} {text} {before} {after} {t} r A F C h. gives xml code stock A (texts_apart A) text before after r C t F h;
  sample = refl;
  exactly = λ {stock} {text} {before} {after} r A C h. (
    (λ w. let t = was_formed xml code stock (texts_apart A) text before after r w.0 C w.1 in writer_gives A t.0 t.1.0),
    (λ W. let t = reader_takes A W in (length (code t.0), (gives xml code stock A (texts_apart A) text before after r C t.0 t.1 (omega (arith, few_symbols t.1.output))).answer)),
  );
  read_written = λ {stock} {s} {before} {after} {area} {area'} {n} r r'. undone code xml stock codes_apart texts_apart s before after area area' n r r';
  written_read = λ {stock} {text} {before} {after} {area} {area'} {n} r r'. undone xml code stock texts_apart codes_apart text before after area area' n r r';
  longest_text = longest_xml;
  longest_plan = few_symbols;
}

-- ---- of the functions themselves
-- a plan that is not written is not read back
pub not_written : {stock s text text' before : List ℕ} (r : Result ℕ Refusal) (x : Refusal) → r ≡ Err x → WritesXml stock s text text' r → ReadsBack stock s text before before (Err x)
not_written {stock} {s} {text} r x e C = refused_early (alphabet_check stock (forms_check code xml stock s text done)) (check 12 _ done) refl (rw e at C)

-- one that is written stands in its area,
pub text_inside : {stock s text text' : List ℕ} (r : Result ℕ Refusal) (n : ℕ) → r ≡ Ok n → WritesXml stock s text text' r → n ≤ length text'
text_inside {stock} {s} {text} {text'} r n e C =
    let A = was_stock code xml stock s text text' r n C (ap outcome_of e) in
    let w = was_formed code xml stock (codes_apart A) s text text' r n C (ap outcome_of e) in
    omega (arith, w.1.1, ap length w.1.2, length-take n text')

pub text_long : {stock s text text' : List ℕ} (r : Result ℕ Refusal) (n : ℕ) → r ≡ Ok n → WritesXml stock s text text' r → n ≡ length (take n text')
text_long {stock} {s} {text} {text'} r n e C = sym (length-take-le n text' (text_inside r n e C))

-- and is read back
pub read_back : {stock s text text' before after : List ℕ} (r : Result ℕ Refusal) (n : ℕ) → r ≡ Ok n → WritesXml stock s text text' r → (r' : Result ℕ Refusal) → ReadsXml stock (take n text') before after r' → ReadsBack stock s text before after r'
unfolding Holds
read_back {stock} {s} {text} {text'} {before} {after} r n e C r' R =
    let h = (accepted_holds (rw e at C)).0 in
    let A = h.0 in
    let w = was_formed code xml stock (codes_apart A) s text text' r n C (ap outcome_of e) in
    let F : InForm xml stock (take n text') w.0 = record { output = w.1.0.output; is = sym w.1.2 } in
    pass A (pass h.1.0 (pass h.1.1.0 (go A w.0 w.1.0 F (dec_le (length s) (length before)))))
  where
    go : Alphabets stock → (t : Tree) → InForm code stock s t → InForm xml stock (take n text') t → Dec (length s ≤ length before) → Judged (after ≡ before) (λ n. (n ≡ length s) × (after ≡ sets before 0 s)) (check 12 (length s ≤ length before) done) (outcome_of r')
    go A t F G (yes h) =
        let w = converted_so xml code stock A (texts_apart A) (take n text') before after r' R t G (omega (arith, ap length F.is)) in
        rw w.0 (pass h (accept (ap length F.is, w.1 ∙ ap (sets before 0) F.is)))
    go A t F G (no h) =
        let short : ((u : Tree) × (InForm xml stock (take n text') u × (length (code u) ≤ length before))) → ⊥ = λ v. let e : v.0 ≡ t = texts_apart A v.0 t v.1.0.output G.output (v.1.0.is ∙ sym G.is) in h (omega (arith, v.1.1, ap (λ u. length (code u)) e, ap length F.is)) in
        let w = must_refuse (alphabet_check stock (check 11 ((u : Tree) × InForm xml stock (take n text') u) done)) done (A, ((t, G), tt)) short R in
        rw w.0 (refuse h w.1)
