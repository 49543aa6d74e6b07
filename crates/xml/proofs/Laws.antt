-- What the promises of the writer and the reader of XML come to.
-- Assumes nothing.
use Rattle.std.specs.Prelude.{Ok, Result}
use Rattle.trees.specs.declared.refusal.Refusal.{Refusal}
use Rattle.trees.specs.Refusal.{outcome_of, accepted, done, Holds}
use Prim.Native.Nat.{ℕ, ◌+◌, ◌*◌, ◌≤◌}
use native.Mathlib.Omega.{arith}
use mathlib.Core.List.{List, [], append-nil}
use mathlib.Core.Path.{◌≡◌, refl, sym, ap, ◌∙◌}
use lib.ListN.{length, take, drop, length-append}
use lib.Seq.{sets, sets-eq, take_at}
use Rattle.theory.specs.Size.{size, sizes}
use Rattle.theory.specs.Term.{Tree, Terms, var, node, none, more, count}
use Rattle.trees.specs.Alphabets.{Alphabets, outputs, alphabet_check}
use Rattle.trees.specs.Code.{code}
use Rattle.trees.proofs.Judging.{pass, accept, accepted_holds, must_accept, one_answer}
use Rattle.xml.specs.Xml.{xml, xmls, closing, OutputTree}
use Rattle.xml.specs.Answers.{Form, InForm, forms_check, Converts}
use Rattle.xml.specs.Inner.Kinds.{kinds_in}
use Rattle.xml.proofs.Collecting.{kinds_xml}
use Rattle.xml.proofs.Converting.{output_whole}

-- ---- each form is that of one output tree
-- no two output trees are the same in this form
abbrev pub Distinct : Form → List ℕ → Type 0
Distinct form outs = (t u : Tree) → OutputTree outs t → OutputTree outs u → form t ≡ form u → t ≡ u

pub code_distinct : (outs : List ℕ) → Distinct code outs
code_distinct outs t u O P e = sym (output_whole O refl).1 ∙ (output_whole P (sym e)).1

-- the code of a tree can be had from its XML
code_from : (outs : List ℕ) → length outs ≤ 64 → {t : Tree} → OutputTree outs t → kinds_in (xml t) ≡ code t
unfolding kinds_in
code_from outs l {t} O = ap kinds_in (sym (append-nil (xml t))) ∙ kinds_xml outs t [] l O.ranked ∙ append-nil (code t)

pub xml_distinct : (outs : List ℕ) → length outs ≤ 64 → Distinct xml outs
xml_distinct outs l t u O P e = code_distinct outs t u O P (sym (code_from outs l O) ∙ ap kinds_in e ∙ code_from outs l P)

-- ---- any conversion between two forms
module _ (from to : Form) (stock : List ℕ) (A : Alphabets stock) where
  -- an output tree is converted where the area is long enough
  pub conversion : (s area : List ℕ) (t : Tree) → InForm from stock s t → length (to t) ≤ length area → Converts from to stock s area (sets area 0 (to t)) (Ok (length (to t)))
  conversion s area t F h = pass A (pass (t, F) (pass (t, (F, h)) (accept (t, (F, refl, refl)))))

  module _ (D : Distinct from (outputs stock)) (s area area' : List ℕ) (r : Result ℕ Refusal) (C : Converts from to stock s area area' r) where
    -- and every answer that keeps the promise is that
    pub converted_so : (t : Tree) → InForm from stock s t → length (to t) ≤ length area → (outcome_of r ≡ accepted (length (to t))) × (area' ≡ sets area 0 (to t))
    unfolding Holds
    converted_so t F h =
        let w = must_accept (A, ((t, F), ((t, (F, h)), tt))) C in
        let g = w.1.1 in
        let e : g.0 ≡ t = D g.0 t g.1.0.output F.output (g.1.0.is ∙ sym F.is) in
        (w.1.0 ∙ ap (λ n. accepted n) (g.1.1 ∙ ap (λ u. length (to u)) e), g.1.2 ∙ ap (λ u. sets area 0 (to u)) e)

    -- the promise determines the answer and the area
    pub converts_one : (area'' : List ℕ) (r' : Result ℕ Refusal) → Converts from to stock s area area'' r' → (area' ≡ area'') × (outcome_of r ≡ outcome_of r')
    converts_one area'' r' C' =
        one_answer (λ e f. e ∙ sym f) (alphabet_check stock (forms_check from to stock s area done)) (outcome_of r) (outcome_of r')
        (λ h n n' g g'.
        let e : g.0 ≡ g'.0 = D g.0 g'.0 g.1.0.output g'.1.0.output (g.1.0.is ∙ sym g'.1.0.is) in
        (g.1.2 ∙ ap (λ u. sets area 0 (to u)) e ∙ sym g'.1.2, g.1.1 ∙ ap (λ u. length (to u)) e ∙ sym g'.1.1))
        C.verdict
        C'.verdict

-- what was written to the start of an area stands there
pub stands_there : (area w : List ℕ) → length w ≤ length area → take (length w) (sets area 0 w) ≡ w
stands_there area w h = ap (take (length w)) (sets-eq w area 0 (omega arith)) ∙ take_at w (drop (0 + length w) area) (length w) refl

-- what was accepted is an output tree, and in the other form it stands in the area that was left
pub was_formed : (from to : Form) (stock : List ℕ) → Distinct from (outputs stock) → (s area area' : List ℕ) (r : Result ℕ Refusal) (n : ℕ) → Converts from to stock s area area' r → outcome_of r ≡ accepted n → (t : Tree) × (InForm from stock s t × (n ≡ length (to t)) × (take n area' ≡ to t))
unfolding Holds
was_formed from to stock D s area area' r n C e =
    let w = accepted_holds (rw e at C) in
    let fits = w.0.1.1.0 in
    let g = w.1 in
    let t = g.0 in
    let same : fits.0 ≡ t = D fits.0 t fits.1.0.output g.1.0.output (fits.1.0.is ∙ sym g.1.0.is) in
    let room : length (to t) ≤ length area = omega (arith, fits.1.1, ap (λ u. length (to u)) same) in
    (t, (g.1.0, g.1.1, ap (λ m. take m area') g.1.1 ∙ ap (take (length (to t))) g.1.2 ∙ stands_there area (to t) room))

-- ---- areas that are always long enough
around : (k : ℕ) (ts : Terms ⊥) → length (xmls ts) + 4 * count ts ≤ 9 * sizes ts → length (xml (node k ts)) + 4 ≤ 9 * size (node k ts)
unfolding xml size count
around k none h = omega arith
around k (more t ts) h = omega (arith, length-append (xmls (more t ts)) (closing k))

mutual
  unfolding xml size count

  xml_long : (t : Tree) → length (xml t) + 4 ≤ 9 * size t
  xml_long (var x) = absurd x
  xml_long (node k ts) = around k ts (xmls_long ts)

  xmls_long : (ts : Terms ⊥) → length (xmls ts) + 4 * count ts ≤ 9 * sizes ts
  xmls_long none = omega arith
  xmls_long (more t ts) = omega (arith, length-append (xml t) (xmls ts), xml_long t, xmls_long ts)

-- the text of an output tree has at most 36,860 bytes
pub longest_xml : {outs : List ℕ} {t : Tree} → OutputTree outs t → length (xml t) ≤ 36860
longest_xml {t = t} O = omega (arith, xml_long t, O.small)
