-- The transducer that is read from whole bodies is well-formed; so is the transducer of a file. Identical transducers have one file.
-- Assumes nothing.
use Prim.Native.Nat.{ℕ, suc, ◌+◌, ◌*◌, ◌≤◌, ◌<◌}
use native.Mathlib.Nat.{mul-le-mul}
use native.Mathlib.Omega.{arith}
use mathlib.Core.List.{List}
use mathlib.Core.Option.{some}
use mathlib.Core.Path.{◌≡◌, refl, ap, sym, ◌∙◌}
use lib.ListN.{length, get_or, replicate}
use lib.Seq.{sets}
use Rattle.theory.specs.NormalForm.{Identical}
use Rattle.theory.specs.Transducer.{Transducer}
use Rattle.theory.specs.Wf.{nth, Wf}
use Rattle.theory.proofs.Identity.{identical_wf}
use Rattle.theory.proofs.Vars.{all_map}
use Rattle.trees.specs.Alphabets.{Leaf}
use Rattle.trees.specs.Code.{marks}
use Rattle.formats.specs.Inner.Layout.{body_number, body_count, transducer, Wholes}
use Rattle.formats.specs.Sheet.{file, count_bytes, body_bytes, terms, bodies_of, Encodes, Sheet}
use Rattle.formats.proofs.Lines.{bodies_are, bodies_length, bodies_at}
use Rattle.formats.proofs.Pairs.{number_less}
use Rattle.formats.proofs.Sheets.{sheet_unique, counted_right, encodes_counted, encodes_wholes, encodes_unique, wholes_encodes, transducer_over}
use Rattle.transducer.proofs.Outputs.{ranked_vars}
use Rattle.forms.specs.Alphabet.{alphabet, children_inside, children_of_lem}
use Rattle.forms.specs.Answers.{form, FileOf}
use Rattle.forms.specs.Inner.Tables.{Layout, Bounded}

-- ---- the transducer of whole bodies is well-formed over the alphabet
-- each of r children is of sort 0
pub nth_sort : (r i : ℕ) → 1 ≤ i → i ≤ r → nth {A = ℕ} (replicate r 0) i ≡ some 0
unfolding nth
nth_sort ℕ.zero i p h = absurd (omega arith)
nth_sort (suc r) ℕ.zero p h = absurd (omega arith)
nth_sort (suc r) (suc ℕ.zero) p h = refl
nth_sort (suc r) (suc (suc i)) p h = nth_sort r (suc i) (omega arith) (omega arith)

-- its calls are of its states, on children that are there
pub machine_wf : {ins outs : List ℕ} {n : ℕ} {start : ℕ → ℕ} {bytes : List ℕ} (l : Leaf ins) → Wholes ins outs n start bytes → Wf (alphabet ins l) (transducer ins outs n start bytes) (λ q. q < n)
unfolding alphabet transducer nth
machine_wf {ins} {outs} {n} {start} {bytes} l W =
    let O = transducer_over ins outs n start bytes W in
    let M = transducer ins outs n start bytes in
    record {
      initial = all_map (λ e c. record { valid = c.state; sort = nth_sort 1 e.0 c.from_one c.child }) (ranked_vars outs n 1 M.initial O.initial);
      rhs = λ q a {sorts} h k.
          let c = children_inside ins a k in
          all_map (λ e m. record { valid = m.state; sort = ap (λ z. nth z e.0) c.1 ∙ nth_sort (get_or ins a 0) e.0 m.from_one m.child })
          (ranked_vars outs n (get_or ins a 0) (M.rhs q a) (O.rhs q a h c.0));
    }

-- ---- a table
-- the number of a body, and of the next, are in the table of starts
pub number_fits : {ins outs starts bytes : List ℕ} {n : ℕ} → Layout ins outs starts bytes n → {q a : ℕ} → q < n → a < length ins → (body_number ins q a < 2049) × (body_number ins q a + 1 < length starts)
number_fits {ins} {n = n} L {q} {a} h g =
    let l = number_less ins q n a h g in
    (omega (arith, mul-le-mul L.few_states L.few_inputs), omega (arith, L.bounds.long))

-- the numbers of the first body of a state, and of the first of the next state, are in the table of starts
pub row_fits : {ins starts bytes : List ℕ} {n : ℕ} → Bounded ins starts bytes n → {p : ℕ} → p < n → (1 + p * length ins + length ins < 2050) × (1 + p * length ins + length ins ≤ body_count ins n)
row_fits {ins} {n = n} F {p} h =
    let m : (p + 1) * length ins ≤ n * length ins = mul-le-mul (omega arith) (omega arith) in
    (omega (arith, mul-le-mul F.few_states F.few_inputs), omega arith)

pub layout_bounded : {ins outs starts bytes : List ℕ} {n : ℕ} → Layout ins outs starts bytes n → Bounded ins starts bytes n
layout_bounded L = record { few_states = L.few_states; few_inputs = L.few_inputs; bounds = L.bounds }

-- ---- the transducer of a file
module _ {ins outs : List ℕ} where
  -- it is well-formed
  pub encoded_wf : length ins ≤ 16 → (l : Leaf ins) {n : ℕ} {counts bytes : List ℕ} {M : Transducer ℕ} → Encodes ins outs n counts bytes M → Wf (alphabet ins l) M (λ q. q < n)
  unfolding alphabet transducer
  encoded_wf few l {n} {counts} {bytes} {M} E =
      let H = encodes_wholes ins outs n counts bytes M E in
      let T = wholes_encodes ins outs n counts bytes (counted_right ins n counts bytes few (encodes_counted ins outs n counts bytes M E)) H in
      let u = encodes_unique ins outs n counts bytes _ M T E in
      identical_wf (record { number = refl; initial = u.0; sort = λ p h. sym (E.over.sort p h); rhs = λ p a sorts h k. u.1 p a h (children_inside ins a k).0 }) (machine_wf l H)

  -- transducers with one file are identical
  pub same_file : (l : Leaf ins) {s : List ℕ} {n n' : ℕ} {M M' : Transducer ℕ} → Sheet ins outs s n M → Sheet ins outs s n' M' → Identical (alphabet ins l) M M' n n'
  unfolding alphabet
  same_file l {s} {n} {n'} {M} {M'} S S' =
      let u = sheet_unique ins outs s n n' M M' S S' in
      record {
        number = u.0;
        initial = u.3;
        sort = λ p h. S.encodes.over.sort p h ∙ sym (S'.encodes.over.sort p (rw u.0 at h));
        rhs = λ p a sorts h k. u.4 p a h (children_inside ins a k).0;
      }

  -- identical transducers have one number of states, and one list of counts and of marks
  pub parts_same : (l : Leaf ins) {n n' : ℕ} {M M' : Transducer ℕ} {counts counts' bytes bytes' : List ℕ} → Encodes ins outs n counts bytes M → Encodes ins outs n' counts' bytes' M' → Identical (alphabet ins l) M M' n n' → (n ≡ n') × (counts ≡ counts') × (bytes ≡ bytes')
  unfolding alphabet terms
  parts_same l {n} {n'} {M} {M'} E E' i =
      let P = length ins in
      let b : bodies_of P n M ≡ bodies_of P n M' = bodies_are P n M (bodies_of P n M') (bodies_length P n M') (ap marks i.initial) (λ q a h g. ap marks (i.rhs q a _ h (children_of_lem ins a g)) ∙ sym (bodies_at P n M' q a h g)) in
      let b' : bodies_of P n M ≡ bodies_of P n' M' = b ∙ ap (λ k. bodies_of P k M') i.number in
      (i.number, sym E.counts_coded ∙ (ap count_bytes b' ∙ E'.counts_coded), sym E.marks_coded ∙ (ap body_bytes b' ∙ E'.marks_coded))

  -- so they have one file
  pub file_same : (l : Leaf ins) {n n' : ℕ} {M M' : Transducer ℕ} {counts counts' bytes bytes' : List ℕ} → Encodes ins outs n counts bytes M → Encodes ins outs n' counts' bytes' M' → Identical (alphabet ins l) M M' n n' → file n counts bytes ≡ file n' counts' bytes'
  file_same l E E' i = let w = parts_same l E E' i in rw (w.0, w.1, w.2) refl

-- what is answered of one file, and the area that is left, are one
pub file_one : {k k' m m' n n' : ℕ} {counts counts' bytes bytes' before after after' : List ℕ} → FileOf (form k m n) counts bytes before after → FileOf (form k' m' n') counts' bytes' before after'
    → (k ≡ k') × (counts ≡ counts') × (bytes ≡ bytes') → (after ≡ after') × (form k m n ≡ form k' m' n')
file_one {k} {k'} {m} {m'} {n} {n'} {counts} {counts'} {bytes} {bytes'} {before} O O' w =
    let f : file k counts bytes ≡ file k' counts' bytes' = rw (w.0, w.1, w.2) refl in
    let x : k ≡ k' = w.0 in
    let y : m ≡ m' = omega (arith, O.marks, O'.marks, ap length w.2) in
    let z : n ≡ n' = O.size ∙ (ap length f ∙ sym O'.size) in
    (O.wrote ∙ (ap (sets before 0) f ∙ sym O'.wrote), (cc))
