-- The comparison from its ends: of two earliest forms, of the parts of two files, and of two files.
-- Assumes nothing.
use Rattle.std.specs.Prelude.{Err, None, Ok, Option, Result, Some}
use Rattle.witness.specs.declared.witness.Shown.{Shown}
use Rattle.trees.specs.Refusal.{outcome_of, refusal_number, Outcome, accepted, refused, Checks, done, check, IsJudged, Holds, Judged}
use Prim.Native.Nat.{ℕ, ◌-◌, ◌≤◌, ◌<◌}
use native.Mathlib.Nat.{sub-zero}
use native.Mathlib.Omega.{arith}
use mathlib.Core.List.{List, []}
use mathlib.Core.Logic.{inl, inr}
use mathlib.Core.Option.{Option as Maybe, some}
use mathlib.Core.Path.{◌≡◌, refl, ap, ◌∙◌}
use lib.ListN.{length, length-replicate, replicate, take}
use lib.Seq.{length-take-le}
use Rattle.theory.specs.Equivalent.{Equivalent}
use Rattle.theory.specs.Term.{Tree, symbol_at}
use Rattle.theory.specs.Transducer.{Transducer}
use Rattle.theory.proofs.Equivalences.{equivalent_trans, equivalent_sym}
use Rattle.theory.proofs.Identity.{identical_sym}
use Rattle.theory.proofs.Terms.{conflict}
use Rattle.theory.proofs.Trimming.{trimmed_equivalent, trimmed_earliest, trimmed_form}
use Rattle.trees.specs.Alphabets.{Leaf, inputs, outputs, alphabet_check}
use Rattle.formats.specs.Answers.{ReadsFile, HandsMarks}
use Rattle.formats.specs.Sheet.{Encodes, Sheet, sheet_check}
use Rattle.trees.specs.declared.refusal.Refusal.{Refusal}
use Rattle.trees.specs.declared.refusal.Refusal.TheVariants.{OverLimits}
use Rattle.trees.proofs.Judging.{refuse, pass, accept, accepted_holds, refused_fails}
use Rattle.formats.proofs.Laws.{sheet_marks}
use Rattle.formats.proofs.Sheets.{sheet_unique}
use Rattle.transducer.specs.Inner.Machine.{Machine}
use Rattle.transducer.proofs.Opening.{Opened, opened_sheet, not_opened}
use Rattle.forms.specs.Alphabet.{alphabet}
use Rattle.forms.specs.Inner.Tables.{machine}
use Rattle.forms.proofs.Files.{machine_wf, encoded_wf}
use Rattle.earliest.specs.Answers.{form_check}
use Rattle.earliest.specs.Inner.Loaded.{EarliestOf, FormOfParts}
use Rattle.forms.proofs.Filing.{packed_encoded}
use Rattle.earliest.proofs.Forming.{from_parts, to_parts}
use Rattle.canonical.specs.Answers.{SewAlike}
use Rattle.canonical.proofs.Alike.{equivalent_alike, ranked_allowed}
use Rattle.witness.specs.Difference.{tree_area, address_area, Difference}
use Rattle.witness.specs.Inner.Forms.{Comparable, Shows}
use Rattle.comparison.specs.Answers.{Differ, Found, Compares, pair_check, HandsShorter}
use Rattle.pairs.specs.Inner.Pairs.{sides, Forms, Searches}
use Rattle.comparison.specs.Inner.Verdicts.{ComparesForms, FoundParts, ComparesParts, EarlyForm, ComparesWith}
use Rattle.pairs.specs.declared.pairs.Clash.{Clash}
use Rattle.pairs.specs.declared.pairs.Pair.{Pair}

-- ---- of two earliest forms
-- with a byte for each state in a part of an array
zeros_long : (k : ℕ) → k ≤ 128 → length (take (k - 0) (replicate {A = ℕ} 128 0)) ≡ k
zeros_long k h = rw (sub-zero k) (length-take-le k (replicate {A = ℕ} 128 0) (omega (arith, length-replicate {A = ℕ} 128 0)))

module _ {ins outs starts bytes starts' bytes' : List ℕ} {k k' : ℕ} (C : Comparable ins outs starts bytes k starts' bytes' k') where
  pub forms_searchable : Forms (sides ins starts bytes starts' bytes') (length (take (k - 0) (replicate {A = ℕ} 128 0))) (length (take (k' - 0) (replicate {A = ℕ} 128 0)))
  forms_searchable = rw (zeros_long k C.left.few_states, zeros_long k' C.right.few_states) (record { outs = outs; left = C.left; right = C.right })

  pub forms_searched : {P : List Pair} {v : Result (Unit {0}) Clash} → Searches (sides ins starts bytes starts' bytes') (length (take (k - 0) (replicate {A = ℕ} 128 0))) (length (take (k' - 0) (replicate {A = ℕ} 128 0))) P v → Searches (sides ins starts bytes starts' bytes') k k' P v
  forms_searched S = rw (zeros_long k C.left.few_states, zeros_long k' C.right.few_states) at S

  -- the search ends with all pairs joined
  pub forms_same : {P : List Pair} {tree address : List ℕ} {v : Result (Unit {0}) Clash} → Searches (sides ins starts bytes starts' bytes') k k' P v → v ≡ Ok tt → ComparesForms ins outs starts bytes k starts' bytes' k' tree tree address address (Ok None)
  forms_same S e = record {
    same = λ z. ((λ l. S.same e outs l C.left C.right (machine_wf l C.left.wholes) (machine_wf l C.right.wholes)), refl, refl);
    differ = λ v z. conflict (cc);
    answered = λ x z. absurd (conflict (cc));
  }

  -- or with a clash, from which a difference is shown
  pub forms_differ : {tree tree' address address' : List ℕ} {v : Shown} → Shows ins outs (machine ins outs starts bytes k) (machine ins outs starts' bytes' k') tree tree' address address' v.nodes v.numbers v.left v.right → ComparesForms ins outs starts bytes k starts' bytes' k' tree tree' address address' (Ok (Some v))
  forms_differ {tree} {tree'} {address} {address'} {v} S = record {
    same = λ z. conflict (cc);
    differ = λ v' z. let h : v ≡ v' = cc in rw (← h) S;
    answered = λ x z. absurd (conflict (cc));
  }

-- ---- of the parts of two files, by their earliest forms
module _ {stock counts bytes starts out : List ℕ} {n : ℕ} {r : Option ℕ} (X : Machine stock n counts bytes) (B : FormOfParts stock n counts bytes starts out r) where
  -- the earliest form is over the limits
  early_none : r ≡ None → (k : ℕ) × ((cs : List ℕ) × ((bs : List ℕ) × EarliestOf stock n counts bytes k cs bs)) → ⊥
  early_none e w = B.over e w.0 w.1.0 w.1.1.0 w.1.1.1

  -- and it is the first of the two
  pub parts_over : {tree address counts' bytes' : List ℕ} {n' : ℕ} → r ≡ None → ComparesParts stock n counts bytes n' counts' bytes' tree tree address address (Err OverLimits)
  parts_over e = refuse (early_none e) (refl, refl)

  module _ {k : ℕ} (e : r ≡ Some k) where
    -- the earliest form as a file
    early_some : (k' : ℕ) × ((cs : List ℕ) × ((bs : List ℕ) × EarliestOf stock n counts bytes k' cs bs))
    early_some =
        let w = packed_encoded X.alphabets (B.layout k e) (B.packed k e) in
        let l = X.alphabets.leaf in
        (k, (w.0, (w.1, record { alphabets = X.alphabets; machine = X.machine; machine_coded = X.encodes; form = w.2; trimmed = trimmed_form (identical_sym (w.4 l)) (B.trimmed k e X.machine X.encodes l); form_coded = w.3 })))

    pub early_form : EarlyForm stock starts out k
    early_form = record { states = n; counts = counts; bytes = bytes; machine = X; earliest = rw e at B }

    -- what is answered of the form is answered of the parts
    pub parts_with : {n' : ℕ} {counts' bytes' tree tree' address address' : List ℕ} (x : Result (Option Shown) Refusal) → ComparesWith stock starts out k n' counts' bytes' tree tree' address address' x → ComparesParts stock n counts bytes n' counts' bytes' tree tree' address address' x
    parts_with x W = W n counts bytes X (rw e at B)

    -- the transducers with these parts are equivalent to it
    early_same : {M : Transducer ℕ} → Encodes (inputs stock) (outputs stock) n counts bytes M → (l : Leaf (inputs stock)) → Equivalent (alphabet (inputs stock) l) M (machine (inputs stock) (outputs stock) starts out k)
    early_same {M} E l = trimmed_equivalent (encoded_wf X.alphabets.ins.few l E) (B.trimmed k e M E l)

module _ {stock counts bytes starts out counts' bytes' starts' out' : List ℕ} {n n' : ℕ} {r r' : Option ℕ} (X : Machine stock n counts bytes) (B : FormOfParts stock n counts bytes starts out r) (X' : Machine stock n' counts' bytes') (B' : FormOfParts stock n' counts' bytes' starts' out' r') where
  module _ {k : ℕ} (e : r ≡ Some k) where
    -- the second is over the limits
    pub parts_second_over : {tree address : List ℕ} → r' ≡ None → ComparesParts stock n counts bytes n' counts' bytes' tree tree address address (Err OverLimits)
    parts_second_over e' = pass (early_some X B e) (refuse (early_none X' B' e') (refl, refl))

    module _ {k' : ℕ} (e' : r' ≡ Some k') where
      -- neither is, and the two forms can be compared
      parts_comparable_here : Comparable (inputs stock) (outputs stock) starts out k starts' out' k'
      parts_comparable_here = record {
        ins_ranks = X.alphabets.ins;
        outs_ranks = X.alphabets.outs;
        leaf = X.alphabets.leaf;
        left = B.layout k e;
        right = B'.layout k' e';
        left_earliest = λ l. trimmed_earliest (encoded_wf X.alphabets.ins.few l X.encodes) (B.trimmed k e X.machine X.encodes l);
        right_earliest = λ l. trimmed_earliest (encoded_wf X.alphabets.ins.few l X'.encodes) (B'.trimmed k' e' X'.machine X'.encodes l);
      }

      pub parts_comparable : {ins outs : List ℕ} → ins ≡ inputs stock → outs ≡ outputs stock → Comparable ins outs starts out k starts' out' k'
      parts_comparable i o = rw (i, o) parts_comparable_here

      -- a difference of the forms is one of the transducers
      parts_difference : {d : Tree} {v : List ℕ} {b b' : ℕ} → Difference (inputs stock) (outputs stock) (machine (inputs stock) (outputs stock) starts out k) (machine (inputs stock) (outputs stock) starts' out' k') d v b b' → {M M' : Transducer ℕ} → Encodes (inputs stock) (outputs stock) n counts bytes M → Encodes (inputs stock) (outputs stock) n' counts' bytes' M' → Difference (inputs stock) (outputs stock) M M' d v b b'
      parts_difference {d} {v} D E E' =
          let l = X.alphabets.leaf in
          let ok = ranked_allowed l 0 d D.ranked in
          record {
            ranked = D.ranked;
            small = D.small;
            few_levels_lem = D.few_levels_lem;
            short = D.short;
            left = ap (λ t. symbol_at t v) ((early_same X B e E l).translation d ok) ∙ D.left;
            right = ap (λ t. symbol_at t v) ((early_same X' B' e' E' l).translation d ok) ∙ D.right;
            unlike = D.unlike;
          }

      -- and forms are equivalent exactly if the transducers are
      parts_answered : {tree tree' address address' : List ℕ} (x : Result (Option Shown) Refusal) → ComparesForms (inputs stock) (outputs stock) starts out k starts' out' k' tree tree' address address' x → Judged ((tree' ≡ tree) × (address' ≡ address)) (FoundParts stock n counts bytes n' counts' bytes' tree tree' address address') done (outcome_of x)
      parts_answered (Ok None) F =
          let w = F.same refl in
          let l = X.alphabets.leaf in
          accept ((λ M M' E E'. (equivalent_alike l).0 (equivalent_trans (early_same X B e E l) (equivalent_trans (w.0 l) (equivalent_sym (early_same X' B' e' E' l))))), w.1, w.2)
      parts_answered (Ok (Some v)) F = let S = F.differ v refl in accept (S.shown, (S.place, (S.written, λ M M' E E'. parts_difference S.difference E E')))
      parts_answered (Err x) F = absurd (F.answered x refl)

      pub parts_compared : {ins outs tree tree' address address' : List ℕ} → ins ≡ inputs stock → outs ≡ outputs stock → (x : Result (Option Shown) Refusal) → ComparesForms ins outs starts out k starts' out' k' tree tree' address address' x → ComparesParts stock n counts bytes n' counts' bytes' tree tree' address address' x
      parts_compared i o x F = pass (early_some X B e) (pass (early_some X' B' e') (parts_answered x (rw (i, o) at F)))

-- ---- of two files: what is answered of their parts is answered of them
-- a check that holds can be left out
pub past : {A Kept : Type 0} {Good : A → Type 0} {k : ℕ} {P : Type 0} {rest : Checks} {r : Outcome A} → P → Judged Kept Good (check k P rest) r → Judged Kept Good rest r
unfolding IsJudged
past {Kept} {Good} {k} {P} {rest} {r} p j = go j.verdict
  where
    go : IsJudged Kept Good (check k P rest) r → Judged Kept Good rest r
    go (inl (f, q, kept)) = absurd (f p)
    go (inr (p', v)) = record { verdict = v }

module _ {stock s ins counts bytes : List ℕ} {n : ℕ} (O : Opened stock s n ins counts bytes) {A Kept : Type 0} {Good : A → Type 0} where
  -- the first is accepted
  first_passed : {rest : Checks} {r : Outcome A} → Judged Kept Good rest r → Judged Kept Good (alphabet_check stock (sheet_check stock s rest)) r
  unfolding Holds
  first_passed j = let w = O.holds in pass w.0 (pass w.1.0 (pass w.1.1.0 j))

  -- then the second is asked alone
  second_passed : {rest : Checks} {r : Outcome A} → Judged Kept Good rest r → Judged Kept Good (sheet_check stock s rest) r
  unfolding Holds
  second_passed j = let w = O.holds in pass w.1.0 (pass w.1.1.0 j)

  -- it is refused
  pub second_refused : (s' : List ℕ) (rest : Checks) {x : Refusal} {r : Result ℕ Refusal} → Kept → ReadsFile stock s' r → r ≡ Err x → Judged {A = A} Kept Good (alphabet_check stock (sheet_check stock s (sheet_check stock s' rest))) (refused (refusal_number x))
  second_refused s' rest kept J e = first_passed (past O.alphabets (not_opened stock s' rest kept J e))

module _ {stock s s' ins ins' counts counts' bytes bytes' : List ℕ} {n n' : ℕ} (O : Opened stock s n ins counts bytes) (O' : Opened stock s' n' ins' counts' bytes') where
  -- a transducer of the file is one of its parts
  sheet_parts : {t is cs bs : List ℕ} {m m' : ℕ} (Q : Opened stock t m is cs bs) {M : Transducer ℕ} → Sheet (inputs stock) (outputs stock) t m' M → Encodes (inputs stock) (outputs stock) m cs bs M
  sheet_parts {t} {m = m} {m'} Q {M} S =
      let u = sheet_unique (inputs stock) (outputs stock) t m' m M Q.machine S (opened_sheet Q) in
      rw (← u.0, ← u.1, ← u.2) S.encodes

  files_found : (tree tree' address address' : List ℕ) (v : Option Shown) → FoundParts stock n counts bytes n' counts' bytes' tree tree' address address' v → Found stock s s' tree tree' address address' v
  files_found tree tree' address address' None F =
      let S = opened_sheet O in
      let S' = opened_sheet O' in
      (record { states = n; machine = O.machine; sheet = S; states' = n'; machine' = O'.machine; sheet' = S'; alike = F.0 O.machine O'.machine (sheet_parts O S) (sheet_parts O' S') }, F.1, F.2)
  files_found tree tree' address address' (Some v) F = record { shown = F.0; place = F.1.0; written = F.1.1.0; differ = λ m m' M M' S S'. F.1.1.1 M M' (sheet_parts O S) (sheet_parts O' S') }

  pub files_compared : {tree tree' address address' : List ℕ} → tree_area ≤ length tree → address_area ≤ length address → (x : Result (Option Shown) Refusal) → ComparesParts stock n counts bytes n' counts' bytes' tree tree' address address' x → Compares stock s s' tree tree' address address' x
  unfolding IsJudged
  files_compared {tree} {tree'} {address} {address'} h h' x J = pass (h, h') (first_passed O (second_passed O' (first (outcome_of x) J.verdict)))
    where
      Kept : Type 0
      Kept = (tree' ≡ tree) × (address' ≡ address)

      last : (y : Outcome (Option Shown)) → IsJudged Kept (FoundParts stock n counts bytes n' counts' bytes' tree tree' address address') done y → Judged Kept (Found stock s s' tree tree' address address') done y
      last (accepted v) G = accept (files_found tree tree' address address' v G)
      last (refused k) G = absurd G

      second : (y : Outcome (Option Shown)) → IsJudged Kept (FoundParts stock n counts bytes n' counts' bytes' tree tree' address address') (check 7 ((k : ℕ) × ((cs : List ℕ) × ((bs : List ℕ) × EarliestOf stock n' counts' bytes' k cs bs))) done) y → Judged Kept (Found stock s s' tree tree' address address') (form_check stock s' done) y
      second y (inl (f, q, kept)) = rw q (refuse (λ w. f (w.0, (w.1.0, (w.1.1.0, to_parts O' w.1.1.1)))) kept)
      second y (inr (R, G)) = pass (R.0, (R.1.0, (R.1.1.0, from_parts O' R.1.1.1))) (last y G)

      first : (y : Outcome (Option Shown)) → IsJudged Kept (FoundParts stock n counts bytes n' counts' bytes' tree tree' address address') (check 7 ((k : ℕ) × ((cs : List ℕ) × ((bs : List ℕ) × EarliestOf stock n counts bytes k cs bs))) (check 7 ((k : ℕ) × ((cs : List ℕ) × ((bs : List ℕ) × EarliestOf stock n' counts' bytes' k cs bs))) done)) y → Judged Kept (Found stock s s' tree tree' address address') (form_check stock s (form_check stock s' done)) y
      first y (inl (f, q, kept)) = rw q (refuse (λ w. f (w.0, (w.1.0, (w.1.1.0, to_parts O w.1.1.1)))) kept)
      first y (inr (R, G)) = pass (R.0, (R.1.0, (R.1.1.0, from_parts O R.1.1.1))) (second y G)

-- equal trees have one symbol at an address
symbols_same : {x y : Maybe (ℕ × ℕ)} {b b' r r' : ℕ} → x ≡ some (b, r) → y ≡ some (b', r') → x ≡ y → b ≡ b'
symbols_same {b = b} {b'} {r} {r'} p q e = let w : ◌≡◌ {A = ℕ × ℕ} (b, r) (b', r') = cc in ap (λ (z : ℕ × ℕ). z.0) w

-- files that differ do not sew alike: two output trees have two symbols at one address
pub differ_unlike : {stock s s' tree tree' address address' : List ℕ} {m n b b' : ℕ} → Differ stock s s' tree tree' address address' m n b b' → SewAlike stock s s' → ⊥
differ_unlike D A =
    let d = D.differ A.states A.states' A.machine A.machine' A.sheet A.sheet' in
    d.unlike (symbols_same d.left d.right (ap (λ x. symbol_at x D.place) (A.alike.plans D.shown d.ranked)))

-- ---- the marks of the alike one with fewer
module _ {stock s s' tree tree' address address' : List ℕ} {r : Result (Option Shown) Refusal} (J : Compares stock s s' tree tree' address address' r) where
  -- the two are alike, and these are their marks
  module _ (e : r ≡ Ok None) {left right : List ℕ} (B : HandsMarks stock s left) (B' : HandsMarks stock s' right) where
    alike_holds : Holds (pair_check stock s s') × SewAlike stock s s'
    unfolding Holds
    alike_holds = let w = accepted_holds (rw e at J) in (w.0.1, w.1.0)

    alike_fewer : {part : List ℕ} → (length left ≤ length right → part ≡ left) → (length right < length left → part ≡ right) → HandsShorter stock s s' part
    unfolding Holds
    alike_fewer f g =
        let h = alike_holds.0 in
        let S = h.1.1.0 in
        let S' = h.1.1.1.1.0 in
        let b : left ≡ S.1.1.bytes = sheet_marks stock s h.0 S.0 S.1.0 S.1.1 left B in
        let b' : right ≡ S'.1.1.bytes = sheet_marks stock s' h.0 S'.0 S'.1.0 S'.1.1 right B' in
        inl (
          h,
          inl (
            alike_holds.1,
            record {
              states = S.0;
              machine = S.1.0;
              sheet = S.1.1;
              states' = S'.0;
              machine' = S'.1.0;
              sheet' = S'.1.1;
              left = λ l. f (omega (arith, ap length b, ap length b')) ∙ b;
              right = λ l. g (omega (arith, ap length b, ap length b')) ∙ b';
            },
          ),
        )

    pub shorter_left : length left ≤ length right → HandsShorter stock s s' left
    shorter_left h = alike_fewer (λ l. refl) (λ l. absurd (omega arith))

    pub shorter_right : length right < length left → HandsShorter stock s s' right
    shorter_right h = alike_fewer (λ l. absurd (omega arith)) (λ l. refl)

  -- they differ
  pub shorter_differ : {v : Shown} → r ≡ Ok (Some v) → HandsShorter stock s s' []
  unfolding Holds
  shorter_differ e = let w = accepted_holds (rw e at J) in inl (w.0.1, inr (differ_unlike w.1, refl))

  -- or are refused
  pub shorter_refused : tree_area ≤ length tree → address_area ≤ length address → {x : Refusal} → r ≡ Err x → HandsShorter stock s s' []
  unfolding Holds
  shorter_refused h h' e = inr ((λ w. (refused_fails (rw e at J)).0 ((h, h'), w)), refl)
