-- Demand 2 is met: the laws of `trees`, `formats` and `transducer`, put together.
-- Assumes nothing.
use Rattle.std.specs.Prelude.{Err, Ok, Option, Result}
use Rattle.trees.specs.Refusal.{outcome_of, Outcome, accepted, refused, done, check, Holds, IsJudged, Judged}
use Prim.Native.Nat.{ℕ, ◌+◌, ◌*◌, ◌≤◌}
use native.Mathlib.Decide.{dec_le}
use mathlib.Core.List.{List}
use mathlib.Core.Logic.{◌↔◌, inl, inr}
use mathlib.Core.Path.{◌≡◌, refl, sym, ap, ◌∙◌}
use lib.ListN.{length, take}
use lib.Seq.{sets}
use Rattle.theory.specs.Transducer.{Transducer, translate}
use Rattle.theory.proofs.Terms.{conflict}
use Rattle.trees.specs.Alphabets.{Alphabets, inputs, outputs, alphabet_check}
use Rattle.formats.specs.Answers.{ReadsFile, HandsCounts, HandsMarks, WritesFile}
use Rattle.trees.specs.declared.refusal.Refusal.{Refusal}
use Rattle.trees.proofs.Judging.{refuse, pass, accept, accepted_holds, refused_early, must_refuse}
use Rattle.formats.specs.Sheet.{longest, file, Encodes, Counted, CountedFile, Sheet, sheet_check, parts_check}
use Rattle.formats.proofs.Laws.{read_write, write_read}
use Rattle.formats.proofs.Sheets.{counted_right, encodes_long, parts_at, sheet_unique}
use Rattle.trees.proofs.Trees.{input_unique}
use Rattle.transducer.specs.Answers.{Translates}
use Rattle.transducer.proofs.Laws.{file_output_unique, must_translate, must_refuse_long, must_refuse_deep}
use Rattle.queries.specs.Answers.{FindsSymbol}
use Rattle.queries.proofs.Laws.{must_find}
use Rattle.demands.specs.Second.{ReadsParts, Demand2, ReadAndWritten, SewsAndAsks}

-- ---- reader and writer
undone : (stock s counts bytes before after : List ℕ) (n : ℕ) (r : Result ℕ Refusal) (w : Result ℕ Refusal) → ReadsFile stock s r → outcome_of r ≡ accepted n → HandsCounts stock s counts → HandsMarks stock s bytes → longest ≤ length before → WritesFile stock n counts bytes before after w → (outcome_of w ≡ accepted (length s)) × (after ≡ sets before 0 s)
undone stock s counts bytes before after n (Ok m) w R e C B h W =
    let x : m ≡ n = cc in
    let u = read_write stock s n counts bytes before after w (rw x at R) C B h W in
    (ap outcome_of u.0, u.1)
undone stock s counts bytes before after n (Err x) w R e C B h W = conflict (cc)

redone : (stock counts bytes before after : List ℕ) (n k : ℕ) (w : Result ℕ Refusal) → WritesFile stock n counts bytes before after w → outcome_of w ≡ accepted k → ReadsParts stock (take k after) n counts bytes
redone stock counts bytes before after n k (Ok m) W e =
    let x : m ≡ k = cc in
    let u = write_read stock n counts bytes before after k (rw x at W) in
    record { states = λ r R. ap outcome_of (u.0 r R); counts_are = u.1; marks_are = u.2 }
redone stock counts bytes before after n k (Err x) W e = conflict (cc)

-- ---- what reader and writer refuse
module _ (ins outs counts bytes : List ℕ) (n : ℕ) (few : length ins ≤ 16) (long : length counts ≡ 2 * (1 + n * length ins)) where
  -- a file's parts can be told apart
  same_parts : (m : ℕ) (counts' bytes' : List ℕ) → length counts' ≡ 2 * (1 + m * length ins) → file m counts' bytes' ≡ file n counts bytes → (m ≡ n) × (counts' ≡ counts) × (bytes' ≡ bytes)
  same_parts m counts' bytes' l e =
      let p = parts_at ins m counts' bytes' (file n counts bytes) l e in
      let z : m ≡ n = p.0 in
      let q = parts_at ins m counts bytes (file n counts bytes) (rw z long) (ap (λ k. file k counts bytes) z) in
      (z, p.1 ∙ sym q.1, p.2 ∙ sym q.2)

  counted_parts : CountedFile (length ins) (file n counts bytes) → Counted (length ins) n counts bytes
  counted_parts C =
      let R = counted_right ins C.states C.counts C.bytes few C.counted in
      let (a, b, c) = same_parts C.states C.counts C.bytes R.long C.coded in
      rw (← a, ← b, ← c) C.counted

  counted_file : Counted (length ins) n counts bytes → CountedFile (length ins) (file n counts bytes)
  counted_file C = record { states = n; counts = counts; bytes = bytes; coded = refl; counted = C }

  encoded_parts : ((m : ℕ) × ((M : Transducer ℕ) × Sheet ins outs (file n counts bytes) m M)) → (M : Transducer ℕ) × Encodes ins outs n counts bytes M
  encoded_parts (m, (M, S)) =
      let (a, b, c) = same_parts m S.counts S.bytes (encodes_long ins outs m S.counts S.bytes M S.encodes) S.coded in
      (M, rw (← a, ← b, ← c) S.encodes)

  encoded_file : ((M : Transducer ℕ) × Encodes ins outs n counts bytes M) → (m : ℕ) × ((M : Transducer ℕ) × Sheet ins outs (file n counts bytes) m M)
  encoded_file (M, E) = (n, (M, record { counts = counts; bytes = bytes; coded = refl; encodes = E }))

-- checks that hold of the one exactly if they hold of the other refuse by the same number
module _ {A B : Type 0} (Left Left' : Type 0) (Good : A → Type 0) (Good' : B → Type 0) (P Q Q' R R' : Type 0) (q : P → Q → Q') (q' : P → Q' → Q) (r : P → R → R') (r' : P → R' → R) where
  same_number : (i j l : ℕ) (x : Outcome A) (y : Outcome B) (k : ℕ) → IsJudged Left Good (check i P (check j Q (check l R done))) x → IsJudged Left' Good' (check i P (check j Q' (check l R' done))) y → x ≡ refused k → y ≡ refused k
  unfolding IsJudged
  same_number i j l x y k (inl (f, e, _)) (inl (f', e', _)) h = let z : i ≡ k = cc in e' ∙ ap (λ n. refused n) z
  same_number i j l x y k (inl (f, e, _)) (inr (p, v)) h = absurd (f p)
  same_number i j l x y k (inr (p, u)) (inl (f, e, _)) h = absurd (f p)
  same_number i j l x y k (inr (p, inl (f, e, _))) (inr (p', inl (f', e', _))) h = let z : j ≡ k = cc in e' ∙ ap (λ n. refused n) z
  same_number i j l x y k (inr (p, inl (f, e, _))) (inr (p', inr (w, v))) h = absurd (f (q' p w))
  same_number i j l x y k (inr (p, inr (w, u))) (inr (p', inl (f, e, _))) h = absurd (f (q p w))
  same_number i j l x y k (inr (p, inr (w, inl (f, e, _)))) (inr (p', inr (w', inl (f', e', _)))) h = let z : l ≡ k = cc in e' ∙ ap (λ n. refused n) z
  same_number i j l x y k (inr (p, inr (w, inl (f, e, _)))) (inr (p', inr (w', inr (s, v)))) h = absurd (f (r' p s))
  same_number i j l x y k (inr (p, inr (w, inr (s, u)))) (inr (p', inr (w', inl (f, e, _)))) h = absurd (f (r p s))
  same_number i j l (accepted a) y k (inr (p, inr (w, inr (s, u)))) (inr (p', inr (w', inr (s', v)))) h = conflict (cc)
  same_number i j l (refused m) y k (inr (p, inr (w, inr (s, u)))) (inr (p', inr (w', inr (s', v)))) h = absurd u

refuse_alike : (stock counts bytes before after : List ℕ) (n : ℕ) (r : Result ℕ Refusal) (w : Result ℕ Refusal) → length counts ≡ 2 * (1 + n * length (inputs stock)) → longest ≤ length before → ReadsFile stock (file n counts bytes) r → WritesFile stock n counts bytes before after w → (k : ℕ) → (outcome_of r ≡ refused k) ↔ (outcome_of w ≡ refused k)
unfolding IsJudged
refuse_alike stock counts bytes before after n r w l h R W k = (forth W.verdict, back W.verdict)
  where
    ins : List ℕ
    ins = inputs stock

    outs : List ℕ
    outs = outputs stock

    parts : Alphabets stock → CountedFile (length ins) (file n counts bytes) → Counted (length ins) n counts bytes
    parts A = counted_parts ins outs counts bytes n A.ins.few l

    whole : Alphabets stock → Counted (length ins) n counts bytes → CountedFile (length ins) (file n counts bytes)
    whole A = counted_file ins outs counts bytes n A.ins.few l

    codes : Alphabets stock → ((m : ℕ) × ((M : Transducer ℕ) × Sheet ins outs (file n counts bytes) m M)) → (M : Transducer ℕ) × Encodes ins outs n counts bytes M
    codes A = encoded_parts ins outs counts bytes n A.ins.few l

    sheet : Alphabets stock → ((M : Transducer ℕ) × Encodes ins outs n counts bytes M) → (m : ℕ) × ((M : Transducer ℕ) × Sheet ins outs (file n counts bytes) m M)
    sheet A = encoded_file ins outs counts bytes n A.ins.few l

    forth : IsJudged (after ≡ before) (λ k. (k ≡ length (file n counts bytes)) × (after ≡ sets before 0 (file n counts bytes))) (check 1 (longest ≤ length before) (alphabet_check stock (parts_check stock n counts bytes done))) (outcome_of w) → outcome_of r ≡ refused k → outcome_of w ≡ refused k
    forth (inl (f, e, _)) = absurd (f h)
    forth (inr (_, v)) = same_number _ _ _ _ _ _ _ _ _ parts whole codes sheet 2 4 5 (outcome_of r) (outcome_of w) k R.verdict v

    back : IsJudged (after ≡ before) (λ k. (k ≡ length (file n counts bytes)) × (after ≡ sets before 0 (file n counts bytes))) (check 1 (longest ≤ length before) (alphabet_check stock (parts_check stock n counts bytes done))) (outcome_of w) → outcome_of w ≡ refused k → outcome_of r ≡ refused k
    back (inl (f, e, _)) = absurd (f h)
    back (inr (_, v)) = same_number _ _ _ _ _ _ _ _ _ whole parts sheet codes 2 4 5 (outcome_of w) (outcome_of r) k v R.verdict

pub demand_2 : Demand2
unfolding Holds
demand_2 = record {
  plan = λ stock sheet design h. let (A, (C, ((n, (M, S)), ((d, I), u)))) = h in (translate M d, record { states = n; machine = M; input = d; is_sheet = S; is_tree = I; given = refl });
  one_plan = λ stock sheet design t t'. file_output_unique;
  sews = λ stock sheet design before after t r A O J h l. let w = must_translate A O before after r h l J in (ap outcome_of w.0, w.1);
  too_long = λ stock sheet design before after t r A O J h. let w = must_refuse_long A O before after r h J in (ap outcome_of w.0, w.1);
  too_deep = λ stock sheet design before after t r A O J h d. let w = must_refuse_deep A O before after r h d J in (ap outcome_of w.0, w.1);
  one_design = λ ins s d d'. input_unique;
  one_sheet = λ ins outs s n n' M M' S S'. let u = sheet_unique ins outs s n n' M M' S S' in record { states = u.0; initial = u.3; rhs = u.4 };
  place = λ stock sheet design address t r A O F. must_find A O address r F;
  read_written = undone;
  written_read = redone;
  same_refusals = refuse_alike;
}

-- ---- of the functions themselves
-- a file that is not read is not written
pub not_read : {stock s before : List ℕ} (r : Result ℕ Refusal) (x : Refusal) → r ≡ Err x → ReadsFile stock s r → ReadAndWritten stock s before before (Err x)
not_read {stock} {s} {before} r x e R = refused_early (alphabet_check stock (sheet_check stock s done)) (check 1 (longest ≤ length before) done) refl (rw e at R)

-- one that is read is
pub written_again : {stock s counts bytes before after : List ℕ} (r : Result ℕ Refusal) (n : ℕ) → r ≡ Ok n → ReadsFile stock s r → HandsCounts stock s counts → HandsMarks stock s bytes → (w : Result ℕ Refusal) → WritesFile stock n counts bytes before after w → ReadAndWritten stock s before after w
unfolding Holds
written_again {stock} {s} {counts} {bytes} {before} {after} r n e R C B w W = let h = (accepted_holds (rw e at R)).0 in pass h.0 (pass h.1.0 (pass h.1.1.0 (go (dec_le longest (length before)))))
  where
    go : Dec (longest ≤ length before) → Judged (after ≡ before) (λ k. (k ≡ length s) × (after ≡ sets before 0 s)) (check 1 (longest ≤ length before) done) (outcome_of w)
    go (yes h) = let u = undone stock s counts bytes before after n r w R (ap outcome_of e) C B h W in rw u.0 (pass h (accept (refl, u.1)))
    go (no h) = let u = must_refuse done (alphabet_check stock (parts_check stock n counts bytes done)) tt h W in rw u.0 (refuse h u.1)

-- what is sewn, and asked at a place
pub sewn_and_asked : {stock sheet design address before after : List ℕ} (r : Result ℕ Refusal) (q : Result (Option ℕ) Refusal) → Translates stock sheet design before after r → FindsSymbol stock sheet design address q → SewsAndAsks stock sheet design address before after r q
unfolding Holds
sewn_and_asked {stock} {sheet} {design} {address} {before} {after} r q J F h =
    let (t, O) = demand_2.plan stock sheet design h in
    record {
      plan = t;
      is_plan = O;
      sews = λ a b. demand_2.sews stock sheet design before after t r h.0 O J a b;
      too_long = λ a. demand_2.too_long stock sheet design before after t r h.0 O J a;
      too_deep = λ a b. demand_2.too_deep stock sheet design before after t r h.0 O J a b;
      place = demand_2.place stock sheet design address t q h.0 O F;
    }
