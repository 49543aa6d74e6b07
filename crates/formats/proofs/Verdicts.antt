-- From the answers of the inner readers to the answers about a transducer's file: refusal 4, then 5, then N.
-- Assumes nothing.
use Rattle.std.specs.Prelude.{Err, Ok, Result}
use Rattle.trees.specs.Refusal.{outcome_of, done, Holds, IsJudged}
use Prim.Native.Nat.{ℕ, ◌+◌, ◌-◌, ◌*◌, ◌≤◌, ◌<◌}
use native.Mathlib.Omega.{arith}
use mathlib.Core.Logic.{inl, inr}
use mathlib.Core.List.{List, [], ◌∷◌, ◌++◌}
use mathlib.Core.Path.{◌≡◌, refl, sym, ap, ap₂, ◌∙◌}
use lib.ListN.{length, get_or, take, drop, length-append, length-drop, take-append-drop}
use lib.Seq.{sets, take_all, drop-drop}
use Rattle.theory.specs.Transducer.{Transducer}
use Rattle.trees.specs.Alphabets.{Alphabets, inputs, outputs, alphabet_check}
use Rattle.formats.specs.Inner.Judging.{JudgesParts, JudgesFile, Put}
use Rattle.formats.specs.Inner.Layout.{offset, body_count, Summed, Right, Wholes}
use Rattle.trees.specs.Answers.{Nothing}
use Rattle.formats.specs.Answers.{ReadsFile, HandsCounts, HandsMarks, WritesFile}
use Rattle.formats.specs.Sheet.{longest, Counted, Encodes, CountedFile, Sheet, file, sheet_check, parts_check}
use Rattle.trees.specs.declared.refusal.Refusal.{Refusal}
use Rattle.trees.specs.declared.refusal.Refusal.TheVariants.{BadContents, BadBody}
use Rattle.trees.proofs.Judging.{refuse, pass, accept, accepted_holds, refused_fails, refused_early}
use Rattle.formats.proofs.Sheets.{counted_right, right_counted, encodes_wholes, file_short, wholes_encodes, encodes_counted, parts_at}

-- ---- N, counts and marks
-- ins and outs are the ranks in the stock
module _ {stock : List ℕ} (A : Alphabets stock) {ins : List ℕ} (e : ins ≡ inputs stock) where
  pub few_symbols : length ins ≤ 16
  few_symbols = rw e A.ins.few

  module _ {n : ℕ} {counts bytes : List ℕ} where
    right : Counted (length (inputs stock)) n counts bytes → Right ins n counts bytes
    right C = rw e (counted_right (inputs stock) n counts bytes A.ins.few C)

    pub many_states : 128 < n → JudgesParts stock n counts bytes (Err BadContents)
    many_states h = refuse (λ C. omega (arith, (right C).states)) tt

    pub wrong_length : (length counts ≡ 2 * body_count ins n → ⊥) → JudgesParts stock n counts bytes (Err BadContents)
    wrong_length h = refuse (λ C. h (right C).long) tt

    pub wrong_sums : (Summed counts bytes (body_count ins n) → ⊥) → JudgesParts stock n counts bytes (Err BadContents)
    wrong_sums h = refuse (λ C. h (right C).sums) tt

    module _ (R : Right ins n counts bytes) {outs : List ℕ} (f : outs ≡ outputs stock) where
      counted : Counted (length (inputs stock)) n counts bytes
      counted = rw (← e) (right_counted ins n counts bytes R)

      pub wrong_body : (Wholes ins outs n (offset counts) bytes → ⊥) → JudgesParts stock n counts bytes (Err BadBody)
      wrong_body h = pass counted (refuse (λ E. h (rw (e, f) (encodes_wholes (inputs stock) (outputs stock) n counts bytes E.0 E.1))) tt)

      pub all_right : Wholes ins outs n (offset counts) bytes → JudgesParts stock n counts bytes (Ok n)
      all_right W =
          let E : (M : Transducer ℕ) × Encodes (inputs stock) (outputs stock) n counts bytes M = rw (← e, ← f) (_, wholes_encodes ins outs n counts bytes R W) in
          pass counted (pass E (accept (refl, E)))

-- ---- a file
-- the parts of a file, put together again
file_again : (s : List ℕ) (n m : ℕ) → n ≡ get_or s 0 0 → 1 + m ≤ length s → file n (take m (drop 1 s)) (drop (1 + m) s) ≡ s
file_again [] n m e h = absurd (omega arith)
file_again (x ∷ l) n m e h = ap₂ ◌∷◌ e (ap (λ d. take m l ++ d) (sym (drop-drop m 1 (x ∷ l))) ∙ take-append-drop m l)

-- the parts as they are lent: the counts end at `from`
counts_lent : (s : List ℕ) (from m : ℕ) → from ≡ 1 + m → take (from - 1) (drop 1 s) ≡ take m (drop 1 s)
counts_lent s from m f = let z : from - 1 ≡ m = omega arith in ap (λ k. take k (drop 1 s)) z

marks_lent : (s : List ℕ) (from m : ℕ) → from ≡ 1 + m → take (length s - from) (drop from s) ≡ drop (1 + m) s
marks_lent s from m f = take_all (length s - from) (drop from s) (omega (arith, length-drop from s)) ∙ ap (λ k. drop k s) f

module _ (stock s : List ℕ) (A : Alphabets stock) where
  -- the parts of a file whose N, counts and length are right
  module _ (k : ℕ) (counts bytes : List ℕ) (whole : file k counts bytes ≡ s) (C : Counted (length (inputs stock)) k counts bytes) where
    where_parts : (k ≡ get_or s 0 0) × (counts ≡ take (2 * body_count (inputs stock) k) (drop 1 s)) × (bytes ≡ drop (1 + 2 * body_count (inputs stock) k) s)
    where_parts = parts_at (inputs stock) k counts bytes s (counted_right (inputs stock) k counts bytes A.ins.few C).long whole

    counts_inside : 1 + 2 * body_count (inputs stock) k ≤ length s
    counts_inside = omega (arith, (counted_right (inputs stock) k counts bytes A.ins.few C).long, ap length whole, length-append counts bytes)

  pub empty_file : length s ≡ 0 → JudgesFile stock s (Err BadContents)
  empty_file h = refuse (λ F. omega (arith, counts_inside F.states F.counts F.bytes F.coded F.counted)) tt

  module _ (n from : ℕ) (e : n ≡ get_or s 0 0) (f : from ≡ 1 + 2 * body_count (inputs stock) n) where
    -- parts of the file are its parts as they are lent
    module _ (k : ℕ) (counts bytes : List ℕ) (whole : file k counts bytes ≡ s) (C : Counted (length (inputs stock)) k counts bytes) where
      lent : (k ≡ n) × (counts ≡ take (from - 1) (drop 1 s)) × (bytes ≡ take (length s - from) (drop from s))
      lent =
          let w = where_parts k counts bytes whole C in
          let z : k ≡ n = w.0 ∙ sym e in
          (z, rw z at w.1 ∙ sym (counts_lent s from (2 * body_count (inputs stock) n) f), rw z at w.2 ∙ sym (marks_lent s from (2 * body_count (inputs stock) n) f))

    pub short_file : length s < from → JudgesFile stock s (Err BadContents)
    short_file h = refuse (λ F. let z = (lent F.states F.counts F.bytes F.coded F.counted).0 in omega (arith, rw z at (counts_inside F.states F.counts F.bytes F.coded F.counted))) tt

    parts_counted : CountedFile (length (inputs stock)) s → Counted (length (inputs stock)) n (take (from - 1) (drop 1 s)) (take (length s - from) (drop from s))
    parts_counted F = let w = lent F.states F.counts F.bytes F.coded F.counted in rw (← w.1, ← w.2, ← w.0) F.counted

    parts_encode : (k : ℕ) (M : Transducer ℕ) → Sheet (inputs stock) (outputs stock) s k M → Encodes (inputs stock) (outputs stock) n (take (from - 1) (drop 1 s)) (take (length s - from) (drop from s)) M
    parts_encode k M S =
        let w = lent k S.counts S.bytes S.coded (encodes_counted (inputs stock) (outputs stock) k S.counts S.bytes M S.encodes) in
        rw (← w.1, ← w.2, ← w.0) S.encodes

    module _ (long : from ≤ length s) where
      coded : file n (take (from - 1) (drop 1 s)) (take (length s - from) (drop from s)) ≡ s
      coded = ap₂ (file n) (counts_lent s from (2 * body_count (inputs stock) n) f) (marks_lent s from (2 * body_count (inputs stock) n) f) ∙ file_again s n (2 * body_count (inputs stock) n) e (omega arith)

      file_counted : Counted (length (inputs stock)) n (take (from - 1) (drop 1 s)) (take (length s - from) (drop from s)) → CountedFile (length (inputs stock)) s
      file_counted C = record { states = n; counts = take (from - 1) (drop 1 s); bytes = take (length s - from) (drop from s); coded = coded; counted = C }

      file_encodes : (M : Transducer ℕ) → Encodes (inputs stock) (outputs stock) n (take (from - 1) (drop 1 s)) (take (length s - from) (drop from s)) M → Sheet (inputs stock) (outputs stock) s n M
      file_encodes M E = record { counts = take (from - 1) (drop 1 s); bytes = take (length s - from) (drop from s); coded = coded; encodes = E }

      -- what is judged of the parts is judged of the file
      pub file_verdict : (r : Result ℕ Refusal) → JudgesParts stock n (take (from - 1) (drop 1 s)) (take (length s - from) (drop from s)) r → JudgesFile stock s r
      unfolding IsJudged
      file_verdict r J = go r J.verdict
        where
          go : (r : Result ℕ Refusal) → IsJudged Nothing (λ k. (k ≡ n) × ((M : Transducer ℕ) × Encodes (inputs stock) (outputs stock) n (take (from - 1) (drop 1 s)) (take (length s - from) (drop from s)) M)) (parts_check stock n (take (from - 1) (drop 1 s)) (take (length s - from) (drop from s)) done) (outcome_of r) → JudgesFile stock s r
          go r (inl (h, q, u)) = rw q (refuse (λ F. h (parts_counted F)) tt)
          go r (inr (C, inl (h, q, u))) = rw q (pass (file_counted C) (refuse (λ S. h (S.1.0, parts_encode S.0 S.1.0 S.1.1)) tt))
          go (Ok k) (inr (C, inr (E, (q, G)))) = pass (file_counted C) (pass (n, (E.0, file_encodes E.0 E.1)) (accept (rw q (G.0, file_encodes G.0 G.1))))
          go (Err x) (inr (C, inr (E, u))) = absurd u

-- ---- the parts that are handed out
-- an accepted file
module _ (stock s : List ℕ) (n : ℕ) {r : Result ℕ Refusal} (J : ReadsFile stock s r) (e : r ≡ Ok n) where
  verdict : Holds (alphabet_check stock (sheet_check stock s done)) × ((M : Transducer ℕ) × Sheet (inputs stock) (outputs stock) s n M)
  verdict = accepted_holds (rw e at J)

  pub accepted_alphabets : Alphabets stock
  unfolding Holds
  accepted_alphabets = verdict.0.0

  sheet_counted : Counted (length (inputs stock)) n verdict.1.1.counts verdict.1.1.bytes
  sheet_counted = let S = verdict.1.1 in encodes_counted (inputs stock) (outputs stock) n S.counts S.bytes verdict.1.0 S.encodes

  pub accepted_states : n ≤ 128
  accepted_states = sheet_counted.contents.states

  pub accepted_long : 1 + 2 * body_count (inputs stock) n ≤ length s
  accepted_long = let S = verdict.1.1 in counts_inside stock s accepted_alphabets n S.counts S.bytes S.coded sheet_counted

  module _ (from : ℕ) (f : from ≡ 1 + 2 * body_count (inputs stock) n) where
    parts_lent : (n ≡ n) × (verdict.1.1.counts ≡ take (from - 1) (drop 1 s)) × (verdict.1.1.bytes ≡ take (length s - from) (drop from s))
    parts_lent =
        let S = verdict.1.1 in
        let z = (where_parts stock s accepted_alphabets n S.counts S.bytes S.coded sheet_counted).0 in
        lent stock s accepted_alphabets n from z f n S.counts S.bytes S.coded sheet_counted

    pub counts_handed : HandsCounts stock s (take (from - 1) (drop 1 s))
    counts_handed = inl (verdict.0, (n, (verdict.1.0, (verdict.1.1, sym parts_lent.1))))

    pub marks_handed : HandsMarks stock s (take (length s - from) (drop from s))
    marks_handed = inl (verdict.0, (n, (verdict.1.0, (verdict.1.1, sym parts_lent.2))))

-- a refused one
pub none_handed : (stock s : List ℕ) (x : Refusal) {r : Result ℕ Refusal} → ReadsFile stock s r → r ≡ Err x → Holds (alphabet_check stock (sheet_check stock s done)) → ⊥
none_handed stock s x J e = (refused_fails (rw e at J)).0

-- ---- writing
module _ (stock : List ℕ) (n : ℕ) (counts bytes : List ℕ) (A : Alphabets stock) {r : Result ℕ Refusal} (J : JudgesParts stock n counts bytes r) where
  module _ (m : ℕ) (e : r ≡ Ok m) where
    judged_parts : Holds (parts_check stock n counts bytes done) × ((m ≡ n) × ((M : Transducer ℕ) × Encodes (inputs stock) (outputs stock) n counts bytes M))
    judged_parts = accepted_holds (rw e at J)

    -- a file of at most 20,483 bytes
    pub file_fits : (m ≤ 255) × (1 + length counts + length bytes ≤ longest)
    file_fits =
        let w = judged_parts.1 in
        let C = encodes_counted (inputs stock) (outputs stock) n counts bytes w.1.0 w.1.1 in
        (omega (arith, w.0, C.contents.states), omega (arith, file_short (inputs stock) n counts bytes A.ins.few C, length-append counts bytes))

    pub file_written_lem : {before after : List ℕ} {k : ℕ} → longest ≤ length before → Put (file m counts bytes) before after k → WritesFile stock n counts bytes before after (Ok k)
    unfolding Holds
    file_written_lem {before} h P =
        let w = judged_parts in
        pass h (pass A (pass w.0.0 (pass w.0.1.0 (accept (P.size, P.wrote ∙ ap (λ k. sets before 0 (file k counts bytes)) w.1.0)))))

  pub not_written : {before : List ℕ} (x : Refusal) → r ≡ Err x → longest ≤ length before → WritesFile stock n counts bytes before before (Err x)
  not_written x e h = pass h (pass A (refused_early (parts_check stock n counts bytes done) done refl (rw e at J)))
