-- What the promises about a transducer's file come to. Read this file first: it cites the promises and nothing of the code.
-- Assumes nothing.
use Rattle.std.specs.Prelude.{Err, Ok, Result}
use Rattle.trees.specs.declared.refusal.Refusal.{Refusal}
use Rattle.trees.specs.Refusal.{outcome_of, accepted, done, Holds}
use Prim.Native.Nat.{ℕ, ◌≤◌}
use native.Mathlib.Omega.{arith}
use mathlib.Core.List.{List}
use mathlib.Core.Logic.{inl, inr}
use mathlib.Core.Path.{◌≡◌, sym, ap, ◌∙◌}
use lib.ListN.{length, take}
use lib.Seq.{sets, sets-eq, take_at}
use Rattle.theory.specs.Transducer.{Transducer}
use Rattle.theory.proofs.Terms.{conflict}
use Rattle.trees.specs.Alphabets.{Alphabets, inputs, outputs, alphabet_check}
use Rattle.formats.specs.Answers.{ReadsFile, HandsCounts, HandsMarks, WritesFile}
use Rattle.formats.specs.Sheet.{longest, Encodes, file, Sheet, sheet_check}
use Rattle.trees.proofs.Judging.{accepted_holds, must_accept}
use Rattle.formats.proofs.Sheets.{file_short, encodes_counted, sheet_counted, sheet_unique}

-- ---- the file of a transducer
module _ (stock s : List ℕ) where
  -- a file is accepted exactly if the stock is one and the file is the code of a transducer over it within the limits
  pub file_accepted : (n : ℕ) → ReadsFile stock s (Ok n) → Alphabets stock × ((M : Transducer ℕ) × Sheet (inputs stock) (outputs stock) s n M)
  unfolding Holds
  file_accepted n J = let w = accepted_holds J in (w.0.0, w.1)

  pub sheet_holds : Alphabets stock → (n : ℕ) (M : Transducer ℕ) → Sheet (inputs stock) (outputs stock) s n M → Holds (alphabet_check stock (sheet_check stock s done))
  unfolding Holds
  sheet_holds A n M S =
      (A, (sheet_counted S, ((n, (M, S)), tt)))

  -- and N, the counts and the marks are those of the transducer
  module _ (A : Alphabets stock) (n : ℕ) (M : Transducer ℕ) (S : Sheet (inputs stock) (outputs stock) s n M) where
    pub sheet_accepted : (r : Result ℕ Refusal) → ReadsFile stock s r → r ≡ Ok n
    sheet_accepted r J = go r (must_accept (sheet_holds A n M S) J)
      where
        go : (r : Result ℕ Refusal) → (k : ℕ) × ((outcome_of r ≡ accepted k) × ((N : Transducer ℕ) × Sheet (inputs stock) (outputs stock) s k N)) → r ≡ Ok n
        go (Ok m) (k, (e, (N, T))) = let x : m ≡ k = cc in ap Ok (x ∙ (sheet_unique (inputs stock) (outputs stock) s k n N M T S).0)
        go (Err x) (k, (e, w)) = conflict (cc)

    pub sheet_counts : (part : List ℕ) → HandsCounts stock s part → part ≡ S.counts
    sheet_counts part (inl (h, (k, (N, (T, e))))) = e ∙ (sheet_unique (inputs stock) (outputs stock) s k n N M T S).1
    sheet_counts part (inr (h, e)) = absurd (h (sheet_holds A n M S))

    pub sheet_marks : (part : List ℕ) → HandsMarks stock s part → part ≡ S.bytes
    sheet_marks part (inl (h, (k, (N, (T, e))))) = e ∙ (sheet_unique (inputs stock) (outputs stock) s k n N M T S).2
    sheet_marks part (inr (h, e)) = absurd (h (sheet_holds A n M S))

-- ---- reader and writer undo each other
-- what was written is the file
pub written_take : (w before after : List ℕ) (k : ℕ) → k ≡ length w → length w ≤ length before → after ≡ sets before 0 w → take k after ≡ w
written_take w before after k e h f = ap (take k) (f ∙ sets-eq w before 0 (omega arith)) ∙ take_at w _ k (sym e)

-- Read, then write: N, counts and marks that were read from a file, written into any area that is long enough, give the file.
pub read_write : (stock s : List ℕ) (n : ℕ) (counts bytes before after : List ℕ) (w : Result ℕ Refusal)
    → ReadsFile stock s (Ok n) → HandsCounts stock s counts → HandsMarks stock s bytes → longest ≤ length before → WritesFile stock n counts bytes before after w
    → (w ≡ Ok (length s)) × (after ≡ sets before 0 s)
unfolding Holds
read_write stock s n counts bytes before after w R C B h W =
    let (A, (M, S)) = file_accepted stock s n R in
    let c : S.counts ≡ counts = sym (sheet_counts stock s A n M S counts C) in
    let b : S.bytes ≡ bytes = sym (sheet_marks stock s A n M S bytes B) in
    let E : Encodes (inputs stock) (outputs stock) n counts bytes M = rw (← c, ← b) S.encodes in
    let f : file n counts bytes ≡ s = rw (← c, ← b) S.coded in
    go f w (must_accept (h, (A, (encodes_counted (inputs stock) (outputs stock) n counts bytes M E, ((M, E), tt)))) W)
  where
    go : file n counts bytes ≡ s → (w : Result ℕ Refusal) → (k : ℕ) × ((outcome_of w ≡ accepted k) × ((k ≡ length (file n counts bytes)) × (after ≡ sets before 0 (file n counts bytes)))) → (w ≡ Ok (length s)) × (after ≡ sets before 0 s)
    go f (Ok m) (k, (e, (z, a))) = let x : m ≡ k = cc in (ap Ok (x ∙ z ∙ ap length f), a ∙ ap (sets before 0) f)
    go f (Err x) (k, (e, u)) = conflict (cc)

-- Write, then read: what was written is accepted, and gives N, the counts and the marks back.
pub write_read : (stock : List ℕ) (n : ℕ) (counts bytes before after : List ℕ) (k : ℕ)
    → WritesFile stock n counts bytes before after (Ok k)
    → ((r : Result ℕ Refusal) → ReadsFile stock (take k after) r → r ≡ Ok n)
    × ((part : List ℕ) → HandsCounts stock (take k after) part → part ≡ counts)
    × ((part : List ℕ) → HandsMarks stock (take k after) part → part ≡ bytes)
unfolding Holds
write_read stock n counts bytes before after k W =
    let ((h, (A, (C, ((M, E), u)))), (z, a)) = accepted_holds W in
    let f : take k after ≡ file n counts bytes = written_take (file n counts bytes) before after k z (omega (arith, file_short (inputs stock) n counts bytes A.ins.few C)) a in
    let S : Sheet (inputs stock) (outputs stock) (take k after) n M = record { counts = counts; bytes = bytes; coded = sym f; encodes = E } in
    (sheet_accepted stock (take k after) A n M S, sheet_counts stock (take k after) A n M S, sheet_marks stock (take k after) A n M S)
