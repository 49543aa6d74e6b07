-- Request F-3 is met: the laws of `registry` over lists of entries, and what the promises say of one call.
-- Assumes nothing.
use Rattle.std.specs.Prelude.{Err, Ok, Result}
use Rattle.trees.specs.declared.refusal.Refusal.{Refusal}
use Rattle.trees.specs.Refusal.{outcome_of, accepted, refused, done, check, Holds}
use Prim.Native.Nat.{ℕ, ◌+◌}
use native.Mathlib.Omega.{arith}
use mathlib.Core.List.{List, []}
use mathlib.Core.Logic.{inl, inr, ⊎_elim, ◌≢◌}
use mathlib.Core.Path.{◌≡◌, refl, ap}
use Rattle.theory.specs.Registry.{begun, entered}
use Rattle.theory.proofs.Terms.{conflict}
use Rattle.formats.specs.Sheet.{sheet_check}
use Rattle.trees.proofs.Judging.{accepted_holds, must_refuse}
use Rattle.earliest.specs.Answers.{form_check}
use Rattle.records.specs.Answers.{Makes, CleanFile, HasPlace, Enters, HandsBody}
use Rattle.records.specs.Book.{record_at, body, Chained}
use Rattle.records.specs.declared.book.Head.{Head}
use Rattle.records.specs.declared.book.Record.{Record}
use Rattle.registry.specs.Calls.{Book, MadeWith}
use Rattle.registry.proofs.Keeping.{gives_counts}
use Rattle.registry.proofs.Laws.{registry_laws}
use Rattle.demands.specs.Counts.{Miscounted, Request3}

-- a book whose counts are wrong is no registry
no_registry : {h : Head} {rs : List Record} {area : List ℕ} → Miscounted h rs → Chained h rs area → ⊥
no_registry (inl f) C = f C.counts.sum
no_registry (inr (inl f)) C = f C.counts.stock
no_registry (inr (inr (i, (g, l, f)))) C = f (ap (λ w. w.count) (C.lies.unused.none i g l))

-- ---- lists of calls are made of calls
pub made_with : {stock : List ℕ} (b b' : Book) (r : Result (Unit {0}) Refusal) → Makes stock b.head b.records b.area b'.head b'.records b'.area r → outcome_of r ≡ accepted tt → MadeWith stock b'
made_with b b' (Ok tt) J e = record { before = b; call = J }
made_with b b' (Err q) J e = conflict (cc)

-- ---- one call
module _ {s area area' : List ℕ} {h h' : Head} {rs rs' : List Record} where
  raised : {n : ℕ} (r : Result ℕ Refusal) → Enters s h rs area h' rs' area' r → outcome_of r ≡ accepted n → ((record_at rs' n).count ≡ (record_at rs n).count + 1) × ((m : ℕ) → m ≢ n → (record_at rs' m).count ≡ (record_at rs m).count)
  unfolding Holds
  raised {n} (Ok k) J e =
      let z : k ≡ n = cc in
      let w = accepted_holds J in
      let O = gives_counts w.0.0 w.1.1.1 in
      rw (← z) (omega (arith, O.here), λ m o. ap (λ v. v.count) (O.others m o))
  raised (Err q) J e = conflict (cc)

  nine : (r : Result ℕ Refusal) → Enters s h rs area h' rs' area' r → Miscounted h rs → outcome_of r ≡ refused 9
  unfolding Holds
  nine r J m = (must_refuse done (sheet_check (body rs area 0) s (form_check (body rs area 0) s (check 8 ((x : List ℕ) × (CleanFile (body rs area 0) s x × HasPlace h rs area x)) done))) tt (no_registry m) J).0

handed : {area part : List ℕ} {h : Head} {rs : List Record} (n : ℕ) → HandsBody h rs area n part → Miscounted h rs → part ≡ []
handed n B m = ⊎_elim (λ w. absurd (no_registry m w.0.0)) (λ w. w.1) B

-- ---- request F-3
pub counts_of_entries : Request3
counts_of_entries = record {
  each = λ E. (registry_laws E).counts;
  begins = λ b b' r J e. begun (made_with b b' r J e);
  goes_on = λ b b' r E J. entered E (record { answer = r; call = J; told = refl });
  none = λ E. (registry_laws E).none;
  raises = raised;
  sum = λ E. (registry_laws E).sum;
  refuses = nine;
  hands_none = handed;
  exact = λ E. (registry_laws E).exact;
}
