-- T, T' and U in registries of 60 and of 55 bytes: the clean files of T and T' are T, that of U is another, which has room in the first alone.
-- Assumes nothing.
use Rattle.std.specs.Prelude.{Err, Ok}
use Prim.Native.Nat.{ℕ, zero, suc, ◌+◌, ◌≤◌, ◌<◌}
use native.Mathlib.Omega.{arith}
use mathlib.Core.Bool.{false}
use mathlib.Core.List.{List, [], ◌∷◌}
use mathlib.Core.Option.{Option, some}
use mathlib.Core.Path.{◌≡◌, refl, sym, ap, ◌∙◌}
use lib.Dec.{eqb}
use lib.ListN.{length, get_or}
use borrow.Author.Tests.{ne_eqb}
use Rattle.theory.specs.Registry.{begun, entered}
use Rattle.trees.specs.Refusal.{accepted, refused, Holds}
use Rattle.trees.specs.declared.refusal.Refusal.TheVariants.{FullRegistry}
use Rattle.formats.specs.Samples.{S, T, T', U, U-clean}
use Rattle.transducer.proofs.Samples.{S-alphabets, T-sheet}
use Rattle.earliest.specs.Answers.{EarliestFile}
use Rattle.canonical.proofs.Laws.{clean_accepted}
use Rattle.canonical.proofs.SampleTrimmed.{T'-trims, U-trims}
use Rattle.canonical.proofs.Samples.{T-cleans, T'-cleans, U-cleans}
use Rattle.records.specs.Answers.{Lowest, NotHeld, Room}
use Rattle.records.specs.Book.{answers_of, too_many, Chained}
use Rattle.registry.specs.Calls.{Book, MadeWith, EntersFile, acceptances, accepted_with, Entries}
use Rattle.registry.specs.Questions.{entry, commit, question}
use Rattle.registry.proofs.Keeping.{body_of, added_there, known_stays}
use Rattle.registry.proofs.Laws.{registry_laws}
use Rattle.registry.proofs.Standing.{made_head, stock_stays, CleansTo, cleans_to, still_chained, entered_known, entered_new, area_kept, makes, enters_known, enters_new, enters_full}
use Rattle.table.specs.Table.{AllRun, left, Leaves}
use Rattle.table.proofs.Running.{Entry, enters, commits, commits_other, asks, enters_refused, commits_refused, asks_refused}

-- ---- the clean files
T-trims : (k : ℕ) × ((counts : List ℕ) × ((bytes : List ℕ) × EarliestFile S T k counts bytes))
unfolding Holds
T-trims = rw T-sheet.coded at (clean_accepted T-cleans).1.1.1.0

T-to-T : CleansTo S T T
T-to-T = cleans_to T-cleans T-sheet.coded T-trims

T'-to-T : CleansTo S T' T
T'-to-T = cleans_to T'-cleans T-sheet.coded (_, (_, (_, T'-trims)))

U-to-U_clean : CleansTo S U U-clean
U-to-U_clean = cleans_to U-cleans refl (_, (_, (_, U-trims)))

-- ---- the counts of lists of entries
not_1 : (n : ℕ) → eqb (suc (suc n)) 1 ≡ false
not_1 n = ne_eqb (suc (suc n)) 1 (λ e. omega arith)

not_2 : (n : ℕ) → eqb (suc (suc (suc n))) 2 ≡ false
not_2 n = ne_eqb (suc (suc (suc n))) 2 (λ e. omega arith)

count_1 : (n : ℕ) → accepted_with n ((T, some 1) ∷ []) ≡ get_or (0 ∷ 1 ∷ []) n 0
unfolding accepted_with
count_1 zero = refl
count_1 (suc zero) = refl
count_1 (suc (suc n)) = rw (not_1 n)

count_2 : (n : ℕ) → accepted_with n ((T', some 1) ∷ (T, some 1) ∷ []) ≡ get_or (0 ∷ 2 ∷ []) n 0
unfolding accepted_with
count_2 zero = refl
count_2 (suc zero) = refl
count_2 (suc (suc n)) = rw (not_1 n)

count_1_1 : (n : ℕ) → accepted_with n ((U, some 2) ∷ (T, some 1) ∷ []) ≡ get_or (0 ∷ 1 ∷ 1 ∷ []) n 0
unfolding accepted_with
count_1_1 zero = refl
count_1_1 (suc zero) = refl
count_1_1 (suc (suc zero)) = refl
count_1_1 (suc (suc (suc n))) = rw (not_2 n, not_1 (suc n))

count_2_1 : (n : ℕ) → accepted_with n ((U, some 2) ∷ (T', some 1) ∷ (T, some 1) ∷ []) ≡ get_or (0 ∷ 2 ∷ 1 ∷ []) n 0
unfolding accepted_with
count_2_1 zero = refl
count_2_1 (suc zero) = refl
count_2_1 (suc (suc zero)) = refl
count_2_1 (suc (suc (suc n))) = rw (not_2 n, not_1 (suc n))

-- an accepted entry, as one of a list
file_in_lem : (b b' : Book) {s : List ℕ} {n : ℕ} → Entry b s (Ok n) b' → EntersFile b s (some n) b'
file_in_lem b b' {n = n} J = record { answer = Ok n; call = J; told = refl }

-- what a list of entries leaves
leaves : {log : List (List ℕ × Option ℕ)} {b : Book} {used answered : ℕ} (counts : List ℕ) → Entries S log b → b.head.used ≡ used → acceptances log ≡ answered → ((n : ℕ) → accepted_with n log ≡ get_or counts n 0) → Leaves used answered counts b
leaves counts E u a c = record { used_are = u; answered_are = (registry_laws E).answered ∙ a; counts_are = λ n g. (registry_laws E).counts n g ∙ c n }

-- ---- a registry with an area of k bytes that holds T and nothing else
record HoldsT (k : ℕ) (log : List (List ℕ × Option ℕ)) (b : Book) : Type 0 where
  entries : Entries S log b
  few : answers_of b.head < too_many
  held : b.head.held ≡ 1
  used : b.head.used ≡ 27
  there : body_of b 1 ≡ T
  room : length b.area ≡ k

module _ {k : ℕ} {log : List (List ℕ × Option ℕ)} {b : Book} (H : HoldsT k log b) where
  chained : Chained b.head b.records b.area
  chained = still_chained H.entries H.few

  -- T is held at 1
  lowest : Lowest b.head.held b.records b.area T 1
  lowest = record { low = omega arith; high = omega (arith, H.held); there = H.there; first = λ m l g. absurd (omega arith) }

  T'-in : (b' : Book) × Entry b T' (Ok 1) b'
  T'-in = enters_known chained (stock_stays H.entries) T'-to-T lowest

  -- the clean U is not,
  new : NotHeld b.head.held b.records b.area U-clean
  new = record { none = λ m l g e. let z : 1 ≡ m = omega (arith, H.held) in omega (arith, ap length (sym H.there ∙ ap (body_of b) z ∙ e)) }

  -- and has room or not
  room-U : 56 ≤ k → Room b.head b.area U-clean
  room-U h = record { few = omega (arith, H.held); fits = omega (arith, H.used, H.room) }

  U-in : 56 ≤ k → (b' : Book) × Entry b U (Ok 2) b'
  U-in h = enters_new chained (stock_stays H.entries) U-to-U_clean (omega (arith, H.held)) new (room-U h)

  U-used : {b' : Book} → 56 ≤ k → EntersFile b U (some 2) b' → b'.head.used ≡ 56
  U-used h E = let A = (entered_new chained (stock_stays H.entries) U-to-U_clean E new (room-U h)).1 in ap (λ w. w.used) A.head ∙ ap (λ i. i + 29) H.used

  U-out : k < 56 → Entry b U (Err FullRegistry) b
  U-out h = enters_full chained (stock_stays H.entries) U-to-U_clean new (λ R. omega (arith, R.fits, H.used, H.room))

-- it holds T after T' is entered
T'-held : {k : ℕ} {b b' : Book} → HoldsT k ((T, some 1) ∷ []) b → EntersFile b T' (some 1) b' → HoldsT k ((T', some 1) ∷ (T, some 1) ∷ []) b'
unfolding acceptances
T'-held {b = b} {b' = b'} H E =
    let K = (entered_known (chained H) (stock_stays H.entries) T'-to-T E (lowest H)).1 in
    let all : Entries S ((T', some 1) ∷ (T, some 1) ∷ []) b' = entered H.entries E in
    record {
      entries = all;
      few = omega (arith, (registry_laws all).answered);
      held = ap (λ w. w.held) K.head ∙ H.held;
      used = ap (λ w. w.used) K.head ∙ H.used;
      there = known_stays (chained H) K 1 ∙ H.there;
      room = area_kept E ∙ H.room;
    }

-- ---- a registry just made
module _ {k : ℕ} (wide : 27 ≤ k) {b : Book} (M : MadeWith S b) (room : length b.area ≡ k) where
  chained_made : Chained b.head b.records b.area
  chained_made = still_chained (begun M) (omega (arith, ap answers_of (made_head M)))

  new-T : NotHeld b.head.held b.records b.area T
  new-T = record { none = λ m l g. absurd (omega (arith, ap (λ w. w.held) (made_head M))) }

  room-T : Room b.head b.area T
  room-T = record { few = omega (arith, ap (λ w. w.held) (made_head M)); fits = omega (arith, ap (λ w. w.used) (made_head M)) }

  T-in : (b' : Book) × Entry b T (Ok 1) b'
  T-in = enters_new chained_made (stock_stays (begun M)) T-to-T (omega (arith, ap (λ w. w.held) (made_head M))) new-T room-T

  -- it holds T after T is entered
  T-held : {b' : Book} → EntersFile b T (some 1) b' → HoldsT k ((T, some 1) ∷ []) b'
  unfolding acceptances
  T-held {b'} E =
      let A = (entered_new chained_made (stock_stays (begun M)) T-to-T E new-T room-T).1 in
      let all : Entries S ((T, some 1) ∷ []) b' = entered (begun M) E in
      record {
        entries = all;
        few = omega (arith, (registry_laws all).answered);
        held = ap (λ w. w.held) A.head ∙ ap (λ w. w.held + 1) (made_head M);
        used = ap (λ w. w.used) A.head ∙ ap (λ w. w.used + 21) (made_head M);
        there = ap (λ w. body_of b' (w.held + 1)) (sym (made_head M)) ∙ added_there chained_made A;
        room = area_kept E ∙ room;
      }

  -- ---- the rows
  pub entries_with_room : 56 ≤ k → AllRun (Leaves 56 3 (0 ∷ 2 ∷ 1 ∷ [])) ((entry T, accepted 1) ∷ (entry T', accepted 1) ∷ (entry U, accepted 2) ∷ []) b
  unfolding acceptances
  entries_with_room h =
      enters T-in (λ b₁ J₁.
      let H₁ = T-held (file_in_lem b b₁ J₁) in
      enters (T'-in H₁) (λ b₂ J₂.
      let H₂ = T'-held H₁ (file_in_lem b₁ b₂ J₂) in
      enters (U-in H₂ h) (λ b₃ J₃. left (leaves (0 ∷ 2 ∷ 1 ∷ []) (entered H₂.entries (file_in_lem b₂ b₃ J₃)) (U-used H₂ h (file_in_lem b₂ b₃ J₃)) refl count_2_1))))

  pub entries_without_room : k < 56 → AllRun (Leaves 27 2 (0 ∷ 2 ∷ [])) ((entry T, accepted 1) ∷ (entry T', accepted 1) ∷ (entry U, refused 8) ∷ []) b
  unfolding acceptances
  entries_without_room h =
      enters T-in (λ b₁ J₁.
      let H₁ = T-held (file_in_lem b b₁ J₁) in
      enters (T'-in H₁) (λ b₂ J₂.
      let H₂ = T'-held H₁ (file_in_lem b₁ b₂ J₂) in
      enters_refused FullRegistry (U-out H₂ h) (left (leaves (0 ∷ 2 ∷ []) H₂.entries H₂.used refl count_2))))

  pub questions_with_room : 56 ≤ k → AllRun (Leaves 56 2 (0 ∷ 1 ∷ 1 ∷ [])) ((question T, accepted 1) ∷ (entry T, accepted 1) ∷ (question T', accepted 1) ∷ (question U, accepted 2) ∷ (commit U 1, refused 13) ∷ (commit U 2, accepted 2) ∷ []) b
  unfolding acceptances
  questions_with_room h =
      asks T-in (enters T-in (λ b₁ J₁.
      let H₁ = T-held (file_in_lem b b₁ J₁) in
      asks (T'-in H₁) (asks (U-in H₁ h) (commits_other (U-in H₁ h) (λ e. omega arith) (commits (U-in H₁ h) (λ b₂ J₂.
      left (leaves (0 ∷ 1 ∷ 1 ∷ []) (entered H₁.entries (file_in_lem b₁ b₂ J₂)) (U-used H₁ h (file_in_lem b₁ b₂ J₂)) refl count_1_1)))))))

  pub questions_without_room : k < 56 → AllRun (Leaves 27 1 (0 ∷ 1 ∷ [])) ((entry T, accepted 1) ∷ (question U, refused 8) ∷ (commit U 2, refused 8) ∷ (commit U 1, refused 8) ∷ []) b
  unfolding acceptances
  questions_without_room h =
      enters T-in (λ b₁ J₁.
      let H₁ = T-held (file_in_lem b b₁ J₁) in
      let N = U-out H₁ h in
      asks_refused FullRegistry N (commits_refused FullRegistry N (commits_refused FullRegistry N (left (leaves (0 ∷ 1 ∷ []) H₁.entries H₁.used refl count_1)))))

-- there is such a registry
pub just_made : (k : ℕ) → 27 ≤ k → (b : Book) × (MadeWith S b × (length b.area ≡ k))
just_made k wide = makes k S-alphabets (omega arith)
