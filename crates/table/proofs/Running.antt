-- Calls of which the entry of the same file is known: there are such calls, and every one is answered as that entry is.
-- Assumes nothing.
use Rattle.std.specs.Prelude.{Err, Ok, Result}
use Rattle.records.specs.declared.book.Foretold.{Foretold}
use Rattle.trees.specs.Refusal.{outcome_of, refusal_number, Outcome, accepted, refused}
use Prim.Native.Nat.{ℕ, ◌≤◌}
use native.Mathlib.Omega.{arith}
use mathlib.Core.List.{List, ◌∷◌}
use mathlib.Core.Logic.{◌≢◌}
use mathlib.Core.Path.{◌≡◌, refl, sym, ap, subst, ◌∙◌}
use lib.ListN.{length, replicate, length-replicate}
use Rattle.theory.proofs.Terms.{conflict}
use Rattle.trees.specs.declared.refusal.Refusal.{Refusal}
use Rattle.trees.specs.declared.refusal.Refusal.TheVariants.{OtherNumber}
use Rattle.formats.specs.Sheet.{longest}
use Rattle.records.specs.Answers.{Enters, Questions, Commits}
use Rattle.registry.specs.Calls.{Book}
use Rattle.registry.specs.Questions.{Call, entry, commit, question}
use Rattle.registry.proofs.Determined.{Same, enters_one, commits_one, questions_one}
use Rattle.registry.proofs.Questions.{same_book, commit_enters, entry_commits, other_refused, entry_refuses, entry_answers, entry_unanswered}
use Rattle.table.specs.Table.{number_in, AllRun, next}

abbrev pub Entry : Book → List ℕ → Result ℕ Refusal → Book → Type 0
Entry b s r b' = Enters s b.head b.records b.area b'.head b'.records b'.area r

abbrev Commit : Book → List ℕ → ℕ → Result ℕ Refusal → Book → Type 0
Commit b s m r b' = Commits s m b.head b.records b.area b'.head b'.records b'.area r

-- an entry or a commit that is accepted with n
module _ (b b' : Book) (s : List ℕ) {n : ℕ} where
  as_number : (r : Result ℕ Refusal) → Entry b s r b' → outcome_of r ≡ accepted n → Entry b s (Ok n) b'
  as_number (Ok k) J e = let z : k ≡ n = cc in subst (λ i. Entry b s (Ok i) b') z J
  as_number (Err q) J e = conflict (cc)

  as_entry : {m : ℕ} (r : Result ℕ Refusal) → Commit b s m r b' → outcome_of r ≡ accepted n → Entry b s (Ok n) b'
  as_entry (Ok k) C e = as_number (Ok k) (commit_enters C).0 e
  as_entry (Err q) C e = conflict (cc)

-- an editor's area that is long enough
abbrev some_area : List ℕ
some_area = replicate longest 0

area_long : longest ≤ length some_area
area_long = omega (arith, length-replicate {A = ℕ} longest 0)

-- what is left is the book that was lent
back : {End : Book → Type 0} {calls : List (Call × Outcome ℕ)} {b : Book} (b' : Book) → Same b'.head b'.records b'.area b.head b.records b.area → AllRun End calls b → AllRun End calls b'
back {End} {calls} b' w A = subst (λ c. AllRun End calls c) (sym (same_book w.0 w.1 w.2)) A

module _ {End : Book → Type 0} {calls : List (Call × Outcome ℕ)} {b : Book} {s : List ℕ} where
  -- a commit that is refused leaves it
  refused_commit : {m : ℕ} (q : Refusal) → Commit b s m (Err q) b → AllRun End calls b → AllRun End ((commit s m, refused (refusal_number q)) ∷ calls) b
  refused_commit {m} q C A = next {c = commit s m} (b, (Err q, (C, refl))) (λ a b' w. sym w.1.1 ∙ (commits_one w.0 (Err q) w.1.0 C).1) (λ a b' w. back b' (commits_one w.0 (Err q) w.1.0 C).0 A)

  -- and so does a question that can be answered so, with any area that is long enough
  looks : {o : Outcome ℕ} → ((before : List ℕ) → longest ≤ length before → (after : List ℕ) × ((r : Result Foretold Refusal) × (Questions s b.head b.records b.area before after r × (number_in (outcome_of r) ≡ o)))) → AllRun End calls b → AllRun End ((question s, o) ∷ calls) b
  looks Q A =
      let (after, (r, (P, e))) = Q some_area area_long in
      next {c = question s} (b, (record { before = some_area; after = after; answer = r; long = area_long; call = P; told = e }, refl))
      (λ a b' w. let L = w.0 in let (x, (r', (P', e'))) = Q L.before L.long in sym L.told ∙ ap number_in (questions_one L.answer r' L.call P').1 ∙ e')
      (λ a b' w. subst (λ c. AllRun End calls c) (sym w.1) A)

  -- ---- the entry gets the number n
  module _ {n : ℕ} (J : (b' : Book) × Entry b s (Ok n) b') where
    pub enters : ((b' : Book) → Entry b s (Ok n) b' → AllRun End calls b') → AllRun End ((entry s, accepted n) ∷ calls) b
    enters f =
        let e : (b' : Book) (r : Result ℕ Refusal) → Entry b s r b' → outcome_of r ≡ accepted n = λ b' r E. (enters_one r (Ok n) E J.1).1 in
        next {c = entry s} (J.0, (Ok n, (J.1, refl))) (λ a b' w. sym w.1.1 ∙ e b' w.0 w.1.0) (λ a b' w. f b' (as_number b b' s w.0 w.1.0 (e b' w.0 w.1.0)))

    pub commits : ((b' : Book) → Entry b s (Ok n) b' → AllRun End calls b') → AllRun End ((commit s n, accepted n) ∷ calls) b
    commits f =
        let e : (b' : Book) (r : Result ℕ Refusal) → Commit b s n r b' → outcome_of r ≡ accepted n = λ b' r C. (commits_one r (Ok n) C (entry_commits J.1)).1 in
        next {c = commit s n} (J.0, (Ok n, (entry_commits J.1, refl))) (λ a b' w. sym w.1.1 ∙ e b' w.0 w.1.0) (λ a b' w. f b' (as_entry b b' s w.0 w.1.0 (e b' w.0 w.1.0)))

    pub commits_other : {m : ℕ} → m ≢ n → AllRun End calls b → AllRun End ((commit s m, refused 13) ∷ calls) b
    commits_other o A = refused_commit OtherNumber (other_refused J.1 o) A

    pub asks : AllRun End calls b → AllRun End ((question s, accepted n) ∷ calls) b
    asks A = looks (λ before long. let w = entry_answers long J.1 in (w.1.0, (Ok (record { number = n; size = w.0 }), (w.1.1, refl)))) A

  -- ---- the entry is refused
  module _ (q : Refusal) (J : Entry b s (Err q) b) (A : AllRun End calls b) where
    pub enters_refused : AllRun End ((entry s, refused (refusal_number q)) ∷ calls) b
    enters_refused = next {c = entry s} (b, (Err q, (J, refl))) (λ a b' w. sym w.1.1 ∙ (enters_one w.0 (Err q) w.1.0 J).1) (λ a b' w. back b' (enters_one w.0 (Err q) w.1.0 J).0 A)

    pub commits_refused : {m : ℕ} → AllRun End ((commit s m, refused (refusal_number q)) ∷ calls) b
    commits_refused = refused_commit q (entry_refuses q J) A

    pub asks_refused : AllRun End ((question s, refused (refusal_number q)) ∷ calls) b
    asks_refused = looks (λ before long. (before, (Err q, (entry_unanswered long q J, refl)))) A
