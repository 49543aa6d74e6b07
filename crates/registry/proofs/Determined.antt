-- The contracts of the registry's entry points determine the answer and all that is left: the head, every record and every byte of the area.
-- Assumes nothing.
use Rattle.std.specs.Prelude.{Result}
use Rattle.trees.specs.declared.refusal.Refusal.{Refusal}
use Rattle.records.specs.declared.book.Foretold.{Foretold}
use Rattle.trees.specs.Refusal.{outcome_of, Checks, done, check, Judged}
use Prim.Native.Nat.{ℕ, ◌≤◌}
use mathlib.Core.List.{List}
use mathlib.Core.Logic.{inl, inr}
use mathlib.Core.Path.{◌≡◌, refl, sym, ap, ap₂, ◌∙◌}
use lib.ListN.{length, set}
use lib.Seq.{sets}
use Rattle.trees.specs.Alphabets.{alphabet_check}
use Rattle.formats.specs.Sheet.{longest}
use Rattle.trees.proofs.Judging.{one_answer}
use Rattle.records.specs.Answers.{Kept, Makes, CleanFile, Gives, entry_check, Enters, Questions, Would, Commits, HandsBody}
use Rattle.records.specs.Book.{body_record, counted_record, record_at, body}
use Rattle.records.specs.declared.book.Head.{Head}
use Rattle.records.specs.declared.book.Record.{Record}
use Rattle.records.proofs.Entering.{clean_unique, lowest_unique, gets_unique}

-- two heads, records and areas are the same
abbrev pub Same : Head → List Record → List ℕ → Head → List Record → List ℕ → Type 0
Same h rs area h' rs' area' = (h ≡ h') × (rs ≡ rs') × (area ≡ area')

-- two calls on the same head, records and area, and what each left
module _ {h : Head} {rs : List Record} {area : List ℕ} {h₁ : Head} {rs₁ : List Record} {area₁ : List ℕ} {h₂ : Head} {rs₂ : List Record} {area₂ : List ℕ} where
  gives_one : {x : List ℕ} {n m : ℕ} → Gives h rs area x n h₁ rs₁ area₁ → Gives h rs area x m h₂ rs₂ area₂ → Same h₁ rs₁ area₁ h₂ rs₂ area₂ × (n ≡ m)
  gives_one (inl K) (inl L) = let z = lowest_unique K.lowest L.lowest in ((K.head ∙ sym L.head, K.records ∙ ap (λ i. set rs i (counted_record (record_at rs i))) z ∙ sym L.records, K.bodies ∙ sym L.bodies), z)
  gives_one {n} (inl K) (inr A) = absurd (A.new.none n K.lowest.low K.lowest.high K.lowest.there)
  gives_one {m} (inr A) (inl K) = absurd (A.new.none m K.lowest.low K.lowest.high K.lowest.there)
  gives_one {x} (inr A) (inr B) = let z = A.next ∙ sym B.next in ((A.head ∙ sym B.head, A.records ∙ ap (λ i. set rs i (body_record h.used (length x))) z ∙ sym B.records, A.bodies ∙ sym B.bodies), z)

  -- an entry, and whatever is asked behind its checks
  module _ {s : List ℕ} (rest : Checks) (r r' : Result ℕ Refusal) where
    given_one : Judged (Kept h rs area h₁ rs₁ area₁) (λ n. (x : List ℕ) × (CleanFile (body rs area 0) s x × Gives h rs area x n h₁ rs₁ area₁)) (entry_check s h rs area rest) (outcome_of r)
        → Judged (Kept h rs area h₂ rs₂ area₂) (λ n. (x : List ℕ) × (CleanFile (body rs area 0) s x × Gives h rs area x n h₂ rs₂ area₂)) (entry_check s h rs area rest) (outcome_of r') → Same h₁ rs₁ area₁ h₂ rs₂ area₂ × (outcome_of r ≡ outcome_of r')
    given_one J J' =
        one_answer {Same = Same h₁ rs₁ area₁ h₂ rs₂ area₂} (λ u v. (u.0 ∙ sym v.0, u.1 ∙ sym v.1, u.2 ∙ sym v.2))
        (entry_check s h rs area rest)
        (outcome_of r) (outcome_of r')
        (λ _ n m g g'. gives_one g.1.1 (rw (clean_unique g'.1.0 g.1.0) at g'.1.1))
        J.verdict J'.verdict

  pub enters_one : {s : List ℕ} (r r' : Result ℕ Refusal) → Enters s h rs area h₁ rs₁ area₁ r → Enters s h rs area h₂ rs₂ area₂ r' → Same h₁ rs₁ area₁ h₂ rs₂ area₂ × (outcome_of r ≡ outcome_of r')
  enters_one = given_one done

  pub commits_one : {s : List ℕ} {m : ℕ} (r r' : Result ℕ Refusal) → Commits s m h rs area h₁ rs₁ area₁ r → Commits s m h rs area h₂ rs₂ area₂ r' → Same h₁ rs₁ area₁ h₂ rs₂ area₂ × (outcome_of r ≡ outcome_of r')
  commits_one {s} {m} = given_one (check 13 (Would s h rs area m) done)

  pub makes_one : {stock : List ℕ} (r r' : Result (Unit {0}) Refusal) → Makes stock h rs area h₁ rs₁ area₁ r → Makes stock h rs area h₂ rs₂ area₂ r' → Same h₁ rs₁ area₁ h₂ rs₂ area₂ × (outcome_of r ≡ outcome_of r')
  makes_one {stock} r r' J J' =
      one_answer {Same = Same h₁ rs₁ area₁ h₂ rs₂ area₂} (λ u v. (u.0 ∙ sym v.0, u.1 ∙ sym v.1, u.2 ∙ sym v.2))
      (check 9 (33 ≤ length rs) (alphabet_check stock (check 8 (length stock ≤ length area) done)))
      (outcome_of r) (outcome_of r')
      (λ _ _ _ g g'. ((g.head ∙ sym g'.head, g.records ∙ sym g'.records, g.bodies ∙ sym g'.bodies), refl))
      J.verdict J'.verdict

-- what a question answers, of two numbers
abbrev foretold_as : ℕ → ℕ → Foretold
foretold_as number size = record { number = number; size = size }

pub questions_one : {s : List ℕ} {h : Head} {rs : List Record} {area before after after' : List ℕ} (r r' : Result Foretold Refusal) → Questions s h rs area before after r → Questions s h rs area before after' r' → (after ≡ after') × (outcome_of r ≡ outcome_of r')
questions_one {s} {h} {rs} {area} {before} {after} {after'} r r' J J' =
    one_answer {Same = after ≡ after'} (λ u v. u ∙ sym v)
    (check 1 (longest ≤ length before) (entry_check s h rs area done))
    (outcome_of r) (outcome_of r')
    (λ _ (v v' : Foretold) F F'.
    let z = clean_unique F.file F'.file in
    (F.wrote ∙ ap (sets before 0) z ∙ sym F'.wrote, ap₂ (λ (n k : ℕ). foretold_as n k) (gets_unique F.gets (rw (← z) at F'.gets)) (F.long ∙ ap length z ∙ sym F'.long)))
    J.verdict J'.verdict

pub hands_one : {h : Head} {rs : List Record} {area part part' : List ℕ} (n : ℕ) → HandsBody h rs area n part → HandsBody h rs area n part' → part ≡ part'
hands_one n (inl (p, e)) (inl (q, d)) = e ∙ sym d
hands_one n (inl (p, e)) (inr (f, d)) = absurd (f p)
hands_one n (inr (f, e)) (inl (q, d)) = absurd (f q)
hands_one n (inr (f, e)) (inr (g, d)) = e ∙ sym d
