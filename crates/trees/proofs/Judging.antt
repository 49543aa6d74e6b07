-- How an answer is judged: from a check that fails or holds to the answer, and back.
-- Assumes nothing.
use Prim.Native.Nat.{ℕ}
use mathlib.Core.List.{[], ◌∷◌}
use mathlib.Core.Logic.{inl, inr}
use mathlib.Core.Path.{◌≡◌, refl, sym, ap, ◌∙◌}
use Rattle.theory.proofs.Terms.{conflict}
use lib.ListN.{get_or}
use Rattle.std.specs.Prelude.{Result, Ok, Err}
use Rattle.trees.specs.Refusal.{refusal_number, Outcome, accepted, refused, outcome_of, Checks, done, check, Holds, IsJudged, Judged}
use Rattle.trees.specs.declared.refusal.Refusal.{Refusal}
use Rattle.trees.specs.declared.refusal.Refusal.TheVariants.{ShortArea, BadAlphabets, BadTree, BadContents, BadBody, LongOutput, OverLimits, FullRegistry, BadRegistry, DeepOutput, BadOutput, ShortTarget, OtherNumber, OtherAlphabet, JoinOverLimits}

module _ {A : Type 0} {Kept : Type 0} {Good : A → Type 0} where
  -- the first check does not hold
  pub refuse : {k : ℕ} {P : Type 0} {rest : Checks} → (P → ⊥) → Kept → Judged Kept Good (check k P rest) (refused k)
  unfolding IsJudged
  refuse f kept = record { verdict = inl (f, refl, kept) }

  -- it holds, and the others are asked
  pub pass : {k : ℕ} {P : Type 0} {rest : Checks} {r : Outcome A} → P → Judged Kept Good rest r → Judged Kept Good (check k P rest) r
  unfolding IsJudged
  pass p j = record { verdict = inr (p, j.verdict) }

  -- all hold
  pub accept : {a : A} → Good a → Judged Kept Good done (accepted a)
  unfolding IsJudged
  accept g = record { verdict = g }

module _ {A : Type 0} (Kept : Type 0) (Good : A → Type 0) where
  holds : (checks : Checks) (r : Outcome A) (a : A) → r ≡ accepted a → IsJudged Kept Good checks r → Holds checks × Good a
  unfolding IsJudged Holds
  holds done (accepted b) a e j = (tt, let q : b ≡ a = cc in rw (← q) j)
  holds done (refused k) a e j = absurd j
  holds (check k P rest) r a e (inl (f, q, kept)) = conflict (cc)
  holds (check k P rest) r a e (inr (p, j)) = let w = holds rest r a e j in ((p, w.0), w.1)

  fails : (checks : Checks) (r : Outcome A) (k : ℕ) → r ≡ refused k → IsJudged Kept Good checks r → (Holds checks → ⊥) × Kept
  unfolding IsJudged Holds
  fails done (accepted b) k e j = conflict (cc)
  fails done (refused m) k e j = absurd j
  fails (check m P rest) r k e (inl (f, q, kept)) = ((λ h. f h.0), kept)
  fails (check m P rest) r k e (inr (p, j)) = let w = fails rest r k e j in ((λ h. w.0 h.1), w.1)

module _ {A : Type 0} {Kept : Type 0} {Good : A → Type 0} {checks : Checks} where
  -- what an acceptance says, and what a refusal does
  pub accepted_holds : {a : A} → Judged Kept Good checks (accepted a) → Holds checks × Good a
  accepted_holds {a} j = holds Kept Good checks (accepted a) a refl j.verdict

  pub refused_fails : {k : ℕ} → Judged {A = A} Kept Good checks (refused k) → (Holds checks → ⊥) × Kept
  refused_fails {k} j = fails Kept Good checks (refused k) k refl j.verdict

-- where all checks hold, the answer is an acceptance
all_hold : {A : Type 0} (Kept : Type 0) (Good : A → Type 0) (checks : Checks) (r : Outcome A) → Holds checks → IsJudged Kept Good checks r → (a : A) × ((r ≡ accepted a) × Good a)
unfolding IsJudged Holds
all_hold Kept Good done (accepted a) h j = (a, (refl, j))
all_hold Kept Good done (refused k) h j = absurd j
all_hold Kept Good (check k P rest) r h (inl (f, q, kept)) = absurd (f h.0)
all_hold Kept Good (check k P rest) r h (inr (p, j)) = all_hold Kept Good rest r h.1 j

pub must_accept : {A Kept : Type 0} {Good : A → Type 0} {checks : Checks} {r : Outcome A} → Holds checks → Judged Kept Good checks r → (a : A) × ((r ≡ accepted a) × Good a)
must_accept {Kept} {Good} {checks} {r} h j = all_hold Kept Good checks r h j.verdict

-- in terms of the answer: where all checks hold, it is Ok, and what it holds is good
pub must_answer : {A Kept : Type 0} {Good : A → Type 0} {checks : Checks} {r : Result A Refusal} → Holds checks → Judged Kept Good checks (outcome_of r) → (a : A) × ((r ≡ Ok a) × Good a)
must_answer {A} {Kept} {Good} {checks} {r} h J = go r (must_accept h J)
  where
    go : (r : Result A Refusal) → (a : A) × ((outcome_of r ≡ accepted a) × Good a) → (a : A) × ((r ≡ Ok a) × Good a)
    go (Ok b) (a, (e, g)) = (a, (ap (λ x. Ok x) (same_value e), g))
      where
        same_value : {b a : A} → ◌≡◌ {A = Outcome A} (accepted b) (accepted a) → b ≡ a
        same_value e = cc
    go (Err x) (a, (e, g)) = conflict (cc)

-- checks, and others behind them
abbrev pub behind : Checks → Checks → Checks
behind done rest = rest
behind (check k P checks) rest = check k P (behind checks rest)

-- a refusal is one whatever the values would be, whatever it leaves as it was, and whatever would have been asked behind
module _ {A B : Type 0} (Kept Kept' : Type 0) (Good : A → Type 0) (Good' : B → Type 0) (kept : Kept') (k : ℕ) (rest : Checks) where
  same_verdict : (checks : Checks) → IsJudged Kept Good checks (refused k) → IsJudged Kept' Good' (behind checks rest) (refused k)
  unfolding IsJudged
  same_verdict done j = absurd j
  same_verdict (check m P checks) (inl (f, q, u)) = inl (f, ap (λ m. refused m) (same_number q), kept)
    where
      same_number : {m : ℕ} → ◌≡◌ {A = Outcome A} (refused k) (refused m) → k ≡ m
      same_number e = cc
  same_verdict (check m P checks) (inr (p, j)) = inr (p, same_verdict checks j)

pub refused_early : {A B Kept Kept' : Type 0} {Good : A → Type 0} {Good' : B → Type 0} (checks rest : Checks) {k : ℕ} → Kept' → Judged {A = A} Kept Good checks (refused k) → Judged {A = B} Kept' Good' (behind checks rest) (refused k)
refused_early {Kept} {Kept'} {Good} {Good'} checks rest {k} kept j = record { verdict = same_verdict Kept Kept' Good Good' kept k rest checks j.verdict }

-- where the checks before it hold and one does not, the answer is its refusal
pub must_refuse : {A Kept : Type 0} {Good : A → Type 0} {k : ℕ} {P : Type 0} {r : Outcome A} (checks rest : Checks) → Holds checks → (P → ⊥) → Judged Kept Good (behind checks (check k P rest)) r → (r ≡ refused k) × Kept
unfolding IsJudged Holds
must_refuse {Kept} {Good} {k} {P} {r} checks rest h f J = go checks h J.verdict
  where
    go : (checks : Checks) → Holds checks → IsJudged Kept Good (behind checks (check k P rest)) r → (r ≡ refused k) × Kept
    go done h (inl (g, q, kept)) = (q, kept)
    go done h (inr (p, j)) = absurd (f p)
    go (check m Q checks) h (inl (g, q, kept)) = absurd (g h.0)
    go (check m Q checks) h (inr (p, j)) = go checks h.1 j

-- a refusal is told by its number
refusal_of : ℕ → Refusal
refusal_of k = get_or (ShortArea ∷ ShortArea ∷ BadAlphabets ∷ BadTree ∷ BadContents ∷ BadBody ∷ LongOutput ∷ OverLimits ∷ FullRegistry ∷ BadRegistry ∷ DeepOutput ∷ BadOutput ∷ ShortTarget ∷ OtherNumber ∷ ShortArea ∷ ShortArea ∷ OtherAlphabet ∷ JoinOverLimits ∷ []) k ShortArea

of_number : (x : Refusal) → refusal_of (refusal_number x) ≡ x
unfolding refusal_of
of_number ShortArea = refl
of_number BadAlphabets = refl
of_number BadTree = refl
of_number BadContents = refl
of_number BadBody = refl
of_number LongOutput = refl
of_number OverLimits = refl
of_number FullRegistry = refl
of_number BadRegistry = refl
of_number DeepOutput = refl
of_number BadOutput = refl
of_number ShortTarget = refl
of_number OtherNumber = refl
of_number OtherAlphabet = refl
of_number JoinOverLimits = refl

pub number_unique : (x y : Refusal) → refusal_number x ≡ refusal_number y → x ≡ y
number_unique x y e = sym (of_number x) ∙ ap refusal_of e ∙ of_number y

-- what is Good' wherever it is Good: the answer under the same checks
module _ {A : Type 0} (Kept : Type 0) (Good Good' : A → Type 0) (better : (a : A) → Good a → Good' a) where
  same_checks : (checks : Checks) (r : Outcome A) → IsJudged Kept Good checks r → IsJudged Kept Good' checks r
  unfolding IsJudged
  same_checks done (accepted a) j = better a j
  same_checks done (refused k) j = absurd j
  same_checks (check k P rest) r (inl w) = inl w
  same_checks (check k P rest) r (inr (p, j)) = inr (p, same_checks rest r j)

pub better_answer : {A Kept : Type 0} {Good Good' : A → Type 0} {checks : Checks} {r : Outcome A} → ((a : A) → Good a → Good' a) → Judged Kept Good checks r → Judged Kept Good' checks r
better_answer {Kept} {Good} {Good'} {checks} {r} better j = record { verdict = same_checks Kept Good Good' better checks r j.verdict }

-- two answers under the same checks are one, if values that are good are where all checks hold
module _ {A Kept Kept' Same : Type 0} {Good Good' : A → Type 0} (kept : Kept → Kept' → Same) where
  pub one_answer : (checks : Checks) (r r' : Outcome A) → (Holds checks → (a a' : A) → Good a → Good' a' → Same × (a ≡ a')) → IsJudged Kept Good checks r → IsJudged Kept' Good' checks r' → Same × (r ≡ r')
  unfolding IsJudged Holds
  one_answer done (accepted a) (accepted a') good j j' = let w = good tt a a' j j' in (w.0, ap (λ x. accepted x) w.1)
  one_answer done (accepted a) (refused k) good j j' = absurd j'
  one_answer done (refused k) r' good j j' = absurd j
  one_answer (check k P rest) r r' good (inl (f, q, u)) (inl (f', q', u')) = (kept u u', q ∙ sym q')
  one_answer (check k P rest) r r' good (inl (f, q, u)) (inr (p, j')) = absurd (f p)
  one_answer (check k P rest) r r' good (inr (p, j)) (inl (f, q, u)) = absurd (f p)
  one_answer (check k P rest) r r' good (inr (p, j)) (inr (p', j')) = one_answer rest r r' (λ h. good (p, h)) j j'
