-- Demand 1 is met: the answer under a list of checks is that of the first that does not hold.
-- Assumes nothing.
use Prim.Native.Nat.{ℕ}
use mathlib.Core.List.{List, []}
use mathlib.Core.Logic.{◌⊎◌, inl, inr}
use mathlib.Core.Path.{◌≡◌, refl, sym, ◌∙◌}
use Rattle.trees.specs.Refusal.{Outcome, accepted, refused, Checks, done, check, Holds, IsJudged, Judged}
use Rattle.demands.specs.First.{FirstFailing, Answered, Demand1}

answers : {A : Type 0} (Left : Type 0) (Good : A → Type 0) (checks : Checks) (r : Outcome A) → IsJudged Left Good checks r → Answered checks Left r
unfolding IsJudged Holds FirstFailing
answers Left Good done (accepted a) j = inl (a, (refl, tt))
answers Left Good done (refused k) j = absurd j
answers Left Good (check k P rest) r (inl (f, e, kept)) = inr (k, (e, inl (f, refl), kept))
answers Left Good (check k P rest) r (inr (p, j)) = go (answers Left Good rest r j)
  where
    go : Answered rest Left r → Answered (check k P rest) Left r
    go (inl (a, (e, h))) = inl (a, (e, (p, h)))
    go (inr (m, (e, f, kept))) = inr (m, (e, inr (p, f), kept))

answered : {A Left : Type 0} {Good : A → Type 0} {checks : Checks} {r : Outcome A} → Judged Left Good checks r → Answered checks Left r
answered {Left} {Good} {checks} {r} J = answers Left Good checks r J.verdict

-- ---- the first check that does not hold
not_all : (checks : Checks) (k : ℕ) → FirstFailing checks k → Holds checks → ⊥
unfolding FirstFailing Holds
not_all done k f h = f
not_all (check j P rest) k (inl (n, e)) h = n h.0
not_all (check j P rest) k (inr (p, f)) h = not_all rest k f h.1

one_number : (checks : Checks) (j k : ℕ) → FirstFailing checks j → FirstFailing checks k → j ≡ k
unfolding FirstFailing
one_number done j k f g = absurd f
one_number (check m P rest) j k (inl (n, e)) (inl (n', e')) = e ∙ sym e'
one_number (check m P rest) j k (inl (n, e)) (inr (p, g)) = absurd (n p)
one_number (check m P rest) j k (inr (p, f)) (inl (n, e)) = absurd (n p)
one_number (check m P rest) j k (inr (p, f)) (inr (p', g)) = one_number rest j k f g

-- a part that is handed out where H holds
none_handed : {H G : Type 0} {part : List ℕ} → (H × G) ⊎ ((H → ⊥) × (part ≡ [])) → (H → ⊥) → part ≡ []
none_handed (inl (h, g)) f = absurd (f h)
none_handed (inr (h, e)) f = e

pub demand_1 : Demand1
unfolding FirstFailing
demand_1 = record {
  first_here = λ j P rest n. inl (n, refl);
  first_behind = λ j k P rest p f. inr (p, f);
  first_fails = not_all;
  first_one = one_number;
  alphabets = λ stock r J. answered J;
  tree = λ stock s r J. answered J;
  file = λ stock s r J. answered J;
  counts = λ stock s part. none_handed;
  marks = λ stock s part. none_handed;
  written = λ stock counts bytes before after n r J. answered J;
  linear = λ stock s r J. answered J;
  translation = λ stock sheet design before after r J. answered J;
  symbol = λ stock sheet design address r J. answered J;
  earliest = λ stock s before after r J. answered J;
  clean = λ stock s before after r J. answered J;
  joining = λ stock stock' s s' before after r J. answered J;
  comparison = λ stock s s' tree tree' address address' r J. answered J;
  shorter = λ stock s s' part. none_handed;
  report = λ stock s s' before after r J. answered J;
  codes = λ before after r J. answered J;
  xml_written = λ stock s before after r J. answered J;
  xml_read = λ stock s before after r J. answered J;
  making = λ stock area area' h h' rs rs' r J. answered J;
  entry = λ s area area' h h' rs rs' r J. answered J;
  question = λ s area before after h rs r J. answered J;
  commit = λ s area area' m h h' rs rs' r J. answered J;
  body_of = λ area part h rs n H f. none_handed H (λ w. f w.0);
}
