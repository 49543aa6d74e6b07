-- The registry over lists of calls: an accepted making and any entries after it, refused ones included, each lent what the call before left.
-- Assumes nothing.
use Prim.Native.Nat.{ℕ, suc, ◌+◌, ◌-◌, ◌≤◌, ◌<◌}
use native.Mathlib.Decide.{ℕ_discrete}
use native.Mathlib.Omega.{arith}
use mathlib.Core.Bool.{true, false}
use mathlib.Core.List.Memᴰ
use mathlib.Core.List.{List, [], ◌∷◌, Memᴰ}
use mathlib.Core.Logic.{◌⊎◌, ◌↔◌, ⊎_elim}
use mathlib.Core.Option.{some, Option, none as nothing}
use mathlib.Core.Path.{◌≡◌, refl, sym, ap, subst, ◌∙◌}
use lib.Dec.{eqb}
use borrow.Author.Tests.{eq-eqb, ne_eqb}
use Rattle.theory.specs.Inner.Keeps.{Keeps, Entry, accepted, refused}
use Rattle.theory.specs.Registry.{History, begun, entered}
use Rattle.theory.proofs.Registry.{numbers_exact}
use Rattle.theory.proofs.Terms.{conflict}
use Rattle.canonical.specs.Answers.{SewAlike}
use Rattle.canonical.proofs.Laws.{clean_exact, sheets_alike}
use Rattle.records.specs.Answers.{CleanFile}
use Rattle.records.specs.Book.{answers_of, record_at, tally}
use Rattle.registry.specs.Calls.{Book, MadeWith, EntersFile, Entries, one_if, acceptances, accepted_with, Orderly, Stays}
use Rattle.registry.proofs.Keeping.{Accepted, answered_by, gives_counts, body_of, stays_refl, stays_trans, unchanged_stays, accepted_there, accepted_counted, tally_one, items, items_of, same_items, accepted_enters}
use Rattle.registry.proofs.Standing.{made_head, made_counts, entry_stays, stock_stays, still_chained}

-- Bodies stay: whatever list of entries follows on b₀, each body that was held is held at its number, and there are never fewer.
pub bodies_stay : {b₀ : Book} {log : List (List ℕ × Option ℕ)} {b : Book} → History (λ c. c ≡ b₀) EntersFile log b → Stays b₀ b
bodies_stay {b₀} (begun {s = c} e) = subst (λ d. Stays d c) e stays_refl
bodies_stay (entered h E) = stays_trans (bodies_stay h) (entry_stays E)

-- the clean file of s is held in b at the number n
record Numbered (stock : List ℕ) (b : Book) (s : List ℕ) (n : ℕ) : Type 0 where
  low : 1 ≤ n
  high : n ≤ b.head.held
  clean : CleanFile stock s (body_of b n)

-- the record of the number answered counts one more
one_more_lem : {b : Book} {t : List ℕ} {a : Option ℕ} {b' : Book} (A : Accepted b t a b') (n k : ℕ) → (record_at b.records n).count ≡ k → (record_at b'.records n).count ≡ one_if (eqb n A.number) + k
one_more_lem {b} {b' = b'} A n k e =
    let O = gives_counts A.chained A.gives in
    elim (ℕ_discrete n A.number) [
      | yes z ↦ let q : eqb n A.number ≡ true = eq-eqb n A.number z in rw q (omega (arith, ap (λ i. (record_at b'.records i).count) z, O.here, ap (λ i. (record_at b.records i).count) z, e))
      | no o ↦ let q : eqb n A.number ≡ false = ne_eqb n A.number o in rw q (omega (arith, ap (λ w. w.count) (O.others n o), e))
    ]

-- there are no more than 32 numbers
accepted_few : {b : Book} {t : List ℕ} {a : Option ℕ} {b' : Book} (A : Accepted b t a b') → A.number < 33
accepted_few A = ⊎_elim (λ K. omega (arith, K.lowest.high, A.chained.lies.few)) (λ N. omega (arith, N.next, N.room.few)) A.gives

-- a number that no accepted entry got
none_with : (n : ℕ) (log : List (List ℕ × Option ℕ)) → ((s : List ℕ) → Memᴰ (s, some n) log → ⊥) → accepted_with n log ≡ 0
unfolding accepted_with
none_with n [] f = refl
none_with n ((s, nothing) ∷ log) f = none_with n log (λ t m. f t (Memᴰ.tail m))
none_with n ((s, some k) ∷ log) f =
    elim (ℕ_discrete n k) [
      | yes z ↦ absurd (f s (Memᴰ.head (ap (λ i. (s, some i)) z)))
      | no o ↦ let q : eqb n k ≡ false = ne_eqb n k o in rw q (omega (arith, none_with n log (λ t m. f t (Memᴰ.tail m))))
    ]

module _ {stock : List ℕ} where
  -- the count is that of the entries accepted
  pub counted : {log : List (List ℕ × Option ℕ)} {b : Book} → Entries stock log b → answers_of b.head ≡ acceptances log
  unfolding acceptances
  counted (begun M) = ap answers_of (made_head M)
  counted (entered {log} {t} h E) =
      ⊎_elim
      (λ U. ap answers_of U.head ∙ counted h ∙ ap (λ o. acceptances ((t, o) ∷ log)) (sym U.answer))
      (λ A. accepted_counted A ∙ ap suc (counted h) ∙ ap (λ o. acceptances ((t, o) ∷ log)) (sym A.answer))
      (answered_by E)

  -- and so of each record
  pub counted_each : {log : List (List ℕ × Option ℕ)} {b : Book} (n : ℕ) → n < 33 → Entries stock log b → (record_at b.records n).count ≡ accepted_with n log
  unfolding accepted_with
  counted_each n g (begun M) = made_counts M n g
  counted_each n g (entered {log} {t} h E) =
      ⊎_elim
      (λ U. ap (λ w. (record_at w n).count) U.records ∙ counted_each n g h ∙ ap (λ o. accepted_with n ((t, o) ∷ log)) (sym U.answer))
      (λ A. one_more_lem A n (accepted_with n log) (counted_each n g h) ∙ ap (λ o. accepted_with n ((t, o) ∷ log)) (sym A.answer))
      (answered_by E)

  stays_numbered : {b b' : Book} {s : List ℕ} {n : ℕ} → Stays b b' → Numbered stock b s n → Numbered stock b' s n
  stays_numbered {s} {n} S N = record { low = N.low; high = omega (arith, N.high, S.held); clean = subst (CleanFile stock s) (sym (S.bodies n N.high)) N.clean }

  entry_numbered : {b : Book} {t : List ℕ} {a : Option ℕ} {b' : Book} {s : List ℕ} {n : ℕ} → body_of b 0 ≡ stock → EntersFile b t a b' → ◌≡◌ {A = List ℕ × Option ℕ} (s, some n) (t, a) → Numbered stock b' s n
  entry_numbered {t} {a} {b'} {s} {n} e E z =
      ⊎_elim
      (λ U. let q : ◌≡◌ {A = Option ℕ} (some n) nothing = ap (λ w. w.1) z ∙ U.answer in conflict (cc))
      (λ A.
      let q : ◌≡◌ {A = Option ℕ} (some A.number) (some n) = sym A.answer ∙ sym (ap (λ w. w.1) z) in
      let k : A.number ≡ n = cc in
      let w = accepted_there A in
      record { low = rw k at w.0; high = rw k at w.1; clean = subst (λ r. CleanFile stock r (body_of b' n)) (sym (ap (λ v. v.0) z)) (subst (CleanFile stock t) (sym w.2 ∙ ap (body_of b') k) (rw e at A.clean)) })
      (answered_by E)

  -- whatever was accepted still has the number answered
  numbered : {log : List (List ℕ × Option ℕ)} {b : Book} {s : List ℕ} {n : ℕ} → Entries stock log b → Memᴰ (s, some n) log → Numbered stock b s n
  numbered (begun M) m = absurd (Memᴰ.not-nil m)
  numbered (entered h E) m = ⊎_elim (λ z. entry_numbered (stock_stays h) E z) (λ m'. stays_numbered (entry_stays E) (numbered h m')) (Memᴰ.cases_cons m)

  -- records of numbers that no accepted entry got count nothing
  counted_none : {log : List (List ℕ × Option ℕ)} {b : Book} (n : ℕ) → n < 33 → (n ≡ 0) ⊎ (b.head.held < n) → Entries stock log b → (record_at b.records n).count ≡ 0
  counted_none {log} n g o h = counted_each n g h ∙ none_with n log (λ s m. let N = numbered h m in ⊎_elim (λ z. omega (arith, N.low)) (λ l. omega (arith, N.high)) o)

  -- the counts of all records are the answered count
  counted_all : {log : List (List ℕ × Option ℕ)} {b : Book} → Entries stock log b → tally b.records 33 ≡ answers_of b.head
  counted_all (begun M) = (still_chained (begun M) (omega (arith, ap answers_of (made_head M)))).counts.sum
  counted_all (entered h E) =
      ⊎_elim
      (λ U. ap (λ w. tally w 33) U.records ∙ counted_all h ∙ sym (ap answers_of U.head))
      (λ A. tally_one 33 (gives_counts A.chained A.gives) (accepted_few A) ∙ ap suc (counted_all h) ∙ sym (accepted_counted A))
      (answered_by E)

-- ---- numbers from 0, as the theory's registry has them
lower : Option ℕ → Option ℕ
lower nothing = nothing
lower (some n) = some (n - 1)

lift : Option ℕ → Option ℕ
lift nothing = nothing
lift (some n) = some (suc n)

lowered : List (List ℕ × Option ℕ) → List (List ℕ × Option ℕ)
lowered [] = []
lowered ((s, a) ∷ log) = (s, lower a) ∷ lowered log

lift_nothing : (a : Option ℕ) → lift a ≡ nothing → a ≡ nothing
unfolding lift
lift_nothing nothing e = refl
lift_nothing (some n) e = conflict (cc)

lift_some : (a : Option ℕ) {n : ℕ} → lift a ≡ some n → (k : ℕ) × ((a ≡ some k) × (n ≡ suc k))
unfolding lift
lift_some nothing e = conflict (cc)
lift_some (some k) e = (k, (refl, cc))

again : (a : Option ℕ) {n : ℕ} → a ≡ some n → 1 ≤ n → lift (lower a) ≡ a
unfolding lift lower
again nothing e h = refl
again (some m) {n} e h = let z : m ≡ n = cc in let q : suc (m - 1) ≡ m = omega arith in ap (λ i. some i) q

mem_lowered : {s : List ℕ} {n : ℕ} (log : List (List ℕ × Option ℕ)) → Memᴰ (s, some n) log → Memᴰ (s, some (n - 1)) (lowered log)
unfolding lowered lower
mem_lowered [] m = absurd (Memᴰ.not-nil m)
mem_lowered ((t, a) ∷ log) m = ⊎_elim (λ z. Memᴰ.head (ap (λ w. (w.0, lower w.1)) z)) (λ m'. Memᴰ.tail (mem_lowered log m')) (Memᴰ.cases_cons m)

-- a step of the theory's registry, under the alphabets of the making
record Step (stock : List ℕ) (b : Book) (s : List ℕ) (a : Option ℕ) (b' : Book) : Type 0 where
  alphabets : body_of b 0 ≡ stock
  call : EntersFile b s (lift a) b'

-- the item of a file: its clean file
abbrev Item : List ℕ → List ℕ → Option (List ℕ) → Type 0
Item stock s nothing = Unit {0}
Item stock s (some x) = CleanFile stock s x

module _ {stock : List ℕ} where
  entry_step : {b : Book} {s : List ℕ} {a : Option ℕ} {b' : Book} → body_of b 0 ≡ stock → EntersFile b s a b' → Step stock b s (lower a) b'
  unfolding lift lower
  entry_step {b} {s} {a} {b'} e E = record {
    alphabets = e;
    call = subst (λ o. EntersFile b s o b') (⊎_elim (λ U. U.answer ∙ ap (λ o. lift (lower o)) (sym U.answer)) (λ A. sym (again a A.answer (accepted_there A).0)) (answered_by E)) E;
  }

  steps : {log : List (List ℕ × Option ℕ)} {b : Book} → Entries stock log b → History (MadeWith stock) (Step stock) (lowered log) b
  unfolding lowered
  steps (begun M) = begun M
  steps (entered h E) = entered (steps h) (entry_step (stock_stays h) E)

  step_entry : (b b' : Book) (s : List ℕ) (a : Option ℕ) → Step stock b s a b' → (x : Option (List ℕ)) × Item stock s x × Entry (items_of b) x a (items_of b')
  step_entry b b' s a P =
      ⊎_elim
      (λ U.
      let e = same_items (unchanged_stays U) (ap (λ w. w.held) U.head) in
      (nothing, tt, subst (λ R. Entry (items_of b) nothing a R) (sym e) (subst (λ o. Entry (items_of b) nothing o (items_of b)) (sym (lift_nothing a U.answer)) refused)))
      (λ A.
      let k = lift_some a A.answer in
      (some A.file, rw P.alphabets at A.clean, subst (λ o. Entry (items_of b) (some A.file) o (items_of b')) (sym k.1.0) (accepted (accepted_enters A k.0 k.1.1))))
      (answered_by P.call)

  keeps : Keeps (MadeWith stock) (Step stock) items_of (Item stock)
  unfolding items
  keeps = record { empty = λ b M. ap (λ w. items b.records b.area 1 w.held) (made_head M); entry = step_entry }

  -- clean files are equal exactly if the transducers are alike
  alike_exact : (s s' x x' : List ℕ) → CleanFile stock s x → CleanFile stock s' x' → SewAlike stock s s' ↔ (x ≡ x')
  alike_exact s s' x x' C C' =
      let F = C.normal in
      let F' = C'.normal in (
        λ a. C.coded ∙ (clean_exact F F').1 ((sheets_alike F F').1 a) ∙ sym C'.coded,
        λ e. (sheets_alike F F').0 ((clean_exact F F').0 (sym C.coded ∙ e ∙ C'.coded)),
      )

  -- Any two accepted entries got one number exactly if their transducers are alike.
  pub numbers_alike : {log : List (List ℕ × Option ℕ)} {b : Book} (s s' : List ℕ) (n n' : ℕ) → Entries stock log b → Memᴰ (s, some n) log → Memᴰ (s', some n') log → SewAlike stock s s' ↔ (n ≡ n')
  numbers_alike {log} s s' n n' h m m' =
      let x = numbers_exact keeps {E = SewAlike stock} alike_exact (steps h) (mem_lowered log m) (mem_lowered log m') in
      (λ a. omega (arith, x.0 a, (numbered h m).low, (numbered h m').low), λ e. x.1 (ap (λ i. i - 1) e))

-- An accepted making, whatever stood before it, and any list of entries after it, refused ones included: numbers, bodies and the count are as promised.
pub registry_laws : {stock : List ℕ} {log : List (List ℕ × Option ℕ)} {b : Book} → Entries stock log b → Orderly stock log b
registry_laws h = record {
  exact = λ s s' n n' m m'. numbers_alike s s' n n' h m m';
  there = λ s n m. let N = numbered h m in (N.low, N.high, N.clean);
  answered = counted h;
  counts = λ n g. counted_each n g h;
  none = λ n g o. counted_none n g o h;
  sum = counted_all h;
  alphabets = stock_stays h;
  stands = still_chained h;
}
