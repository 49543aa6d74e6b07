-- The answers of an entry: from the search and the commit to the number of some bytes, and from cleaning to the number of a transducer.
-- Assumes nothing.
use Rattle.std.specs.Prelude.{Err, None, Ok, Option, Result, Some}
use Rattle.forms.specs.declared.write.Form.{Form}
use Rattle.trees.specs.Refusal.{outcome_of, Outcome, Checks, done, check, Holds, IsJudged, Judged}
use Prim.Native.Nat.{ℕ, zero, suc, ◌+◌, ◌≤◌, ◌<◌}
use native.Mathlib.Decide.{dec_lt}
use native.Mathlib.Omega.{arith, by_contra}
use mathlib.Core.Bool.{Bool, true, false}
use mathlib.Core.List.{List}
use mathlib.Core.Logic.{inl, inr, ⊎_elim}
use mathlib.Core.Path.{◌≡◌, refl, sym, ap, subst, ◌∙◌}
use lib.Dec.{eqb}
use lib.ListN.{length}
use lib.Seq.{sets, length-sets}
use borrow.Author.Tests.{eqb-true, eq-eqb}
use Rattle.theory.proofs.Terms.{conflict}
use Rattle.trees.specs.Alphabets.{inputs, outputs}
use Rattle.formats.specs.Sheet.{longest, file, sheet_check}
use Rattle.trees.specs.declared.refusal.Refusal.{Refusal}
use Rattle.trees.specs.declared.refusal.Refusal.TheVariants.{ShortArea, FullRegistry, BadRegistry, OtherNumber}
use Rattle.trees.proofs.Judging.{refuse, pass, accept, accepted_holds, refused_early}
use Rattle.formats.proofs.Sheets.{encodes_counted, file_short}
use Rattle.earliest.specs.Answers.{form_check}
use Rattle.forms.specs.Answers.{FileOf}
use Rattle.canonical.specs.Answers.{NormalFile, Cleans}
use Rattle.canonical.proofs.Laws.{clean_exact, sheets_alike, cleaned, all_alike}
use Rattle.records.specs.Answers.{CleanFile, Lowest, NotHeld, HasPlace, Next, Gets, Gives, entry_check, Enters, Would, Questions, RegistersBy}
use Rattle.records.specs.Book.{answers_of, too_many, record_at, body, tally, Chained}
use Rattle.records.specs.Inner.Steps.{Placed, Ready, Numbers, Cleaned, Asks, TakesFile, chosen, claimed_by, counted_entry, added_entry, Places}
use Rattle.records.specs.declared.book.Entry.{Entry}
use Rattle.records.specs.declared.book.Head.{Head}
use Rattle.records.specs.declared.book.Record.{Record}
use Rattle.records.specs.declared.book.Submission.{Submission}
use Rattle.records.proofs.Chains.{body_end}

-- the bodies of a registry lie within the area, and a number can be given
module _ {h : Head} {rs : List Record} {area : List ℕ} (C : Chained h rs area) where
  pub chained_end : (i : ℕ) → i ≤ h.held → (record_at rs i).start + (record_at rs i).size ≤ length area
  chained_end i g = omega (arith, body_end C.lies.follow i g, C.lies.inside)

  pub chained_placed : Placed h.held rs area
  chained_placed = record { few = C.lies.few; there = λ i g k. omega (arith, C.lies.few, C.lies.many); ends = λ i g k. chained_end i k }

  pub chained_ready : Ready h (length area)
  chained_ready = record { few = C.lies.few; inside = C.lies.inside }

-- a lowest number is one
pub lowest_unique : {held : ℕ} {rs : List Record} {area x : List ℕ} {m n : ℕ} → Lowest held rs area x m → Lowest held rs area x n → m ≡ n
lowest_unique {m = m} {n = n} L K = omega (arith, by_contra m n (λ g. L.first n K.low g K.there), by_contra n m (λ g. K.first m L.low g L.there))

-- the number that bytes would get is one
pub gets_unique : {h : Head} {rs : List Record} {area x : List ℕ} {m n : ℕ} → Gets h rs area x m → Gets h rs area x n → m ≡ n
gets_unique {m = m} {n = n} G G' =
    ⊎_elim
    (λ L. ⊎_elim (λ L'. lowest_unique L L') (λ N. absurd (N.new.none m L.low L.high L.there)) G')
    (λ N. ⊎_elim (λ L'. absurd (N.new.none n L'.low L'.high L'.there)) (λ N'. N.next ∙ sym N'.next) G')
    G

-- ---- the file of the normal form is one
pub clean_unique : {stock s x x' : List ℕ} → CleanFile stock s x → CleanFile stock s x' → x ≡ x'
clean_unique C C' =
    let F = C.normal in
    let F' = C'.normal in
    let S = (sheets_alike F F).0 (record { plans = λ d r. refl }) in
    C.coded ∙ (clean_exact F F').1 (all_alike F.alphabets S F.sheet F'.sheet) ∙ sym C'.coded

-- ---- a check that holds is passed
pub passed : {A Kept : Type 0} {Good : A → Type 0} {k : ℕ} {P : Type 0} {rest : Checks} {r : Outcome A} → P → Judged Kept Good (check k P rest) r → Judged Kept Good rest r
unfolding IsJudged
passed p J = record { verdict = ⊎_elim (λ w. absurd (w.0 p)) (λ w. w.1) J.verdict }

-- the file of a normal form fits the area that it is cleaned into
clean_fits : {stock s before after : List ℕ} (a : Result Form Refusal) (f : Form) → Cleans stock s before after a → a ≡ Ok f → f.bytes ≤ length after
unfolding Holds
clean_fits {stock} {s} {before} {after} a f J e =
    let w = accepted_holds (rw e at J) in
    let F = w.1.1.1.0 in
    let O = w.1.1.1.1 in
    let C = encodes_counted (inputs stock) (outputs stock) f.states w.1.0 w.1.1.0 F.form F.encodes in
    omega (arith, file_short (inputs stock) f.states w.1.0 w.1.1.0 F.alphabets.ins.few C, w.0.0, O.size, ap length O.wrote, length-sets before 0 (file f.states w.1.0 w.1.1.0))

-- ---- before the search: cleaning under the alphabets of a registry
module _ {s : List ℕ} {h : Head} {rs : List Record} {area : List ℕ} where
  pub no_registry : (w : List ℕ) → (Chained h rs area → ⊥) → Asks s h rs area w (Err BadRegistry)
  no_registry w f = refuse f (refl, refl, refl)

  module _ (C : Chained h rs area) {stock before after : List ℕ} (same : stock ≡ body rs area 0) (long : longest ≤ length before) (a : Result Form Refusal) (J : Cleans stock s before after a) where
    -- what cleaning asks beyond the room and the alphabets
    asked : Judged (after ≡ before) (λ (v : Form). (counts : List ℕ) × ((bytes : List ℕ) × (NormalFile (body rs area 0) s v.states counts bytes × FileOf v counts bytes before after))) (sheet_check (body rs area 0) s (form_check (body rs area 0) s done)) (outcome_of a)
    asked = passed C.lies.stock (passed long (rw same at J))

    -- cleaning refuses
    pub not_clean : (q : Refusal) → a ≡ Err q → Asks s h rs area after (Err q)
    not_clean q e = pass C (refused_early (sheet_check (body rs area 0) s (form_check (body rs area 0) s done)) (check 8 ((x : List ℕ) × (CleanFile (body rs area 0) s x × HasPlace h rs area x)) done) (refl, refl, refl) (rw e at asked))

    -- cleaning gives a form
    pub is_clean : (f : Form) → a ≡ Ok f → Asks s h rs area after (Ok f.bytes)
    unfolding Holds
    is_clean f e =
        let c = cleaned a (rw same at J) (ap outcome_of e) in
        let w = accepted_holds (rw e at asked) in
        (clean_fits a f J e, record { chained = C; checks = w.0; file = record { states = f.states; counts = c.counts; bytes = c.bytes; normal = c.normal; coded = c.begins } })

-- ---- after the search
module _ {h : Head} {rs : List Record} {area x : List ℕ} where
  gets_place : {n : ℕ} → Gets h rs area x n → HasPlace h rs area x
  gets_place {n} G = ⊎_elim (λ L. inl (n, L)) (λ N. inr N.room) G

  -- the number is that which was found, or the next
  pub was_found : {m n : ℕ} → Lowest h.held rs area x m → Gets h rs area x n → Lowest h.held rs area x n
  was_found {m} L G = ⊎_elim (λ K. K) (λ N. absurd (N.new.none m L.low L.high L.there)) G

  pub not_found : {n : ℕ} → NotHeld h.held rs area x → Gets h rs area x n → Next h rs area x n
  not_found {n} N G = ⊎_elim (λ L. absurd (N.none n L.low L.high L.there)) (λ K. K) G

-- the claim is the number, or it is not
claim_same : (m n : ℕ) {k : ℕ} → claimed_by (Some m) n ≡ Ok k → (n ≡ m) × (k ≡ n)
claim_same m n {k} e = go (eqb n m) refl e
  where
    go : (b : Bool) → eqb n m ≡ b → chosen b (Ok n) (Err OtherNumber) ≡ Ok k → (n ≡ m) × (k ≡ n)
    go true t e = (eqb-true n m t, cc)
    go false t e = conflict (cc)

claim_other : (m n : ℕ) {q : Refusal} → claimed_by (Some m) n ≡ Err q → (n ≡ m → ⊥) × (q ≡ OtherNumber)
claim_other m n {q} e = go (eqb n m) refl e
  where
    go : (b : Bool) → eqb n m ≡ b → chosen b (Ok n) (Err OtherNumber) ≡ Err q → (n ≡ m → ⊥) × (q ≡ OtherNumber)
    go true t e = conflict (cc)
    go false t e = ((λ z. conflict (let u : eqb n m ≡ true = eq-eqb n m z in cc)), cc)

pub claim_is : (claim : Option ℕ) (n : ℕ) {k : ℕ} → claimed_by claim n ≡ Ok k → k ≡ n
claim_is None n e = cc
claim_is (Some m) n e = (claim_same m n e).1

-- an entry of s, where x is its clean file
module _ {s : List ℕ} {h : Head} {rs : List Record} {area x : List ℕ} (K : Cleaned s h rs area x) where
  pub no_place : (q : Refusal) → Numbers h rs area x (Err q) → Enters s h rs area h rs area (Err q)
  unfolding Holds
  no_place q g =
      let w = K.checks in
      let E : Enters s h rs area h rs area (Err FullRegistry) =
      pass K.chained (pass w.0 (pass w.1.0 (pass w.1.1.0 (refuse (λ u. g.1 (rw (clean_unique u.1.0 K.file) at u.1.1)) (refl, refl, refl))))) in
      rw g.0 E

  -- what an entry gives under a claim
  pub given : (claim : Option ℕ) {n k : ℕ} {h' : Head} {rs' : List Record} {area' : List ℕ} → Gets h rs area x n → claimed_by claim n ≡ Ok k → Gives h rs area x k h' rs' area' → RegistersBy claim s h rs area h' rs' area' (Ok k)
  unfolding Holds
  given None G e g =
      let w = K.checks in
      pass K.chained (pass w.0 (pass w.1.0 (pass w.1.1.0 (pass (x, (K.file, gets_place G)) (accept (x, (K.file, g)))))))
  given (Some m) {n} G e g =
      let w = K.checks in
      pass K.chained (pass w.0 (pass w.1.0 (pass w.1.1.0 (pass (x, (K.file, gets_place G)) (pass (x, (K.file, subst (λ i. Gets h rs area x i) (claim_same m n e).0 G)) (accept (x, (K.file, g))))))))

  -- another number is claimed
  pub other_claim : (claim : Option ℕ) {n : ℕ} (q : Refusal) → Gets h rs area x n → claimed_by claim n ≡ Err q → RegistersBy claim s h rs area h rs area (Err q)
  unfolding Holds
  other_claim None q G e = conflict (cc)
  other_claim (Some m) {n} q G e =
      let w = K.checks in
      let f = claim_other m n e in
      let E : RegistersBy (Some m) s h rs area h rs area (Err OtherNumber) =
      pass K.chained (pass w.0 (pass w.1.0 (pass w.1.1.0 (pass (x, (K.file, gets_place G)) (refuse (λ u. f.0 (gets_unique G (subst (λ y. Gets h rs area y m) (clean_unique u.1.0 K.file) u.1.1))) (refl, refl, refl)))))) in
      rw f.1 E

  -- the bytes are held, and the number is counted
  pub places_known : (u : Submission) {m n k : ℕ} {e : Entry} → Lowest h.held rs area x m → Gets h rs area x n → claimed_by u.claim n ≡ Ok k → e ≡ counted_entry h k (record_at rs k) → Places s u h rs area (Ok e) area
  places_known u {n = n} {k = k} L G q z =
      let M : Lowest h.held rs area x k = subst (λ i. Lowest h.held rs area x i) (sym (claim_is u.claim n q)) (was_found L G) in
      rw z (omega (arith, M.high, K.chained.lies.few, K.chained.lies.many), given u.claim G q (inl (record { lowest = M; head = refl; records = refl; bodies = refl })))

  -- they are not, and are added
  pub places_new : (u : Submission) {n k : ℕ} {e : Entry} {area' : List ℕ} → NotHeld h.held rs area x → Gets h rs area x n → claimed_by u.claim n ≡ Ok k → e ≡ added_entry h x → area' ≡ sets area h.used x → Places s u h rs area (Ok e) area'
  places_new u {n = n} {k = k} F G q z w =
      let N = not_found F G in
      let i : claimed_by u.claim n ≡ Ok (h.held + 1) = q ∙ ap (λ j. Ok j) (claim_is u.claim n q ∙ N.next) in
      rw z (omega (arith, N.room.few, K.chained.lies.many), given u.claim G i (inr (record { new = N.new; room = N.room; next = refl; head = refl; records = refl; bodies = w })))

  -- a question is answered
  pub answers : {n : ℕ} {before after : List ℕ} → longest ≤ length before → Gets h rs area x n → after ≡ sets before 0 x → Questions s h rs area before after (Ok (record { number = n; size = length x }))
  unfolding Holds
  answers l G e =
      let w = K.checks in
      pass l (pass K.chained (pass w.0 (pass w.1.0 (pass w.1.1.0 (pass (x, (K.file, gets_place G)) (accept (record { clean = x; file = K.file; gets = G; long = refl; wrote = e })))))))

-- ---- a refusal of the entry is that of a commit,
pub refused_by : {s : List ℕ} {h : Head} {rs : List Record} {area : List ℕ} (claim : Option ℕ) (q : Refusal) → Enters s h rs area h rs area (Err q) → RegistersBy claim s h rs area h rs area (Err q)
refused_by None q E = E
refused_by {s} {h} {rs} {area} (Some m) q E = refused_early (entry_check s h rs area done) (check 13 (Would s h rs area m) done) (refl, refl, refl) E

-- and that of a question
pub unanswered : {s : List ℕ} {h : Head} {rs : List Record} {area : List ℕ} {h' : Head} {rs' : List Record} {area' before : List ℕ} (q : Refusal) → longest ≤ length before → Enters s h rs area h' rs' area' (Err q) → Questions s h rs area before before (Err q)
unanswered {s} {h} {rs} {area} q l E = pass l (refused_early (entry_check s h rs area done) done refl E)

-- before which the editor's area is too short
pub too_short : {s : List ℕ} {h : Head} {rs : List Record} {area before : List ℕ} (q : Refusal) → TakesFile before (Err q) → Questions s h rs area before before (Err q)
too_short {s} {h} {rs} {area} {before} q w =
    let E : Questions s h rs area before before (Err ShortArea) = refuse (λ g. omega (arith, w.1)) refl in
    rw w.0 E

-- ---- a record counts at most as much as all
tally_more : (rs : List Record) (i n : ℕ) → i < n → (record_at rs i).count ≤ tally rs n
unfolding tally
tally_more rs i zero h = absurd (omega arith)
tally_more rs i (suc n) h = elim (dec_lt i n) [ yes l ↦ omega (arith, tally_more rs i n l) | no l ↦ let e : i ≡ n = omega arith in omega (arith, ap (λ k. (record_at rs k).count) e) ]

-- so one more answer can be counted
pub countable : {h : Head} {rs : List Record} {area x : List ℕ} (claim : Option ℕ) {m n k : ℕ} → Chained h rs area → Lowest h.held rs area x m → Gets h rs area x n → claimed_by claim n ≡ Ok k → (answers_of h < too_many) × ((record_at rs k).count < too_many)
countable {rs = rs} claim {n = n} {k = k} C L G q = (C.counts.countable, omega (arith, claim_is claim n q, (was_found L G).high, tally_more rs k 33 (omega (arith, claim_is claim n q, (was_found L G).high, C.lies.few)), C.counts.sum, C.counts.countable))
