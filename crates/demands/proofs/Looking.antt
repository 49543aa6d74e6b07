-- Request F-6 is met: what an entry answers says what a question and a commit answer, and the promises leave no other answer.
-- Assumes nothing.
use Rattle.std.specs.Prelude.{Err, Ok, Result}
use Rattle.forms.specs.declared.write.Form.{Form}
use Rattle.records.specs.declared.book.Foretold.{Foretold}
use Rattle.trees.specs.Refusal.{outcome_of, refusal_number, Outcome, accepted, refused, done, Holds}
use Prim.Native.Nat.{ℕ, ◌+◌, ◌≤◌, ◌<◌}
use native.Mathlib.Omega.{arith}
use mathlib.Core.List.{List}
use mathlib.Core.Logic.{◌≢◌, ◌↔◌, inl, inr, ⊎_elim}
use mathlib.Core.Option.{some}
use mathlib.Core.Path.{◌≡◌, refl, sym, ap, subst, ◌∙◌}
use lib.ListN.{length, take, drop}
use lib.Seq.{length-sets, sets-eq, drop_at}
use Rattle.theory.specs.Registry.{begun, entered}
use Rattle.theory.proofs.Terms.{conflict}
use Rattle.trees.specs.Alphabets.{inputs, outputs}
use Rattle.trees.specs.declared.refusal.Refusal.{Refusal}
use Rattle.trees.specs.declared.refusal.Refusal.TheVariants.{OtherNumber}
use Rattle.trees.proofs.Judging.{accepted_holds, must_accept, must_refuse}
use Rattle.formats.specs.Sheet.{longest}
use Rattle.formats.proofs.Laws.{written_take}
use Rattle.formats.proofs.Sheets.{encodes_counted, file_short}
use Rattle.canonical.specs.Answers.{Cleans}
use Rattle.canonical.proofs.Laws.{cleaned}
use Rattle.records.specs.Answers.{CleanFile, entry_check, Enters, Foretells, Questions, Commits}
use Rattle.records.specs.Book.{body}
use Rattle.records.specs.declared.book.Head.{Head}
use Rattle.records.specs.declared.book.Record.{Record}
use Rattle.records.proofs.Entering.{clean_unique}
use Rattle.registry.specs.Questions.{entry, commit, question, foretold}
use Rattle.registry.proofs.Determined.{commits_one, questions_one}
use Rattle.registry.proofs.Laws.{registry_laws}
use Rattle.registry.proofs.Questions.{commit_enters, entry_commits, other_refused, entry_refuses, entry_answers, entry_unanswered, entries_calls, as_entries, calls_orderly, quiet_idle, commitment}
use Rattle.registry.proofs.Standing.{told_number}
use Rattle.demands.specs.First.{FirstFailing}
use Rattle.demands.specs.Third.{Wrote}
use Rattle.demands.specs.Looking.{Listing, Request6}
use Rattle.demands.proofs.Counts.{made_with}
use Rattle.demands.proofs.First.{demand_1}

-- ---- the question, beside an entry
-- equal answers tell equal numbers
numbers_alike : {v w : Foretold} → ◌≡◌ {A = Outcome Foretold} (accepted v) (accepted w) → v.number ≡ w.number
numbers_alike {v} {w} e = let u : v ≡ w = cc in ap (λ (x : Foretold). x.number) u

was_long : {s area before after : List ℕ} {h : Head} {rs : List Record} {v : Foretold} (q : Result Foretold Refusal) → Questions s h rs area before after q → outcome_of q ≡ accepted v → longest ≤ length before
unfolding Holds
was_long q Q e = (accepted_holds (rw e at Q)).0.0

module _ {s area area' before after : List ℕ} {h h' : Head} {rs rs' : List Record} where
  module _ (q : Result Foretold Refusal) (long : longest ≤ length before) (Q : Questions s h rs area before after q) where
    number_asked : {n : ℕ} → Enters s h rs area h' rs' area' (Ok n) → (size : ℕ) × (outcome_of q ≡ accepted (record { number = n; size = size }))
    number_asked {n} E = let w = entry_answers long E in (w.0, (questions_one q (Ok (record { number = n; size = w.0 })) Q w.1.1).1)

    refusal_asked : (p : Refusal) → Enters s h rs area h' rs' area' (Err p) → outcome_of q ≡ refused (refusal_number p)
    refusal_asked p E = (questions_one q (Err p) Q (entry_unanswered long p E)).1

  would_get : {n size : ℕ} (q : Result Foretold Refusal) (r : Result ℕ Refusal) → Questions s h rs area before after q → Enters s h rs area h' rs' area' r → outcome_of q ≡ accepted (record { number = n; size = size }) → outcome_of r ≡ accepted n
  would_get {n} {size} q (Ok k) Q E e =
      let (j, z) = number_asked q (was_long q Q e) Q E in
      ap (λ i. accepted i) (numbers_alike (sym z ∙ e))
  would_get q (Err p) Q E e = let z = refusal_asked q (was_long q Q e) Q p E in conflict (cc)

  gets_asked : {n : ℕ} (q : Result Foretold Refusal) (r : Result ℕ Refusal) → longest ≤ length before → Questions s h rs area before after q → Enters s h rs area h' rs' area' r → outcome_of r ≡ accepted n → (size : ℕ) × (outcome_of q ≡ accepted (record { number = n; size = size }))
  gets_asked {n} q (Ok k) long Q E e = let w = number_asked q long Q E in let z : k ≡ n = cc in (w.0, w.1 ∙ ap (λ i. accepted (record { number = i; size = w.0 })) z)
  gets_asked q (Err p) long Q E e = conflict (cc)

  refused_alike : (k : ℕ) (q : Result Foretold Refusal) (r : Result ℕ Refusal) → longest ≤ length before → Questions s h rs area before after q → Enters s h rs area h' rs' area' r → (outcome_of q ≡ refused k) ↔ (outcome_of r ≡ refused k)
  refused_alike k q (Ok n) long Q E = let z = (number_asked q long Q E).1 in (λ e. conflict (cc), λ e. conflict (cc))
  refused_alike k q (Err p) long Q E =
      let z = refusal_asked q long Q p E in
      (λ e. let w : refusal_number p ≡ k = cc in ap (λ i. refused i) w, λ e. let w : refusal_number p ≡ k = cc in z ∙ ap (λ i. refused i) w)

too_short : {s area before after : List ℕ} {h : Head} {rs : List Record} (q : Result Foretold Refusal) → length before < longest → Questions s h rs area before after q → outcome_of q ≡ refused 1
unfolding Holds
too_short {s} {area} {h = h} {rs = rs} q l Q = (must_refuse done (entry_check s h rs area done) tt (λ k. omega arith) Q).0

-- ---- what it writes
clean_short : {stock s x : List ℕ} → CleanFile stock s x → length x ≤ longest
clean_short {stock} C =
    let F = C.normal in
    omega (arith, ap length C.coded, file_short (inputs stock) C.states C.counts C.bytes F.alphabets.ins.few (encodes_counted (inputs stock) (outputs stock) C.states C.counts C.bytes F.form F.encodes))

module _ {s area before after : List ℕ} {h : Head} {rs : List Record} {n size : ℕ} (q : Result Foretold Refusal) (Q : Questions s h rs area before after q) (e : outcome_of q ≡ accepted (record { number = n; size = size })) where
  told_so : Holds (entry_check s h rs area done) × Foretells s h rs area before after n size
  unfolding Holds
  told_so = let w = accepted_holds (rw e at Q) in (w.0.1, w.1)

  fits_before : size ≤ length before
  fits_before = let F = told_so.1 in omega (arith, F.long, clean_short F.file, was_long q Q e)

  shows_clean : {room room' : List ℕ} (r : Result Form Refusal) → longest ≤ length room → Cleans (body rs area 0) s room room' r → (size ≤ length after) × Wrote r room' (take size after)
  unfolding Holds
  shows_clean r long C =
      let (w, F) = told_so in
      let v = must_accept (long, (w.0.lies.stock, (w.1.0, (w.1.1.0, (w.1.1.1.0, tt))))) C in
      let c = cleaned r C v.1.0 in
      let z = clean_unique (record { states = _; counts = c.counts; bytes = c.bytes; normal = c.normal; coded = c.begins }) F.file in
      (omega (arith, fits_before, ap length F.wrote, length-sets before 0 F.clean), record { values = v.0; answer = v.1.0; bytes = z ∙ sym (written_take F.clean before after size F.long (omega (arith, fits_before, F.long)) F.wrote) })

  keeps_rest : (length after ≡ length before) × (drop size after ≡ drop size before)
  keeps_rest =
      let F = told_so.1 in
      let x = F.clean in
      let z : 0 + length x ≡ size = omega (arith, F.long) in
      (ap length F.wrote ∙ length-sets before 0 x, ap (drop size) (F.wrote ∙ sets-eq x before 0 (omega (arith, fits_before, F.long))) ∙ drop_at x (drop (0 + length x) before) size (sym F.long) ∙ ap (λ k. drop k before) z)

-- ---- the commit, beside an entry
-- no check of an entry has the number 13
never_13 : (s : List ℕ) (h : Head) (rs : List Record) (area : List ℕ) → FirstFailing (entry_check s h rs area done) 13 → ⊥
unfolding FirstFailing
never_13 s h rs area (inl (f, e)) = omega arith
never_13 s h rs area (inr (p, inl (f, e))) = omega arith
never_13 s h rs area (inr (p, inr (p₁, inl (f, e)))) = omega arith
never_13 s h rs area (inr (p, inr (p₁, inr (p₂, inl (f, e))))) = omega arith
never_13 s h rs area (inr (p, inr (p₁, inr (p₂, inr (p₃, inl (f, e)))))) = omega arith
never_13 s h rs area (inr (p, inr (p₁, inr (p₂, inr (p₃, inr (p₄, f)))))) = f

module _ {s area area' : List ℕ} {h h' : Head} {rs rs' : List Record} where
  as_entry : {m n : ℕ} (r : Result ℕ Refusal) → Commits s m h rs area h' rs' area' r × (outcome_of r ≡ accepted n) → Enters s h rs area h' rs' area' r × (outcome_of r ≡ accepted n) × (n ≡ m)
  as_entry (Ok k) (C, e) = let (E, z) = commit_enters C in (E, e, cc)
  as_entry (Err p) (C, e) = conflict (cc)

  as_commit : {m n : ℕ} (r : Result ℕ Refusal) → Enters s h rs area h' rs' area' r × (outcome_of r ≡ accepted n) × (n ≡ m) → Commits s m h rs area h' rs' area' r × (outcome_of r ≡ accepted n)
  as_commit {m} (Ok k) (E, e, z) = let w : k ≡ m = cc in (subst (λ i. Commits s i h rs area h' rs' area' (Ok k)) w (entry_commits E), e)
  as_commit (Err p) (E, e, z) = conflict (cc)

  entry_not_13 : (r : Result ℕ Refusal) → Enters s h rs area h' rs' area' r → outcome_of r ≡ refused 13 → ⊥
  entry_not_13 r E e =
      ⊎_elim
      (λ w. let z = w.1.0 in conflict (cc))
      (λ w. let z = w.1.0 in let k : w.0 ≡ 13 = cc in never_13 s h rs area (subst (λ i. FirstFailing (entry_check s h rs area done) i) k w.1.1))
      (demand_1.entry s area area' h h' rs rs' r E)

module _ {s area area₁ area₂ : List ℕ} {h h₁ h₂ : Head} {rs rs₁ rs₂ : List Record} {m : ℕ} where
  leaves_same : (r r' : Result ℕ Refusal) → Enters s h rs area h₁ rs₁ area₁ r → Commits s m h rs area h₂ rs₂ area₂ r' → outcome_of r ≡ accepted m → (outcome_of r' ≡ accepted m) × (h₂ ≡ h₁) × (rs₂ ≡ rs₁) × (area₂ ≡ area₁)
  leaves_same r r' E C e =
      let (D, d) = as_commit r (E, e, refl) in
      let w = commits_one r' r C D in
      (w.1 ∙ d, w.0.0, w.0.1, w.0.2)

  by_13 : {n : ℕ} (r r' : Result ℕ Refusal) → Enters s h rs area h₁ rs₁ area₁ r → Commits s m h rs area h₂ rs₂ area₂ r' → outcome_of r ≡ accepted n → m ≢ n → outcome_of r' ≡ refused 13
  by_13 {n} (Ok k) r' E C e o = let z : k ≡ n = cc in (commits_one r' (Err OtherNumber) C (other_refused E (λ w. o (w ∙ z)))).1
  by_13 (Err p) r' E C e o = conflict (cc)

  as_entry_refused : {k : ℕ} (r r' : Result ℕ Refusal) → Enters s h rs area h₁ rs₁ area₁ r → Commits s m h rs area h₂ rs₂ area₂ r' → outcome_of r ≡ refused k → outcome_of r' ≡ refused k
  as_entry_refused (Ok n) r' E C e = conflict (cc)
  as_entry_refused (Err p) r' E C e = (commits_one r' (Err p) C (entry_refuses p E)).1 ∙ e

  by_13_alone : (r r' : Result ℕ Refusal) → Enters s h rs area h₁ rs₁ area₁ r → Commits s m h rs area h₂ rs₂ area₂ r' → outcome_of r' ≡ refused 13 → (n : ℕ) × ((outcome_of r ≡ accepted n) × (m ≢ n))
  by_13_alone (Ok n) r' E C e = (n, (refl, λ z. let d = (leaves_same (Ok n) r' E C (ap (λ i. accepted i) (sym z))).0 in conflict (cc)))
  by_13_alone (Err p) r' E C e = absurd (entry_not_13 (Err p) E (sym (as_entry_refused (Err p) r' E C refl) ∙ e))

-- ---- lists of calls
foretold_so : {n size : ℕ} (q : Result Foretold Refusal) → outcome_of q ≡ accepted (record { number = n; size = size }) → foretold q ≡ some n
foretold_so (Ok v) e = ap (λ i. some i) (numbers_alike e)
foretold_so (Err p) e = conflict (cc)

listing : Listing
listing = record {
  begins = λ b b' r J e. begun (made_with b b' r J e);
  begins_at = λ b. begun refl;
  enters = λ {s = s} b b' r H J. entered {t = entry s} H (record { answer = r; call = J; told = refl });
  commits = λ {s = s} {m = m} b b' r H J. entered {t = commit s m} H (record { answer = r; call = J; told = refl });
  asks = λ {s = s} {before = before} {after = after} b q H J. entered {t = question s} H (record { before = before; after = after; answer = q; call = J; told = refl }, refl);
  keeps = λ {before = before} {after = after} b b₁ b₂ q r Q e F quiet C. told_number r (commitment.accepts (record { before = before; after = after; answer = q; call = Q; told = foretold_so q e }) (quiet_idle F quiet) (record { answer = r; call = C; told = refl }));
  entries = entries_calls;
  exact = λ C. (calls_orderly C).exact;
  each = λ C. (registry_laws (as_entries C)).counts;
  sum = λ C. ((registry_laws (as_entries C)).sum, (registry_laws (as_entries C)).answered);
}

-- ---- request F-6
pub look_before_entering : Request6
look_before_entering = record {
  looking = record { answers = would_get; answered = gets_asked; refused_so = refused_alike; short = too_short; writes = λ q r Q e. shows_clean q Q e r; rest = keeps_rest };
  committing = record { does = λ r. (as_entry r, as_commit r); same = leaves_same; other = by_13; other_alone = by_13_alone; refused_so = as_entry_refused };
  listing = listing;
}
