-- Questions and commits: a list of calls is a list of entries, and a commit after a question is accepted.
-- Assumes nothing.
use Rattle.std.specs.Prelude.{Err, Ok, Result}
use Rattle.records.specs.declared.book.Foretold.{Foretold}
use Prim.Native.Nat.{ℕ, ◌≤◌}
use mathlib.Core.List.Memᴰ
use mathlib.Core.List.{List, [], ◌∷◌, map, Memᴰ}
use mathlib.Core.Logic.{◌≢◌, inl, inr, ⊎_elim}
use mathlib.Core.Option.{some, Option, none as nothing}
use mathlib.Core.Path.{◌≡◌, refl, sym, ap, ap₂, subst, ◌∙◌}
use lib.ListN.{length}
use lib.Seq.{sets}
use Rattle.theory.specs.Registry.{History, begun, entered}
use Rattle.theory.proofs.Terms.{conflict}
use Rattle.trees.specs.Refusal.{Outcome, Checks, done, check, Holds, Judged}
use Rattle.trees.specs.declared.refusal.Refusal.{Refusal}
use Rattle.trees.specs.declared.refusal.Refusal.TheVariants.{OtherNumber}
use Rattle.formats.specs.Sheet.{longest}
use Rattle.trees.proofs.Judging.{refuse, pass, accept, accepted_holds, refused_fails, behind, refused_early, must_accept}
use Rattle.records.specs.Answers.{Gets, Gives, entry_check, Enters, Would, Questions, Commits}
use Rattle.records.specs.declared.book.Head.{Head}
use Rattle.records.specs.declared.book.Record.{Record}
use Rattle.records.proofs.Entering.{clean_unique, gets_unique, unanswered}
use Rattle.registry.specs.Calls.{Book, answer_of, EntersFile, Entries}
use Rattle.registry.specs.Questions.{Call, entry, commit, question, foretold, CommitsFile, Calling, Calls, enters_file, accepteds, Idle, Commitment, CallsOrderly}
use Rattle.registry.proofs.Keeping.{answered_by}
use Rattle.registry.proofs.Laws.{registry_laws}
use Rattle.registry.proofs.Standing.{told}

-- ---- books
pub same_book : {b b' : Book} → b'.head ≡ b.head → b'.records ≡ b.records → b'.area ≡ b.area → b' ≡ b
same_book {b} {b'} e f g = ap₂ (λ (h : Head) (r : List Record). record { head = h; records = r; area = b'.area }) e f ∙ ap (λ l. record { head = b.head; records = b.records; area = l }) g

-- a refused entry and a refused commit leave the book
entry_refused : {b b' : Book} {s : List ℕ} {a : Option ℕ} → EntersFile b s a b' → a ≡ nothing → b' ≡ b
entry_refused {b} {b'} {s} {a} E e = ⊎_elim (λ U. same_book U.head U.records U.bodies) (λ A. let q : ◌≡◌ {A = Option ℕ} (some A.number) nothing = sym A.answer ∙ e in conflict (cc)) (answered_by E)

commit_left : {b b' : Book} {s : List ℕ} {claim : ℕ} (r : Result ℕ Refusal) → Commits s claim b.head b.records b.area b'.head b'.records b'.area r → answer_of r ≡ nothing → b' ≡ b
commit_left (Ok n) J e = conflict (cc)
commit_left (Err k) J e = let w = (refused_fails J).1 in same_book w.0 w.1 w.2

commit_refused : {b b' : Book} {s : List ℕ} {claim : ℕ} {a : Option ℕ} → CommitsFile b s claim a b' → a ≡ nothing → b' ≡ b
commit_refused C e = commit_left C.answer C.call (C.told ∙ e)

-- ---- what an entry answers, and what a commit and a question do
-- checks that hold, before others
all_pass : {A Kept : Type 0} {Good : A → Type 0} {rest : Checks} {r : Outcome A} (checks : Checks) → Holds checks → Judged Kept Good rest r → Judged Kept Good (behind checks rest) r
unfolding Holds
all_pass done h J = J
all_pass (check k P checks) h J = pass h.0 (all_pass checks h.1 J)

all_hold : (checks rest : Checks) → Holds (behind checks rest) → Holds checks × Holds rest
unfolding Holds
all_hold done rest h = (tt, h)
all_hold (check k P checks) rest h = let w = all_hold checks rest h.1 in ((h.0, w.0), w.1)

both_hold : (checks rest : Checks) → Holds checks → Holds rest → Holds (behind checks rest)
unfolding Holds
both_hold done rest h k = k
both_hold (check j P checks) rest h k = (h.0, both_hold checks rest h.1 k)

gives_gets : {h : Head} {rs : List Record} {area x : List ℕ} {n : ℕ} {h' : Head} {rs' : List Record} {area' : List ℕ} → Gives h rs area x n h' rs' area' → Gets h rs area x n
gives_gets G = ⊎_elim (λ K. inl K.lowest) (λ A. inr (record { new = A.new; room = A.room; next = A.next })) G

-- a file would get one number
would_one : {s : List ℕ} {h : Head} {rs : List Record} {area : List ℕ} {m n : ℕ} → Would s h rs area m → Would s h rs area n → m ≡ n
would_one {h = h} {rs = rs} {area = area} {m = m} (x, (c, g)) (y, (d, k)) = gets_unique (subst (λ z. Gets h rs area z m) (clean_unique c d) g) k

module _ {s : List ℕ} {h : Head} {rs : List Record} {area : List ℕ} {h' : Head} {rs' : List Record} {area' : List ℕ} where
  -- an accepted commit is an accepted entry, which gets the number that is claimed,
  pub commit_enters : {m n : ℕ} → Commits s m h rs area h' rs' area' (Ok n) → Enters s h rs area h' rs' area' (Ok n) × (n ≡ m)
  unfolding Holds
  commit_enters {m} J =
      let (w, (x, (c, g))) = accepted_holds J in
      let u = all_hold (entry_check s h rs area done) (check 13 (Would s h rs area m) done) w in
      (all_pass (entry_check s h rs area done) u.0 (accept (x, (c, g))), would_one (x, (c, gives_gets g)) u.1.0)

  -- and an accepted entry is a commit of its number
  pub entry_commits : {n : ℕ} → Enters s h rs area h' rs' area' (Ok n) → Commits s n h rs area h' rs' area' (Ok n)
  entry_commits J = let (w, (x, (c, g))) = accepted_holds J in all_pass (entry_check s h rs area done) w (pass (x, (c, gives_gets g)) (accept (x, (c, g))))

  -- a commit of another number is refused by 13,
  pub other_refused : {m n : ℕ} → Enters s h rs area h' rs' area' (Ok n) → m ≢ n → Commits s m h rs area h rs area (Err OtherNumber)
  other_refused J o = let (w, (x, (c, g))) = accepted_holds J in all_pass (entry_check s h rs area done) w (refuse (λ u. o (would_one u (x, (c, gives_gets g)))) (refl, refl, refl))

  -- and of an entry that is refused, as that is, whatever the number
  pub entry_refuses : {m : ℕ} (q : Refusal) → Enters s h rs area h' rs' area' (Err q) → Commits s m h rs area h' rs' area' (Err q)
  entry_refuses {m} q J = refused_early (entry_check s h rs area done) (check 13 (Would s h rs area m) done) (refused_fails J).1 J

  module _ {before : List ℕ} (long : longest ≤ length before) where
    -- a question answers the number of the entry, where the editor's area is long enough,
    pub entry_answers : {n : ℕ} → Enters s h rs area h' rs' area' (Ok n) → (size : ℕ) × ((after : List ℕ) × Questions s h rs area before after (Ok (record { number = n; size = size })))
    entry_answers J =
        let (w, (x, (c, g))) = accepted_holds J in
        (length x, (sets before 0 x, pass long (all_pass (entry_check s h rs area done) w (accept (record { clean = x; file = c; gets = gives_gets g; long = refl; wrote = refl })))))

    -- and is refused as the entry is
    pub entry_unanswered : (q : Refusal) → Enters s h rs area h' rs' area' (Err q) → Questions s h rs area before before (Err q)
    entry_unanswered q J = unanswered q long J

-- ---- a list of calls is one of entries
commit_entry : {b b' : Book} {s : List ℕ} {claim : ℕ} (n : ℕ) (r : Result ℕ Refusal) → Commits s claim b.head b.records b.area b'.head b'.records b'.area r → answer_of r ≡ some n → EntersFile b s (some n) b'
commit_entry n (Ok m) J e = record { answer = Ok m; call = (commit_enters J).0; told = e }
commit_entry n (Err k) J e = conflict (cc)

module _ {stock : List ℕ} where
  next_entry : (log : List (Call × Option ℕ)) {b b' : Book} (c : Call) (a : Option ℕ) → Entries stock (accepteds log) b → Calling b c a b' → Entries stock (accepteds ((c, a) ∷ log)) b'
  unfolding accepteds
  next_entry log (entry s) (some n) h E = entered h E
  next_entry log (commit s claim) (some n) h C = entered h (commit_entry n C.answer C.call C.told)
  next_entry log (question s) (some n) h C = subst (λ d. Entries stock (accepteds log) d) (sym C.1) h
  next_entry log (entry s) nothing h E = subst (λ d. Entries stock (accepteds log) d) (sym (entry_refused E refl)) h
  next_entry log (commit s claim) nothing h C = subst (λ d. Entries stock (accepteds log) d) (sym (commit_refused C refl)) h
  next_entry log (question s) nothing h C = subst (λ d. Entries stock (accepteds log) d) (sym C.1) h

  pub as_entries : {log : List (Call × Option ℕ)} {b : Book} → Calls stock log b → Entries stock (accepteds log) b
  unfolding accepteds
  as_entries (begun M) = begun M
  as_entries (entered {log} {t = c} {answer = a} h C) = next_entry log c a (as_entries h) C

-- and a list of entries is one of calls
pub entries_calls : {stock : List ℕ} {log : List (List ℕ × Option ℕ)} {b : Book} → Entries stock log b → Calls stock (map (λ e. (entry e.0, e.1)) log) b
entries_calls (begun M) = begun M
entries_calls (entered h E) = entered (entries_calls h) E

-- what was entered stands among the entries
later : {s : List ℕ} {n : ℕ} (log : List (Call × Option ℕ)) (d : Call) (a : Option ℕ) → Memᴰ (s, some n) (accepteds log) → Memᴰ (s, some n) (accepteds ((d, a) ∷ log))
unfolding accepteds
later log (entry t) (some k) m = Memᴰ.tail m
later log (commit t claim) (some k) m = Memᴰ.tail m
later log (question t) (some k) m = m
later log (entry t) nothing m = m
later log (commit t claim) nothing m = m
later log (question t) nothing m = m

here : {s : List ℕ} {n : ℕ} (log : List (Call × Option ℕ)) (d : Call) → enters_file d ≡ some s → Memᴰ (s, some n) (accepteds ((d, some n) ∷ log))
unfolding accepteds
here {s} {n} log (entry t) e = let z : s ≡ t = cc in Memᴰ.head (ap (λ w. (w, some n)) z)
here {s} {n} log (commit t claim) e = let z : s ≡ t = cc in Memᴰ.head (ap (λ w. (w, some n)) z)
here log (question t) e = conflict (cc)

stands : (c : Call) (s : List ℕ) (n : ℕ) (log : List (Call × Option ℕ)) → enters_file c ≡ some s → Memᴰ (c, some n) log → Memᴰ (s, some n) (accepteds log)
stands c s n [] e m = absurd (Memᴰ.not-nil m)
stands c s n ((d, a) ∷ log) e m =
    ⊎_elim
    (λ z. subst (λ (w : Call × Option ℕ). Memᴰ (s, some n) (accepteds (w ∷ log))) z (here log c e))
    (λ m'. later log d a (stands c s n log e m'))
    (Memᴰ.cases_cons m)

-- Of a list of calls all is said that is said of its accepted entries and commits.
pub calls_orderly : {stock : List ℕ} {log : List (Call × Option ℕ)} {b : Book} → Calls stock log b → CallsOrderly stock log b
calls_orderly {stock} {log} h = record {
  exact = λ c c' s s' n n' e e' m m'. (registry_laws (as_entries h)).exact s s' n n' (stands c s n log e m) (stands c' s' n' log e' m');
  entries = as_entries h;
}

-- ---- a question and then a commit
idle_one : {b b' : Book} (c : Call) (a : Option ℕ) → Idle b c a b' → b' ≡ b
idle_one (question s) a I = I.1
idle_one (entry s) a I = entry_refused I.0 I.1
idle_one (commit s claim) a I = commit_refused I.0 I.1

idle : {b₀ b : Book} {log : List (Call × Option ℕ)} → History (λ c. c ≡ b₀) Idle log b → b ≡ b₀
idle (begun e) = e
idle (entered {t = c} {answer = a} h I) = idle_one c a I ∙ idle h

-- calls of which no entry and no commit is accepted change nothing
quiet_one : (b b' : Book) (c : Call) (a : Option ℕ) → ((n : ℕ) → a ≡ some n → enters_file c ≡ nothing) → Calling b c a b' → Idle b c a b'
quiet_one b b' (question s) a q C = C
quiet_one b b' (entry s) nothing q C = (C, refl)
quiet_one b b' (commit s claim) nothing q C = (C, refl)
quiet_one b b' (entry s) (some n) q C = let e = q n refl in conflict (cc)
quiet_one b b' (commit s claim) (some n) q C = let e = q n refl in conflict (cc)

pub quiet_idle : {b b' : Book} {log : List (Call × Option ℕ)} → History (λ c. c ≡ b) Calling log b' → ((c : Call) (n : ℕ) → Memᴰ (c, some n) log → enters_file c ≡ nothing) → History (λ c. c ≡ b) Idle log b'
quiet_idle (begun e) q = begun e
quiet_idle (entered {s = b₁} {s' = b₂} {t = c} {answer = a} h C) q = entered (quiet_idle h (λ d n m. q d n (Memᴰ.tail m))) (quiet_one b₁ b₂ c a (λ n e. q c n (Memᴰ.head (ap (λ w. (c, w)) (sym e)))) C)

-- what a question answered, of the book that it was asked of
record Answered (b : Book) (s : List ℕ) (n : ℕ) : Type 0 where
  holds : Holds (entry_check s b.head b.records b.area done)
  would : Would s b.head b.records b.area n

asked : {b : Book} {s : List ℕ} (n : ℕ) {before after : List ℕ} (r : Result Foretold Refusal) → Questions s b.head b.records b.area before after r → foretold r ≡ some n → Answered b s n
unfolding Holds
asked {b} n (Ok v) J e =
    let w = accepted_holds J in
    let z : v.number ≡ n = cc in
    record { holds = w.0.1; would = (w.1.clean, (w.1.file, subst (λ k. Gets b.head b.records b.area w.1.clean k) z w.1.gets)) }
asked n (Err k) J e = conflict (cc)

-- a commit with that number, lent the same book
commit_accepts : {b b'' : Book} {s : List ℕ} {n : ℕ} {a : Option ℕ} → Answered b s n → CommitsFile b s n a b'' → a ≡ some n
unfolding Holds
commit_accepts {b} {s = s} {n = n} A C =
    let (m, (e, (y, (c, g)))) = must_accept (both_hold (entry_check s b.head b.records b.area done) (check 13 (Would s b.head b.records b.area n) done) A.holds (A.would, tt)) C.call in
    told C.answer C.told e ∙ ap (λ k. some k) (would_one (y, (c, gives_gets g)) A.would)

-- A commit of the same file with the number that a question answered is accepted with it, if only questions and refused calls stand between.
pub commitment : Commitment
commitment = record { accepts = λ {b} {b'} {b''} {s} {n} {log} {a} Q h C. commit_accepts (asked n Q.answer Q.call Q.told) (subst (λ d. CommitsFile d s n a b'') (idle h) C) }
