-- What a making and any entries leave is a registry again, as long as one more answer can be counted; and what an entry answers whose clean file is known and has a place.
-- Assumes nothing.
use Rattle.std.specs.Prelude.{Err, Ok, Result}
use Rattle.trees.specs.declared.refusal.Refusal.{Refusal}
use Rattle.trees.specs.Refusal.{outcome_of, accepted, done, Holds}
use Prim.Native.Nat.{ℕ, zero, suc, ◌+◌, ◌≤◌, ◌<◌}
use native.Mathlib.Omega.{arith}
use mathlib.Core.List.{List, ◌∷◌, ◌++◌}
use mathlib.Core.Logic.{inl, inr, ⊎_elim}
use mathlib.Core.Option.{some, Option}
use mathlib.Core.Path.{◌≡◌, refl, sym, ap, ap₂, subst, ◌∙◌}
use lib.ListN.{length, set, drop, replicate, length-append, length-replicate, length-set, get_or-replicate, get_or-append}
use lib.Seq.{sets, length-sets}
use Rattle.theory.specs.Registry.{begun, entered}
use Rattle.theory.proofs.Terms.{conflict}
use Rattle.trees.specs.Alphabets.{Alphabets}
use Rattle.trees.specs.declared.refusal.Refusal.TheVariants.{FullRegistry}
use Rattle.formats.specs.Sheet.{file, sheet_check}
use Rattle.trees.proofs.Judging.{refuse, pass, accept, accepted_holds, must_accept}
use Rattle.formats.proofs.Sheets.{sheet_counted}
use Rattle.earliest.specs.Answers.{EarliestFile, form_check}
use Rattle.canonical.specs.Answers.{NormalFile}
use Rattle.records.specs.Answers.{CleanFile, Lowest, NotHeld, Room, HasPlace, Known, Added, Gives, Enters}
use Rattle.records.specs.Book.{answers_of, too_many, new_head, counted_head, grown_head, no_record, stock_record, body_record, counted_record, record_at, body, tally, Follow, Unused, Lies, Sound, Chained}
use Rattle.records.specs.declared.book.Head.{Head}
use Rattle.records.specs.declared.book.Record.{Record}
use Rattle.records.specs.Inner.Steps.{Passed}
use Rattle.records.proofs.Chains.{passed_none, passed_more, passed_same, all_passed, follow_passed, follow_places}
use Rattle.records.proofs.Entering.{clean_unique, lowest_unique}
use Rattle.registry.specs.Calls.{Book, MadeWith, EntersFile, Entries, answer_of, Stays}
use Rattle.registry.proofs.Keeping.{Accepted, answered_by, body_of, unchanged_stays, accepted_stays, known_other, known_places, known_stays, added_other, added_record, added_stays, put_there, gives_counts, tally_one}

-- ---- an accepted making
module _ {stock : List ℕ} {b : Book} (M : MadeWith stock b) where
  pub made_head : b.head ≡ new_head (length stock)
  made_head = (accepted_holds M.call).1.head

  pub made_stock : body_of b 0 ≡ stock
  unfolding Holds
  made_stock =
      let w = accepted_holds M.call in
      ap₂ (λ (r : List Record) (l : List ℕ). body r l 0) w.1.records w.1.bodies ∙ put_there M.before.area stock 0 (omega (arith, w.0.1.1.0))

-- ---- one entry
module _ {b : Book} {s : List ℕ} {a : Option ℕ} {b' : Book} (E : EntersFile b s a b') where
  pub entry_stays : Stays b b'
  entry_stays = ⊎_elim unchanged_stays accepted_stays (answered_by E)

-- the alphabets stay
pub stock_stays : {stock : List ℕ} {log : List (List ℕ × Option ℕ)} {b : Book} → Entries stock log b → body_of b 0 ≡ stock
stock_stays (begun M) = made_stock M
stock_stays (entered h E) = (entry_stays E).bodies 0 (omega arith) ∙ stock_stays h

-- ---- a making
-- the records that it leaves: one, and 32 that are unused
abbrev fresh : Record → List Record → List Record
fresh r rs = r ∷ (replicate 32 no_record ++ rs)

module _ (r : Record) (rs : List Record) where
  fresh_many : 33 ≤ length (fresh r rs)
  fresh_many = omega (arith, length-append (replicate 32 no_record) rs, length-replicate 32 no_record)

  fresh_unused : Unused 0 (fresh r rs)
  fresh_unused = record { none = go }
    where
      go : (i : ℕ) → 0 < i → i < 33 → record_at (fresh r rs) i ≡ no_record
      go zero h g = absurd (omega arith)
      go (suc i) h g = get_or-append (replicate 32 no_record) rs no_record i (omega (arith, length-replicate 32 no_record)) ∙ get_or-replicate 32 i no_record no_record (omega arith)

  fresh_follow : r.start ≡ 0 → Follow 0 r.size (fresh r rs)
  fresh_follow e = all_passed (passed_more passed_none refl e) refl (omega arith)

  fresh_each : r.count ≡ 0 → (i : ℕ) → i < 33 → (record_at (fresh r rs) i).count ≡ 0
  fresh_each e zero g = e
  fresh_each e (suc i) g = ap (λ w. w.count) (fresh_unused.none (suc i) (omega arith) g)

  none_counted : r.count ≡ 0 → (k : ℕ) → k ≤ 33 → tally (fresh r rs) k ≡ 0
  unfolding tally
  none_counted e zero g = refl
  none_counted e (suc k) g = omega (arith, none_counted e k (omega arith), fresh_each e k (omega arith))

  fresh_counts : r.count ≡ 0 → tally (fresh r rs) 33 ≡ 0
  fresh_counts e = none_counted e 33 (omega arith)

chained_same : {h h' : Head} {rs rs' : List Record} {area area' : List ℕ} → h' ≡ h → rs' ≡ rs → area' ≡ area → Chained h rs area → Chained h' rs' area'
chained_same {h} {h'} {rs} {rs'} {area} {area'} e f g C = subst (λ w. Chained w rs' area') (sym e) (subst (λ w. Chained h w area') (sym f) (subst (λ w. Chained h rs w) (sym g) C))

pub made_counts : {stock : List ℕ} {b : Book} → MadeWith stock b → (n : ℕ) → n < 33 → (record_at b.records n).count ≡ 0
made_counts {stock} M n g = ap (λ w. (record_at w n).count) (accepted_holds M.call).1.records ∙ fresh_each (stock_record (length stock)) (drop 33 M.before.records) refl n g

made_chained : {stock : List ℕ} {b : Book} → MadeWith stock b → body_of b 0 ≡ stock → Chained b.head b.records b.area
unfolding Holds
made_chained {stock} {b} M e =
    let w = accepted_holds M.call in
    let B = w.1 in
    let r : Record = stock_record (length stock) in
    let rs = drop 33 M.before.records in
    chained_same B.head B.records refl (record {
      lies = record {
        many = fresh_many r rs;
        few = omega arith;
        follow = fresh_follow r rs refl;
        inside = omega (arith, w.0.1.1.0, ap length B.bodies, length-sets M.before.area 0 stock);
        unused = fresh_unused r rs;
        stock = subst Alphabets (sym (ap (λ v. body v b.area 0) (sym B.records) ∙ e)) w.0.1.0;
      };
      counts = record { countable = omega arith; stock = refl; sum = fresh_counts r rs refl };
    })

-- ---- an entry
module _ {h : Head} {rs : List Record} {area x : List ℕ} {n : ℕ} {h' : Head} {rs' : List Record} {area' : List ℕ} (C : Chained h rs area) where
  -- the counts stay sound
  gives_sound : Gives h rs area x n h' rs' area' → 1 ≤ n → n < 33 → answers_of h' ≡ answers_of h + 1 → answers_of h' < too_many → Sound h' rs'
  gives_sound G low high e g =
      let O = gives_counts C G in
      record { countable = g; stock = ap (λ w. w.count) (O.others 0 (λ z. omega arith)) ∙ C.counts.stock; sum = omega (arith, tally_one 33 O high, C.counts.sum) }

  module _ (K : Known h rs area x n h' rs' area') where
    known_follow : Follow h.held h.used rs'
    known_follow = follow_places rs rs' (known_places C K) C.lies.follow

    known_lies : Lies (counted_head h) rs' area'
    known_lies = record {
      many = omega (arith, C.lies.many, ap length K.records, length-set rs n (counted_record (record_at rs n)));
      few = C.lies.few;
      follow = known_follow;
      inside = omega (arith, C.lies.inside, ap length K.bodies);
      unused = record { none = λ i g l. known_other C K i (λ e. omega (arith, K.lowest.high)) ∙ C.lies.unused.none i g l };
      stock = subst Alphabets (sym (known_stays C K 0)) C.lies.stock;
    }

    known_chained : answers_of h' < too_many → Chained h' rs' area'
    known_chained g = chained_same K.head refl refl (record { lies = known_lies; counts = subst (λ w. Sound w rs') K.head (gives_sound (inl K) K.lowest.low (omega (arith, K.lowest.high, C.lies.few)) (ap answers_of K.head) g) })

  module _ (A : Added h rs area x n h' rs' area') where
    added_follow : Follow (h.held + 1) (h.used + length x) rs'
    added_follow =
        let P : Passed rs' (suc h.held) h.used = passed_same (λ i g. added_other C A i (λ e. omega (arith, A.next))) (follow_passed C.lies.follow) in
        let z : suc h.held ≡ n = omega (arith, A.next) in
        all_passed (passed_more P (sym (ap (record_at rs') z ∙ added_record C A)) refl) (omega arith) refl

    added_unused : Unused (h.held + 1) rs'
    added_unused = record { none = λ i g l. added_other C A i (λ e. omega (arith, A.next)) ∙ C.lies.unused.none i (omega arith) l }

    added_chained : answers_of h' < too_many → Chained h' rs' area'
    added_chained g = chained_same A.head refl refl (record {
      lies = record {
        many = omega (arith, C.lies.many, ap length A.records, length-set rs n (body_record h.used (length x)));
        few = omega (arith, A.room.few);
        follow = added_follow;
        inside = omega (arith, A.room.fits, ap length A.bodies, length-sets area h.used x);
        unused = added_unused;
        stock = subst Alphabets (sym (added_stays C A 0 (omega arith))) C.lies.stock;
      };
      counts = subst (λ w. Sound w rs') A.head (gives_sound (inr A) (omega (arith, A.next)) (omega (arith, A.next, A.room.few)) (ap answers_of A.head) g);
    })

gives_area : {h : Head} {rs : List Record} {area x : List ℕ} {n : ℕ} {h' : Head} {rs' : List Record} {area' : List ℕ} → Gives h rs area x n h' rs' area' → length area' ≡ length area
gives_area (inl K) = ap length K.bodies
gives_area {h} {area = area} {x = x} (inr A) = ap length A.bodies ∙ length-sets area h.used x

module _ {b : Book} {s : List ℕ} {a : Option ℕ} {b' : Book} where
  -- the area keeps its length
  pub area_kept : EntersFile b s a b' → length b'.area ≡ length b.area
  area_kept E = ⊎_elim (λ U. ap length U.bodies) (λ A. gives_area A.gives) (answered_by E)

  accepted_chained : Accepted b s a b' → answers_of b'.head < too_many → Chained b'.head b'.records b'.area
  accepted_chained A g = ⊎_elim (λ K. known_chained A.chained K g) (λ N. added_chained A.chained N g) A.gives

-- What a making and any entries leave is a registry, until no more answer can be counted: no entry before is refused by 9.
pub still_chained : {stock : List ℕ} {log : List (List ℕ × Option ℕ)} {b : Book} → Entries stock log b → answers_of b.head < too_many → Chained b.head b.records b.area
still_chained (begun M) g = made_chained M (stock_stays (begun M))
still_chained (entered h E) g = ⊎_elim (λ U. chained_same U.head U.records U.bodies (still_chained h (omega (arith, ap answers_of U.head)))) (λ A. accepted_chained A g) (answered_by E)

-- ---- an entry whose clean file is known
-- the file s is accepted for cleaning under the alphabets, and x is its clean file
pub record CleansTo (stock s x : List ℕ) : Type 0 where
  pub checks : Holds (sheet_check stock s (form_check stock s done))
  pub clean : CleanFile stock s x

-- a file with a normal form and an earliest form within the limits is accepted
pub cleans_to : {stock s x : List ℕ} {k : ℕ} {counts bytes : List ℕ} → NormalFile stock s k counts bytes → file k counts bytes ≡ x → (j : ℕ) × ((c : List ℕ) × ((m : List ℕ) × EarliestFile stock s j c m)) → CleansTo stock s x
unfolding Holds
cleans_to {k} {counts} {bytes} F e E = record { checks = (sheet_counted F.sheet, ((F.states, (F.machine, F.sheet)), (E, tt))); clean = record { states = k; counts = counts; bytes = bytes; normal = F; coded = sym e } }

-- what is not held and has no room has no place
no_place : {stock s x : List ℕ} {h : Head} {rs : List Record} {area : List ℕ} → NotHeld h.held rs area x → (Room h area x → ⊥) → CleanFile stock s x → (y : List ℕ) × (CleanFile stock s y × HasPlace h rs area y) → ⊥
no_place {x} {h} {rs} {area} N R c (y, (d, p)) = ⊎_elim (λ w. N.none w.0 w.1.low w.1.high (w.1.there ∙ clean_unique d c)) (λ r. R (rw (clean_unique d c) at r)) p

pub told : (r : Result ℕ Refusal) {a : Option ℕ} {n : ℕ} → answer_of r ≡ a → outcome_of r ≡ accepted n → a ≡ some n
told (Ok m) {n = n} e f = let z : m ≡ n = cc in sym e ∙ ap (λ k. some k) z
told (Err q) e f = conflict (cc)

pub told_number : (r : Result ℕ Refusal) {n : ℕ} → answer_of r ≡ some n → outcome_of r ≡ accepted n
told_number (Ok m) {n} e = let z : m ≡ n = cc in ap (λ k. accepted k) z
told_number (Err q) e = conflict (cc)

module _ {stock : List ℕ} {b : Book} {s x : List ℕ} {a : Option ℕ} {b' : Book} (C : Chained b.head b.records b.area) (same : body_of b 0 ≡ stock) (k : CleansTo stock s x) (E : EntersFile b s a b') where
  -- it gets a number, if it is held or there is room for it
  placed : HasPlace b.head b.records b.area x → (n : ℕ) × ((a ≡ some n) × Gives b.head b.records b.area x n b'.head b'.records b'.area)
  unfolding Holds
  placed p =
      let k' = subst (λ t. CleansTo t s x) (sym same) k in
      let (n, (e, (y, (c, g)))) = must_accept (C, (k'.checks.0, (k'.checks.1.0, (k'.checks.1.1.0, ((x, (k'.clean, p)), tt))))) E.call in
      (n, (told E.answer E.told e, rw (clean_unique c k'.clean) at g))

  -- it is held: its number is answered
  pub entered_known : {n : ℕ} → Lowest b.head.held b.records b.area x n → (a ≡ some n) × Known b.head b.records b.area x n b'.head b'.records b'.area
  entered_known {n} L = go (placed (inl (n, L)))
    where
      go : (m : ℕ) × ((a ≡ some m) × Gives b.head b.records b.area x m b'.head b'.records b'.area) → (a ≡ some n) × Known b.head b.records b.area x n b'.head b'.records b'.area
      go (m, (e, inl K)) = let z = lowest_unique K.lowest L in (rw z at e, rw z at K)
      go (m, (e, inr A)) = absurd (A.new.none n L.low L.high L.there)

  -- it is not, and there is room: it is added
  pub entered_new : NotHeld b.head.held b.records b.area x → Room b.head b.area x → (a ≡ some (b.head.held + 1)) × Added b.head b.records b.area x (b.head.held + 1) b'.head b'.records b'.area
  entered_new N R = go (placed (inr R))
    where
      go : (m : ℕ) × ((a ≡ some m) × Gives b.head b.records b.area x m b'.head b'.records b'.area) → (a ≡ some (b.head.held + 1)) × Added b.head b.records b.area x (b.head.held + 1) b'.head b'.records b'.area
      go (m, (e, inl K)) = absurd (N.none m K.lowest.low K.lowest.high K.lowest.there)
      go (m, (e, inr A)) = (rw A.next at e, rw A.next at A)

-- ---- there are such calls
pub makes : {stock : List ℕ} (room : ℕ) → Alphabets stock → length stock ≤ room → (b : Book) × (MadeWith stock b × (length b.area ≡ room))
makes {stock} room A h =
    let before : Book = record { head = new_head 0; records = replicate 33 no_record; area = replicate room 0 } in
    let z : length before.area ≡ room = length-replicate room 0 in
    let b : Book = record { head = new_head (length stock); records = fresh (stock_record (length stock)) (drop 33 before.records); area = sets before.area 0 stock } in
    (b, (record { before = before; call = pass (omega (arith, length-replicate 33 no_record)) (pass A (pass (omega arith) (accept (record { head = refl; records = refl; bodies = refl })))) }, length-sets before.area 0 stock ∙ z))

module _ {stock : List ℕ} {b : Book} {s x : List ℕ} (C : Chained b.head b.records b.area) (same : body_of b 0 ≡ stock) (k : CleansTo stock s x) where
  -- an answer n that leaves b', as one of the two ways to give a number says
  gave : (n : ℕ) (b' : Book) → HasPlace b.head b.records b.area x → Gives b.head b.records b.area x n b'.head b'.records b'.area → Enters s b.head b.records b.area b'.head b'.records b'.area (Ok n)
  unfolding Holds
  gave n b' p g =
      let k' = subst (λ t. CleansTo t s x) (sym same) k in
      pass C (pass k'.checks.0 (pass k'.checks.1.0 (pass k'.checks.1.1.0 (pass (x, (k'.clean, p)) (accept (x, (k'.clean, g)))))))

  -- a refusal by 8
  pub enters_full : NotHeld b.head.held b.records b.area x → (Room b.head b.area x → ⊥) → Enters s b.head b.records b.area b.head b.records b.area (Err FullRegistry)
  unfolding Holds
  enters_full N R =
      let k' = subst (λ t. CleansTo t s x) (sym same) k in
      pass C (pass k'.checks.0 (pass k'.checks.1.0 (pass k'.checks.1.1.0 (refuse (no_place N R k'.clean) (refl, refl, refl)))))

  pub enters_known : {n : ℕ} → Lowest b.head.held b.records b.area x n → (b' : Book) × Enters s b.head b.records b.area b'.head b'.records b'.area (Ok n)
  enters_known {n} L =
      let b' : Book = record { head = counted_head b.head; records = set b.records n (counted_record (record_at b.records n)); area = b.area } in
      (b', gave n b' (inl (n, L)) (inl (record { lowest = L; head = refl; records = refl; bodies = refl })))

  pub enters_new : {n : ℕ} → n ≡ b.head.held + 1 → NotHeld b.head.held b.records b.area x → Room b.head b.area x → (b' : Book) × Enters s b.head b.records b.area b'.head b'.records b'.area (Ok n)
  enters_new {n} e N R =
      let b' : Book = record { head = grown_head b.head (length x); records = set b.records n (body_record b.head.used (length x)); area = sets b.area b.head.used x } in
      (b', gave n b' (inr R) (inr (record { new = N; room = R; next = e; head = refl; records = refl; bodies = refl })))
