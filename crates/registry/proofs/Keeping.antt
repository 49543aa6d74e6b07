-- What one call leaves: the bodies that are held stay where they are, and an entry is one of the theory's registry.
-- Assumes nothing.
use Rattle.std.specs.Prelude.{Err, Ok, Result}
use Rattle.trees.specs.declared.refusal.Refusal.{Refusal}
use Prim.Native.Nat.{ℕ, zero, suc, ◌+◌, ◌-◌, ◌≤◌, ◌<◌}
use native.Mathlib.Decide.{ℕ_discrete}
use native.Mathlib.Nat.{add-zero}
use native.Mathlib.Numerals.{add-one}
use native.Mathlib.Omega.{arith}
use mathlib.Core.List.{List, [], ◌∷◌, ◌++◌, append_assoc}
use mathlib.Core.Logic.{◌⊎◌, inl, inr, ⊎_elim, ◌≢◌}
use mathlib.Core.Option.{some, Option, none as nothing}
use mathlib.Core.Path.{◌≡◌, refl, sym, ap, ap₂, subst, ◌∙◌}
use lib.ListN.{length, take, drop, get_elem?, length-drop, take-append-drop}
use lib.Seq.{sets, sets-eq, length-sets, take_at, drop_at, take-append-le, drop-append-le, take-append_seam, length-take-le, get_or-set_same, get_or-set_other}
use Rattle.theory.specs.Registry.{Enter, found, added}
use Rattle.theory.proofs.Lists.{get_lt}
use Rattle.trees.specs.Refusal.{Holds}
use Rattle.trees.proofs.Judging.{accepted_holds, refused_fails}
use Rattle.records.specs.Answers.{Enters, CleanFile, Known, Added, Gives}
use Rattle.records.specs.Book.{answers_of, no_record, body_record, counted_record, record_at, body, tally, Chained}
use Rattle.records.specs.declared.book.Head.{Head}
use Rattle.records.specs.declared.book.Record.{Record}
use Rattle.records.proofs.Chains.{body_end}
use Rattle.registry.specs.Calls.{Book, EntersFile, answer_of, Stays}

-- ---- bytes put into an area
-- a part that ends at `at` or before depends on the bytes before `at` alone
inside : (l m : List ℕ) (at j k : ℕ) → take at l ≡ take at m → at ≤ length l → at ≤ length m → j + k ≤ at → take k (drop j l) ≡ take k (drop j m)
inside l m at j k e hl hm h = front l hl ∙ ap (λ w. take k (drop j w)) e ∙ sym (front m hm)
  where
    front : (l : List ℕ) → at ≤ length l → take k (drop j l) ≡ take k (drop j (take at l))
    front l g =
        let n : length (take at l) ≡ at = length-take-le at l g in
        let d : length (drop j (take at l)) ≡ at - j = length-drop j (take at l) ∙ ap (λ w. w - j) n in
        ap (λ w. take k (drop j w)) (sym (take-append-drop at l)) ∙ ap (take k) (drop-append-le j (take at l) (drop at l) (omega arith)) ∙ take-append-le k (drop j (take at l)) (drop at l) (omega arith)

module _ (area x : List ℕ) (at : ℕ) (fits : at + length x ≤ length area) where
  -- what stands before stays
  before_stays : (j k : ℕ) → j + k ≤ at → take k (drop j (sets area at x)) ≡ take k (drop j area)
  before_stays j k h =
      let n : length (take at area) ≡ at = length-take-le at area (omega arith) in
      inside (sets area at x) area at j k (ap (take at) (sets-eq x area at fits ∙ append_assoc (take at area) x (drop (at + length x) area)) ∙ take_at (take at area) (x ++ drop (at + length x) area) at n) (omega (arith, length-sets area at x)) (omega arith) h

  -- and they stand there
  pub put_there : take (length x) (drop at (sets area at x)) ≡ x
  put_there =
      let n : length (take at area) ≡ at = length-take-le at area (omega arith) in
      ap (λ w. take (length x) (drop at w)) (sets-eq x area at fits ∙ append_assoc (take at area) x (drop (at + length x) area)) ∙ ap (take (length x)) (drop_at (take at area) (x ++ drop (at + length x) area) at n) ∙ take-append_seam x (drop (at + length x) area)

-- ---- what an entry leaves
-- refused: all is as it was
pub record Unchanged (b : Book) (a : Option ℕ) (b' : Book) : Type 0 where
  pub answer : a ≡ nothing
  pub head : b'.head ≡ b.head
  pub records : b'.records ≡ b.records
  pub bodies : b'.area ≡ b.area

-- accepted: the clean file x has the number n
pub record Accepted (b : Book) (s : List ℕ) (a : Option ℕ) (b' : Book) : Type 0 where
  pub number : ℕ
  pub answer : a ≡ some number
  pub file : List ℕ
  pub chained : Chained b.head b.records b.area
  pub clean : CleanFile (body b.records b.area 0) s file
  pub gives : Gives b.head b.records b.area file number b'.head b'.records b'.area

module _ {b : Book} {s : List ℕ} {a : Option ℕ} {b' : Book} where
  answered : (r : Result ℕ Refusal) → Enters s b.head b.records b.area b'.head b'.records b'.area r → answer_of r ≡ a → Unchanged b a b' ⊎ Accepted b s a b'
  unfolding Holds
  answered (Ok n) J e = let w = accepted_holds J in inr (record { number = n; answer = sym e; file = w.1.0; chained = w.0.0; clean = w.1.1.0; gives = w.1.1.1 })
  answered (Err r) J e = let w = (refused_fails J).1 in inl (record { answer = sym e; head = w.0; records = w.1; bodies = w.2 })

  pub answered_by : EntersFile b s a b' → Unchanged b a b' ⊎ Accepted b s a b'
  answered_by E = answered E.answer E.call E.told

-- the body with a number
abbrev pub body_of : Book → ℕ → List ℕ
body_of b n = body b.records b.area n

-- ---- what a number that is given changes: its own record
module _ {h : Head} {rs : List Record} {area x : List ℕ} {n : ℕ} {h' : Head} {rs' : List Record} {area' : List ℕ} (C : Chained h rs area) where
  -- an answer is counted in the record, and nothing else in it changes
  module _ (K : Known h rs area x n h' rs' area') where
    pub known_record : record_at rs' n ≡ counted_record (record_at rs n)
    known_record = ap (λ w. record_at w n) K.records ∙ get_or-set_same rs n (counted_record (record_at rs n)) no_record (omega (arith, K.lowest.high, C.lies.few, C.lies.many))

    pub known_other : (m : ℕ) → m ≢ n → record_at rs' m ≡ record_at rs m
    known_other m o = ap (λ w. record_at w m) K.records ∙ get_or-set_other rs n m (counted_record (record_at rs n)) no_record o

    pub known_places : (m : ℕ) → ((record_at rs' m).start ≡ (record_at rs m).start) × ((record_at rs' m).size ≡ (record_at rs m).size)
    known_places m = elim (ℕ_discrete m n) [
      | yes e ↦ (ap (λ i. (record_at rs' i).start) e ∙ ap (λ w. w.start) known_record ∙ sym (ap (λ i. (record_at rs i).start) e), ap (λ i. (record_at rs' i).size) e ∙ ap (λ w. w.size) known_record ∙ sym (ap (λ i. (record_at rs i).size) e))
      | no o ↦ (ap (λ w. w.start) (known_other m o), ap (λ w. w.size) (known_other m o))
    ]

    pub known_stays : (m : ℕ) → body rs' area' m ≡ body rs area m
    known_stays m = ap₂ (λ (k j : ℕ). take k (drop j area')) (known_places m).1 (known_places m).0 ∙ ap (λ l. take (record_at rs m).size (drop (record_at rs m).start l)) K.bodies

-- ---- an added body
module _ {h : Head} {rs : List Record} {area x : List ℕ} {n : ℕ} {h' : Head} {rs' : List Record} {area' : List ℕ} (C : Chained h rs area) (A : Added h rs area x n h' rs' area') where
  -- the other records stay, and the new one tells where x stands
  pub added_other : (m : ℕ) → m ≢ n → record_at rs' m ≡ record_at rs m
  added_other m o = ap (λ w. record_at w m) A.records ∙ get_or-set_other rs n m (body_record h.used (length x)) no_record o

  pub added_record : record_at rs' n ≡ body_record h.used (length x)
  added_record = ap (λ w. record_at w n) A.records ∙ get_or-set_same rs n (body_record h.used (length x)) no_record (omega (arith, A.next, A.room.few, C.lies.many))

  pub added_stays : (m : ℕ) → m ≤ h.held → body rs' area' m ≡ body rs area m
  added_stays m g =
      ap₂ (λ (w : Record) (l : List ℕ). take w.size (drop w.start l)) (added_other m (λ e. omega (arith, A.next))) A.bodies
      ∙ before_stays area x h.used A.room.fits (record_at rs m).start (record_at rs m).size (body_end C.lies.follow m g)

  pub added_there : body rs' area' n ≡ x
  added_there = ap₂ (λ (w : Record) (l : List ℕ). take w.size (drop w.start l)) added_record A.bodies ∙ put_there area x h.used A.room.fits

-- ---- bodies stay, and there are never fewer
pub stays_refl : {b : Book} → Stays b b
stays_refl = record { held = omega arith; bodies = λ m g. refl }

pub stays_trans : {b b' b'' : Book} → Stays b b' → Stays b' b'' → Stays b b''
stays_trans S S' = record { held = omega (arith, S.held, S'.held); bodies = λ m g. S'.bodies m (omega (arith, S.held)) ∙ S.bodies m g }

pub unchanged_stays : {b : Book} {a : Option ℕ} {b' : Book} → Unchanged b a b' → Stays b b'
unchanged_stays U = record { held = omega (arith, ap (λ w. w.held) U.head); bodies = λ m g. ap₂ (λ (r : List Record) (l : List ℕ). body r l m) U.records U.bodies }

module _ {b : Book} {s : List ℕ} {a : Option ℕ} {b' : Book} where
  pub accepted_stays : Accepted b s a b' → Stays b b'
  accepted_stays A =
      ⊎_elim
      (λ k. record { held = omega (arith, ap (λ w. w.held) k.head); bodies = λ m g. known_stays A.chained k m })
      (λ k. record { held = omega (arith, ap (λ w. w.held) k.head); bodies = added_stays A.chained k })
      A.gives

  -- the file entered has the number answered
  pub accepted_there : (A : Accepted b s a b') → (1 ≤ A.number) × (A.number ≤ b'.head.held) × (body_of b' A.number ≡ A.file)
  accepted_there A =
      ⊎_elim
      (λ k. (k.lowest.low, omega (arith, k.lowest.high, ap (λ w. w.held) k.head), known_stays A.chained k A.number ∙ k.lowest.there))
      (λ k. (omega (arith, k.next), omega (arith, k.next, ap (λ w. w.held) k.head), added_there A.chained k))
      A.gives

  -- an answer is counted
  pub accepted_counted : (A : Accepted b s a b') → answers_of b'.head ≡ suc (answers_of b.head)
  accepted_counted A = ⊎_elim (λ k. ap answers_of k.head ∙ add-one (answers_of b.head)) (λ k. ap answers_of k.head ∙ add-one (answers_of b.head)) A.gives

-- one record, that of the number answered, counts one more, and no other changes
pub record CountsOne (rs rs' : List Record) (n : ℕ) : Type 0 where
  pub here : (record_at rs' n).count ≡ suc (record_at rs n).count
  pub others : (m : ℕ) → m ≢ n → record_at rs' m ≡ record_at rs m

pub gives_counts : {h : Head} {rs : List Record} {area x : List ℕ} {n : ℕ} {h' : Head} {rs' : List Record} {area' : List ℕ} → Chained h rs area → Gives h rs area x n h' rs' area' → CountsOne rs rs' n
gives_counts {rs = rs} {n = n} C (inl K) = record { here = ap (λ w. w.count) (known_record C K) ∙ add-one (record_at rs n).count; others = known_other C K }
gives_counts {rs = rs} {n = n} C (inr A) = record { here = ap (λ w. w.count) (added_record C A) ∙ ap suc (sym (ap (λ w. w.count) (C.lies.unused.none n (omega (arith, A.next)) (omega (arith, A.next, A.room.few))))); others = added_other C A }

-- so their sum rises by one
counts_same : (rs rs' : List Record) (k : ℕ) → ((m : ℕ) → m < k → record_at rs' m ≡ record_at rs m) → tally rs' k ≡ tally rs k
unfolding tally
counts_same rs rs' zero f = refl
counts_same rs rs' (suc k) f = ap₂ ◌+◌ (counts_same rs rs' k (λ m l. f m (omega arith))) (ap (λ w. w.count) (f k (omega arith)))

pub tally_one : {rs rs' : List Record} {n : ℕ} (k : ℕ) → CountsOne rs rs' n → n < k → tally rs' k ≡ suc (tally rs k)
unfolding tally
tally_one zero O l = absurd (omega arith)
tally_one {rs} {rs'} {n} (suc k) O l = elim (ℕ_discrete n k) [
  | yes e ↦ let f : (m : ℕ) → m < k → record_at rs' m ≡ record_at rs m = λ m g. O.others m (λ z. omega arith) in omega (arith, counts_same rs rs' k f, ap (λ i. (record_at rs' i).count) (sym e), O.here, ap (λ i. (record_at rs i).count) e)
  | no o ↦ let g : n < k = omega (arith, o) in let d : (k ≡ n → ⊥) = λ z. o (sym z) in omega (arith, tally_one k O g, ap (λ w. w.count) (O.others k d))
]

-- ---- the items: the bodies from 1 on
unfoldable pub items : List Record → List ℕ → ℕ → ℕ → List (List ℕ)
items rs area k zero = []
items rs area k (suc n) = body rs area k ∷ items rs area (suc k) n

abbrev pub items_of : Book → List (List ℕ)
items_of b = items b.records b.area 1 b.head.held

module _ (rs : List Record) (area : List ℕ) where
  items_length : (k n : ℕ) → length (items rs area k n) ≡ n
  unfolding items
  items_length k zero = refl
  items_length k (suc n) = ap suc (items_length (suc k) n)

  items_get : (k n j : ℕ) → j < n → get_elem? (items rs area k n) j ≡ some (body rs area (k + j))
  unfolding items
  items_get k zero j h = absurd (omega arith)
  items_get k (suc n) zero h = ap (λ i. some (body rs area i)) (sym (add-zero k))
  items_get k (suc n) (suc j) h = let z : suc k + j ≡ k + suc j = omega arith in items_get (suc k) n j (omega arith) ∙ ap (λ i. some (body rs area i)) z

  items_snoc : (k n : ℕ) → items rs area k (suc n) ≡ items rs area k n ++ body rs area (k + n) ∷ []
  unfolding items
  items_snoc k zero = ap (λ i. body rs area i ∷ []) (sym (add-zero k))
  items_snoc k (suc n) = let z : suc k + n ≡ k + suc n = omega arith in ap (λ l. body rs area k ∷ l) (items_snoc (suc k) n ∙ ap (λ i. items rs area (suc k) n ++ body rs area i ∷ []) z)

  -- what stands at a number is that body
  items_are : {x : List ℕ} (n j : ℕ) → get_elem? (items rs area 1 n) j ≡ some x → (j < n) × (body rs area (1 + j) ≡ x)
  items_are {x} n j e =
      let h : j < n = omega (arith, get_lt (items rs area 1 n) j e, items_length 1 n) in
      let g : ◌≡◌ {A = Option (List ℕ)} (some (body rs area (1 + j))) (some x) = sym (items_get 1 n j h) ∙ e in
      (h, cc)

items_same : (rs rs' : List Record) (area area' : List ℕ) (k n : ℕ) → ((m : ℕ) → k ≤ m → m < k + n → body rs' area' m ≡ body rs area m) → items rs' area' k n ≡ items rs area k n
unfolding items
items_same rs rs' area area' k zero f = refl
items_same rs rs' area area' k (suc n) f = ap₂ ◌∷◌ (f k (omega arith) (omega arith)) (items_same rs rs' area area' (suc k) n (λ m g h. f m (omega arith) (omega arith)))

module _ {b b' : Book} (S : Stays b b') where
  -- the items of the earlier book, in the later one
  kept_items : items b'.records b'.area 1 b.head.held ≡ items_of b
  kept_items = items_same b.records b'.records b.area b'.area 1 b.head.held (λ m g h. S.bodies m (omega arith))

  pub same_items : b'.head.held ≡ b.head.held → items_of b' ≡ items_of b
  same_items e = ap (items b'.records b'.area 1) e ∙ kept_items

  pub more_items : {x : List ℕ} → b'.head.held ≡ b.head.held + 1 → body_of b' (b.head.held + 1) ≡ x → items_of b' ≡ items_of b ++ x ∷ []
  more_items {x} e f =
      let z : 1 + b.head.held ≡ b.head.held + 1 = omega arith in
      ap (items b'.records b'.area 1) (e ∙ add-one b.head.held) ∙ items_snoc b'.records b'.area 1 b.head.held ∙ ap₂ (λ l y. l ++ y ∷ []) kept_items (ap (body_of b') z ∙ f)

-- an accepted entry is one of the theory's, whose numbers count from 0
pub accepted_enters : {b : Book} {s : List ℕ} {a : Option ℕ} {b' : Book} (A : Accepted b s a b') (k : ℕ) → A.number ≡ suc k → Enter (items_of b) A.file k (items_of b')
accepted_enters {b} {s} {a} {b'} A k e =
    ⊎_elim
    (λ w.
    let z : 1 + k ≡ A.number = omega arith in
    let g : get_elem? (items_of b) k ≡ some A.file = items_get b.records b.area 1 b.head.held k (omega (arith, w.lowest.high)) ∙ ap (λ y. some y) (ap (body_of b) z ∙ w.lowest.there) in
    subst (λ R. Enter (items_of b) A.file k R) (sym (same_items (accepted_stays A) (ap (λ v. v.held) w.head))) (found g))
    (λ w.
    let z : length (items_of b) ≡ k = items_length b.records b.area 1 b.head.held ∙ omega (arith, w.next) in
    let none : (j : ℕ) → get_elem? (items_of b) j ≢ some A.file = λ j q. let p = items_are b.records b.area b.head.held j q in w.new.none (1 + j) (omega arith) (omega (arith, p.0)) p.1 in
    let m : items_of b' ≡ items_of b ++ A.file ∷ [] = more_items (accepted_stays A) (ap (λ v. v.held) w.head) (ap (body_of b') (sym w.next) ∙ (accepted_there A).2) in
    subst (λ R. Enter (items_of b) A.file k R) (sym m) (subst (λ i. Enter (items_of b) A.file i (items_of b ++ A.file ∷ [])) z (added none)))
    A.gives
