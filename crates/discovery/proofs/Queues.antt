-- Laws of the states met: entering a state, writing letters as marks, and the letters of a term.
-- Assumes nothing.
use Rattle.std.specs.Prelude.{None}
use Prim.Native.Nat.{ℕ, suc, ◌+◌, ◌-◌, ◌*◌, ◌/◌, ◌%◌, ◌≤◌, ◌<◌}
use native.Mathlib.Decide.{ℕ_discrete, dec_lt}
use native.Mathlib.Numerals.{add-one}
use native.Mathlib.Omega.{arith}
use mathlib.Core.Path.{◌≡◌, refl, sym, ap, ap₂, ◌∙◌}
use mathlib.Core.Logic.{◌≢◌, ◌⊎◌, inl, inr, by_cases, ⊎_elim}
use mathlib.Core.Bool.{Bool, true, false}
use mathlib.Core.List.{List, [], ◌∷◌, ◌++◌}
use mathlib.Core.Option.{some, some-injective}
use borrow.Author.Tests.{lt-ltb, le-ltb, ltb-false}
use lib.Dec.{ltb}
use lib.ListN.{length, get_or, get_elem?, take, set, replicate, length-set, length-replicate, length-append, get_or-append, length-map}
use lib.Seq.{sets, get_or-set_same, get_or-set_other, take-suc, take-suc-set, length-take-le, get_or-append-add}
use Rattle.theory.specs.Inner.ReadCalls.{ReadCalls, no_call, one_call}
use Rattle.theory.specs.Registry.{found, added}
use Rattle.theory.specs.Term.{Term, var, node, Terms, none, more, bind, binds, mapT}
use Rattle.theory.specs.Transducer.{renamed}
use Rattle.theory.proofs.Discovery.{calls_of, calls_in}
use Rattle.theory.proofs.Pigeon.{pigeon}
use Rattle.theory.proofs.Terms.{conflict}
use Rattle.trees.specs.Code.{Ranked, AllRanked, Call, preorder, preorders, marks}
use Rattle.formats.specs.Sheet.{mark_bytes}
use Rattle.theory.specs.Inner.Forests.{letters, letters_all}
use Rattle.trees.specs.Inner.Decode.{unknown}
use Rattle.trees.proofs.Codes.{word_length}
use Rattle.formats.proofs.Cuts.{length-mark_bytes, mark_bytes-append}
use Rattle.formats.proofs.Writing.{sets-append}
use Rattle.discovery.specs.Inner.Letters.{call_letter, spelt}
use Rattle.discovery.specs.Inner.Queue.{Queue, Entered, met_of, Copied, mark_if, mark_by, marks_by, Letter, Sayable, call_if, letter_calls}
use Rattle.discovery.specs.Inner.Bodies.{AddsBody}

-- ---- an element of the beginning of a list
-- each state met stands in the list of them
pub get_take : (l : List ℕ) (n i : ℕ) → i < n → i < length l → get_elem? (take n l) i ≡ some (get_or l i 0)
get_take [] n i h g = absurd (omega arith)
get_take (x ∷ l) ℕ.zero i h g = absurd (omega arith)
get_take (x ∷ l) (suc n) ℕ.zero h g = refl
get_take (x ∷ l) (suc n) (suc i) h g = get_take l n i (omega arith) (omega arith)

-- and nothing else does
pub take_get : (l : List ℕ) (n i : ℕ) {x : ℕ} → get_elem? (take n l) i ≡ some x → (i < n) × (get_or l i 0 ≡ x)
take_get [] ℕ.zero i e = conflict (cc)
take_get [] (suc n) i e = conflict (cc)
take_get (y ∷ l) ℕ.zero i e = conflict (cc)
take_get (y ∷ l) (suc n) ℕ.zero e = (omega arith, some-injective _ _ e)
take_get (y ∷ l) (suc n) (suc i) e = let r = take_get l n i e in (omega arith, r.1)

-- ---- the states met
getD_zero : (n i : ℕ) → ◌≡◌ {A = ℕ} (get_or (replicate n 0) i 0) 0
getD_zero ℕ.zero i = refl
getD_zero (suc n) ℕ.zero = refl
getD_zero (suc n) (suc i) = getD_zero n i

-- none at first
pub queue_none : (n w : ℕ) → n ≡ 192 → Queue (replicate n 0) (replicate w 0) 0
queue_none n w e = record {
  long = omega (arith, length-replicate {A = ℕ} n 0);
  few = omega arith;
  small = λ k l. absurd (omega arith);
  number = λ k l. absurd (omega arith);
  back = λ c l. absurd (omega (arith, getD_zero w c));
}

module _ {list place : List ℕ} {met : ℕ} (Q : Queue list place met) where
  -- there are no more of them than places, since no two have one place
  pub queue_few : met ≤ length place
  queue_few = pigeon (length place) met (λ k l. get_or list k 0) (λ k l. Q.small k l) (λ i j k l e. omega (arith, Q.number i k, Q.number j l, ap (λ c. get_or place c 0) e))

  -- a state that has a place stands there
  pub enter_old : (c : ℕ) → 0 < get_or place c 0 → Entered list place met c list place met
  enter_old c h =
      let b = Q.back c h in
      record {
        queue = Q;
        wide = refl;
        few = omega arith;
        there = h;
        kept = λ d g. refl;
        entered = (get_or place c 0 - 1, found (get_take list met (get_or place c 0 - 1) (omega arith) (omega (arith, Q.long, Q.few)) ∙ ap some b.1));
      }

  -- a state that has none is not among the states met
  not_met : (c : ℕ) → get_or place c 0 ≡ 0 → (k : ℕ) → k < met → get_or list k 0 ≢ c
  not_met c z k h e = let p : get_or place c 0 ≡ k + 1 = ap (λ d. get_or place d 0) (sym e) ∙ Q.number k h in omega arith

  module _ (c : ℕ) (few : met < 192) (small : c < length place) (new : get_or place c 0 ≡ 0) where
    last_list : get_or (set list met c) met 0 ≡ c
    last_list = get_or-set_same list met c 0 (omega (arith, Q.long))

    old_list : (k : ℕ) → k < met → get_or (set list met c) k 0 ≡ get_or list k 0
    old_list k h = get_or-set_other list met k c 0 (λ e. omega arith)

    last_place : get_or (set place c (met + 1)) c 0 ≡ met + 1
    last_place = get_or-set_same place c (met + 1) 0 small

    old_place : (d : ℕ) → d ≢ c → get_or (set place c (met + 1)) d 0 ≡ get_or place d 0
    old_place d n = get_or-set_other place c d (met + 1) 0 n

    new_small : (k : ℕ) → k < met + 1 → get_or (set list met c) k 0 < length (set place c (met + 1))
    new_small k h = rw length-set (by_cases (ℕ_discrete k met)
        (λ e. rw (e, last_list) small)
        (λ n. rw (old_list k (omega arith)) (Q.small k (omega arith))))

    new_number : (k : ℕ) → k < met + 1 → get_or (set place c (met + 1)) (get_or (set list met c) k 0) 0 ≡ k + 1
    new_number k h = by_cases (ℕ_discrete k met)
        (λ e. rw (e, last_list) last_place)
        (λ n. let l : k < met = omega arith in rw (old_list k l) (old_place (get_or list k 0) (not_met c new k l) ∙ Q.number k l))

    new_back : (d : ℕ) → 0 < get_or (set place c (met + 1)) d 0 → (get_or (set place c (met + 1)) d 0 ≤ met + 1) × (get_or (set list met c) (get_or (set place c (met + 1)) d 0 - 1) 0 ≡ d)
    new_back d h = by_cases (ℕ_discrete d c)
        (λ e. let z : met + 1 - 1 ≡ met = omega arith in rw (e, last_place, z) (omega arith, last_list))
        (λ n. let b = Q.back d (rw (old_place d n) at h) in rw (old_place d n) (omega arith, old_list (get_or place d 0 - 1) (omega (arith, rw (old_place d n) at h)) ∙ b.1))

    new_kept : (d : ℕ) → 0 < get_or place d 0 → get_or (set place c (met + 1)) d 0 ≡ get_or place d 0
    new_kept d h = old_place d (λ e. omega (arith, ap (λ x. get_or place x 0) e))

    new_met : met_of (set list met c) (met + 1) ≡ met_of list met ++ c ∷ []
    new_met = ap (λ k. take k (set list met c)) (add-one met) ∙ take-suc-set list met c (omega (arith, Q.long))

    -- it gets the next place
    pub enter_new : Entered list place met c (set list met c) (set place c (met + 1)) (met + 1)
    enter_new = record {
      queue = record {
        long = rw length-set Q.long;
        few = omega arith;
        small = new_small;
        number = new_number;
        back = new_back;
      };
      wide = length-set place c (met + 1);
      few = omega arith;
      there = rw last_place (omega arith);
      kept = new_kept;
      entered = (length (met_of list met), rw new_met (added (λ k e. let g = take_get list met k e in not_met c new k g.0 g.1)));
    }

-- ---- one letter as a mark
-- the child of a call fits a byte
pub child_small : {w : ℕ} (x : ℕ) → Sayable w (x ∷ []) → x / 65536 < 256
child_small x S = ⊎_elim (λ g. omega arith) (λ g. omega arith) (S 0 (omega arith))

-- the state called has a place
pub state_small : {w : ℕ} (x : ℕ) → Sayable w (x ∷ []) → 65536 ≤ x → x % 65536 < w
state_small x S h = ⊎_elim (λ g. absurd (omega arith)) (λ g. g.2) (S 0 (omega arith))

-- a symbol is written as it is
pub copied_symbol : {list place out : List ℕ} {met at : ℕ} (x : ℕ) → Queue list place met → x < 65536 → Copied (x ∷ []) list place met out at list place met (set (set out (2 * at) 0) (2 * at + 1) x)
unfolding letter_calls mark_bytes mark_by
copied_symbol {list} {place} {out} {met} {at} x Q h = record {
  queue = Q;
  wide = refl;
  few = omega arith;
  read = rw (lt-ltb x 65536 h) no_call;
  kept = λ d g. refl;
  told = λ j l g. let z : j ≡ 0 = omega arith in absurd (let k = rw z at g in omega arith);
  wrote = rw (lt-ltb x 65536 h, add-one);
}

-- a call is written by the place of the state that was entered
pub copied_call : {list place list' place' out : List ℕ} {met met' at : ℕ} (x : ℕ) → Entered list place met (x % 65536) list' place' met' → 65536 ≤ x → Copied (x ∷ []) list place met out at list' place' met' (set (set out (2 * at) (x / 65536)) (2 * at + 1) (get_or place' (x % 65536) 0 - 1))
unfolding letter_calls mark_bytes mark_by
copied_call {list} {place} {list'} {place'} {out} {met} {met'} {at} x E h = record {
  queue = E.queue;
  wide = E.wide;
  few = E.few;
  read = rw (le-ltb x 65536 h) (one_call E.entered.1 no_call);
  kept = E.kept;
  told = λ j l g. let z : j ≡ 0 = omega arith in rw z E.there;
  wrote = rw (le-ltb x 65536 h, add-one);
}

-- ---- letters behind letters
calls_append : {es fs : List (ℕ × ℕ)} {L L' L'' : List ℕ} → ReadCalls es L L' → ReadCalls fs L' L'' → ReadCalls (es ++ fs) L L''
calls_append no_call r = r
calls_append (one_call x q) r = one_call x (calls_append q r)

call_if-append : (t : Bool) (x : ℕ) {cs : List (ℕ × ℕ)} (es fs : List (ℕ × ℕ)) → cs ≡ es ++ fs → call_if t x cs ≡ call_if t x es ++ fs
call_if-append true x es fs e = e
call_if-append false x es fs e = ap (◌∷◌ (x / 65536, x % 65536)) e

letter_calls-append : (a b : List ℕ) → letter_calls (a ++ b) ≡ letter_calls a ++ letter_calls b
unfolding letter_calls
letter_calls-append [] b = refl
letter_calls-append (x ∷ a) b = call_if-append (ltb x 65536) x (letter_calls a) (letter_calls b) (letter_calls-append a b)

marks_by-append : (place a b : List ℕ) → marks_by place (a ++ b) ≡ marks_by place a ++ marks_by place b
marks_by-append place [] b = refl
marks_by-append place (x ∷ a) b = ap (◌∷◌ (mark_by place x)) (marks_by-append place a b)

-- marks stay where the places of the states called stay
pub marks_kept : (s : List ℕ) (place place' : List ℕ) → ((d : ℕ) → 0 < get_or place d 0 → get_or place' d 0 ≡ get_or place d 0) → ((j : ℕ) → j < length s → 65536 ≤ get_or s j 0 → 0 < get_or place (get_or s j 0 % 65536) 0) → marks_by place s ≡ marks_by place' s
unfolding mark_by
marks_kept [] place place' k t = refl
marks_kept (x ∷ s) place place' k t = ap₂ ◌∷◌ (one_kept (ltb x 65536) refl) (marks_kept s place place' k (λ j h g. t (suc j) (omega arith) g))
  where
    one_kept : (b : Bool) → ltb x 65536 ≡ b → mark_if b place x ≡ mark_if b place' x
    one_kept true e = refl
    one_kept false e = rw (k (x % 65536) (t 0 (omega arith) (ltb-false x 65536 e)))

module _ {a b list place out list' place' out' list'' place'' out'' : List ℕ} {met at met' met'' : ℕ} (A : Copied a list place met out at list' place' met' out') (B : Copied b list' place' met' out' (at + length a) list'' place'' met'' out'') where
  more_told : (j : ℕ) → j < length (a ++ b) → 65536 ≤ get_or (a ++ b) j 0 → 0 < get_or place'' (get_or (a ++ b) j 0 % 65536) 0
  more_told j h g = by_cases (dec_lt j (length a))
      (λ l. let e = get_or-append a b 0 j l in
      let w = A.told j l (rw e at g) in rw (e, B.kept (get_or a j 0 % 65536) w) w)
      (λ n. let z : j ≡ length a + (j - length a) = omega arith in
      let e : get_or (a ++ b) j 0 ≡ get_or b (j - length a) 0 = ap (λ i. get_or (a ++ b) i 0) z ∙ get_or-append-add a b (j - length a) 0 in
      rw e (B.told (j - length a) (omega (arith, length-append a b)) (rw e at g)))

  more_wrote : out'' ≡ sets out (2 * at) (mark_bytes (marks_by place'' (a ++ b)))
  more_wrote =
      let v = mark_bytes (marks_by place'' a) in
      let w = mark_bytes (marks_by place'' b) in
      let e : 2 * at + length v ≡ 2 * (at + length a) = omega (arith, length-mark_bytes (marks_by place'' a), length-map a (mark_by place'')) in
      let o : out' ≡ sets out (2 * at) v = A.wrote ∙ ap (λ m. sets out (2 * at) (mark_bytes m)) (marks_kept a place' place'' B.kept A.told) in
      B.wrote ∙ ap₂ (λ l k. sets l k w) o (sym e) ∙ sym (ap (sets out (2 * at)) (ap mark_bytes (marks_by-append place'' a b) ∙ mark_bytes-append (marks_by place'' a) (marks_by place'' b)) ∙ sets-append v w out (2 * at))

  -- what was copied behind other letters was copied with them
  pub copied_more : Copied (a ++ b) list place met out at list'' place'' met'' out''
  copied_more = record {
    queue = B.queue;
    wide = B.wide ∙ A.wide;
    few = omega (arith, A.few, B.few, length-append a b);
    read = rw letter_calls-append (calls_append A.read B.read);
    kept = λ d h. let e = A.kept d h in B.kept d (rw e h) ∙ e;
    told = more_told;
    wrote = more_wrote;
  }

-- ---- the letters one by one
-- no letter is copied yet
pub copied_none : {list place out : List ℕ} {met at : ℕ} (s : List ℕ) → Queue list place met → Copied (take 0 s) list place met out at list place met out
unfolding letter_calls mark_bytes
copied_none s Q = record {
  queue = Q;
  wide = refl;
  few = omega arith;
  read = no_call;
  kept = λ d g. refl;
  told = λ j l g. absurd (omega arith);
  wrote = refl;
}

module _ {list place out list' place' out' : List ℕ} {met at met' : ℕ} (s : List ℕ) (j : ℕ) (C : Copied (take j s) list place met out at list' place' met' out') where
  -- one letter more
  pub copied_next : {list'' place'' out'' : List ℕ} {met'' x : ℕ} → j < length s → x ≡ get_or s j 0 → Copied (x ∷ []) list' place' met' out' (at + j) list'' place'' met'' out'' → Copied (take (j + 1) s) list place met out at list'' place'' met'' out''
  copied_next {x = x} h e D =
      let l : length (take j s) ≡ j = length-take-le j s (omega arith) in
      let t : take (j + 1) s ≡ take j s ++ x ∷ [] = ap (λ k. take k s) (add-one j) ∙ take-suc s j 0 h ∙ rw e in
      rw t (copied_more C (rw l D))

-- ---- a body more
-- it is over the limits
pub adds_over : {s starts out list place starts' out' list' place' : List ℕ} {b met : ℕ} → (64 < length s) ⊎ (8192 < get_or starts b 0 + length s) ⊎ ((L : List ℕ) × (ReadCalls (letter_calls s) (met_of list met) L × (128 < length L))) → AddsBody s b starts out list place met starts' out' list' place' None
adds_over o = record {
  over = λ e. o;
  short = λ n e. conflict (cc);
  queue = λ n e. conflict (cc);
  wide = λ n e. conflict (cc);
  read = λ n e. conflict (cc);
  kept = λ n e. conflict (cc);
  told = λ n e. conflict (cc);
  wrote = λ n e. conflict (cc);
  ended = λ n e. conflict (cc);
}

module _ {s out list place out' list' place' : List ℕ} {met at n : ℕ} (C : Copied s list place met out at list' place' n out') where
  -- there are more states than a file has
  pub over_states : 128 < n → (L : List ℕ) × (ReadCalls (letter_calls s) (met_of list met) L × (128 < length L))
  over_states h = (met_of list' n, (C.read, omega (arith, length-take-le n list' (omega (arith, C.queue.few, C.queue.long)))))

-- ---- the letters of a term
-- a call is got back from its letter
call_parts : {w r : ℕ} → w ≤ 65536 → (e : ℕ × ℕ) → Call w r e → (call_letter e / 65536 ≡ e.0) × (call_letter e % 65536 ≡ e.1)
call_parts narrow e c = (omega (arith, c.state), omega (arith, c.state))

-- the letters of some terms
abbrev spelts : Terms (ℕ × ℕ) → List ℕ
spelts ts = preorders (λ e. call_letter e ∷ []) (λ k. k) ts

sayable_cons : {w : ℕ} (x : ℕ) (s : List ℕ) → Letter w x → Sayable w s → Sayable w (x ∷ s)
sayable_cons x s h S ℕ.zero l = h
sayable_cons x s h S (suc j) l = S j (omega arith)

sayable_append : {w : ℕ} (a b : List ℕ) → Sayable w a → Sayable w b → Sayable w (a ++ b)
sayable_append [] b S T = T
sayable_append (x ∷ a) b S T = sayable_cons x (a ++ b) (S 0 (omega arith)) (sayable_append a b (λ j l. S (suc j) (omega arith)) T)

module _ (outs : List ℕ) {w : ℕ} (narrow : w ≤ 65536) (r : ℕ) (few : length outs ≤ 64) where
  mutual
    unfolding preorder letter_calls calls_of Ranked

    -- the calls among its letters are its calls
    pub calls_spelt : (t : Term (ℕ × ℕ)) → Ranked (Call w r) outs t → letter_calls (spelt t) ≡ calls_of t
    calls_spelt (var e) h = let p = call_parts narrow e h in rw (le-ltb (call_letter e) 65536 (omega (arith, h.from_one)), p.0, p.1)
    calls_spelt (node k ts) h = rw (lt-ltb k 65536 (omega (arith, h.0))) (calls_spelts ts h.2)

    calls_spelts : (ts : Terms (ℕ × ℕ)) → AllRanked (Call w r) outs ts → letter_calls (spelts ts) ≡ calls_in ts
    calls_spelts none h = refl
    calls_spelts (more t ts) h = letter_calls-append (spelt t) (spelts ts) ∙ ap₂ ◌++◌ (calls_spelt t h.0) (calls_spelts ts h.1)

  mutual
    unfolding preorder mark_by Ranked renamed mapT bind

    -- as marks, with the states by their places, they are the marks of the term with its states renamed so
    pub marks_renamed : (place : List ℕ) (t : Term (ℕ × ℕ)) → Ranked (Call w r) outs t → marks_by place (spelt t) ≡ marks (renamed (λ c. get_or place c 0 - 1) t)
    marks_renamed place (var e) h = let p = call_parts narrow e h in rw (le-ltb (call_letter e) 65536 (omega (arith, h.from_one)), p.0, p.1)
    marks_renamed place (node k ts) h = rw (lt-ltb k 65536 (omega (arith, h.0))) (ap (◌∷◌ (0, k)) (marks_all_lem place ts h.2))

    marks_all_lem : (place : List ℕ) (ts : Terms (ℕ × ℕ)) → AllRanked (Call w r) outs ts → marks_by place (spelts ts) ≡ preorders (λ e. e ∷ []) (λ b. (0, b)) (binds ts (λ e. var (e.0, get_or place e.1 0 - 1)))
    marks_all_lem place none h = refl
    marks_all_lem place (more t ts) h = marks_by-append place (spelt t) (spelts ts) ∙ ap₂ ◌++◌ (marks_renamed place t h.0) (marks_all_lem place ts h.1)

  module _ (low : r ≤ 4) where
    mutual
      unfolding preorder Ranked

      -- each of its letters is a symbol or a call
      pub sayable_spelt : (t : Term (ℕ × ℕ)) → Ranked (Call w r) outs t → Sayable w (spelt t)
      sayable_spelt (var e) h = sayable_cons (call_letter e) [] (inr (omega (arith, h.from_one), omega (arith, h.child, h.state), rw (call_parts narrow e h).1 h.state)) (λ j l. absurd (omega arith))
      sayable_spelt (node k ts) h = sayable_cons k (spelts ts) (inl (omega (arith, h.0))) (sayable_spelts ts h.2)

      sayable_spelts : (ts : Terms (ℕ × ℕ)) → AllRanked (Call w r) outs ts → Sayable w (spelts ts)
      sayable_spelts none h = λ j l. absurd (omega arith)
      sayable_spelts (more t ts) h = sayable_append (spelt t) (spelts ts) (sayable_spelt t h.0) (sayable_spelts ts h.1)

-- a term has as many letters as nodes and calls
pub spelt_length : (t : Term (ℕ × ℕ)) → length (spelt t) ≡ letters t
spelt_length t = word_length (λ x. unknown) call_letter (λ k. k) t

module _ {Q R : Type 0} (f : Q → R) where
  mutual
    unfolding letters renamed mapT bind

    -- other states in the calls make a term no longer
    pub renamed_letters : (t : Term (ℕ × Q)) → letters (renamed f t) ≡ letters t
    renamed_letters (var e) = refl
    renamed_letters (node k ts) = ap suc (renamed_all ts)

    renamed_all : (ts : Terms (ℕ × Q)) → letters_all {A = ℕ × R} (binds ts (λ e. var (e.0, f e.1))) ≡ letters_all ts
    renamed_all none = refl
    renamed_all (more t ts) = ap₂ ◌+◌ (renamed_letters t) (renamed_all ts)
