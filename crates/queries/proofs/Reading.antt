-- Reading one body after the other, and the states met one after the other.
-- Assumes nothing.
use Rattle.std.specs.Prelude.{None, Option, Some}
use Prim.Native.Nat.{ℕ, suc, ◌+◌, ◌*◌, ◌≤◌, ◌<◌}
use native.Mathlib.Nat.{mul-le-mul}
use native.Mathlib.Numerals.{add-one}
use native.Mathlib.Omega.{arith}
use mathlib.Core.Bool.{true, false}
use mathlib.Core.List.{List, [], ◌∷◌}
use mathlib.Core.Logic.{inr, ⊎_elim}
use mathlib.Core.Option.{some}
use mathlib.Core.Path.{◌≡◌, sym, ap, ap₂, ◌∙◌}
use lib.ListN.{length, get_or, get_elem?}
use Rattle.theory.specs.Inner.ReadCalls.{ReadCalls, no_call, one_call}
use Rattle.theory.specs.Registry.{Enter, found, added}
use Rattle.theory.proofs.Lists.{Extends, enter_extends, extends_refl, extends_trans, get_lt, get_snoc}
use Rattle.theory.proofs.Terms.{conflict}
use Rattle.formats.specs.Inner.Layout.{body}
use Rattle.formats.specs.Inner.Marked.{part}
use Rattle.discovery.specs.Inner.Queue.{Queue, met_of}
use Rattle.discovery.proofs.Queues.{get_take}
use Rattle.discovery.proofs.Stages.{met_length}
use Rattle.queries.specs.Inner.Uses.{Once, Low, LowBodies}
use Rattle.queries.specs.Inner.Reading.{mark_calls, ReadMarks, ReadBodies, no_body, one_body, ReadTable, read_initial, read_state, NotOnce, Reads, ReadsTable}
use Rattle.queries.proofs.Uses.{reads_twice, reads_met}

-- ---- some bodies, one after the other
-- those before number b + j are passed
pub record BodiesPassed (start : ℕ → ℕ) (bytes : List ℕ) (b : ℕ) (L : List ℕ) (n j : ℕ) (list place : List ℕ) : Type 0 where
  pub read : ReadBodies start bytes b L j (met_of list n)
  pub queue : Queue list place n
  pub wide : length place ≡ 128

low_more : {n w : ℕ} (ms : List (ℕ × ℕ)) → n ≤ w → Low n ms → Low w ms
unfolding Low
low_more [] h L = tt
low_more (m ∷ ms) h L = ((L.0.0, λ p. omega (arith, L.0.1 p)), low_more ms h L.1)

module _ {m n : ℕ} {starts bytes : List ℕ} (B : LowBodies m n starts bytes) where
  -- fewer of them, and of more states
  pub low_fewer : (k : ℕ) → k ≤ m → LowBodies k 128 starts bytes
  low_fewer k h = record { few = omega arith; long = omega (arith, B.long); inside = λ j l. B.inside j (omega arith); low = λ j l. low_more (body (λ j. get_or starts j 0) bytes j) B.few (B.low j (omega arith)) }

  -- one of them
  module _ (j : ℕ) (less : j < m) {from to : ℕ} (e : from ≡ get_or starts j 0) (f : to ≡ get_or starts (j + 1) 0) where
    pub part_body : part bytes from to ≡ body (λ j. get_or starts j 0) bytes j
    unfolding body
    part_body = ap₂ (part bytes) e f

    pub part_inside : 2 * to ≤ length bytes
    part_inside = omega (arith, B.inside (j + 1) (omega arith))

    pub part_low : Low n (part bytes from to)
    part_low = rw part_body (B.low j less)

module _ {start : ℕ → ℕ} {bytes : List ℕ} {b : ℕ} where
  pub bodies_none : {n : ℕ} {list place : List ℕ} → Queue list place n → length place ≡ 128 → BodiesPassed start bytes b (met_of list n) n 0 list place
  bodies_none Q w = record { read = no_body; queue = Q; wide = w }

  module _ {L list place : List ℕ} {n j : ℕ} (T : BodiesPassed start bytes b L n j list place) where
    -- the next one, whose marks are ms
    module _ {ms : List (ℕ × ℕ)} (e : ms ≡ body start bytes (b + j)) {list' place' : List ℕ} {r : Option ℕ} (R : Reads (Once ms → ⊥) (ReadMarks ms (met_of list n)) list' place' r) where
      pub bodies_next : {m : ℕ} → r ≡ Some m → BodiesPassed start bytes b L m (j + 1) list' place'
      bodies_next {m} x = record { read = rw (add-one j) (one_body {L'' = met_of list' m} T.read (rw (← e) (R.read m x))); queue = R.queue m x; wide = R.wide m x }

      pub bodies_stop : {k : ℕ} → j < k → r ≡ None → Reads (NotOnce start bytes b k) (ReadBodies start bytes b L k) list' place' None
      bodies_stop h x = reads_twice (λ O. R.stop x (rw e (O j h)))

    pub bodies_all : {k : ℕ} → j ≤ k → k ≤ j → Reads (NotOnce start bytes b k) (ReadBodies start bytes b L k) list place (Some n)
    bodies_all {k} h g = let z : j ≡ k = omega arith in reads_met (rw z at T.read) T.queue T.wide

-- ---- the list grows
calls_extend : {es : List (ℕ × ℕ)} {L L' : List ℕ} → ReadCalls es L L' → Extends L L'
calls_extend no_call = extends_refl
calls_extend (one_call x r) = extends_trans (enter_extends x) (calls_extend r)

pub bodies_extend : {start : ℕ → ℕ} {bytes L : List ℕ} {b : ℕ} {L' : List ℕ} {k : ℕ} → ReadBodies start bytes b L k L' → Extends L L'
bodies_extend no_body = extends_refl
bodies_extend (one_body r x) = extends_trans (bodies_extend r) (calls_extend x.1)

-- no more states have been read than are listed
table_few : {P p : ℕ} {start : ℕ → ℕ} {bytes L : List ℕ} → ReadTable P start bytes p L → p ≤ length L
table_few (read_initial r) = omega arith
table_few (read_state {p} {q} {L' = L'} s e r) = omega (arith, get_lt L' p ((bodies_extend r).kept p q e))

-- every state of the list is below w
abbrev Lower : ℕ → List ℕ → Type 0
Lower w L = (k q : ℕ) → get_elem? L k ≡ some q → q < w

enter_lower : {w q k : ℕ} {L L' : List ℕ} → Enter L q k L' → Lower w L → q < w → Lower w L'
enter_lower (found e) v p = v
enter_lower {q = q} {L = L} (added f) v p = λ k r e. ⊎_elim (λ g. v k r g) (λ g. rw g.1 p) (get_snoc L q k e)

marks_lower : {w : ℕ} {L L' : List ℕ} (ms : List (ℕ × ℕ)) → Low w ms → ReadCalls (mark_calls ms) L L' → Lower w L → Lower w L'
unfolding Low mark_calls
marks_lower [] h no_call v = v
marks_lower ((ℕ.zero, b) ∷ ms) h r v = marks_lower ms h.1 r v
marks_lower ((suc i, q) ∷ ms) h (one_call x r) v = marks_lower ms h.1 r (enter_lower x v (h.0.1 (omega arith)))

bodies_lower : {start : ℕ → ℕ} {bytes L : List ℕ} {w b : ℕ} {L' : List ℕ} {k : ℕ} → ReadBodies start bytes b L k L' → ((j : ℕ) → j < k → Low w (body start bytes (b + j))) → Lower w L → Lower w L'
bodies_lower no_body h v = v
bodies_lower (one_body {k} r x) h v = marks_lower _ (h k (omega arith)) x.1 (bodies_lower r (λ j l. h j (omega arith)) v)

-- where all that is called is, every state met is
table_lower : {P w : ℕ} {start : ℕ → ℕ} {bytes : List ℕ} {p : ℕ} {L : List ℕ} → ReadTable P start bytes p L → ((j : ℕ) → j < 1 + w * P → Low w (body start bytes j)) → Lower w L
table_lower (read_initial r) h = bodies_lower r (λ j l. h (0 + j) (omega arith)) (λ k q e. conflict (cc))
table_lower {P} {w} (read_state {p} {q} s e r) h =
    let v = table_lower s h in
    let g : q < w = v p q e in
    let m : (q + 1) * P ≤ w * P = mul-le-mul (omega arith) (omega arith) in
    bodies_lower r (λ j l. h (1 + q * P + j) (omega arith)) v

-- ---- the states met, one after the other
-- the bodies of the first p of them have been read
pub record StatesPassed (P : ℕ) (start : ℕ → ℕ) (bytes : List ℕ) (n p : ℕ) (list place : List ℕ) : Type 0 where
  pub read : ReadTable P start bytes p (met_of list n)
  pub queue : Queue list place n
  pub wide : length place ≡ 128

module _ {P : ℕ} {start : ℕ → ℕ} {bytes : List ℕ} where
  -- body 0
  module _ {list place : List ℕ} {r : Option ℕ} (R : Reads (NotOnce start bytes 0 1) (ReadBodies start bytes 0 [] 1) list place r) where
    pub initial_read : {n : ℕ} → r ≡ Some n → StatesPassed P start bytes n 0 list place
    initial_read {n} x = record { read = read_initial (R.read n x); queue = R.queue n x; wide = R.wide n x }

  module _ {list place : List ℕ} {n p : ℕ} (T : StatesPassed P start bytes n p list place) where
    -- the bodies of the next state, which is q
    module _ (h : p < n) {q : ℕ} (e : q ≡ get_or list p 0) where
      state_there : get_elem? (met_of list n) p ≡ some q
      state_there = get_take list n p h (omega (arith, T.queue.long, T.queue.few)) ∙ ap some (sym e)

      pub state_fits : (w : ℕ) → ((j : ℕ) → j < 1 + w * P → Low w (body start bytes j)) → 1 + q * P + P ≤ 1 + w * P
      state_fits w B =
          let l : q < w = table_lower T.read B p q state_there in
          let m : (q + 1) * P ≤ w * P = mul-le-mul (omega arith) (omega arith) in
          omega arith

      module _ {list' place' : List ℕ} {r : Option ℕ} (R : Reads (NotOnce start bytes (1 + q * P) P) (ReadBodies start bytes (1 + q * P) (met_of list n) P) list' place' r) where
        pub state_read : {m : ℕ} → r ≡ Some m → StatesPassed P start bytes m (p + 1) list' place'
        state_read {m} x = record { read = rw (add-one p) (read_state T.read state_there (R.read m x)); queue = R.queue m x; wide = R.wide m x }

        pub state_stop : r ≡ None → ReadsTable P start bytes false
        state_stop x = record { yes = λ e. conflict (cc); no = λ e. inr (record { number = p; state = q; list = met_of list n; read = T.read; there = state_there; twice = R.stop x }) }

    -- no state is left
    pub states_all : n ≤ p → ReadsTable P start bytes true
    states_all h =
        let l = met_length T.queue in
        let z : p ≡ length (met_of list n) = omega (arith, table_few T.read, l) in
        record { yes = λ e. (met_of list n, rw z at T.read); no = λ e. conflict (cc) }
