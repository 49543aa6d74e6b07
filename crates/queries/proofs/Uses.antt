-- Reading one body, mark by mark: which children it calls, that it calls none twice, and the states that are entered.
-- Assumes nothing.
use Rattle.std.specs.Prelude.{None, Some}
use Prim.Native.Nat.{ℕ, suc, ◌+◌, ◌*◌, ◌≤◌, ◌<◌}
use native.Mathlib.Omega.{arith}
use native.Mathlib.Decide.{ℕ_discrete}
use mathlib.Core.Bool.{Bool, true, false}
use mathlib.Core.List.{List, [], ◌∷◌}
use mathlib.Core.Path.{◌≡◌, refl, sym, ap, ◌∙◌}
use lib.Dec.{eqb}
use lib.ListN.{length, get_or, set, take, length-set, drop_of_length-le}
use lib.Seq.{length-take-le, get_or-set_same, get_or-set_other}
use borrow.Author.Tests.{eq-eqb, ne_eqb}
use Rattle.theory.specs.Inner.ReadCalls.{ReadCalls, no_call, one_call}
use Rattle.theory.specs.Weight.{one_if}
use Rattle.theory.proofs.Terms.{conflict}
use Rattle.trees.specs.Code.{Mark}
use Rattle.formats.specs.Inner.Layout.{pairs}
use Rattle.formats.specs.Inner.Marked.{part}
use Rattle.formats.proofs.Pairs.{pairs_length, part_cons}
use Rattle.discovery.specs.Inner.Queue.{Queue, Entered, met_of}
use Rattle.discovery.proofs.Queues.{queue_few}
use Rattle.queries.specs.Inner.Uses.{uses, Once, Low}
use Rattle.queries.specs.Inner.Reading.{mark_calls, ReadMarks, Reads}

-- ---- what a reading answers
module _ {Stop : Type 0} {Read : List ℕ → Type 0} {list place : List ℕ} where
  pub reads_twice : Stop → Reads Stop Read list place None
  reads_twice s = record { stop = λ e. s; read = λ n e. conflict (cc); queue = λ n e. conflict (cc); wide = λ n e. conflict (cc) }

  pub reads_met : {n : ℕ} → Read (met_of list n) → Queue list place n → length place ≡ 128 → Reads Stop Read list place (Some n)
  reads_met {n} R Q w = record {
    stop = λ e. conflict (cc);
    read = λ m e. let z : n ≡ m = cc in rw (← z) R;
    queue = λ m e. let z : n ≡ m = cc in rw (← z) Q;
    wide = λ m e. w;
  }

-- ---- the calls among marks
-- a mark of no child is none, and a mark of a child is one
calls_symbol : (i x : ℕ) (ms : List Mark) → i ≡ 0 → mark_calls ((i, x) ∷ ms) ≡ mark_calls ms
unfolding mark_calls
calls_symbol ℕ.zero x ms z = refl
calls_symbol (suc i) x ms z = absurd (omega arith)

calls_call : (i x : ℕ) (ms : List Mark) → 0 < i → mark_calls ((i, x) ∷ ms) ≡ (i, x) ∷ mark_calls ms
unfolding mark_calls
calls_call ℕ.zero x ms h = absurd (omega arith)
calls_call (suc i) x ms h = refl

-- ---- one body
-- The marks before number j are passed: they call a child once where its flag is set, and else not at all. To read the rest, from the states met so far, is to read all, from L.
pub record Passed (bytes : List ℕ) (from to : ℕ) (L : List ℕ) (seen : List Bool) (n j : ℕ) (list place : List ℕ) : Type 0 where
  pub five : length seen ≡ 5
  pub flags : (k : ℕ) → 1 ≤ k → uses k (part bytes from to) ≡ one_if (get_or seen k false) + uses k (part bytes j to)
  pub low : Low 128 (part bytes j to)
  pub wide : length place ≡ 128
  pub queue : Queue list place n
  pub rest : (L' : List ℕ) → ReadCalls (mark_calls (part bytes j to)) (met_of list n) L' → ReadCalls (mark_calls (part bytes from to)) L L'

pub at_most_one : (b : Bool) → one_if b ≤ 1
at_most_one true = omega arith
at_most_one false = omega arith

module _ {bytes list place L : List ℕ} {from to n j : ℕ} {seen : List Bool} (W : Passed bytes from to L seen n j list place) where
  -- a state more can be entered
  pub few_met : n < 192
  few_met = omega (arith, queue_few W.queue, W.wide)

  -- all marks are passed
  pub pass_all : to ≤ j → 2 * to ≤ length bytes → Reads (Once (part bytes from to) → ⊥) (ReadMarks (part bytes from to) L) list place (Some n)
  unfolding uses mark_calls
  pass_all h g =
      let e : part bytes j to ≡ [] = drop_of_length-le (take to (pairs bytes)) {i = j} (omega (arith, length-take-le to (pairs bytes) (pairs_length bytes to g))) in
      reads_met (λ k p. omega (arith, W.flags k p, ap (uses k) e, at_most_one (get_or seen k false)), W.rest (met_of list n) (rw e no_call)) W.queue W.wide

  -- the next mark, of child i or, where i is 0, a symbol
  module _ (less : j < to) (inside : 2 * to ≤ length bytes) {i : ℕ} (e : i ≡ get_or bytes (2 * j) 0) where
    next : part bytes j to ≡ (i, get_or bytes (2 * j + 1) 0) ∷ part bytes (j + 1) to
    next = part_cons bytes j to less inside ∙ ap (λ a. (a, get_or bytes (2 * j + 1) 0) ∷ part bytes (j + 1) to) (sym e)

    next_low : ((i ≤ 4) × (1 ≤ i → get_or bytes (2 * j + 1) 0 < 128)) × Low 128 (part bytes (j + 1) to)
    unfolding Low
    next_low = rw next at W.low

    pub child_low : i < 5
    child_low = omega (arith, next_low.0.0)

    pub state_low : 0 < i → {q : ℕ} → q ≡ get_or bytes (2 * j + 1) 0 → q < length place
    state_low h f = omega (arith, next_low.0.1 h, f, W.wide)

    -- how the mark counts for child k
    next_flags : (k : ℕ) → 1 ≤ k → uses k (part bytes from to) ≡ one_if (get_or seen k false) + (one_if (eqb i k) + uses k (part bytes (j + 1) to))
    unfolding uses
    next_flags k h = W.flags k h ∙ ap (λ ms. one_if (get_or seen k false) + uses k ms) next

    -- a child that was called is called again
    pub again : 0 < i → get_or seen i false ≡ true → Reads (Once (part bytes from to) → ⊥) (ReadMarks (part bytes from to) L) list place None
    again p t = reads_twice (λ O. omega (arith, O i p, next_flags i p, ap one_if t, ap one_if (eq-eqb i i refl)))

    pub pass_symbol : i ≡ 0 → Passed bytes from to L seen n (j + 1) list place
    pass_symbol z = record {
      five = W.five;
      flags = λ k h. omega (arith, next_flags k h, ap one_if (ne_eqb i k (λ q. omega arith)));
      low = next_low.1;
      wide = W.wide;
      queue = W.queue;
      rest = λ L' R. W.rest L' (rw (ap mark_calls next ∙ calls_symbol i _ _ z) R);
    }

    pub pass_call : {q n' : ℕ} {list' place' : List ℕ} → 0 < i → get_or seen i false ≡ false → q ≡ get_or bytes (2 * j + 1) 0 → Entered list place n q list' place' n' → Passed bytes from to L (set seen i true) n' (j + 1) list' place'
    pass_call p f x E = record {
      five = length-set seen i true ∙ W.five;
      flags = λ k h. by_case k h (ℕ_discrete k i);
      low = next_low.1;
      wide = E.wide ∙ W.wide;
      queue = E.queue;
      rest = λ L' R. W.rest L' (rw (ap mark_calls next ∙ calls_call i _ _ p) (one_call (rw x at E.entered.1) R));
    }
      where
        by_case : (k : ℕ) → 1 ≤ k → Dec (k ≡ i) → uses k (part bytes from to) ≡ one_if (get_or (set seen i true) k false) + uses k (part bytes (j + 1) to)
        by_case k h (yes q) = rw q (omega (arith, rw q at (next_flags k h), ap one_if (get_or-set_same seen i true false (omega (arith, child_low, W.five))), ap one_if f, ap one_if (eq-eqb i i refl)))
        by_case k h (no m) = omega (arith, next_flags k h, ap one_if (get_or-set_other seen i k true false m), ap one_if (ne_eqb i k (λ q. m (sym q))))
