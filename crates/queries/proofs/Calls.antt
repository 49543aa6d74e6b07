-- The calls of a term by its marks, and the terms of a transducer by its bodies.
-- Assumes nothing.
use Prim.Native.Nat.{ℕ, suc, ◌+◌, ◌/◌, ◌%◌, ◌≤◌, ◌<◌}
use native.Mathlib.Omega.{arith}
use mathlib.Core.List.{List, [], ◌∷◌, ◌++◌}
use mathlib.Core.Path.{◌≡◌, refl, ap, ap₂, sym, ◌∙◌}
use lib.ListN.{length, get_or}
use borrow.Author.Tests.{ne_eqb}
use Rattle.theory.specs.Linear.{Once as OnceIn}
use Rattle.theory.specs.Term.{Term, var, node, Terms, none, more}
use Rattle.theory.specs.Transducer.{Transducer}
use Rattle.theory.specs.Weight.{one_if, on_child, calls, weight, weights}
use Rattle.theory.proofs.Discovery.{calls_of, calls_in}
use Rattle.trees.specs.Code.{Ranked, AllRanked, Mark, Call, preorder, preorders, marks}
use Rattle.formats.specs.Inner.Layout.{offset, body, body_number, body_count, Right, Starts}
use Rattle.formats.specs.Inner.Marked.{part}
use Rattle.formats.specs.Sheet.{Encodes}
use Rattle.formats.proofs.Counts.{in_bounds}
use Rattle.formats.proofs.Lines.{row_of}
use Rattle.formats.proofs.Pairs.{number_less}
use Rattle.formats.proofs.Sheets.{initial_code, rhs_code}
use Rattle.queries.specs.Inner.Reading.{mark_calls}
use Rattle.queries.specs.Inner.Uses.{uses, Once, Low, LowBodies}

-- ---- a term and its marks
-- the marks of several terms
abbrev marks_all : Terms (ℕ × ℕ) → List Mark
marks_all ts = preorders (λ e. e ∷ []) (λ b. (0, b)) ts

uses_append : (i : ℕ) (l ms : List Mark) → uses i (l ++ ms) ≡ uses i l + uses i ms
unfolding uses
uses_append i [] ms = omega arith
uses_append i (m ∷ l) ms = omega (arith, uses_append i l ms)

low_append : (n : ℕ) (l ms : List Mark) → Low n l → Low n ms → Low n (l ++ ms)
unfolding Low
low_append n [] ms h g = g
low_append n (m ∷ l) ms h g = (h.0, low_append n l ms h.1 g)

calls_append : (l ms : List Mark) → mark_calls (l ++ ms) ≡ mark_calls l ++ mark_calls ms
unfolding mark_calls
calls_append [] ms = refl
calls_append ((ℕ.zero, b) ∷ l) ms = calls_append l ms
calls_append ((suc i, q) ∷ l) ms = ap (◌∷◌ (suc i, q)) (calls_append l ms)

-- a term calls a child as often as its marks do; a symbol is a mark of no child
module _ (i : ℕ) (from_one : 1 ≤ i) where
  mutual
    unfolding weight uses preorder

    calls_uses : (t : Term (ℕ × ℕ)) → calls i t ≡ uses i (marks t)
    calls_uses (var e) = omega arith
    calls_uses (node k ts) = omega (arith, calls_in_uses ts, ap one_if (ne_eqb 0 i (λ e. omega arith)))

    calls_in_uses : (ts : Terms (ℕ × ℕ)) → weights (on_child i) ts ≡ uses i (marks_all ts)
    calls_in_uses none = refl
    calls_in_uses (more t ts) = omega (arith, calls_uses t, calls_in_uses ts, uses_append i (marks t) (marks_all ts))

one_call : (e : ℕ × ℕ) → 1 ≤ e.0 → mark_calls (e ∷ []) ≡ e ∷ []
unfolding mark_calls
one_call (ℕ.zero, q) h = absurd (omega arith)
one_call (suc i, q) h = refl

module _ (outs : List ℕ) (n r : ℕ) where
  -- no call is on child 0
  mutual
    unfolding weight Ranked

    no_calls : (t : Term (ℕ × ℕ)) → Ranked (Call n r) outs t → calls 0 t ≡ 0
    no_calls (var e) c = ap one_if (ne_eqb e.0 0 (λ z. omega (arith, c.from_one)))
    no_calls (node k ts) c = no_calls_in ts c.2

    no_calls_in : (ts : Terms (ℕ × ℕ)) → AllRanked (Call n r) outs ts → weights (on_child 0) ts ≡ 0
    no_calls_in none c = refl
    no_calls_in (more t ts) c = omega (arith, no_calls t c.0, no_calls_in ts c.1)

  -- the calls among the marks are those of the term
  mutual
    unfolding mark_calls calls_of Ranked preorder

    pub calls_marks : (t : Term (ℕ × ℕ)) → Ranked (Call n r) outs t → mark_calls (marks t) ≡ calls_of t
    calls_marks (var e) c = one_call e c.from_one
    calls_marks (node k ts) c = calls_in_marks ts c.2

    calls_in_marks : (ts : Terms (ℕ × ℕ)) → AllRanked (Call n r) outs ts → mark_calls (marks_all ts) ≡ calls_in ts
    calls_in_marks none c = refl
    calls_in_marks (more t ts) c = calls_append (marks t) (marks_all ts) ∙ ap₂ ◌++◌ (calls_marks t c.0) (calls_in_marks ts c.1)

  -- no call is on a child above r, nor of another state
  module _ (low : r ≤ 4) where
    mutual
      unfolding Low Ranked preorder

      low_marks : (t : Term (ℕ × ℕ)) → Ranked (Call n r) outs t → Low n (marks t)
      low_marks (var e) c = ((omega (arith, c.child), λ h. c.state), tt)
      low_marks (node k ts) c = ((omega arith, λ h. absurd (omega arith)), low_all ts c.2)

      low_all : (ts : Terms (ℕ × ℕ)) → AllRanked (Call n r) outs ts → Low n (marks_all ts)
      low_all none c = tt
      low_all (more t ts) c = low_append n (marks t) (marks_all ts) (low_marks t c.0) (low_all ts c.1)

  -- a term calls no child twice exactly if its marks do not
  pub once_calls : (t : Term (ℕ × ℕ)) → Ranked (Call n r) outs t → Once (marks t) → OnceIn t
  once_calls t c O ℕ.zero = omega (arith, no_calls t c)
  once_calls t c O (suc i) = omega (arith, calls_uses (suc i) (omega arith) t, O (suc i) (omega arith))

pub calls_once : (t : Term (ℕ × ℕ)) → OnceIn t → Once (marks t)
calls_once t h i p = omega (arith, calls_uses i p t, h i)

-- ---- a transducer and its bodies, with the table of starts
module _ {ins outs : List ℕ} {n : ℕ} {counts bytes : List ℕ} {M : Transducer ℕ} (E : Encodes ins outs n counts bytes M) (starts : List ℕ) (S : Starts counts starts (body_count ins n)) where
  start_body : (j : ℕ) → j < body_count ins n → body (offset counts) bytes j ≡ body (λ j. get_or starts j 0) bytes j
  unfolding body
  start_body j h = sym (ap₂ (part bytes) (S j (omega arith)) (S (j + 1) (omega arith)))

  pub initial_body : marks M.initial ≡ body (λ j. get_or starts j 0) bytes 0
  initial_body = initial_code ins outs n counts bytes M E ∙ start_body 0 (omega arith)

  pub rhs_body : (q a : ℕ) → q < n → a < length ins → marks (M.rhs q a) ≡ body (λ j. get_or starts j 0) bytes (body_number ins q a)
  rhs_body q a h g = rhs_code ins outs n counts bytes M E q a h g ∙ start_body (body_number ins q a) (number_less ins q n a h g)

  -- what holds of the marks of each term holds of each body
  each_body : (P : List Mark → Type 0) → P (marks M.initial) → ((q a : ℕ) → q < n → a < length ins → P (marks (M.rhs q a))) → (j : ℕ) → j < body_count ins n → P (body (λ j. get_or starts j 0) bytes j)
  each_body P i r ℕ.zero h = rw initial_body at i
  each_body P i r (suc j) h =
      let w = row_of n (length ins) j (omega arith) in
      let q = j / length ins in
      let a = j % length ins in
      let e : body_number ins q a ≡ suc j = omega (arith, w.2) in
      rw (rhs_body q a w.0 w.1 ∙ ap (body (λ j. get_or starts j 0) bytes) e) at (r q a w.0 w.1)

  pub low_bodies : Right ins n counts bytes → ((a : ℕ) → a < length ins → get_or ins a 0 ≤ 4) → length starts ≡ 2050 → LowBodies (body_count ins n) n starts bytes
  low_bodies R l k =
      let L = in_bounds starts R S k in
      record {
        few = R.states;
        long = L.long;
        inside = L.inside;
        low = each_body (Low n) (low_marks outs n 1 (omega arith) M.initial E.over.initial) (λ q a h g. low_marks outs n (get_or ins a 0) (l a g) (M.rhs q a) (E.over.rhs q a h g));
      }
