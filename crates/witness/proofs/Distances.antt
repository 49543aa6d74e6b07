-- The table of distances: the distance of a right-hand side by its first mark, what a new distance does to the table, and how the sweeps end.
-- Assumes nothing.
use Prim.Native.Nat.{ℕ, suc, ◌+◌, ◌*◌, ◌≤◌, ◌<◌}
use native.Mathlib.Decide.{ℕ_discrete}
use native.Mathlib.Omega.{arith}
use mathlib.Core.Bool.{Bool, true, false}
use mathlib.Core.List.{List}
use mathlib.Core.Logic.{◌≢◌, by_cases}
use mathlib.Core.Path.{◌≡◌, refl, sym, ap, ◌∙◌}
use lib.Dec.{eqb}
use lib.ListN.{length, get_or, set}
use lib.Seq.{get_or-set_same, get_or-set_other}
use borrow.Author.Count.{below_more}
use borrow.Author.Tests.{eq-eqb, ne_eqb}
use Rattle.std.specs.Prelude.{Option, Some, None}
use Rattle.theory.specs.Term.{Term}
use Rattle.theory.proofs.Bounded.{sum_lt}
use Rattle.theory.proofs.OtherRoot.{dist_bound}
use Rattle.theory.proofs.Terms.{conflict}
use Rattle.trees.specs.Code.{Mark}
use Rattle.formats.specs.Inner.Layout.{body_number}
use Rattle.formats.proofs.Pairs.{pairs_at}
use Rattle.theory.specs.Weight.{one_if}
use Rattle.forms.proofs.Files.{machine_wf}
use Rattle.witness.specs.Inner.Other.{IsDistance, other_distance, call_distance, mark_distance, first_mark, step_distance, Founded, NoneAt, Finished, missing, DistanceTable, DistanceTableAt, FindsDistance, Settable, NewDistance, SetsDistance, Sweepable, SweepsDistances, Fillable, FillsDistances, FindsStep, PutsStep}
use Rattle.witness.proofs.Firsts.{First, Seen, seen_root, seen_call, seen, first_symbol, first_call, mark_fits, first_mark_lem, founded_sound, finished_complete}

-- ---- the distance of one right-hand side
mark_root : (dist : List ℕ) (b i x : ℕ) → i ≡ 0 → mark_distance dist b (i, x) ≡ other_distance (eqb x b)
unfolding mark_distance
mark_root dist b ℕ.zero x e = refl
mark_root dist b (suc i) x e = absurd (omega arith)

mark_call : (dist : List ℕ) (b i x : ℕ) → i ≢ 0 → mark_distance dist b (i, x) ≡ call_distance (get_or dist x 0)
unfolding mark_distance
mark_call dist b ℕ.zero x e = absurd (e refl)
mark_call dist b (suc i) x e = refl

one_farther : (k : ℕ) → k ≢ 0 → call_distance k ≡ k + 1
one_farther ℕ.zero e = absurd (e refl)
one_farther (suc k) e = omega arith

-- the state that is called is one
called_state : {outs : List ℕ} {n r : ℕ} {m : Mark} {t : _} → First outs n r t m → m.0 ≢ 0 → (m.0 ≤ r) × (m.1 < n)
called_state (first_symbol h e) o = absurd (o refl)
called_state (first_call c) o = (c.child, c.state)

module _ {ins starts bytes dist : List ℕ} {q a : ℕ} (S : DistanceTableAt ins starts bytes dist q) (there : a < length ins) where
  module _ {from : ℕ} (f : from ≡ get_or starts (body_number ins q a) 0) where
    -- its first mark stands in the file
    pub mark_there : 2 * from + 1 < length bytes
    mark_there = rw f (mark_fits S.table.layout S.state there)

    pub mark_is : first_mark ins starts bytes q a ≡ (get_or bytes (2 * from) 0, get_or bytes (2 * from + 1) 0)
    mark_is = rw (← f) (pairs_at bytes from mark_there)

    -- a call is of a state that has a distance
    pub callee : get_or bytes (2 * from) 0 ≢ 0 → (get_or bytes (2 * from) 0 ≤ get_or ins a 0) × (get_or bytes (2 * from + 1) 0 < S.states)
    callee = called_state (rw mark_is at (first_mark_lem S.table.layout S.state there))

    module _ (b : ℕ) {x : ℕ} (g : x ≡ get_or bytes (2 * from + 1) 0) where
      root_same : get_or bytes (2 * from) 0 ≡ 0 → step_distance ins starts bytes dist b q a ≡ other_distance (eqb x b)
      root_same z = ap (mark_distance dist b) mark_is ∙ mark_root dist b _ _ z ∙ ap (λ y. other_distance (eqb y b)) (sym g)

      call_same : get_or bytes (2 * from) 0 ≢ 0 → step_distance ins starts bytes dist b q a ≡ call_distance (get_or dist x 0)
      call_same z = ap (mark_distance dist b) mark_is ∙ mark_call dist b _ _ z ∙ ap (λ y. call_distance (get_or dist y 0)) (sym g)

      -- the root symbol is b
      pub step_same : get_or bytes (2 * from) 0 ≡ 0 → x ≡ b → 0 ≡ step_distance ins starts bytes dist b q a
      step_same z e = sym (root_same z ∙ ap other_distance (eq-eqb x b e))

      -- or another
      pub step_other : get_or bytes (2 * from) 0 ≡ 0 → x ≢ b → 1 ≡ step_distance ins starts bytes dist b q a
      step_other z e = sym (root_same z ∙ ap other_distance (ne_eqb x b e))

      -- a call of a state without a distance
      pub step_none : {d : ℕ} → get_or bytes (2 * from) 0 ≢ 0 → d ≡ get_or dist x 0 → d ≡ 0 → 0 ≡ step_distance ins starts bytes dist b q a
      step_none z e h = sym (call_same z ∙ ap call_distance (sym e ∙ h))

      -- or with one
      pub step_call : {d : ℕ} → get_or bytes (2 * from) 0 ≢ 0 → d ≡ get_or dist x 0 → d ≢ 0 → d + 1 ≡ step_distance ins starts bytes dist b q a
      step_call {d} z e h = sym (call_same z ∙ ap call_distance (sym e) ∙ one_farther d h)

      -- the step for a, as step k
      pub step_put : (steps : List ℕ) (k : ℕ) → FindsStep ins starts bytes dist q b a → PutsStep ins starts bytes dist q b steps k (set (set steps (2 * k) a) (2 * k + 1) (get_or bytes (2 * from) 0)) x
      step_put steps k h = record { symbol = a; found = h; wrote = ap (λ (m : Mark). set (set steps (2 * k) a) (2 * k + 1) m.0) (sym mark_is); onward = g ∙ ap (λ (m : Mark). m.1) (sym mark_is) }

-- ---- a new distance
module _ (dist : List ℕ) {dist' : List ℕ} (q v : ℕ) (was : get_or dist q 0 ≡ 0) (wrote : dist' ≡ set dist q v) where
  -- the others stay
  other_stays : (p : ℕ) → p ≢ q → get_or dist' p 0 ≡ get_or dist p 0
  other_stays p h = ap (λ l. get_or l p 0) wrote ∙ get_or-set_other dist q p v 0 h

  -- and so do the distances of right-hand sides
  mark_stays : (b : ℕ) (m : Mark) {k : ℕ} → mark_distance dist b m ≡ suc k → mark_distance dist' b m ≡ suc k
  unfolding mark_distance
  mark_stays b (ℕ.zero, x) e = e
  mark_stays b (suc i, r) {k} e = by_cases (ℕ_discrete r q)
      (λ z. let y : call_distance (get_or dist r 0) ≡ 0 = ap (λ p. call_distance (get_or dist p 0)) z ∙ ap call_distance was in absurd (omega arith))
      (λ z. ap call_distance (other_stays r z) ∙ e)

module _ {ins starts bytes dist : List ℕ} {q b : ℕ} {dist' : List ℕ} (N : NewDistance ins starts bytes dist q b dist') (room : q < length dist) where
  new_here : get_or dist' q 0 ≡ suc N.before
  new_here = ap (λ l. get_or l q 0) N.wrote ∙ get_or-set_same dist q (suc N.before) 0 room

  pub new_founded : {n : ℕ} → Founded ins starts bytes n b dist → Founded ins starts bytes n b dist'
  new_founded {n} F = record { step = go }
    where
      go : (p k : ℕ) → p < n → get_or dist' p 0 ≡ suc k → (a : ℕ) × (a < length ins) × (step_distance ins starts bytes dist' b p a ≡ suc k)
      go p k v e = by_cases (ℕ_discrete p q)
          (λ z. (N.symbol, N.there, rw z (mark_stays dist q (suc N.before) N.was N.wrote b (first_mark ins starts bytes q N.symbol) N.distance) ∙ (sym new_here ∙ sym (ap (λ j. get_or dist' j 0) z) ∙ e)))
          (λ z. let s = F.step p k v (sym (other_stays dist q (suc N.before) N.was N.wrote p z) ∙ e) in (s.0, s.1, mark_stays dist q (suc N.before) N.was N.wrote b (first_mark ins starts bytes p s.0) s.2))

  -- one state less has none
  pub new_fewer : {n : ℕ} → q < n → missing dist' n < missing dist n
  new_fewer {n} h =
      let one : one_if (eqb (get_or dist q 0) 0) ≡ 1 = ap one_if (eq-eqb (get_or dist q 0) 0 N.was) in
      let none : one_if (eqb (get_or dist' q 0) 0) ≡ 0 = ap one_if (ne_eqb (get_or dist' q 0) 0 (λ z. omega (arith, new_here))) in
      sum_lt (λ p. one_if (eqb (get_or dist' p 0) 0)) (λ p. one_if (eqb (get_or dist p 0) 0)) n q h
      (λ p l. by_cases (ℕ_discrete p q)
      (λ z. rw z (omega arith))
      (λ z. let e = ap (λ d. one_if (eqb d 0)) (other_stays dist q (suc N.before) N.was N.wrote p z) in omega arith))
      (omega arith)

module _ {ins starts bytes dist : List ℕ} {q b : ℕ} (S : Settable ins starts bytes dist q b) where
  -- no distance is above 128
  pub low : (p : ℕ) → p < S.at.states → get_or dist p 0 ≤ 128
  low p h =
      let T = S.at.table in
      let l = T.layout in
      omega (arith, dist_bound (machine_wf T.leaf l.wholes) (founded_sound l T.leaf b dist S.founded) p h, l.few_states)

  -- so none that is found is above 129
  pub found_low : {r : Option ℕ} (d : ℕ) → FindsDistance ins starts bytes dist q b r → r ≡ Some d → d ≤ 129
  found_low ℕ.zero F e = omega arith
  found_low (suc k) F e =
      let s = F.found (suc k) e in
      go refl (seen dist b (first_mark_lem S.at.table.layout S.at.state s.2) s.3)
    where
      go : {outs : List ℕ} {r d : ℕ} {t : Term (ℕ × ℕ)} {m : Mark} → d ≡ suc k → Seen outs S.at.states r dist b t m d → suc k ≤ 129
      go e (seen_root h f o) = omega arith
      go e (seen_call {p} c f) = omega (arith, low p c.state)

-- ---- the first right-hand side that has a distance: those for symbols before a have none
pub record Passed (ins starts bytes dist : List ℕ) (q b a : ℕ) : Type 0 where
  pub inside : a ≤ length ins
  pub none : (k : ℕ) → k < a → step_distance ins starts bytes dist b q k ≡ 0

pub distance_here : {s d : ℕ} → d ≡ s → 0 < d → d ≤ 256 → IsDistance s (Some d)
distance_here {d = d} e h g = record { found = λ x z. let y : d ≡ x = cc in rw (← y) (e, h, g); none = λ z. conflict (cc) }

pub distance_none : {s : ℕ} → 0 ≡ s → IsDistance s None
distance_none e = record { found = λ x z. conflict (cc); none = λ z. sym e }

pub find_here : {ins starts bytes dist : List ℕ} {q b a : ℕ} {r : Option ℕ} → a < length ins → IsDistance (step_distance ins starts bytes dist b q a) r → (d : ℕ) → r ≡ Some d → FindsDistance ins starts bytes dist q b (Some d)
find_here {a = a} h D d e = let f = D.found d e in record { found = λ x z. let y : d ≡ x = cc in rw (← y) (f.1, a, h, sym f.0); none = λ z. conflict (cc) }

module _ {ins starts bytes dist : List ℕ} {q b a : ℕ} (P : Passed ins starts bytes dist q b a) where
  pub find_none : length ins ≤ a → FindsDistance ins starts bytes dist q b None
  find_none h = record { found = λ d z. conflict (cc); none = λ z k l. P.none k (omega arith) }

  pub pass_next : {r : Option ℕ} → a < length ins → IsDistance (step_distance ins starts bytes dist b q a) r → r ≡ None → Passed ins starts bytes dist q b (a + 1)
  pass_next h D p = record { inside = omega arith; none = below_more (λ k. step_distance ins starts bytes dist b q k ≡ 0) a P.none (D.none p) }

-- ---- the first that is as far as q: none for a symbol before a is
pub record Ahead (ins starts bytes dist : List ℕ) (q b d a : ℕ) : Type 0 where
  pub ahead : (s : ℕ) → s < length ins → step_distance ins starts bytes dist b q s ≡ d → a ≤ s

-- a distance that is one is found
pub is_given : {s d : ℕ} {r : Option ℕ} → IsDistance s r → s ≡ d → d ≢ 0 → r ≡ Some d
is_given {s} {d} {r} D e o = go r D
  where
    go : (x : Option ℕ) → IsDistance s x → x ≡ Some d
    go None E = absurd (o (sym e ∙ E.none refl))
    go (Some y) E = ap Some ((E.found y refl).0 ∙ e)

pub ahead_next : {ins starts bytes dist : List ℕ} {q b d a : ℕ} {r : Option ℕ} → Ahead ins starts bytes dist q b d a → IsDistance (step_distance ins starts bytes dist b q a) r → d ≢ 0 → r ≢ Some d → Ahead ins starts bytes dist q b d (a + 1)
ahead_next {ins} {starts} {bytes} {dist} {q} {b} {d} {a} A D p o = record {
  ahead = λ s h g. by_cases (ℕ_discrete s a) (λ z. absurd (o (is_given D (ap (λ k. step_distance ins starts bytes dist b q k) (sym z) ∙ g) p))) (λ z. omega (arith, A.ahead s h g));
}

-- ---- one state
module _ {ins starts bytes dist : List ℕ} {q b : ℕ} where
  pub set_kept : 0 < get_or dist q 0 → SetsDistance ins starts bytes dist q b dist false
  set_kept h = record { new = λ z. conflict (cc); same = λ z. refl; none = λ z e. absurd (omega arith) }

  pub set_none : {r : Option ℕ} → FindsDistance ins starts bytes dist q b r → r ≡ None → SetsDistance ins starts bytes dist q b dist false
  set_none F e = record { new = λ z. conflict (cc); same = λ z. refl; none = λ z w. F.none e }

  pub set_new : {r : Option ℕ} (d : ℕ) {dist' : List ℕ} → get_or dist q 0 ≤ 0 → FindsDistance ins starts bytes dist q b r → r ≡ Some d → dist' ≡ set dist q d → SetsDistance ins starts bytes dist q b dist' true
  set_new ℕ.zero h F o e = let z = (F.found 0 o).0 in absurd (omega arith)
  set_new (suc k) h F o e =
      let s = F.found (suc k) o in
      record {
        new = λ z. record { was = omega arith; symbol = s.1; there = s.2; before = k; distance = s.3; wrote = e };
        same = λ z. conflict (cc);
        none = λ z. conflict (cc);
      }

-- ---- the loop over the states: those before q are passed
pub record SweepLoop (ins starts bytes : List ℕ) (n b : ℕ) (dist₀ dist : List ℕ) (any : Bool) (q : ℕ) : Type 0 where
  pub inside : q ≤ n
  pub same_length : length dist ≡ length dist₀
  pub founded : Founded ins starts bytes n b dist
  pub fewer : any ≡ true → missing dist n < missing dist₀ n
  pub same : any ≡ false → dist ≡ dist₀
  pub passed : any ≡ false → (p : ℕ) → p < q → get_or dist₀ p 0 ≡ 0 → NoneAt ins starts bytes b dist₀ p

pub sweep_start : {ins starts bytes : List ℕ} {n b : ℕ} {dist : List ℕ} → Founded ins starts bytes n b dist → SweepLoop ins starts bytes n b dist dist false 0
sweep_start F = record { inside = omega arith; same_length = refl; founded = F; fewer = λ z. conflict (cc); same = λ z. refl; passed = λ z p h. absurd (omega arith) }

-- a table of distances of the same length
pub longer : {ins starts bytes : List ℕ} {n : ℕ} {dist₀ dist : List ℕ} → DistanceTable ins starts bytes n dist₀ → length dist ≡ length dist₀ → DistanceTable ins starts bytes n dist
longer S e = record { outs = S.outs; layout = S.layout; leaf = S.leaf; long = omega (arith, S.long) }

module _ {ins starts bytes : List ℕ} {n b : ℕ} {dist₀ : List ℕ} (S : Sweepable ins starts bytes n b dist₀)
    {dist : List ℕ} {any : Bool} {q : ℕ} (L : SweepLoop ins starts bytes n b dist₀ dist any q) where
  not_more : missing dist n ≤ missing dist₀ n
  not_more = go any refl
    where
      go : (c : Bool) → any ≡ c → missing dist n ≤ missing dist₀ n
      go true e = omega (arith, L.fewer e)
      go false e = omega (arith, ap (λ l. missing l n) (L.same e))

  pub sweep_settable : q < n → Settable ins starts bytes dist q b
  sweep_settable h = record { at = record { states = n; table = longer S.table L.same_length; state = h }; founded = L.founded }

  module _ (there : q < n) {dist' : List ℕ} {r : Bool} (D : SetsDistance ins starts bytes dist q b dist' r) (e : length dist' ≡ length dist) where
    pub sweep_set : r ≡ true → {now : Bool} → now ≡ true → SweepLoop ins starts bytes n b dist₀ dist' now (q + 1)
    sweep_set t z =
        let N = D.new t in
        let room : q < length dist = omega (arith, S.table.long, L.same_length) in
        rw z (record {
          inside = omega arith;
          same_length = e ∙ L.same_length;
          founded = new_founded N room L.founded;
          fewer = λ w. omega (arith, new_fewer N room there, not_more);
          same = λ w. conflict (cc);
          passed = λ w. conflict (cc);
        })

    pub sweep_kept : r ≡ false → {now : Bool} → now ≡ any → SweepLoop ins starts bytes n b dist₀ dist' now (q + 1)
    sweep_kept f z = rw (z, D.same f) (record {
      inside = omega arith;
      same_length = L.same_length;
      founded = L.founded;
      fewer = L.fewer;
      same = L.same;
      passed = λ w. below_more (λ p. get_or dist₀ p 0 ≡ 0 → NoneAt ins starts bytes b dist₀ p) q (L.passed w) (rw (L.same w) at (D.none f));
    })

  pub sweep_end : n ≤ q → SweepsDistances ins starts bytes n b dist₀ dist any
  sweep_end h = record { founded = L.founded; fewer = L.fewer; same = L.same; finished = λ w. record { none = λ p g. L.passed w p (omega arith) } }

-- ---- the loop until nothing is found
pub record FillLoop (ins starts bytes : List ℕ) (n b : ℕ) (dist₀ dist : List ℕ) (again : Bool) : Type 0 where
  pub same_length : length dist ≡ length dist₀
  pub founded : Founded ins starts bytes n b dist
  pub finished : again ≡ false → Finished ins starts bytes n b dist

-- the states without a distance, and one sweep that finds nothing
pub left : List ℕ → ℕ → Bool → ℕ
left dist n again = missing dist n + one_if again

module _ {ins starts bytes : List ℕ} {n b : ℕ} {dist₀ : List ℕ} (F : Fillable ins starts bytes n dist₀)
    {dist : List ℕ} {again : Bool} (L : FillLoop ins starts bytes n b dist₀ dist again) where
  module _ {dist' : List ℕ} {r : Bool} (D : SweepsDistances ins starts bytes n b dist dist' r) where
    pub fill_next : length dist' ≡ length dist → FillLoop ins starts bytes n b dist₀ dist' r
    fill_next e = record { same_length = e ∙ L.same_length; founded = D.founded; finished = λ z. rw (D.same z) (D.finished z) }

    pub fill_less : again ≡ true → left dist' n r < left dist n again
    unfolding left
    fill_less t = go r refl
      where
        go : (x : Bool) → r ≡ x → missing dist' n + one_if r < missing dist n + one_if again
        go true e = rw (t, e) (omega (arith, D.fewer e))
        go false e = rw (t, e) (omega (arith, ap (λ l. missing l n) (D.same e)))

  pub fill_end : again ≡ false → FillsDistances ins starts bytes n b dist
  fill_end e = record {
    sound = λ outs l Y. founded_sound Y l b dist L.founded;
    complete = λ outs l Y. finished_complete Y l b dist (L.finished e);
  }
