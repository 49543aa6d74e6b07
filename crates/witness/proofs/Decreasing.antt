-- The path along which the distances decrease: steps that lead to a root symbol other than b are a fall of the theory, and writing them one after the other ends with one.
-- Assumes nothing.
use Prim.Native.Nat.{ℕ, suc, ◌+◌, ◌*◌, ◌≤◌, ◌<◌}
use native.Mathlib.Numerals.{add-one}
use native.Mathlib.Omega.{arith}
use mathlib.Core.List.{List, [], ◌∷◌, ◌++◌, append_assoc}
use mathlib.Core.Logic.{◌≢◌}
use mathlib.Core.Path.{◌≡◌, refl, sym, ap, ◌∙◌}
use lib.ListN.{length, get_or, set, replicate, length-set}
use lib.Seq.{take-suc-set, get_or-set_same, get_or-set_other, length-slice}
use borrow.Author.Count.{below_more}
use Rattle.theory.specs.Earliest.{Earliest}
use Rattle.theory.specs.Inner.Leaves.{put}
use Rattle.theory.specs.Inner.Nodes.{symbol}
use Rattle.theory.specs.Inner.OtherRoot.{CallsOnly, fall_root, fall_call}
use Rattle.theory.specs.Term.{Term, var, bind}
use Rattle.theory.proofs.Leaves.{call_put}
use Rattle.theory.proofs.OtherRoot.{only_call, all_found}
use Rattle.theory.proofs.Runs.{output_node}
use Rattle.theory.proofs.Terms.{count_binds}
use Rattle.trees.specs.Alphabets.{Leaf}
use Rattle.trees.specs.Code.{Mark}
use Rattle.formats.specs.Inner.Layout.{pairs}
use Rattle.formats.specs.Inner.Marked.{part}
use Rattle.formats.proofs.Pairs.{pairs_length}
use Rattle.forms.specs.Alphabet.{alphabet}
use Rattle.forms.specs.Inner.Tables.{machine, Layout}
use Rattle.forms.proofs.Files.{machine_wf}
use Rattle.witness.specs.Inner.Other.{first_mark, step_distance, DistanceTable, FillsDistances, Settable, Steppable, PutsStep, PathAsked, PathTo, DecreasingPath}
use Rattle.witness.specs.Inner.Shown.{steps_tree}
use Rattle.witness.proofs.Firsts.{First, first_symbol, first_call, first_mark_lem, Seen, seen_root, seen_call, seen, allowed_here, sound_founded}
use Rattle.witness.proofs.Distances.{low}

-- the steps ss lead from q, first mark by first mark, to a root symbol x other than b
pub data Leads (ins starts bytes : List ℕ) (b : ℕ) : ℕ → List Mark → ℕ → Type 0 where
  leads_end : {q a x : ℕ} → a < length ins → first_mark ins starts bytes q a ≡ (0, x) → x ≢ b → Leads ins starts bytes b q ((a, 0) ∷ []) x
  leads_on : {q a i r x : ℕ} {ss : List Mark} → a < length ins → first_mark ins starts bytes q a ≡ (suc i, r) → Leads ins starts bytes b r ss x → Leads ins starts bytes b q ((a, suc i) ∷ ss) x

-- x is not b
pub leads_other : {ins starts bytes : List ℕ} {b q x : ℕ} {ss : List Mark} → Leads ins starts bytes b q ss x → x ≢ b
leads_other (leads_end h e o) = o
leads_other (leads_on h e s) = leads_other s

-- ---- they are a fall of the theory
module _ {ins outs starts bytes : List ℕ} {n : ℕ} (L : Layout ins outs starts bytes n) (l : Leaf ins) (b : ℕ) where
  end_path : {q a x : ℕ} {t : Term (ℕ × ℕ)} {m : Mark} → a < length ins → m ≡ (0, x) → x ≢ b → (machine ins outs starts bytes n).rhs q a ≡ t → First outs n (get_or ins a 0) t m → PathTo ins outs l starts bytes n b q 1 ((a, 0) ∷ []) x
  unfolding steps_tree bind symbol
  end_path {q} {a} {x} h e o f (first_symbol {x = y} {ts} g c) =
      let z : y ≡ x = ap (λ (s : Mark). s.1) e in
      record {
        path = fall_root (record { allowed = allowed_here L l q h; name = y; below = ts; is = f; other = λ w. o (sym z ∙ ap (λ (s : ℕ × ℕ). s.0) w) });
        there = rw z at g;
        shown = rw (output_node (machine ins outs starts bytes n) q a _, f, count_binds ts _, c, z);
      }
  end_path h e o f (first_call c) = let z = ap (λ (s : Mark). s.0) e in absurd (omega arith)

  on_path : {q a i r x k : ℕ} {ss : List Mark} {t : Term (ℕ × ℕ)} {m : Mark} → q < n → a < length ins → m ≡ (suc i, r) → (machine ins outs starts bytes n).rhs q a ≡ t → First outs n (get_or ins a 0) t m → (r < n → PathTo ins outs l starts bytes n b r k ss x) → PathTo ins outs l starts bytes n b q (suc k) ((a, suc i) ∷ ss) x
  unfolding steps_tree bind
  on_path h g e f (first_symbol d c) rest = let z = ap (λ (s : Mark). s.0) e in absurd (omega arith)
  on_path {q} {a} {i} {r} {ss = ss} h g e f (first_call {i = j} {p} c) rest =
      let M = machine ins outs starts bytes n in
      let C : CallsOnly (alphabet ins l) M q a (replicate (get_or ins a 0) 0) (suc i) r = record { allowed = allowed_here L l q g; is = f ∙ ap var e } in
      let z : p ≡ r = ap (λ (s : Mark). s.1) e in
      let R = rest (rw z at c.state) in
      record {
        path = fall_call C R.path;
        there = R.there;
        shown = rw (output_node M q a (put (alphabet ins l) (replicate (get_or ins a 0) 0) (suc i) (steps_tree ins l ss)), C.is, call_put (alphabet ins l) (steps_tree ins l ss) M (replicate (get_or ins a 0) 0) (suc i) r (only_call (machine_wf l L.wholes) h C).sort) R.shown;
      }

  pub leads_path : {q x : ℕ} {ss : List Mark} → q < n → Leads ins starts bytes b q ss x → PathTo ins outs l starts bytes n b q (length ss) ss x
  leads_path h (leads_end g e o) = end_path g e o refl (first_mark_lem L h g)
  leads_path h (leads_on g e s) = on_path h g e refl (first_mark_lem L h g) (λ v. leads_path v s)

-- ---- one more step
pairs_set : (s : List ℕ) (k a i : ℕ) → 2 * k + 1 < length s → pairs (set (set s (2 * k) a) (2 * k + 1) i) ≡ set (pairs s) k (a, i)
unfolding pairs
pairs_set [] k a i h = absurd (omega arith)
pairs_set (x ∷ []) k a i h = absurd (omega arith)
pairs_set (x ∷ y ∷ s) ℕ.zero a i h = refl
pairs_set (x ∷ y ∷ s) (suc k) a i h =
    let e : 2 * suc k ≡ suc (suc (2 * k)) = omega arith in
    let f : suc (suc (2 * k)) + 1 ≡ suc (suc (2 * k + 1)) = omega arith in
    rw (e, f) (ap (◌∷◌ (x, y)) (pairs_set s k a i (omega arith)))

part_more : (s : List ℕ) (k a i : ℕ) → 2 * k + 1 < length s → part (set (set s (2 * k) a) (2 * k + 1) i) 0 (k + 1) ≡ part s 0 k ++ ((a, i) ∷ [])
part_more s k a i h = rw (pairs_set s k a i h, add-one) (take-suc-set (pairs s) k (a, i) (omega (arith, pairs_length s (k + 1) (omega arith))))

-- step k of some bytes: an input symbol and one of its children, or 0
abbrev pub StepIn : List ℕ → List ℕ → ℕ → Type 0
StepIn ins s k = (get_or s (2 * k) 0 < length ins) × (get_or s (2 * k + 1) 0 ≤ get_or ins (get_or s (2 * k) 0) 0)

module _ (ins s : List ℕ) (k a i : ℕ) where
  set_before : (j : ℕ) → j < 2 * k → get_or (set (set s (2 * k) a) (2 * k + 1) i) j 0 ≡ get_or s j 0
  set_before j h = get_or-set_other (set s (2 * k) a) (2 * k + 1) j i 0 (λ e. omega arith) ∙ get_or-set_other s (2 * k) j a 0 (λ e. omega arith)

  steps_in : 2 * k + 1 < length s → a < length ins → i ≤ get_or ins a 0 → ((j : ℕ) → j < k → StepIn ins s j) → (j : ℕ) → j < k + 1 → StepIn ins (set (set s (2 * k) a) (2 * k + 1) i) j
  steps_in h g r old =
      let e : get_or (set (set s (2 * k) a) (2 * k + 1) i) (2 * k) 0 ≡ a = get_or-set_other (set s (2 * k) a) (2 * k + 1) (2 * k) i 0 (λ e. omega arith) ∙ get_or-set_same s (2 * k) a 0 (omega arith) in
      let f : get_or (set (set s (2 * k) a) (2 * k + 1) i) (2 * k + 1) 0 ≡ i = get_or-set_same (set s (2 * k) a) (2 * k + 1) i 0 (omega (arith, length-set s (2 * k) a)) in
      below_more (StepIn ins (set (set s (2 * k) a) (2 * k + 1) i)) k
      (λ j l. rw (set_before (2 * j) (omega arith), set_before (2 * j + 1) (omega arith)) (old j l))
      (rw (e, f) (g, r))

-- ---- the loop: step after step, until the distance is 1
pub record PathLoop (ins starts bytes dist : List ℕ) (q b : ℕ) (steps₀ steps : List ℕ) (count p k : ℕ) : Type 0 where
  pub same_length : length steps ≡ length steps₀
  pub few : count ≤ 128
  pub less : k < count
  pub ready : Settable ins starts bytes dist p b
  pub here : get_or dist p 0 + k ≡ count
  pub inside : (j : ℕ) → j < k → StepIn ins steps j
  pub onward : (ss : List Mark) (x : ℕ) → Leads ins starts bytes b p ss x → Leads ins starts bytes b q (part steps 0 k ++ ss) x

-- a call of a state that is one step nearer
call_view : {outs : List ℕ} {n r : ℕ} {dist : List ℕ} {b : ℕ} {t : Term (ℕ × ℕ)} {m : Mark} {d k : ℕ} → d ≡ suc (suc k) → Seen outs n r dist b t m d → (i : ℕ) × (s : ℕ) × (m ≡ (suc i, s)) × (suc i ≤ r) × (s < n) × (get_or dist s 0 ≡ suc k)
call_view e (seen_root h f o) = absurd (omega arith)
call_view e (seen_call {i} {p} c f) = (i, p, refl, c.child, c.state, omega arith)

-- a root symbol other than b
root_view : {outs : List ℕ} {n r : ℕ} {dist : List ℕ} {b : ℕ} {t : Term (ℕ × ℕ)} {m : Mark} {d : ℕ} → d ≡ 1 → Seen outs n r dist b t m d → (x : ℕ) × (m ≡ (0, x)) × (x ≢ b)
root_view e (seen_root {x} h f o) = (x, refl, o)
root_view e (seen_call c f) = absurd (omega arith)

module _ {ins starts bytes dist : List ℕ} {q b : ℕ} {steps₀ : List ℕ} (F : PathAsked ins starts bytes dist q b steps₀) where
  pub decreasing_start : {count : ℕ} → count ≡ get_or dist q 0 → PathLoop ins starts bytes dist q b steps₀ steps₀ count q 0
  decreasing_start e =
      let T = F.at.table in
      let R : Settable ins starts bytes dist q b = record { at = F.at; founded = sound_founded T.layout T.leaf b dist F.sound } in
      record {
        same_length = refl;
        few = omega (arith, low R q F.at.state);
        less = omega (arith, F.found);
        ready = R;
        here = omega arith;
        inside = λ j h. absurd (omega arith);
        onward = λ ss x s. s;
      }

  module _ {steps : List ℕ} {count p k : ℕ} (L : PathLoop ins starts bytes dist q b steps₀ steps count p k) where
    pub decreasing_steppable : Steppable ins starts bytes dist p b × (2 * k + 1 < length steps)
    decreasing_steppable = (record { at = L.ready.at; found = λ z. omega (arith, L.here, L.less); step = go (get_or dist p 0) refl }, omega (arith, L.few, L.less, L.same_length, F.room))
      where
        go : (d : ℕ) → get_or dist p 0 ≡ d → (a : ℕ) × (a < length ins) × (step_distance ins starts bytes dist b p a ≡ get_or dist p 0)
        go ℕ.zero e = absurd (omega (arith, L.here, L.less))
        go (suc d) e = let s = L.ready.founded.step p d L.ready.at.state e in (s.0, s.1, s.2 ∙ sym e)

    module _ {steps' : List ℕ} {r : ℕ} (P : PutsStep ins starts bytes dist p b steps k steps' r) where
      step_seen : {d : ℕ} → get_or dist p 0 ≡ suc d → Seen L.ready.at.table.outs L.ready.at.states (get_or ins P.symbol 0) dist b ((machine ins L.ready.at.table.outs starts bytes L.ready.at.states).rhs p P.symbol) (first_mark ins starts bytes p P.symbol) (suc d)
      step_seen e = seen dist b (first_mark_lem L.ready.at.table.layout L.ready.at.state P.found.there) (P.found.distance ∙ e)

      -- what was written, for the first mark (i, x)
      module _ {i x : ℕ} (e : first_mark ins starts bytes p P.symbol ≡ (i, x)) (low : i ≤ get_or ins P.symbol 0) where
        wrote_here : steps' ≡ set (set steps (2 * k) P.symbol) (2 * k + 1) i
        wrote_here = P.wrote ∙ ap (λ (m : Mark). set (set steps (2 * k) P.symbol) (2 * k + 1) m.0) e

        part_here : part steps' 0 (k + 1) ≡ part steps 0 k ++ ((P.symbol, i) ∷ [])
        part_here = ap (λ l. part l 0 (k + 1)) wrote_here ∙ part_more steps k P.symbol i decreasing_steppable.1

        inside_here : (j : ℕ) → j < k + 1 → StepIn ins steps' j
        inside_here = rw wrote_here (steps_in ins steps k P.symbol i decreasing_steppable.1 P.found.there low L.inside)

        length_here : length steps' ≡ length steps₀
        length_here = ap length wrote_here ∙ length-set (set steps (2 * k) P.symbol) (2 * k + 1) i ∙ length-set steps (2 * k) P.symbol ∙ L.same_length

      decreasing_go : {d : ℕ} → k + 1 < count → get_or dist p 0 ≡ suc (suc d) → PathLoop ins starts bytes dist q b steps₀ steps' count r (k + 1)
      decreasing_go {d} h e =
          let w = call_view refl (step_seen e) in
          let z : r ≡ w.1 = P.onward ∙ ap (λ (m : Mark). m.1) w.2 in
          record {
            same_length = length_here w.2 w.3;
            few = L.few;
            less = h;
            ready = rw z (record { at = record { states = L.ready.at.states; table = L.ready.at.table; state = w.4 }; founded = L.ready.founded });
            here = rw z (omega (arith, w.5, L.here));
            inside = inside_here w.2 w.3;
            onward = λ ss x s. rw (part_here w.2 w.3, append_assoc) (L.onward ((P.symbol, suc w.0) ∷ ss) x (leads_on P.found.there w.2 (rw z at s)));
          }

      pub decreasing_next : k + 1 < count → PathLoop ins starts bytes dist q b steps₀ steps' count r (k + 1)
      decreasing_next h = go (get_or dist p 0) refl
        where
          go : (d : ℕ) → get_or dist p 0 ≡ d → PathLoop ins starts bytes dist q b steps₀ steps' count r (k + 1)
          go ℕ.zero e = absurd (omega (arith, L.here))
          go (suc ℕ.zero) e = absurd (omega (arith, L.here))
          go (suc (suc d)) e = decreasing_go h e

      pub decreasing_end : count ≡ get_or dist q 0 → count ≤ k + 1 → DecreasingPath ins starts bytes dist q b steps' count r
      decreasing_end f h =
          let w = root_view refl (step_seen {d = 0} (omega (arith, L.here, L.less))) in
          let z : r ≡ w.0 = P.onward ∙ ap (λ (m : Mark). m.1) w.1 in
          let c : k + 1 ≡ count = omega (arith, L.less) in
          let s : Leads ins starts bytes b q (part steps' 0 count) r = rw (← c, part_here w.1 (omega arith), z) (L.onward ((P.symbol, 0) ∷ []) w.0 (leads_end P.found.there w.1 w.2)) in
          let size : length (part steps' 0 count) ≡ count = omega (arith, length-slice 0 count (pairs steps') (pairs_length steps' count (omega (arith, L.few, F.room, length_here w.1 (omega arith))))) in
          record {
            distance = f;
            few = L.few;
            inside = λ j g. inside_here w.1 (omega arith) j (omega arith);
            other = leads_other s;
            leads = λ outs l n Y v. rw size at (leads_path Y l b v s);
          }

-- in the filled table of an earliest transducer a path leads from every state
pub filled_path : {ins starts bytes : List ℕ} {n b q : ℕ} {dist steps : List ℕ} (S : DistanceTable ins starts bytes n dist) → FillsDistances ins starts bytes n b dist → Earliest (alphabet ins S.leaf) (machine ins S.outs starts bytes n) (λ p. p < n) → q < n → 256 ≤ length steps → PathAsked ins starts bytes dist q b steps
filled_path {n = n} {q = q} S D E h r = record {
  at = record { states = n; table = S; state = h };
  sound = D.sound S.outs S.leaf S.layout;
  found = all_found (machine_wf S.leaf S.layout.wholes) (D.complete S.outs S.leaf S.layout) E q h;
  room = r;
}
