-- What the first mark of a right-hand side says of it: a symbol is its root, and a call is all of it. So the distances by first marks are those of the theory.
-- Assumes nothing.
use Prim.Native.Nat.{ℕ, suc, ◌+◌, ◌*◌, ◌≤◌, ◌<◌}
use native.Mathlib.Nat.{add-zero}
use native.Mathlib.Omega.{arith}
use mathlib.Core.Bool.{Bool, true, false}
use mathlib.Core.List.{List}
use mathlib.Core.Logic.{◌≢◌}
use mathlib.Core.Option.{some}
use mathlib.Core.Path.{◌≡◌, refl, sym, ap, ap₂, ◌∙◌}
use lib.Dec.{eqb}
use lib.ListN.{length, get_or, replicate}
use borrow.Author.Tests.{eqb-false, ne_eqb}
use Rattle.theory.specs.Inner.OtherRoot.{RootOther, CallsOnly, Sound, Complete}
use Rattle.theory.specs.Term.{Term, Terms, var, node, count, Symbol}
use Rattle.theory.proofs.Terms.{conflict}
use Rattle.trees.specs.Alphabets.{Leaf}
use Rattle.trees.specs.Code.{Mark, preorder, marks, Ranked, Call}
use Rattle.trees.specs.Inner.Decode.{forest, first, Whole}
use Rattle.formats.specs.Inner.Marked.{part}
use Rattle.formats.specs.Inner.Layout.{pairs, mark_at, mark_of, body, body_number, transducer}
use Rattle.formats.proofs.Pairs.{number_less, pairs_length, getD_slice}
use Rattle.formats.proofs.Sheets.{whole_ranked}
use Rattle.forms.specs.Alphabet.{alphabet, children_inside, children_of_lem}
use Rattle.forms.specs.Inner.Tables.{machine, Layout}
use Rattle.witness.specs.Inner.Other.{other_distance, call_distance, mark_distance, first_mark, step_distance, Founded, Finished}

-- a right-hand side and its first mark: its root symbol, or the call that it is
pub data First (outs : List ℕ) (n r : ℕ) : Term (ℕ × ℕ) → Mark → Type 0 where
  first_symbol : {x : ℕ} {ts : Terms (ℕ × ℕ)} → x < length outs → count ts ≡ get_or outs x 0 → First outs n r (node x ts) (0, x)
  first_call : {i p : ℕ} → Call n r (suc i, p) → First outs n r (var (suc i, p)) (suc i, p)

first_of : (outs : List ℕ) (n r : ℕ) (t : Term (ℕ × ℕ)) → Ranked (Call n r) outs t → First outs n r t (get_or (marks t) 0 (0, 0))
unfolding Ranked preorder
first_of outs n r (var (ℕ.zero, p)) c = absurd (omega (arith, c.from_one))
first_of outs n r (var (suc i, p)) c = first_call c
first_of outs n r (node x ts) c = first_symbol c.0 c.1

some_marks : (t : Term (ℕ × ℕ)) → 0 < length (marks t)
unfolding preorder
some_marks (var e) = omega arith
some_marks (node x ts) = omega arith

-- of the marks number `from` up to `to`
part_first : (outs : List ℕ) (n r : ℕ) (bytes : List ℕ) (from to : ℕ) → 2 * to ≤ length bytes → Whole (mark_of outs n r) (part bytes from to) → (2 * from + 1 < length bytes) × First outs n r (first (forest (mark_of outs n r) (part bytes from to))) (mark_at bytes from)
part_first outs n r bytes from to inside W =
    let t = first (forest (mark_of outs n r) (part bytes from to)) in
    let w = whole_ranked outs n r (part bytes from to) W in
    let p = some_marks t in
    let e = ap length w.1 in
    let long = pairs_length bytes to inside in
    let g = getD_slice from to 0 (pairs bytes) long (omega arith) in
    let h : get_or (marks t) 0 (0, 0) ≡ mark_at bytes from = ap (λ ms. get_or ms 0 (0, 0)) w.1 ∙ g.1 ∙ rw add-zero in
    (omega (arith, g.0), rw h at (first_of outs n r t w.0))

module _ {ins outs starts bytes : List ℕ} {n : ℕ} (L : Layout ins outs starts bytes n) {q a : ℕ} (state : q < n) (there : a < length ins) where
  body_first : (2 * get_or starts (body_number ins q a) 0 + 1 < length bytes) × First outs n (get_or ins a 0) ((machine ins outs starts bytes n).rhs q a) (first_mark ins starts bytes q a)
  unfolding body transducer
  body_first =
      let j = body_number ins q a in
      let less = number_less ins q n a state there in
      part_first outs n (get_or ins a 0) bytes (get_or starts j 0) (get_or starts (j + 1) 0) (L.bounds.inside (j + 1) (omega arith)) (L.wholes.rhs q a state there)

  -- the first mark stands in the file
  pub mark_fits : 2 * get_or starts (body_number ins q a) 0 + 1 < length bytes
  mark_fits = body_first.0

  -- what it says
  pub first_mark_lem : First outs n (get_or ins a 0) ((machine ins outs starts bytes n).rhs q a) (first_mark ins starts bytes q a)
  first_mark_lem = body_first.1

-- ---- distances
-- a right-hand side, its first mark and its distance: its root symbol is not b, or it is a call of a state found
pub data Seen (outs : List ℕ) (n r : ℕ) (dist : List ℕ) (b : ℕ) : Term (ℕ × ℕ) → Mark → ℕ → Type 0 where
  seen_root : {x : ℕ} {ts : Terms (ℕ × ℕ)} → x < length outs → count ts ≡ get_or outs x 0 → x ≢ b → Seen outs n r dist b (node x ts) (0, x) 1
  seen_call : {i p k : ℕ} → Call n r (suc i, p) → get_or dist p 0 ≡ suc k → Seen outs n r dist b (var (suc i, p)) (suc i, p) (suc (suc k))

module _ {outs : List ℕ} {n r : ℕ} (dist : List ℕ) (b : ℕ) where
  pub seen : {t : Term (ℕ × ℕ)} {m : Mark} {d : ℕ} → First outs n r t m → mark_distance dist b m ≡ suc d → Seen outs n r dist b t m (suc d)
  unfolding mark_distance
  seen {d = d} (first_symbol {x} {ts} h e) f = go (eqb x b) refl f
    where
      go : (c : Bool) → eqb x b ≡ c → other_distance c ≡ suc d → Seen outs n r dist b (node x ts) (0, x) (suc d)
      go true z g = absurd (omega arith)
      go false z g = rw (← g) (seen_root h e (eqb-false x b z))
  seen {d = d} (first_call {i} {p} c) f = go (get_or dist p 0) refl f
    where
      go : (k : ℕ) → get_or dist p 0 ≡ k → call_distance k ≡ suc d → Seen outs n r dist b (var (suc i, p)) (suc i, p) (suc d)
      go ℕ.zero z g = absurd (omega arith)
      go (suc k) z g = rw (← g) (seen_call c z)

  -- the distance of a right-hand side with another root symbol, and of a call
  pub root_distance : {t : Term (ℕ × ℕ)} {m : Mark} {x : ℕ} {ts : Terms (ℕ × ℕ)} → First outs n r t m → t ≡ node x ts → ◌≢◌ {A = Symbol} (x, count ts) (b, get_or outs b 0) → mark_distance dist b m ≡ 1
  unfolding mark_distance
  root_distance {x = x} {ts} (first_symbol {x = y} {ts = us} h e) f o =
      let g : y ≡ x = cc in
      let c : us ≡ ts = cc in
      ap other_distance (ne_eqb y b (λ z. o (ap₂ (λ u v. (u, v)) (sym g ∙ z) (ap count (sym c) ∙ e ∙ ap (λ k. get_or outs k 0) z))))
  root_distance {x = x} {ts} (first_call {i} {p} c) f o = conflict (cc)

  pub call_distance_lem : {t : Term (ℕ × ℕ)} {m : Mark} {i p : ℕ} → First outs n r t m → t ≡ var (i, p) → mark_distance dist b m ≡ call_distance (get_or dist p 0)
  unfolding mark_distance
  call_distance_lem (first_symbol h e) f = conflict (cc)
  call_distance_lem {i} {p} (first_call {i = j} {p = s} c) f =
      let g : ◌≡◌ {A = ℕ × ℕ} (suc j, s) (i, p) = cc in
      ap (λ e. call_distance (get_or dist e.1 0)) g

-- an input symbol is allowed, and its children have sort 0
pub allowed_here : {ins outs starts bytes : List ℕ} {n : ℕ} → Layout ins outs starts bytes n → (l : Leaf ins) (q : ℕ) {a : ℕ} → a < length ins → (alphabet ins l).children ((machine ins outs starts bytes n).sort q) a ≡ some (replicate (get_or ins a 0) 0)
unfolding alphabet
allowed_here {ins} L l q {a} there = children_of_lem ins a there

module _ {ins outs starts bytes : List ℕ} {n : ℕ} (L : Layout ins outs starts bytes n) (l : Leaf ins) (b : ℕ) (dist : List ℕ) where
  module _ (q : ℕ) {a : ℕ} (there : a < length ins) where
    -- distance 1 is that of another root symbol
    pub seen_other : {t : Term (ℕ × ℕ)} {m : Mark} {d : ℕ} → (machine ins outs starts bytes n).rhs q a ≡ t → d ≡ 1 → Seen outs n (get_or ins a 0) dist b t m d → RootOther (alphabet ins l) (machine ins outs starts bytes n) (b, get_or outs b 0) q a (replicate (get_or ins a 0) 0)
    seen_other e f (seen_root {x} {ts} h g o) = record { allowed = allowed_here L l q there; name = x; below = ts; is = e; other = λ z. o (ap (λ (s : Symbol). s.0) z) }
    seen_other e f (seen_call {k = k} c g) = absurd (omega arith)

    -- a greater one that of a call
    pub seen_only : {t : Term (ℕ × ℕ)} {m : Mark} {d k : ℕ} → (machine ins outs starts bytes n).rhs q a ≡ t → d ≡ suc (suc k) → Seen outs n (get_or ins a 0) dist b t m d → (i : ℕ) × (r : ℕ) × CallsOnly (alphabet ins l) (machine ins outs starts bytes n) q a (replicate (get_or ins a 0) 0) i r × (get_or dist r 0 ≡ suc k)
    seen_only e f (seen_root h g o) = absurd (omega arith)
    seen_only e f (seen_call {i} {p} c g) = (suc i, p, record { allowed = allowed_here L l q there; is = e }, omega arith)

  -- distances of right-hand sides are a sound table
  pub founded_sound : Founded ins starts bytes n b dist → Sound (alphabet ins l) (machine ins outs starts bytes n) (λ q. q < n) (b, get_or outs b 0) (λ q. get_or dist q 0)
  founded_sound F = record {
    at_root = λ q v e. let s = F.step q 0 v e in (s.0, replicate (get_or ins s.0 0) 0, seen_other q s.1 refl refl (seen dist b (first_mark_lem L v s.1) s.2));
    onward = λ q k v e. let s = F.step q (suc k) v e in let o = seen_only q s.1 refl refl (seen dist b (first_mark_lem L v s.1) s.2) in (s.0, replicate (get_or ins s.0 0) 0, o.0, o.1, o.2, o.3);
  }

  inside_of : (q : ℕ) {a : ℕ} {sorts : List ℕ} → (alphabet ins l).children ((machine ins outs starts bytes n).sort q) a ≡ some sorts → a < length ins
  unfolding alphabet
  inside_of q {a} k = (children_inside ins a k).0

  -- and a sound table has them
  pub sound_founded : Sound (alphabet ins l) (machine ins outs starts bytes n) (λ q. q < n) (b, get_or outs b 0) (λ q. get_or dist q 0) → Founded ins starts bytes n b dist
  sound_founded S = record { step = go }
    where
      go : (q k : ℕ) → q < n → get_or dist q 0 ≡ suc k → (a : ℕ) × (a < length ins) × (step_distance ins starts bytes dist b q a ≡ suc k)
      go q ℕ.zero v e =
          let x = S.at_root q v e in
          let h = inside_of q x.2.allowed in
          (x.0, h, root_distance dist b (first_mark_lem L v h) x.2.is x.2.other)
      go q (suc k) v e =
          let x = S.onward q k v e in
          let h = inside_of q x.4.allowed in
          (x.0, h, call_distance_lem dist b (first_mark_lem L v h) x.4.is ∙ ap call_distance x.5)

  no_call : (k : ℕ) → call_distance k ≡ 0 → k ≡ 0
  no_call ℕ.zero e = refl
  no_call (suc k) e = absurd (omega arith)

  -- where no more are found it is complete
  pub finished_complete : Finished ins starts bytes n b dist → Complete (alphabet ins l) (machine ins outs starts bytes n) (λ q. q < n) (b, get_or outs b 0) (λ q. get_or dist q 0)
  finished_complete F = record {
    root_found = λ q a sorts v x z.
        let h = inside_of q x.allowed in
        omega (arith, root_distance dist b (first_mark_lem L v h) x.is x.other, F.none q v z a h);
    call_found = λ q a sorts i r v x y z.
        let h = inside_of q x.allowed in
        y (no_call (get_or dist r 0) (sym (call_distance_lem dist b (first_mark_lem L v h) x.is) ∙ F.none q v z a h));
  }
