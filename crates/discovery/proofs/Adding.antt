-- One body more: written behind the others, it leaves what is there.
-- Assumes nothing.
use Rattle.std.specs.Prelude.{Some}
use Prim.Native.Nat.{ℕ, suc, ◌+◌, ◌-◌, ◌*◌, ◌%◌, ◌≤◌, ◌<◌}
use native.Mathlib.Decide.{ℕ_discrete, dec_lt}
use native.Mathlib.Omega.{arith}
use mathlib.Core.Path.{◌≡◌, refl, sym, ap, ap₂, ◌∙◌}
use mathlib.Core.Logic.{by_cases}
use mathlib.Core.List.{List, ◌++◌, append_assoc}
use lib.ListN.{length, get_or, take, drop, length-set, take-append-drop, length-map}
use lib.Seq.{sets, get_or-set_same, get_or-set_other, take-append-le, take-append-add, take-append_seam, drop_at, length-take-le, length-sets, sets-eq}
use Rattle.theory.specs.Term.{Term}
use Rattle.theory.specs.Transducer.{Transducer}
use Rattle.trees.specs.Code.{Mark}
use Rattle.formats.specs.Inner.Layout.{pairs, body_number}
use Rattle.formats.specs.Inner.Marked.{part}
use Rattle.formats.specs.Sheet.{mark_bytes}
use Rattle.formats.proofs.Cuts.{length-mark_bytes, pairs_mark_bytes, mark_bytes_pairs}
use Rattle.formats.proofs.Pairs.{row_less}
use Rattle.discovery.specs.Inner.Letters.{spelt}
use Rattle.discovery.specs.Inner.Queue.{marks_by, mark_by}
use Rattle.discovery.specs.Inner.Bodies.{BodyAt, BodiesBefore, AddsBody}
use Rattle.discovery.proofs.Queues.{marks_kept}

-- ---- marks written from mark number at on
module _ (out : List ℕ) (at : ℕ) (ms : List Mark) (fits : 2 * (at + length ms) ≤ length out) where
  before_long : (mark_bytes (pairs (take (2 * at) out)) ≡ take (2 * at) out) × (length (pairs (take (2 * at) out)) ≡ at)
  before_long = mark_bytes_pairs (take (2 * at) out) at (length-take-le (2 * at) out (omega arith))

  pairs_before : (s : List ℕ) → pairs (take (2 * at) out ++ s) ≡ pairs (take (2 * at) out) ++ pairs s
  pairs_before s = ap (λ u. pairs (u ++ s)) (sym before_long.0) ∙ pairs_mark_bytes (pairs (take (2 * at) out)) s

  pairs_old : pairs out ≡ pairs (take (2 * at) out) ++ pairs (drop (2 * at) out)
  pairs_old = ap pairs (sym (take-append-drop (2 * at) out)) ∙ pairs_before (drop (2 * at) out)

  pairs_new : pairs (sets out (2 * at) (mark_bytes ms)) ≡ pairs (take (2 * at) out) ++ (ms ++ pairs (drop (2 * at + length (mark_bytes ms)) out))
  pairs_new =
      let rest = drop (2 * at + length (mark_bytes ms)) out in
      ap pairs (sets-eq (mark_bytes ms) out (2 * at) (omega (arith, length-mark_bytes ms)) ∙ append_assoc (take (2 * at) out) (mark_bytes ms) rest) ∙ pairs_before (mark_bytes ms ++ rest) ∙ ap (λ l. pairs (take (2 * at) out) ++ l) (pairs_mark_bytes ms rest)

  -- the marks before them stay
  part_kept : (i k : ℕ) → k ≤ at → part (sets out (2 * at) (mark_bytes ms)) i k ≡ part out i k
  part_kept i k h =
      let l : k ≤ length (pairs (take (2 * at) out)) = omega (arith, before_long.1) in
      ap (drop i) (ap (take k) pairs_new ∙ take-append-le k (pairs (take (2 * at) out)) _ l ∙ sym (ap (take k) pairs_old ∙ take-append-le k (pairs (take (2 * at) out)) _ l))

  -- and they are read back
  part_wrote : part (sets out (2 * at) (mark_bytes ms)) at (at + length ms) ≡ ms
  part_wrote =
      let front = pairs (take (2 * at) out) in
      let rest = pairs (drop (2 * at + length (mark_bytes ms)) out) in
      let e : at + length ms ≡ length front + length ms = omega (arith, before_long.1) in
      ap (drop at) (ap₂ take e pairs_new ∙ take-append-add front (ms ++ rest) (length ms) ∙ ap (λ l. front ++ l) (take-append_seam ms rest)) ∙ drop_at front ms at before_long.1

-- ---- the numbers of bodies
-- a body before one of state p is of a state up to p
before_state : (P q p a a' : ℕ) → a < P → a' < P → q * P + a' ≤ p * P + a → q ≤ p
before_state P q p a a' h g l = by_cases (dec_lt p q) (λ k. absurd (omega (arith, row_less p q a P k h))) (λ k. omega arith)

-- two bodies with one number are one
same_state : (P q p a a' : ℕ) → a < P → a' < P → q * P + a' ≡ p * P + a → (q ≡ p) × (a' ≡ a)
same_state P q p a a' h g e =
    let l = before_state P q p a a' h g (omega arith) in
    let m = before_state P p q a' a g h (omega arith) in
    let z : q ≡ p = omega arith in
    (z, omega (arith, ap (λ k. k * P) z))

-- later bodies start later
module _ {ins starts out list place : List ℕ} {E : Transducer ℕ} {w b met : ℕ} (G : BodiesBefore ins E w b starts out list place met) where
  starts_up : (k j : ℕ) → j + k ≤ b → get_or starts j 0 ≤ get_or starts (j + k) 0
  starts_up ℕ.zero j h = let e : j + 0 ≡ j = omega arith in rw e (omega arith)
  starts_up (suc k) j h = let e : j + suc k ≡ j + k + 1 = omega arith in rw e (omega (arith, starts_up k j (omega arith), G.increasing (j + k) (omega arith)))

  pub starts_most : (j : ℕ) → j ≤ b → get_or starts j 0 ≤ get_or starts b 0
  starts_most j h = let e : j + (b - j) ≡ b = omega arith in rw e at (starts_up (b - j) j (omega arith))

-- ---- a body more
module _ {ins starts out list place starts' out' list' place' s : List ℕ} {E : Transducer ℕ} {w b met n : ℕ}
    (G : BodiesBefore ins E w b starts out list place met) (A : AddsBody s b starts out list place met starts' out' list' place' (Some n)) (t : Term (ℕ × ℕ)) (spelled : s ≡ spelt t) (some : 1 ≤ length s) (room : b + 1 < 2050) where
  old_start : (j : ℕ) → j ≤ b → get_or starts' j 0 ≡ get_or starts j 0
  old_start j h = ap (λ l. get_or l j 0) (A.ended n refl) ∙ get_or-set_other starts (b + 1) j (get_or starts b 0 + length s) 0 (λ e. omega arith)

  new_start : get_or starts' (b + 1) 0 ≡ get_or starts b 0 + length s
  new_start = ap (λ l. get_or l (b + 1) 0) (A.ended n refl) ∙ get_or-set_same starts (b + 1) (get_or starts b 0 + length s) 0 (omega (arith, G.long))

  marked_long : length (marks_by place' s) ≡ length s
  marked_long = length-map s (mark_by place')

  marked_fits : 2 * (get_or starts b 0 + length (marks_by place' s)) ≤ length out
  marked_fits = omega (arith, marked_long, (A.short n refl).1, G.room)

  -- the bodies before it stay
  old_body : (j : ℕ) (u : Term (ℕ × ℕ)) → j < b → BodyAt starts out place j u → BodyAt starts' out' place' j u
  old_body j u h B = record {
    ends = old_start (j + 1) (omega arith) ∙ B.ends ∙ ap (λ k. k + length (spelt u)) (sym (old_start j (omega arith)));
    marked = ap₂ (part out') (old_start j (omega arith)) (old_start (j + 1) (omega arith)) ∙ ap (λ l. part l (get_or starts j 0) (get_or starts (j + 1) 0)) (A.wrote n refl)
        ∙ part_kept out (get_or starts b 0) (marks_by place' s) marked_fits (get_or starts j 0) (get_or starts (j + 1) 0) (starts_most G (j + 1) (omega arith))
        ∙ B.marked ∙ marks_kept (spelt u) place place' (A.kept n refl) B.told;
    told = λ i l g. let w = B.told i l g in rw (A.kept n refl (get_or (spelt u) i 0 % 65536) w) w;
  }

  -- it stands behind them
  new_body : BodyAt starts' out' place' b t
  new_body = record {
    ends = new_start ∙ ap₂ ◌+◌ (sym (old_start b (omega arith))) (ap length spelled);
    marked = ap₂ (part out') (old_start b (omega arith)) (new_start ∙ ap (λ k. get_or starts b 0 + k) (sym marked_long)) ∙ ap (λ l. part l (get_or starts b 0) (get_or starts b 0 + length (marks_by place' s))) (A.wrote n refl)
        ∙ part_wrote out (get_or starts b 0) (marks_by place' s) marked_fits ∙ ap (marks_by place') spelled;
    told = λ i l g. rw spelled at (A.told n refl) i l g;
  }

  -- the states met keep their places
  old_list : (q : ℕ) → q < met → get_or list' q 0 ≡ get_or list q 0
  old_list q h =
      let e = G.queue.number q h in
      let k = A.kept n refl (get_or list q 0) (omega arith) ∙ e in
      let z : q ≡ get_or place' (get_or list q 0) 0 - 1 = omega arith in
      ap (λ i. get_or list' i 0) z ∙ ((A.queue n refl).back (get_or list q 0) (omega arith)).1

  added_increasing : (j : ℕ) → j < b + 1 → (get_or starts' j 0 < get_or starts' (j + 1) 0) × (get_or starts' (j + 1) 0 ≤ get_or starts' j 0 + 64)
  added_increasing j h = by_cases (ℕ_discrete j b)
      (λ e. rw e (omega (arith, old_start b (omega arith), new_start), omega (arith, old_start b (omega arith), new_start, (A.short n refl).0)))
      (λ d. let r = G.increasing j (omega arith) in rw (old_start j (omega arith), old_start (j + 1) (omega arith)) r)

  added_out : length out' ≡ 16384
  added_out = ap length (A.wrote n refl) ∙ length-sets out (2 * get_or starts b 0) (mark_bytes (marks_by place' s)) ∙ G.room

  body_added : (0 < b + 1 → BodyAt starts' out' place' 0 E.initial) → ((q a : ℕ) → a < length ins → body_number ins q a < b + 1 → BodyAt starts' out' place' (body_number ins q a) (E.rhs (get_or list' q 0) a)) → BodiesBefore ins E w (b + 1) starts' out' list' place' n
  body_added i r = record {
    queue = A.queue n refl;
    wide = A.wide n refl ∙ G.wide;
    few = (A.short n refl).2;
    long = omega (arith, ap length (A.ended n refl), length-set starts (b + 1) (get_or starts b 0 + length s), G.long);
    room = added_out;
    start = old_start 0 (omega arith) ∙ G.start;
    increasing = added_increasing;
    all = omega (arith, new_start, (A.short n refl).1);
    initial = i;
    rhs = r;
  }

  -- the initial term is the first
  pub initial_added : b ≡ 0 → t ≡ E.initial → BodiesBefore ins E w (b + 1) starts' out' list' place' n
  initial_added z e = body_added (λ h. rw (z, e) at new_body) (λ q a h l. absurd (omega arith))

  -- the right-hand side of a state that has been met, behind those of the states before it
  pub rhs_added : (p a : ℕ) → b ≡ body_number ins p a → p < met → a < length ins → t ≡ E.rhs (get_or list p 0) a → BodiesBefore ins E w (b + 1) starts' out' list' place' n
  rhs_added p a z h g e = body_added (λ l. old_body 0 E.initial (omega arith) (G.initial (omega arith))) each
    where
      each : (q a' : ℕ) → a' < length ins → body_number ins q a' < b + 1 → BodyAt starts' out' place' (body_number ins q a') (E.rhs (get_or list' q 0) a')
      each q a' k l =
          let m = before_state (length ins) q p a a' g k (omega arith) in
          by_cases (dec_lt (body_number ins q a') b)
          (λ y. rw (old_list q (omega arith)) (old_body (body_number ins q a') (E.rhs (get_or list q 0) a') y (G.rhs q a' k y)))
          (λ y. let x = same_state (length ins) q p a a' g k (omega arith) in rw (x.0, x.1, old_list p h, ← z, ← e) new_body)
