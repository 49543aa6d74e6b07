-- From round to round: a state that calls no moved state has the same right-hand sides up to new classes as up to old ones.
-- Assumes nothing.
use Prim.Native.Nat.{ℕ, suc, ◌+◌, ◌-◌, ◌*◌, ◌≤◌, ◌<◌}
use native.Mathlib.Decide.{ℕ_discrete, dec_lt}
use native.Mathlib.Omega.{arith}
use mathlib.Core.Bool.{Bool, false}
use mathlib.Core.List.{List, []}
use mathlib.Core.Logic.{by_cases, ⊎_elim}
use mathlib.Core.Path.{◌≡◌, refl, sym, ap, ◌∙◌}
use lib.ListN.{length, get_or}
use lib.Seq.{ext_get_or, take_all, sets, length-sets}
use Rattle.std.specs.Prelude.{Option, Some, None}
use Rattle.theory.proofs.Bisimulation.{refine_respects, stable_exact}
use Rattle.formats.specs.Inner.Layout.{body_number, body_count}
use Rattle.formats.specs.Inner.Marked.{part}
use Rattle.formats.proofs.Laws.{written_take}
use Rattle.formats.proofs.Pairs.{number_less}
use Rattle.classes.specs.Inner.Classes.{keyed, body_marks, SameStates, at, Keyable, Classed, Patterned, Numbers}
use Rattle.merging.specs.declared.refining.Row.{Row}
use Rattle.merging.specs.Inner.Refining.{Settles, Placed, NonePlaced, Member, Round, Rounded, Callers, Listed, FlagsMoved, AllPending, Continues, Respecting, Stable, Refined, Startable, Refines, standing}
use Rattle.classes.proofs.Keys.{key_at, key_symbol, key_call, keyed_length, keyed_at, body_ordered, body_keyable, first_there, same_simulates, simulates_same}
use Rattle.classes.proofs.Numbering.{classes_agree, class_below, least_below}
use Rattle.classes.proofs.Patterns.{starts_ordered, same_byte}
use Rattle.merging.proofs.Rounds.{round_few}

-- ---- the classes to start from
-- equivalent states are in one of them
pub pattern_respects : {ins starts bytes classes : List ℕ} {n : ℕ} → Patterned ins starts bytes n classes → Respecting ins starts bytes n classes
pattern_respects {classes = classes} P = record {
  each = λ outs l L W E. refine_respects W E (λ q. at [] q) (λ q. at classes q) (λ p q h g s. refl) (λ p q h g e S. same_byte L.bounds P p q h g (simulates_same L [] h g l S));
}

-- ---- keys up to new classes
-- a part whose calls are of states that keep their class has the same keys
module _ (classes classes' bytes : List ℕ) (i n : ℕ) (K : Keyable classes bytes i n) (same : (k : ℕ) → k < n → 0 < get_or bytes (2 * (i + k)) 0 → at classes' (get_or bytes (2 * (i + k) + 1) 0) ≡ at classes (get_or bytes (2 * (i + k) + 1) 0)) where
  key_kept : (k : ℕ) → k < n → key_at classes' bytes (i + k) ≡ key_at classes bytes (i + k)
  key_kept k h =
      let c = get_or bytes (2 * (i + k)) 0 in
      let x = get_or bytes (2 * (i + k) + 1) 0 in
      by_cases (dec_lt 0 c)
      (λ z. key_call classes' c x z ∙ ap (λ y. (c, y)) (same k h z) ∙ sym (key_call classes c x z))
      (λ z. key_symbol classes' c x (omega arith) ∙ sym (key_symbol classes c x (omega arith)))

  keys_kept : keyed classes' (part bytes i (i + n)) ≡ keyed classes (part bytes i (i + n))
  keys_kept =
      let l = keyed_length classes' bytes i n K.inside in
      ext_get_or (0, 0) _ _ (l ∙ sym (keyed_length classes bytes i n K.inside))
      (λ k h. let g : k < n = omega arith in keyed_at classes' bytes i n K.inside k g ∙ key_kept k g ∙ sym (keyed_at classes bytes i n K.inside k g))

-- ---- the right-hand sides of a state
module _ {ins starts bytes old : List ℕ} (C : Classed ins starts bytes old) (new : List ℕ) {p : ℕ} (h : p < length old)
    (same : (j : ℕ) → at starts (body_count ins p) ≤ j → j < at starts (body_count ins p + length ins) → 0 < at bytes (2 * j) → at bytes (2 * j + 1) < length old → at new (at bytes (2 * j + 1)) ≡ at old (at bytes (2 * j + 1))) where
  body_kept : (a : ℕ) → a < length ins → keyed new (body_marks starts bytes (body_number ins p a)) ≡ keyed old (body_marks starts bytes (body_number ins p a))
  body_kept a l =
      let b = body_number ins p a in
      let less : b < body_count ins (length old) = number_less ins p (length old) a h l in
      let from = at starts b in
      let to = at starts (b + 1) in
      let o : from ≤ to = body_ordered C b less refl refl in
      let K : Keyable old bytes from (to - from) = body_keyable C b less refl refl refl in
      let e : from + (to - from) ≡ to = omega arith in
      let last = number_less ins p (length old) (length ins - 1) h (omega arith) in
      let low : at starts (body_count ins p) ≤ from = starts_ordered C.layout.bounds (body_count ins p) a (omega arith) in
      let high : to ≤ at starts (b + 1 + (length ins - (a + 1))) = starts_ordered C.layout.bounds (b + 1) (length ins - (a + 1)) (omega arith) in
      let end : b + 1 + (length ins - (a + 1)) ≡ body_count ins p + length ins = omega arith in
      rw e at (keys_kept old new bytes from (to - from) K (λ k g c. same (from + k) (omega arith) (omega (arith, ap (at starts) end)) c (first_there (K, K) g c refl)))

  -- so do all right-hand sides of the state
  states_kept : {q : ℕ} → (f : (a : ℕ) → a < length ins → keyed new (body_marks starts bytes (body_number ins q a)) ≡ keyed old (body_marks starts bytes (body_number ins q a))) → SameStates ins starts bytes old p q → SameStates ins starts bytes new p q
  states_kept f S = record { each = λ a l. body_kept a l ∙ S.each a l ∙ sym (f a l) }

-- ---- the start of a round
module _ {ins starts bytes old new : List ℕ} {pending : List Bool} {reps : List (Option ℕ)} {count : ℕ} (long : length new ≡ length old) (same : (q : ℕ) → q < length old → at new q ≡ at old q) (below : (q : ℕ) → q < length old → at new q < count) (every : (k : ℕ) → k < count → (s : ℕ) × Member new k s) where
  start_round : length pending ≡ 128 → length reps ≡ 128 → ((p q : ℕ) → p < length old → q < length old → Placed pending p → Placed pending q → at new p ≡ at new q → SameStates ins starts bytes old p q) → ((k s : ℕ) → standing reps k ≡ Some s → s < length old) → ((c : ℕ) → c < count → standing reps c ≡ None → NonePlaced new pending c) → Round ins starts bytes old new pending reps count count
  start_round flags names fine inside unnamed = record {
    waits = λ q h d. same q h;
    fine = λ p q h g d e x. (sym (same p h) ∙ x ∙ same q g, fine p q h g d e x);
    coarse = λ p q h g d e x S. same p h ∙ x ∙ sym (same q g);
    made = λ k b l. absurd (omega arith);
    inside = inside;
    long = long;
    known = λ q h. rw (← same q h) (below q h);
    below = below;
    stays = λ q h l. same q h;
    keeps = λ r h d. (r, (record { there = omega arith; class = same r h }, d));
    every = every;
    unnamed = unnamed;
    at_least = omega arith;
    flags = flags;
    names = names;
  }

  -- where all states are pending
  pub pending_round : {list : List ℕ} → AllPending pending reps list (length old) → Round ins starts bytes old new pending reps count count
  pending_round A = start_round A.flags A.names (λ p q h g d e x. absurd (A.waiting p h d)) (λ k s e. let y = A.unnamed k in absurd (cc)) (λ c h l q k e d. A.waiting q (omega arith) d)

-- ---- the next round
module _ {ins starts bytes old new : List ℕ} {pending : List Bool} {reps : List (Option ℕ)} {moved : List ℕ} {base count m : ℕ} (C : Classed ins starts bytes old) (R : Rounded ins starts bytes old new pending reps moved base count m) where
  -- the new classes part no equivalent states
  new_respects : {old' : List ℕ} → Respecting ins starts bytes (length old) old → ((q : ℕ) → q < length old → at new q ≡ at old' q) → Respecting ins starts bytes (length old) old'
  new_respects {old'} A same = record {
    each = λ outs l L W E. refine_respects W E (λ q. at old q) (λ q. at old' q) (A.each outs l L W E) (λ p q h g e S. sym (same p h) ∙ R.round.coarse p q h g (R.placed p h) (R.placed q g) e (simulates_same L old h g l S) ∙ same q g);
  }

  -- where no state was moved, the classes are stable
  pub none_moved : m ≡ 0 → Respecting ins starts bytes (length old) old → Stable ins starts bytes (length old) old
  none_moved z A = record {
    respects = A;
    same = λ p q h g e.
        let x = kept p h in
        let y = kept q g in
        (R.round.fine p q h g (R.placed p h) (R.placed q g) (x ∙ e ∙ sym y)).1;
  }
    where
      kept : (q : ℕ) → q < length old → at new q ≡ at old q
      kept q h = ⊎_elim (λ w. w) (λ w. absurd (omega arith)) (R.listed.all q h)

  -- a state stands for each class
  named : (c : ℕ) → c < count → standing reps c ≡ None → ⊥
  named c h e = by_cases (dec_lt c base)
      (λ b. let w = R.round.every c h in R.round.unnamed c b e w.0 w.1.there w.1.class (R.placed w.0 (omega (arith, w.1.there, R.round.long))))
      (λ b. let w = (R.round.made c (omega arith) h).1.0 in absurd (cc))

  module _ {callers : List Row} {old' : List ℕ} {pending' : List Bool} {reps' : List (Option ℕ)} {list' : List ℕ} {len : ℕ} (T : Callers ins starts bytes (length old) callers) (N : Continues callers old new reps old' pending' reps' list' len) (long : length old' ≡ length old) where
    same' : (q : ℕ) → q < length old' → at new q ≡ at old' q
    same' q h = N.same q (omega arith)

    below' : (q : ℕ) → q < length old' → at new q < count
    below' q h = R.round.below q (omega arith)

    long' : length new ≡ length old'
    long' = R.round.long ∙ sym long

    -- a state that calls no moved state
    undisturbed : FlagsMoved callers old new old' pending' list' len → (p : ℕ) → p < length old → Placed pending' p → (j : ℕ) → at starts (body_count ins p) ≤ j → j < at starts (body_count ins p + length ins) → 0 < at bytes (2 * j) → at bytes (2 * j + 1) < length old → at old' (at bytes (2 * j + 1)) ≡ at old (at bytes (2 * j + 1))
    undisturbed S p h d j b l c r =
        let x = at bytes (2 * j + 1) in
        sym (N.same x r) ∙ by_cases (ℕ_discrete (at new x) (at old x)) (λ z. z) (λ z. absurd (S.flagged x p r h z ((T.each p h).each j b l c (omega (arith, C.layout.few_states))) d))

    pub next_round : Round ins starts bytes old' new pending' reps' count count
    next_round = ⊎_elim
        (λ w. start_round long' same' below' R.round.every N.flags N.names
        (λ p q h g d e x. let i : p < length old = omega arith in let j : q < length old = omega arith in states_kept C old' i (undisturbed w.0 p i d) (body_kept C old' j (undisturbed w.0 q j e)) (R.round.fine p q i j (R.placed p i) (R.placed q j) x).1)
        (λ k s e. omega (arith, R.round.inside k s (sym (ap (λ r. standing r k) w.1) ∙ e)))
        (λ c h l. absurd (named c h (sym (ap (λ r. standing r c) w.1) ∙ l))))
        (λ A. pending_round long' same' below' R.round.every {list = list'} (rw long A))
        N.either

-- ---- all rounds
-- a round was done, with as many states as at first
pub record RefineLoop (ins starts bytes old₀ : List ℕ) (callers : List Row) (old new : List ℕ) (pending : List Bool) (reps : List (Option ℕ)) (list moved : List ℕ) (count m : ℕ) : Type 0 where
  pub calls : Callers ins starts bytes (length old₀) callers
  pub long : length old ≡ length old₀
  pub refined : Refined ins starts bytes old new pending reps list moved count m

-- 0 of 0, and 1 of other numbers
unfoldable pub sign : ℕ → ℕ
sign ℕ.zero = 0
sign (suc x) = 1

one_sign : (x : ℕ) → sign x ≤ 1
unfolding sign
one_sign ℕ.zero = omega arith
one_sign (suc x) = omega arith

no_sign : (x : ℕ) → x ≡ 0 → sign x ≡ 0
unfolding sign
no_sign x e = rw e

some_sign : (x : ℕ) → 0 < x → sign x ≡ 1
unfolding sign
some_sign ℕ.zero h = absurd (omega arith)
some_sign (suc x) h = refl

-- how many classes there can still be, and one round that moves no state
pub left : ℕ → ℕ → ℕ → ℕ
left n count m = n - count + sign m

module _ {ins starts bytes old new : List ℕ} {pending : List Bool} {reps : List (Option ℕ)} {list moved : List ℕ} {count m : ℕ} (P : Refined ins starts bytes old new pending reps list moved count m) where
  pub refined_stable : m ≡ 0 → Stable ins starts bytes (length old) old
  refined_stable z = none_moved P.classed P.rounded z P.respects

  module _ {callers : List Row} {old' : List ℕ} {pending' : List Bool} {reps' : List (Option ℕ)} {list' : List ℕ} {len : ℕ} (T : Callers ins starts bytes (length old) callers) (N : Continues callers old new reps old' pending' reps' list' len) (long : length old' ≡ length old) where
    next_classed : Classed ins starts bytes old'
    next_classed = record { outs = P.classed.outs; layout = rw long P.classed.layout }

    -- what the next round asks
    pub next_asks : Classed ins starts bytes old' × Round ins starts bytes old' new pending' reps' count count × Listed pending' list' (length old') len × ((q : ℕ) → q < length old' → at new q ≡ at old' q)
    next_asks = (
      next_classed,
      next_round P.classed P.rounded T N long,
      rw long N.listed,
      λ q h. N.same q (omega arith),
    )

    module _ {new' : List ℕ} {pending'' : List Bool} {reps'' : List (Option ℕ)} {moved' : List ℕ} {count' m' : ℕ} (R : Rounded ins starts bytes old' new' pending'' reps'' moved' count count' m') where
      pub next_refined : Refined ins starts bytes old' new' pending'' reps'' list' moved' count' m'
      next_refined = record {
        base = count;
        classed = next_classed;
        respects = rw long (new_respects P.classed P.rounded P.respects N.same);
        rounded = R;
        room = N.listed.room;
      }

      -- each round but the last makes more classes
      pub next_less : (n : ℕ) → n ≡ length old → 0 < m → left n count' m' < left n count m
      unfolding left sign
      next_less n e h = by_cases (dec_lt 0 m')
          (λ z. omega (arith, R.grew z, round_few R.round, long, one_sign m', some_sign m h))
          (λ z. omega (arith, R.round.at_least, no_sign m' (omega arith), some_sign m h))

-- ---- from the bytes to the end
copied : (from area area' : List ℕ) → length from ≡ length area → area' ≡ sets area 0 from → area' ≡ from
copied from area area' l e = sym (take_all (length from) area' (omega (arith, ap length e, length-sets area 0 from))) ∙ written_take from area area' (length from) refl (omega arith) e

-- the bytes of the right-hand sides, numbered, are classes to start from
pub numbered_start : {ins starts bytes old₀ old new least old' : List ℕ} {count : ℕ} → Classed ins starts bytes old₀ → length old ≡ length old₀ → Patterned ins starts bytes (length old₀) old → Numbers old new least count → length new ≡ length old₀ → old' ≡ sets old 0 new → Startable ins starts bytes old' new count
numbered_start {ins} {starts} {bytes} {old₀} {old} {new} {least} {old'} {count} C l P N m e =
    let z : old' ≡ new = copied new old old' (m ∙ sym l) e in
    rw z (record {
      classed = record { outs = C.outs; layout = rw m C.layout };
      respects = record { each = λ outs l' L W E p q h g s. N.coarse p q (omega arith) (omega arith) ((pattern_respects {classes = old} (rw m P)).each outs l' L W E p q h g s) };
      long = refl;
      same = λ q h. refl;
      below = λ q h. class_below N.classes q (omega arith);
      every = λ k h. let w = least_below N.classes k h in (at least k, record { there = omega (arith, w.0); class = w.1 });
    })

-- stable classes, numbered, are the classes of equivalent states
pub stable_settles : {ins starts bytes old new least : List ℕ} {n count : ℕ} → Stable ins starts bytes n old → length old ≡ n → length new ≡ n → Numbers old new least count → Settles ins starts bytes new least n count
stable_settles {old = old} {new} {n = n} S l m N = record {
  long = m;
  classes = rw l at N.classes;
  exact = λ outs l' L W E p q h g.
      let x = stable_exact W E (λ q. at old q) (S.respects.each outs l' L W E) (λ p q h g e. same_simulates L old h g l' (S.same p q h g e)) p q h g in
      (λ e. x.0 (N.fine p q (omega arith) (omega arith) e), λ s. N.coarse p q (omega arith) (omega arith) (x.1 s));
}

-- where no state was moved, the classes to start from are
pub kept_settles : {ins starts bytes old new least old' old'' new'' : List ℕ} {any : Bool} {n count : ℕ} → Refines ins starts bytes old' old'' new'' any → any ≡ false → Numbers old new least count → length old ≡ n → length new ≡ n → old' ≡ sets old 0 new → length new'' ≡ n → Settles ins starts bytes new'' least n count
kept_settles {old = old} {new} {least} {old'} {old''} {new''} {n = n} P f N l m e l'' =
    let z : old' ≡ new = copied new old old' (m ∙ sym l) e in
    let x : old'' ≡ new = (P.kept f).0 ∙ z in
    let y : length old' ≡ n = ap length z ∙ m in
    let same : (q : ℕ) → q < n → at new'' q ≡ at new q = λ q h. (P.kept f).1 q (omega arith) ∙ ap (λ l. at l q) z in
    stable_settles (rw y at P.stable) (ap length x ∙ m) l'' (rw x (record {
      classes = rw (m ∙ sym l) (classes_agree N.classes (λ q h. same q (omega arith)) (λ k h. refl));
      fine = λ p q h g w. sym (same p (omega arith)) ∙ w ∙ same q (omega arith);
      coarse = λ p q h g w. same p (omega arith) ∙ w ∙ sym (same q (omega arith));
    }))
