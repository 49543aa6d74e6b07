-- The stages of discovery: the right-hand sides of the states before p, and those of p for the symbols below a, have been read.
-- Assumes nothing.
use Rattle.std.specs.Prelude.{Option, Some}
use Prim.Native.Nat.{ℕ, ◌+◌, ◌-◌, ◌*◌, ◌≤◌, ◌<◌}
use native.Mathlib.Nat.{suc-mul, mul-le-mul}
use native.Mathlib.Numerals.{add-one}
use native.Mathlib.Omega.{arith}
use mathlib.Core.Path.{◌≡◌, refl, sym, ap, ◌∙◌}
use mathlib.Core.List.{List}
use mathlib.Core.Option.{some}
use lib.ListN.{length, get_or, get_elem?, take, drop}
use lib.Seq.{length-take-le, slice}
use Rattle.theory.specs.Discovered.{Read, ReadRhs, no_rhs, read_rhs, ReadStates, read_initial, read_state}
use Rattle.theory.specs.Inner.ReadCalls.{ReadCalls}
use Rattle.theory.specs.Term.{Term, var}
use Rattle.theory.proofs.Discovery.{calls_read, rhs_extends, states_valid}
use Rattle.theory.specs.Transducer.{Transducer}
use Rattle.theory.specs.Wf.{nth, Wf}
use Rattle.theory.proofs.Terms.{bind_var}
use Rattle.theory.proofs.Vars.{all_map}
use Rattle.trees.specs.Alphabets.{Leaf}
use Rattle.trees.specs.Code.{Ranked, Call}
use Rattle.formats.specs.Inner.Layout.{body_number}
use Rattle.trees.proofs.Forest.{letters_pos}
use Rattle.formats.proofs.Pairs.{number_less}
use Rattle.forms.specs.Alphabet.{alphabet, children_inside, children_of_lem}
use Rattle.forms.proofs.Files.{nth_sort}
use Rattle.forms.proofs.Slices.{slice_from}
use Rattle.discovery.specs.Inner.Letters.{spelt}
use Rattle.discovery.specs.Inner.Queue.{Sayable, met_of, letter_calls, Queue}
use Rattle.discovery.specs.Inner.Bodies.{BodiesBefore, AddsBody}
use Rattle.discovery.specs.Inner.Discovering.{ValidCall, ByNumbers, FindsRhs, Empty, Found}
use Rattle.discovery.proofs.Adding.{initial_added, rhs_added}
use Rattle.discovery.proofs.Queues.{calls_spelt, sayable_spelt, spelt_length, get_take, take_get}
use Rattle.discovery.proofs.Ranks.{ranked_all, ranked_bind}

-- ---- the letters of a right-hand side
-- a term has a letter
pub spelt_some : (t : Term (ℕ × ℕ)) → 1 ≤ length (spelt t)
spelt_some t = omega (arith, spelt_length t, letters_pos t)

-- to read the calls among its letters is to read the term
read_spelt : {L L' : List ℕ} (outs : List ℕ) {w : ℕ} → w ≤ 65536 → (r : ℕ) (t : Term (ℕ × ℕ)) → length outs ≤ 64 → Ranked (Call w r) outs t → ReadCalls (letter_calls (spelt t)) L L' → Read t L L'
read_spelt outs narrow r t few h R = calls_read t (rw (calls_spelt outs narrow r few t h) at R)

-- the letters that were found, as they are lent
pub found_spelt : {E : Transducer ℕ} {letters : List ℕ} {c a from to : ℕ} → FindsRhs E c a letters from to → take (to - from) (drop from letters) ≡ spelt (E.rhs c a)
found_spelt {letters = letters} {from = from} {to = to} D =
    let e : from + (to - from) ≡ to = omega (arith, D.ordered) in
    sym (slice_from letters from (to - from) (omega (arith, D.ordered, D.inside))) ∙ ap (λ k. slice from k letters) e ∙ D.spelled

module _ {ins outs : List ℕ} {w : ℕ} {E : Transducer ℕ} {Valid : ℕ → Type 0} (X : ByNumbers ins outs w E Valid) where
  -- its calls are of numbers below w
  small_call : (r : ℕ) (t : Term (ℕ × ℕ)) → Ranked (ValidCall Valid r) outs t → Ranked (Call w r) outs t
  unfolding Ranked
  small_call r t h = rw (bind_var t) at (ranked_bind (ValidCall Valid r) outs (Call w r) (λ e. var e) (λ e k. record { from_one = k.from_one; child = k.child; state = X.small e.1 k.state }) t h)

  pub initial_small : Ranked (Call w 1) outs E.initial
  initial_small = small_call 1 _ X.initial

  pub rhs_small : (c a : ℕ) → Valid c → a < length ins → Ranked (Call w (get_or ins a 0)) outs (E.rhs c a)
  rhs_small c a S h = small_call (get_or ins a 0) _ (X.rhs c a S h)

  -- each of their letters is a symbol or a call
  pub initial_sayable : Sayable w (spelt E.initial)
  initial_sayable = sayable_spelt outs X.narrow 1 X.few_symbols (omega arith) _ initial_small

  pub rhs_sayable : (c a : ℕ) → Valid c → a < length ins → Sayable w (spelt (E.rhs c a))
  rhs_sayable c a S h = sayable_spelt outs X.narrow (get_or ins a 0) X.few_symbols (X.ranks a h) _ (rhs_small c a S h)

  -- to read the calls among their letters is to read them
  pub read_first : {L L' : List ℕ} → ReadCalls (letter_calls (spelt E.initial)) L L' → Read E.initial L L'
  read_first = read_spelt outs X.narrow 1 E.initial X.few_symbols initial_small

  pub read_one : {L L' : List ℕ} (c a : ℕ) → Valid c → a < length ins → ReadCalls (letter_calls (spelt (E.rhs c a))) L L' → Read (E.rhs c a) L L'
  read_one c a S h = read_spelt outs X.narrow (get_or ins a 0) (E.rhs c a) X.few_symbols (rhs_small c a S h)

  -- E is well-formed
  pub numbers_wf : (l : Leaf ins) → Wf (alphabet ins l) E Valid
  unfolding alphabet
  numbers_wf l = record {
    initial = all_map (λ e k. record { valid = k.state; sort = nth_sort 1 e.0 k.from_one k.child ∙ ap some (sym (X.sort e.1)) }) (ranked_all (ValidCall Valid 1) outs _ X.initial);
    rhs = λ c a S k.
        let i = children_inside ins a k in
        all_map (λ e m. record { valid = m.state; sort = ap (λ z. nth z e.0) i.1 ∙ nth_sort (get_or ins a 0) e.0 m.from_one m.child ∙ ap some (sym (X.sort e.1)) })
        (ranked_all (ValidCall Valid (get_or ins a 0)) outs _ (X.rhs c a S i.0));
  }

-- ---- the stages
-- the list of the states met was L when those before p had been read; c is its state number p
pub record Stage (ins : List ℕ) (E : Transducer ℕ) (w p c a : ℕ) (L starts' out list place : List ℕ) (met : ℕ) : Type 0 where
  pub bodies : BodiesBefore ins E w (body_number ins p a) starts' out list place met
  pub first : (l : Leaf ins) → ReadStates (alphabet ins l) E p L
  pub there : get_elem? L p ≡ some c
  pub read : (l : Leaf ins) → ReadRhs (alphabet ins l) E c L a (met_of list met)

-- the list of the states met has their number for its length
pub met_length : {list place : List ℕ} {met : ℕ} → Queue list place met → length (met_of list met) ≡ met
met_length {list} {met = met} Q = length-take-le met list (omega (arith, Q.long, Q.few))

module _ {ins outs : List ℕ} {w : ℕ} {E : Transducer ℕ} {Valid : ℕ → Type 0} (X : ByNumbers ins outs w E Valid) (l : Leaf ins) where
  -- nothing has been read
  no_bodies : {starts' out list place : List ℕ} → Empty w starts' out list place → BodiesBefore ins E w 0 starts' out list place 0
  no_bodies M = record {
    queue = M.queue;
    wide = M.wide;
    few = omega arith;
    long = M.long;
    room = M.room;
    start = M.start;
    increasing = λ j h. absurd (omega arith);
    all = omega (arith, M.start);
    initial = λ h. absurd (omega arith);
    rhs = λ q a h g. absurd (omega arith);
  }

  -- the initial term has been read
  pub found_initial : {starts' out list place starts'' out'' list'' place'' s : List ℕ} {n : ℕ} → Empty w starts' out list place → AddsBody s 0 starts' out list place 0 starts'' out'' list'' place'' (Some n)
      → s ≡ spelt E.initial → Found ins E w 0 starts'' out'' list'' place'' n
  found_initial {n = n} M A e =
      let t = E.initial in
      let z : body_number ins 0 0 ≡ 0 + 1 = omega arith in
      record {
        bodies = rw z (initial_added (no_bodies M) A t e (rw e (spelt_some t)) (omega arith) refl refl);
        read = λ l. read_initial (read_first X (rw e at (A.read n refl)));
      }

  -- no right-hand side of state p has been read
  pub stage_none : {p c met : ℕ} {starts' out list place : List ℕ} → Found ins E w p starts' out list place met → p < met → c ≡ get_or list p 0 → Stage ins E w p c 0 (met_of list met) starts' out list place met
  stage_none {p} {met = met} {list = list} F h e = record {
    bodies = F.bodies;
    first = F.read;
    there = get_take list met p h (omega (arith, F.bodies.queue.long, F.bodies.queue.few)) ∙ ap some (sym e);
    read = λ l. no_rhs;
  }

  module _ {p c a met : ℕ} {L starts' out list place : List ℕ} (T : Stage ins E w p c a L starts' out list place met) where
    -- c is a valid state
    pub stage_state : Valid c
    stage_state = (states_valid (numbers_wf X l) (T.first l)).every p c T.there

    -- it is still number p of the list
    stage_there : get_elem? (met_of list met) p ≡ some c
    stage_there = (rhs_extends (T.read l)).kept p c T.there

    pub stage_place : (p < met) × (get_or list p 0 ≡ c)
    stage_place = take_get list met p stage_there

    module _ (there : a < length ins) where
      -- there is room for its right-hand side
      pub stage_room : body_number ins p a + 1 < 2050
      stage_room = omega (arith, number_less ins p met a stage_place.0 there, mul-le-mul T.bodies.few X.few_inputs)

      -- its letters can be added
      pub stage_ready : {letters : List ℕ} {from to : ℕ} → FindsRhs E c a letters from to
          → Queue list place met × (met ≤ 128) × Sayable (length place) (take (to - from) (drop from letters)) × (body_number ins p a + 1 < length starts') × (get_or starts' (body_number ins p a) 0 ≤ 8192) × (length out ≡ 16384)
      stage_ready D = (T.bodies.queue, T.bodies.few, rw (found_spelt D, T.bodies.wide) (rhs_sayable X c a stage_state there), omega (arith, stage_room, T.bodies.long), T.bodies.all, T.bodies.room)

      -- to read its calls is to read one right-hand side more
      pub stage_read : {L' : List ℕ} (m : Leaf ins) → ReadCalls (letter_calls (spelt (E.rhs c a))) (met_of list met) L' → ReadRhs (alphabet ins m) E c L (a + 1) L'
      unfolding alphabet
      stage_read m R = rw (add-one a) (read_rhs (T.read m) (children_of_lem ins a there) (read_one X c a stage_state there R))

      -- a right-hand side more
      pub stage_next : {starts'' out'' list'' place'' s : List ℕ} {r : Option ℕ} {n : ℕ} → AddsBody s (body_number ins p a) starts' out list place met starts'' out'' list'' place'' r → r ≡ Some n
          → s ≡ spelt (E.rhs c a) → Stage ins E w p c (a + 1) L starts'' out'' list'' place'' n
      stage_next {n = n} R x e =
          let A = rw x at R in
          let z : body_number ins p (a + 1) ≡ body_number ins p a + 1 = omega arith in
          record {
            bodies = rw z (rhs_added T.bodies A (E.rhs c a) e (rw e (spelt_some (E.rhs c a))) stage_room p a refl stage_place.0 there (ap (λ d. E.rhs d a) (sym stage_place.1)));
            first = T.first;
            there = T.there;
            read = λ m. stage_read m (rw e at (A.read n refl));
          }

    -- all right-hand sides of state p have been read
    pub stage_all : a ≡ length ins → Found ins E w (p + 1) starts' out list place met
    unfolding alphabet
    stage_all e =
        let z : body_number ins p a ≡ body_number ins (p + 1) 0 = omega (arith, suc-mul p (length ins), ap (λ k. k * length ins) (add-one p)) in
        record {
          bodies = rw z at T.bodies;
          read = λ m. rw (add-one p) (read_state (T.first m) T.there (rw e at (T.read m)));
        }
