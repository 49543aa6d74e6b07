-- Refining classes: the state that stands for a class, a state placed in its class, one round, and the next.
-- Assumes nothing.
use Prim.Native.Nat.{ℕ, suc, ◌+◌, ◌≤◌, ◌<◌}
use native.Mathlib.Decide.{ℕ_discrete, dec_lt}
use native.Mathlib.Numerals.{add-one}
use native.Mathlib.Omega.{arith}
use mathlib.Core.Bool.{Bool, true, false}
use mathlib.Core.List.{List}
use mathlib.Core.Logic.{◌⊎◌, inl, inr, by_cases, ⊎_elim}
use mathlib.Core.Path.{◌≡◌, refl, sym, ap, ◌∙◌}
use lib.ListN.{length, get_or, set, length-set}
use lib.Seq.{get_or-set_same, get_or-set_other, set-get_or}
use Rattle.std.specs.Prelude.{Option, Some, None, is_some}
use Rattle.std.specs.Option.{unwrap_or}
use Rattle.std.proofs.lemmas.Option.{same_Some}
use Rattle.theory.proofs.Pigeon.{pigeon}
use Rattle.theory.proofs.Terms.{conflict}
use Rattle.trees.specs.Refusal.{Decides}
use Rattle.classes.specs.Inner.Classes.{SameStates, at, Classed}
use Rattle.merging.specs.Inner.Refining.{Placed, standing, NonePlaced, PlacedMember, Member, Represents, Takes, FindsClass, Round, Places, Listed, Moved}

-- what holds of an answer that is some state, and of none, holds
some_or_none : {P : Type 0} (o : Option ℕ) → ((s : ℕ) → o ≡ Some s → P) → (o ≡ None → P) → P
some_or_none None f g = g refl
some_or_none (Some s) f g = f s refl

pub none_if : (o : Option ℕ) → is_some o ≡ false → o ≡ None
none_if None e = refl
none_if (Some s) e = conflict (cc)

pub waits : (pending : List Bool) (q : ℕ) → get_or pending q false ≡ true → Placed pending q → ⊥
waits pending q e d = conflict (cc)

pub decided_not : {P : Type 0} {b : Bool} → Decides P b → b ≡ false → P → ⊥
decided_not D f s = conflict (let t = D.complete s in let z = sym f ∙ t in cc)

-- ---- the state that stands for a class
-- r is a placed state of class c, if there is one or no state stands for the class
pub record Looked (classes : List ℕ) (pending : List Bool) (reps : List (Option ℕ)) (c : ℕ) (r : Option ℕ) : Type 0 where
  pub found : (q : ℕ) → r ≡ Some q → (q < length classes) × (at classes q ≡ c) × Placed pending q
  pub none : r ≡ None → (s : ℕ) → standing reps c ≡ Some s → NonePlaced classes pending c

pub looked_from : {classes : List ℕ} {pending : List Bool} {reps : List (Option ℕ)} {c : ℕ} {r : Option ℕ} → PlacedMember classes pending c r → Looked classes pending reps c r
looked_from P = record { found = P.found; none = λ e s x. P.none e }

pub looked_nowhere : {classes : List ℕ} {pending : List Bool} (reps : List (Option ℕ)) (c : ℕ) → standing reps c ≡ None → Looked classes pending reps c None
looked_nowhere reps c e = record { found = λ q x. absurd (cc); none = λ y s x. absurd (cc) }

-- the first state of the class behind the middle, or the one at hand
pub member_or : {classes : List ℕ} {c p : ℕ} (r : Option ℕ) → ((q : ℕ) → r ≡ Some q → Member classes c q) → Member classes c p → Member classes c (unwrap_or r p)
member_or None f m = m
member_or (Some q) f m = f q refl

module _ {classes : List ℕ} {pending : List Bool} {reps : List (Option ℕ)} {c : ℕ} {r : Option ℕ} (C : Looked classes pending reps c r) {pending' : List Bool} {reps' : List (Option ℕ)} {q : ℕ} (named : reps' ≡ set reps c (Some q)) where
  -- a placed state was found
  pub placed_represents : {s : ℕ} → r ≡ Some s → pending' ≡ pending → q ≡ s → Represents classes pending reps c pending' reps' q
  placed_represents {s} h d e = let w = C.found s h in rw e (record { member = record { there = w.0; class = w.1 }; kept = inl (d, w.2); named = rw e at named })

  -- or any state of the class is placed from now on
  pub made_represents : r ≡ None → Member classes c q → pending' ≡ set pending q false → Represents classes pending reps c pending' reps' q
  made_represents h m d = record { member = m; kept = inr (d, C.none h); named = named }

-- ---- the class of a state among those made
-- a class for which state q stands takes p only if q is like p
pub takes_like : {ins starts bytes old : List ℕ} (reps : List (Option ℕ)) {p : ℕ} (k : ℕ) {q : ℕ} → standing reps k ≡ Some q → Takes ins starts bytes old reps p k → (at old q ≡ at old p) × SameStates ins starts bytes old q p
takes_like reps k {q} e t = let z : q ≡ t.0 = same_Some _ _ (sym e ∙ t.1.0) in rw z (t.1.1, t.1.2)

-- ---- the same right-hand sides
module _ {ins starts bytes classes : List ℕ} where
  pub same_sym : {p q : ℕ} → SameStates ins starts bytes classes p q → SameStates ins starts bytes classes q p
  same_sym S = record { each = λ a h. sym (S.each a h) }

  pub same_trans : {p q r : ℕ} → SameStates ins starts bytes classes p q → SameStates ins starts bytes classes q r → SameStates ins starts bytes classes p r
  same_trans S T = record { each = λ a h. S.each a h ∙ T.each a h }

  pub same_refl : (p : ℕ) → SameStates ins starts bytes classes p p
  same_refl p = record { each = λ a h. refl }

-- what holds of p, and of every other number, holds of every number
elsewhere : (P : ℕ → Type 0) (p : ℕ) → P p → ((q : ℕ) → (q ≡ p → ⊥) → P q) → (q : ℕ) → P q
elsewhere P p x f q = by_cases (ℕ_discrete q p) (λ z. rw z x) (λ z. f q z)

-- ---- a state placed in a class
-- what class k is to p
record Fits (ins starts bytes old new : List ℕ) (pending : List Bool) (reps : List (Option ℕ)) (base count p : ℕ) (new' : List ℕ) (pending' : List Bool) (reps' : List (Option ℕ)) (k count' : ℕ) : Type 0 where
  moved : new' ≡ set new p k
  flagged : pending' ≡ set pending p false
  few : length old ≤ 128
  names_long : length reps' ≡ 128
  fine : (r : ℕ) → r < length old → Placed pending r → at new r ≡ k → (at old r ≡ at old p) × SameStates ins starts bytes old r p
  coarse : (r : ℕ) → r < length old → Placed pending r → at old r ≡ at old p → SameStates ins starts bytes old r p → at new r ≡ k
  stays : k < base → k ≡ at old p
  below : k < count'
  at_least : count ≤ count'
  names : (j : ℕ) → j < count → standing reps' j ≡ standing reps j
  inside : (j s : ℕ) → standing reps' j ≡ Some s → s < length old
  named : k < base → standing reps' k ≡ None → ⊥
  fresh : (j : ℕ) → count ≤ j → j < count' → (s : ℕ) × ((standing reps' j ≡ Some s) × Member new' j s × Placed pending' s)
  keeper : (s : ℕ) × (Member new' (at old p) s × Placed pending' s)

-- there are no more classes than states
every_few : (classes : List ℕ) (count : ℕ) → ((k : ℕ) → k < count → (s : ℕ) × Member classes k s) → count ≤ length classes
every_few classes count f = pigeon (length classes) count (λ k l. (f k l).0) (λ k l. (f k l).1.there) (λ i j k l e. sym (f i k).1.class ∙ ap (at classes) e ∙ (f j l).1.class)

module _ {ins starts bytes old new : List ℕ} {pending : List Bool} {reps : List (Option ℕ)} {base count : ℕ} (R : Round ins starts bytes old new pending reps base count) where
  pub round_few : count ≤ length old
  round_few = omega (arith, every_few new count R.every, R.long)

  -- a state comes to stand for an old class
  round_named : {c q : ℕ} → length old ≤ 128 → c < base → q < length old → Round ins starts bytes old new pending (set reps c (Some q)) base count
  round_named {c} {q} few l h =
      let here : standing (set reps c (Some q)) c ≡ Some q = get_or-set_same reps c (Some q) None (omega (arith, round_few, R.at_least, R.names)) in
      let there : (k : ℕ) → (k ≡ c → ⊥) → standing (set reps c (Some q)) k ≡ standing reps k = λ k z. get_or-set_other reps c k (Some q) None z in
      record {
        waits = R.waits;
        fine = R.fine;
        coarse = R.coarse;
        made = λ k b m. let w = R.made k b m in (w.0, (there k (λ z. omega arith) ∙ w.1.0, w.1.1, w.1.2));
        inside = λ k s e. by_cases (ℕ_discrete k c) (λ z. let y : s ≡ q = same_Some _ _ (sym e ∙ ap (standing (set reps c (Some q))) z ∙ here) in rw y h) (λ z. R.inside k s (sym (there k z) ∙ e));
        long = R.long;
        known = R.known;
        below = R.below;
        stays = R.stays;
        keeps = R.keeps;
        every = R.every;
        unnamed = λ k b m. by_cases (ℕ_discrete k c) (λ z. let y = ap (standing (set reps c (Some q))) z in absurd (cc)) (λ z. R.unnamed k b (sym (there k z) ∙ m));
        at_least = R.at_least;
        flags = R.flags;
        names = length-set reps c (Some q) ∙ R.names;
      }

  module _ {p : ℕ} (h : p < length old) (waiting : Placed pending p → ⊥) {new' : List ℕ} {pending' : List Bool} {reps' : List (Option ℕ)} {k count' : ℕ} (F : Fits ins starts bytes old new pending reps base count p new' pending' reps' k count') where
    here : at new' p ≡ k
    here = ap (λ l. at l p) F.moved ∙ get_or-set_same new p k 0 (omega (arith, R.long))

    there : (q : ℕ) → (q ≡ p → ⊥) → at new' q ≡ at new q
    there q z = ap (λ l. at l q) F.moved ∙ get_or-set_other new p q k 0 z

    placed_here : Placed pending' p
    placed_here = ap (λ l. get_or l p false) F.flagged ∙ get_or-set_same pending p false false (omega (arith, F.few, R.flags))

    placed_there : (q : ℕ) → (q ≡ p → ⊥) → get_or pending' q false ≡ get_or pending q false
    placed_there q z = ap (λ l. get_or l q false) F.flagged ∙ get_or-set_other pending p q false false z

    placed_was : (q : ℕ) → (q ≡ p → ⊥) → Placed pending' q → Placed pending q
    placed_was q z e = sym (placed_there q z) ∙ e

    not_here : (q : ℕ) → Placed pending q → q ≡ p → ⊥
    not_here q e z = waiting (rw z at e)

    placed_still : (q : ℕ) → Placed pending q → Placed pending' q
    placed_still q e = placed_there q (not_here q e) ∙ e

    long' : length new' ≡ length old
    long' = ap length F.moved ∙ simp length-set R.long

    member_still : {j s : ℕ} → Member new j s → (s ≡ p → ⊥) → Member new' j s
    member_still {j} {s} m z = record { there = omega (arith, m.there, long', R.long); class = there s z ∙ m.class }

    placed_member_still : {j s : ℕ} → Member new j s × Placed pending s → Member new' j s × Placed pending' s
    placed_member_still {j} {s} m = (member_still m.0 (not_here s m.1), placed_still s m.1)

    fine' : (q r : ℕ) → q < length old → r < length old → Placed pending' q → Placed pending' r → at new' q ≡ at new' r → (at old q ≡ at old r) × SameStates ins starts bytes old q r
    fine' = elsewhere (λ q. (r : ℕ) → q < length old → r < length old → Placed pending' q → Placed pending' r → at new' q ≡ at new' r → (at old q ≡ at old r) × SameStates ins starts bytes old q r) p
        (elsewhere (λ r. p < length old → r < length old → Placed pending' p → Placed pending' r → at new' p ≡ at new' r → (at old p ≡ at old r) × SameStates ins starts bytes old p r) p
        (λ l m d e x. (refl, same_refl p))
        (λ r z l m d e x. let f = F.fine r m (placed_was r z e) (sym (there r z) ∙ sym x ∙ here) in (sym f.0, same_sym f.1)))
        (λ q y. elsewhere (λ r. q < length old → r < length old → Placed pending' q → Placed pending' r → at new' q ≡ at new' r → (at old q ≡ at old r) × SameStates ins starts bytes old q r) p
        (λ l m d e x. F.fine q l (placed_was q y d) (sym (there q y) ∙ x ∙ here))
        (λ r z l m d e x. R.fine q r l m (placed_was q y d) (placed_was r z e) (sym (there q y) ∙ x ∙ there r z)))

    coarse' : (q r : ℕ) → q < length old → r < length old → Placed pending' q → Placed pending' r → at old q ≡ at old r → SameStates ins starts bytes old q r → at new' q ≡ at new' r
    coarse' = elsewhere (λ q. (r : ℕ) → q < length old → r < length old → Placed pending' q → Placed pending' r → at old q ≡ at old r → SameStates ins starts bytes old q r → at new' q ≡ at new' r) p
        (elsewhere (λ r. p < length old → r < length old → Placed pending' p → Placed pending' r → at old p ≡ at old r → SameStates ins starts bytes old p r → at new' p ≡ at new' r) p
        (λ l m d e x S. refl)
        (λ r z l m d e x S. here ∙ sym (there r z ∙ F.coarse r m (placed_was r z e) (sym x) (same_sym S))))
        (λ q y. elsewhere (λ r. q < length old → r < length old → Placed pending' q → Placed pending' r → at old q ≡ at old r → SameStates ins starts bytes old q r → at new' q ≡ at new' r) p
        (λ l m d e x S. there q y ∙ F.coarse q l (placed_was q y d) x S ∙ sym here)
        (λ r z l m d e x S. there q y ∙ R.coarse q r l m (placed_was q y d) (placed_was r z e) x S ∙ sym (there r z)))

    made' : (j : ℕ) → base ≤ j → j < count' → (s : ℕ) × ((standing reps' j ≡ Some s) × Member new' j s × Placed pending' s)
    made' j b l = by_cases (dec_lt j count) (λ m. let w = R.made j b m in let y = placed_member_still (w.1.1, w.1.2) in (w.0, (F.names j m ∙ w.1.0, y.0, y.1))) (λ m. F.fresh j (omega arith) l)

    every' : (j : ℕ) → j < count' → (s : ℕ) × Member new' j s
    every' j l = by_cases (dec_lt j count)
        (λ m. let w = R.every j m in by_cases (ℕ_discrete w.0 p)
        (λ z. let e : j ≡ at old p = sym w.1.class ∙ ap (at new) z ∙ R.waits p h waiting in (F.keeper.0, rw e F.keeper.1.0))
        (λ z. (w.0, member_still w.1 z)))
        (λ m. let w = F.fresh j (omega arith) l in (w.0, w.1.1))

    round_placed : Round ins starts bytes old new' pending' reps' base count'
    round_placed = record {
      waits = λ q l d. let z : q ≡ p → ⊥ = λ z. d (rw z placed_here) in there q z ∙ R.waits q l (λ e. d (placed_still q e));
      fine = fine';
      coarse = coarse';
      made = made';
      inside = F.inside;
      long = long';
      known = R.known;
      below = elsewhere (λ q. q < length old → at new' q < count') p (λ l. rw here F.below) (λ q z l. rw (there q z) (omega (arith, R.below q l, F.at_least)));
      stays = elsewhere (λ q. q < length old → at new' q < base → at new' q ≡ at old q) p (λ l m. here ∙ F.stays (rw here at m)) (λ q z l m. there q z ∙ R.stays q l (rw (there q z) at m));
      keeps = elsewhere (λ r. r < length old → Placed pending' r → (s : ℕ) × (Member new' (at old r) s × Placed pending' s)) p (λ l d. F.keeper) (λ r z l d. let w = R.keeps r l (placed_was r z d) in (w.0, placed_member_still w.1));
      every = every';
      unnamed = λ c b m. elsewhere (λ q. q < length new' → at new' q ≡ c → Placed pending' q → ⊥) p
          (λ l e d. let w : k ≡ c = sym here ∙ e in F.named (omega arith) (ap (standing reps') w ∙ m))
          (λ q z l e d. R.unnamed c b (sym (F.names c (omega (arith, R.at_least))) ∙ m) q (omega (arith, long', R.long)) (sym (there q z) ∙ e) (placed_was q z d));
      at_least = omega (arith, R.at_least, F.at_least);
      flags = ap length F.flagged ∙ simp length-set R.flags;
      names = F.names_long;
    }

module _ {ins starts bytes old new : List ℕ} {pending : List Bool} {reps : List (Option ℕ)} {base count : ℕ} (R : Round ins starts bytes old new pending reps base count) {p : ℕ} (few : length old ≤ 128) (h : p < length old) where
  flags : p < length pending
  flags = omega (arith, R.flags)

  -- the first placed state of an old class keeps the class
  round_first : NonePlaced new pending (at new p) → (standing reps (at new p) ≡ None → ⊥) → Round ins starts bytes old new (set pending p false) reps base count
  round_first none named =
      let waiting : Placed pending p → ⊥ = λ d. none p (omega (arith, R.long)) refl d in
      let w : at new p ≡ at old p = R.waits p h waiting in
      round_placed R h waiting {count' = count} (record {
        moved = sym (set-get_or new p 0);
        flagged = refl;
        few = few;
        names_long = R.names;
        fine = λ r l d e. absurd (none r (omega (arith, R.long)) e d);
        coarse = λ r l d e S. let k = R.keeps r l d in absurd (none k.0 k.1.0.there (k.1.0.class ∙ e ∙ sym w) k.1.1);
        stays = λ b. w;
        below = R.below p h;
        at_least = omega arith;
        names = λ j m. refl;
        inside = R.inside;
        named = λ b. named;
        fresh = λ j l m. absurd (omega arith);
        keeper = (p, (record { there = omega (arith, R.long); class = w }, get_or-set_same pending p false false flags));
      })

  module _ (waiting : Placed pending p → ⊥) {q : ℕ} (m : Member new (at old p) q) (d : Placed pending q) where
    -- a placed state that stays in the old class of p
    keeper : (k : ℕ) {new' : List ℕ} → new' ≡ set new p k → (s : ℕ) × (Member new' (at old p) s × Placed (set pending p false) s)
    keeper k {new'} e =
        let z : q ≡ p → ⊥ = λ z. waiting (rw z at d) in
        (q, (record { there = omega (arith, m.there, ap length e, length-set new p k); class = ap (λ l. at l q) e ∙ get_or-set_other new p q k 0 z ∙ m.class }, get_or-set_other pending p q false false z ∙ d))

    -- a state comes into the class of a placed state with the same right-hand sides
    round_joined : {s : ℕ} {new' : List ℕ} → s < length old → Placed pending s → at old s ≡ at old p → SameStates ins starts bytes old s p → (standing reps (at old p) ≡ None → ⊥) → new' ≡ set new p (at new s) → Round ins starts bytes old new' (set pending p false) reps base count
    round_joined {s} {new'} l c x S named e = round_placed R h waiting {count' = count} (record {
      moved = e;
      flagged = refl;
      few = few;
      names_long = R.names;
      fine = λ r i z y. let f = R.fine r s i l z c y in (f.0 ∙ x, same_trans f.1 S);
      coarse = λ r i z y T. R.coarse r s i l z c (y ∙ sym x) (same_trans T (same_sym S));
      stays = λ b. R.stays s l b ∙ x;
      below = R.below s l;
      at_least = omega arith;
      names = λ j m. refl;
      inside = R.inside;
      named = λ b. rw (R.stays s l b ∙ x) named;
      fresh = λ j l m. absurd (omega arith);
      keeper = keeper (at new s) e;
    })

    -- there is room for one class more
    round_room : count < length old
    round_room = omega (arith, every_few (set new p count) (suc count) each, length-set new p count, R.long)
      where
        each : (j : ℕ) → j < suc count → (s : ℕ) × Member (set new p count) j s
        each j l = by_cases (dec_lt j count)
            (λ i. let w = R.every j i in by_cases (ℕ_discrete w.0 p)
            (λ z. let e : j ≡ at old p = sym w.1.class ∙ ap (at new) z ∙ R.waits p h waiting in ((keeper count refl).0, rw e (keeper count refl).1.0))
            (λ z. (w.0, record { there = omega (arith, w.1.there, length-set new p count); class = get_or-set_other new p w.0 count 0 z ∙ w.1.class })))
            (λ i. let z : j ≡ count = omega arith in (p, rw z (record { there = omega (arith, length-set new p count, R.long); class = get_or-set_same new p count 0 (omega (arith, R.long)) })))

    -- a state is the first one of a new class
    round_fresh : count < length reps → ((j : ℕ) → base ≤ j → j < count → Takes ins starts bytes old reps p j → ⊥) → (SameStates ins starts bytes old q p → ⊥) → Round ins starts bytes old (set new p count) (set pending p false) (set reps count (Some p)) base (suc count)
    round_fresh room F differs = round_placed R h waiting {count' = suc count} (record {
      moved = refl;
      flagged = refl;
      few = few;
      names_long = length-set reps count (Some p) ∙ R.names;
      fine = λ r l z y. absurd (omega (arith, R.below r l));
      coarse = λ r l z y T. absurd (apart r l z y T);
      stays = λ b. absurd (omega (arith, R.at_least));
      below = omega arith;
      at_least = omega arith;
      names = λ j l. get_or-set_other reps count j (Some p) None (λ z. omega arith);
      inside = λ j s e. by_cases (ℕ_discrete j count)
          (λ z. let y : s ≡ p = same_Some _ _ (sym e ∙ ap (standing (set reps count (Some p))) z ∙ get_or-set_same reps count (Some p) None room) in rw y h)
          (λ z. R.inside j s (sym (get_or-set_other reps count j (Some p) None z) ∙ e));
      named = λ b. absurd (omega (arith, R.at_least));
      fresh = λ j l k. let z : j ≡ count = omega arith in rw z (p, (get_or-set_same reps count (Some p) None room, record { there = omega (arith, R.long, length-set new p count); class = get_or-set_same new p count 0 (omega (arith, R.long)) }, get_or-set_same pending p false false flags));
      keeper = keeper count refl;
    })
      where
        apart : (r : ℕ) → r < length old → Placed pending r → at old r ≡ at old p → SameStates ins starts bytes old r p → ⊥
        apart r l z y T = by_cases (dec_lt (at new r) base)
            (λ b. let f = R.fine q r (omega (arith, m.there, R.long)) l d z (m.class ∙ sym (R.stays r l b ∙ y)) in differs (same_trans f.1 T))
            (λ b.
            let k = R.made (at new r) (omega arith) (R.below r l) in
            let f = R.fine k.0 r (omega (arith, k.1.1.there, R.long)) l k.1.2 z k.1.1.class in
            F (at new r) (omega arith) (R.below r l) (k.0, (k.1.0, f.0 ∙ y, same_trans f.1 T)))

-- a placed state q stands for the old class of p
pub record Stands (ins starts bytes old new : List ℕ) (pending : List Bool) (base count p : ℕ) (pending' : List Bool) (reps' : List (Option ℕ)) (q : ℕ) : Type 0 where
  pub round : Round ins starts bytes old new pending' reps' base count
  pub member : Member new (at old p) q
  pub placed : Placed pending' q
  pub remain : (r : ℕ) → Placed pending r → Placed pending' r
  pub named : standing reps' (at old p) ≡ None → ⊥

module _ {ins starts bytes old new : List ℕ} {pending : List Bool} {reps : List (Option ℕ)} {base count p : ℕ} (C : Classed ins starts bytes old) (R : Round ins starts bytes old new pending reps base count) (h : p < length old) (waiting : Placed pending p → ⊥) where
  -- what standing for the class of p asks
  pub can_stand : Member new (at old p) p × (length new ≤ 128) × (at old p < 128) × ((s : ℕ) → standing reps (at old p) ≡ Some s → s < length new)
  can_stand = (record { there = omega (arith, R.long); class = R.waits p h waiting }, omega (arith, R.long, C.layout.few_states), omega (arith, R.known p h, R.at_least, round_few R, C.layout.few_states), λ s e. omega (arith, R.inside (at old p) s e, R.long))

  pub stands : {pending' : List Bool} {reps' : List (Option ℕ)} {q : ℕ} → Represents new pending reps (at old p) pending' reps' q → Stands ins starts bytes old new pending base count p pending' reps' q
  stands {pending'} {reps'} {q} E = ⊎_elim
      (λ w. rw (E.named, w.0) (record { round = S; member = E.member; placed = w.1; remain = λ r d. d; named = stood }))
      (λ w. rw (E.named, w.0) (record {
        round = round_first S C.layout.few_states l (rw E.member.class (none w.1)) (rw E.member.class stood);
        member = E.member;
        placed = get_or-set_same pending q false false fits;
        remain = elsewhere (λ r. Placed pending r → Placed (set pending q false) r) q (λ d. get_or-set_same pending q false false fits) (λ r z d. get_or-set_other pending q r false false z ∙ d);
        named = stood;
      }))
      E.kept
    where
      l : q < length old
      l = omega (arith, E.member.there, R.long)

      fits : q < length pending
      fits = omega (arith, l, R.flags, C.layout.few_states)

      here : standing (set reps (at old p) (Some q)) (at old p) ≡ Some q
      here = get_or-set_same reps (at old p) (Some q) None (omega (arith, R.names, can_stand.2))

      stood : standing (set reps (at old p) (Some q)) (at old p) ≡ None → ⊥
      stood e = let y = here in absurd (cc)

      S : Round ins starts bytes old new pending (set reps (at old p) (Some q)) base count
      S = round_named R C.layout.few_states (R.known p h) l

      none : ((s : ℕ) → standing reps (at old p) ≡ Some s → NonePlaced new pending (at old p)) → NonePlaced new pending (at old p)
      none f = some_or_none (standing reps (at old p)) f (R.unnamed (at old p) (R.known p h))

module _ {ins starts bytes old new : List ℕ} {pending : List Bool} {base count p : ℕ} {pending' : List Bool} {reps' : List (Option ℕ)} {q : ℕ} (few : length old ≤ 128) (h : p < length old) (S : Stands ins starts bytes old new pending base count p pending' reps' q) where
  -- it is p
  pub places_rep : Placed pending' p → Places ins starts bytes old new pending base count p new pending' reps' count
  places_rep d = record { round = S.round; here = d; remain = S.remain; others = λ q z. refl; at_least = omega arith }

  module _ (waiting : Placed pending' p → ⊥) where
    fits : p < length pending'
    fits = omega (arith, S.round.flags)

    both : (r : ℕ) → Placed pending r → Placed (set pending' p false) r
    both r d = elsewhere (λ r. Placed pending' r → Placed (set pending' p false) r) p (λ d. get_or-set_same pending' p false false fits) (λ r z d. get_or-set_other pending' p r false false z ∙ d) r (S.remain r d)

    q_less : q < length old
    q_less = omega (arith, S.member.there, S.round.long)

    -- the state that stands for the class was in it
    q_class : at old q ≡ at old p
    q_class = sym (S.round.stays q q_less (rw S.member.class (S.round.known p h))) ∙ S.member.class

    pub places_with : SameStates ins starts bytes old q p → Places ins starts bytes old new pending base count p new (set pending' p false) reps' count
    places_with T = record {
      round = round_joined S.round few h waiting S.member S.placed q_less S.placed q_class T S.named (sym (set-get_or new p 0) ∙ ap (set new p) (S.round.waits p h waiting ∙ sym S.member.class));
      here = get_or-set_same pending' p false false fits;
      remain = both;
      others = λ q z. refl;
      at_least = omega arith;
    }

    pub find_asks : (count ≤ 128) × ((k s : ℕ) → standing reps' k ≡ Some s → s < length old)
    find_asks = (omega (arith, round_few S.round), S.round.inside)

    pub room : count < length old
    room = round_room S.round few h waiting S.member S.placed

    module _ {r : Option ℕ} (F : FindsClass ins starts bytes old reps' base count p r) where
      pub places_made : {k : ℕ} → r ≡ Some k → Places ins starts bytes old new pending base count p (set new p k) (set pending' p false) reps' count
      places_made {k} e =
          let t = F.found k e in
          let m = S.round.made k t.0 t.1 in
          let z : m.0 ≡ t.2.0 = same_Some _ _ (sym m.1.0 ∙ t.2.1.0) in
          record {
            round = round_joined S.round few h waiting S.member S.placed (omega (arith, m.1.1.there, S.round.long)) m.1.2 (rw z t.2.1.1) (rw z t.2.1.2) S.named (ap (set new p) (sym m.1.1.class));
            here = get_or-set_same pending' p false false fits;
            remain = both;
            others = λ q z. get_or-set_other new p q k 0 z;
            at_least = omega arith;
          }

      pub places_fresh : r ≡ None → (SameStates ins starts bytes old q p → ⊥) → Places ins starts bytes old new pending base count p (set new p count) (set pending' p false) (set reps' count (Some p)) (count + 1)
      places_fresh e differs = record {
        round = rw (add-one count) (round_fresh S.round few h waiting S.member S.placed (omega (arith, room, S.round.names)) (F.none e) differs);
        here = get_or-set_same pending' p false false fits;
        remain = both;
        others = λ q z. get_or-set_other new p q count 0 z;
        at_least = omega arith;
      }

-- ---- one round
-- the states before number i of the list are placed, and m of them have another class than before
pub record RoundLoop (ins starts bytes old list : List ℕ) (base len : ℕ) (new : List ℕ) (pending : List Bool) (reps : List (Option ℕ)) (moved : List ℕ) (count m i : ℕ) : Type 0 where
  pub less : m ≤ i
  pub round : Round ins starts bytes old new pending reps base count
  pub left : (q : ℕ) → q < length old → (Placed pending q → ⊥) → (j : ℕ) × ((i ≤ j) × (j < len) × (at list j ≡ q))
  pub listed : Moved old new moved m
  pub grew : 0 < m → base < count

module _ {ins starts bytes old : List ℕ} {pending₀ : List Bool} {list : List ℕ} {base len : ℕ} {new : List ℕ} {pending : List Bool} {reps : List (Option ℕ)} {moved : List ℕ} {count m i p : ℕ} (L : RoundLoop ins starts bytes old list base len new pending reps moved count m i) (A : Listed pending₀ list (length old) len) (h : i < len) (e : p ≡ at list i) where
  pub turn_state : p < length old
  turn_state = rw e (A.states i h)

  -- a state behind number i in the list is still to come
  later : (pending' : List Bool) → Placed pending' p → (q : ℕ) → (Placed pending' q → ⊥) → (j : ℕ) × ((i ≤ j) × (j < len) × (at list j ≡ q)) → (j : ℕ) × ((i + 1 ≤ j) × (j < len) × (at list j ≡ q))
  later pending' d q f w =
      let z : w.0 ≡ i → ⊥ = λ z. f (rw (sym w.1.2 ∙ ap (at list) z ∙ sym e) d) in
      (w.0, (omega arith, w.1.1, w.1.2))

  -- the state is placed already
  pub turn_placed : Placed pending p → RoundLoop ins starts bytes old list base len new pending reps moved count m (i + 1)
  turn_placed d = record {
    less = omega (arith, L.less);
    round = L.round;
    left = λ q l f. later pending d q f (L.left q l f);
    listed = L.listed;
    grew = L.grew;
  }

  module _ {new' : List ℕ} {pending' : List Bool} {reps' : List (Option ℕ)} {count' : ℕ} (P : Places ins starts bytes old new pending base count p new' pending' reps' count') where
    left' : (q : ℕ) → q < length old → (Placed pending' q → ⊥) → (j : ℕ) × ((i + 1 ≤ j) × (j < len) × (at list j ≡ q))
    left' q l f = later pending' P.here q f (L.left q l (λ d. f (P.remain q d)))

    -- it keeps its class
    pub turn_kept : at new' p ≡ at old p → RoundLoop ins starts bytes old list base len new' pending' reps' moved count' m (i + 1)
    turn_kept k = record {
      less = omega (arith, L.less);
      round = P.round;
      left = left';
      listed = record {
        room = L.listed.room;
        few = L.listed.few;
        states = L.listed.states;
        all = elsewhere (λ q. q < length old → (at new' q ≡ at old q) ⊎ ((j : ℕ) × ((j < m) × (at moved j ≡ q)))) p (λ l. inl k) (λ q z l. ⊎_elim (λ w. inl (P.others q z ∙ w)) inr (L.listed.all q l));
      };
      grew = λ l. omega (arith, L.grew l, P.at_least);
    }

    -- it has another class
    pub turn_moved : (at new' p ≡ at old p → ⊥) → RoundLoop ins starts bytes old list base len new' pending' reps' (set moved m p) count' (m + 1) (i + 1)
    turn_moved k =
        let room : m < length moved = omega (arith, L.listed.room, L.less, A.few) in
        let here : at (set moved m p) m ≡ p = get_or-set_same moved m p 0 room in
        let there : (j : ℕ) → j < m → at (set moved m p) j ≡ at moved j = λ j l. get_or-set_other moved m j p 0 (λ z. omega arith) in
        record {
          less = omega (arith, L.less);
          round = P.round;
          left = left';
          listed = record {
            room = length-set moved m p ∙ L.listed.room;
            few = omega (arith, L.less, A.few);
            states = λ j l. by_cases (ℕ_discrete j m) (λ z. rw (z, here) turn_state) (λ z. rw (there j (omega arith)) (L.listed.states j (omega arith)));
            all = elsewhere (λ q. q < length old → (at new' q ≡ at old q) ⊎ ((j : ℕ) × ((j < m + 1) × (at (set moved m p) j ≡ q)))) p (λ l. inr (m, (omega arith, here))) (λ q z l. ⊎_elim (λ w. inl (P.others q z ∙ w)) (λ w. inr (w.0, (omega arith, there w.0 w.1.0 ∙ w.1.1))) (L.listed.all q l));
          };
          grew = λ l. by_cases (dec_lt base count') (λ z. z) (λ z. absurd (k (P.round.stays p turn_state (omega (arith, P.round.below p turn_state)))));
        }
