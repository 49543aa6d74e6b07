-- Refining the classes of states until those of one class have the same right-hand sides up to classes.
-- Only pending states are looked at: at first all states, then those that call a state whose class has changed.
use Rattle.std.specs.Prelude.{ℕ, suc, ◌+◌, ◌*◌, ◌≤◌, ◌<◌, Bool, true, false, List, [], Option, Some, None, ◌⊎◌, ◌≡◌, length, get_or, set}
use Rattle.theory.specs.Earliest.{Earliest}
use Rattle.theory.specs.Inner.Exact.{Respects, Exact}
use Rattle.theory.specs.Quotient.{Classes}
use Rattle.theory.specs.Wf.{Wf}
use Rattle.trees.specs.Alphabets.{Leaf}
use Rattle.formats.specs.Inner.Layout.{body_count}
use Rattle.forms.specs.Alphabet.{alphabet}
use Rattle.forms.specs.Inner.Tables.{machine, Layout}
use Rattle.classes.specs.Inner.Classes.{SameStates, at, Classed}
use Rattle.merging.specs.declared.refining.Bodies.{Bodies}
use Rattle.merging.specs.declared.refining.Row.{Row}

-- of the bodies of a transducer
abbrev pub of_bodies : {A : Type 1} → (List ℕ → List ℕ → List ℕ → A) → Bodies → A
of_bodies f b = f b.ins.now b.starts.now b.marks.now

-- state q is not pending
abbrev pub Placed : List Bool → ℕ → Type 0
Placed pending q = get_or pending q false ≡ false

-- the state that stands for class c, if one does
abbrev pub standing : List (Option ℕ) → ℕ → Option ℕ
standing reps c = get_or reps c None

-- no state of class c is placed
abbrev pub NonePlaced : List ℕ → List Bool → ℕ → Type 0
NonePlaced classes pending c = (q : ℕ) → q < length classes → at classes q ≡ c → Placed pending q → ⊥

-- no placed state of class c has a number from `from` on and below `to`
abbrev pub NonePlacedIn : List ℕ → List Bool → ℕ → ℕ → ℕ → Type 0
NonePlacedIn classes pending c from to = (q : ℕ) → from ≤ q → q < to → at classes q ≡ c → Placed pending q → ⊥

-- r is the first placed state of class c from number `from` on and below `to`, if there is one
pub record FindsPlaced (classes : List ℕ) (pending : List Bool) (c from to : ℕ) (r : Option ℕ) : Type 0 where
  pub found : (q : ℕ) → r ≡ Some q → (q < to) × (at classes q ≡ c) × Placed pending q
  pub first : (q : ℕ) → r ≡ Some q → NonePlacedIn classes pending c from q
  pub none : r ≡ None → NonePlacedIn classes pending c from to

-- r is a placed state of class c, if there is one
pub record PlacedMember (classes : List ℕ) (pending : List Bool) (c : ℕ) (r : Option ℕ) : Type 0 where
  pub found : (q : ℕ) → r ≡ Some q → (q < length classes) × (at classes q ≡ c) × Placed pending q
  pub none : r ≡ None → NonePlaced classes pending c

-- r is a state of class c
pub record Member (classes : List ℕ) (c r : ℕ) : Type 0 where
  pub there : r < length classes
  pub class : at classes r ≡ c

-- state q is of class c and placed: it was, or there was none, if a state stood for the class; it stands for the class now
pub record Represents (classes : List ℕ) (pending : List Bool) (reps : List (Option ℕ)) (c : ℕ) (pending' : List Bool) (reps' : List (Option ℕ)) (q : ℕ) : Type 0 where
  pub member : Member classes c q
  pub kept : ((pending' ≡ pending) × Placed pending q) ⊎ ((pending' ≡ set pending q false) × ((s : ℕ) → standing reps c ≡ Some s → NonePlaced classes pending c))
  pub named : reps' ≡ set reps c (Some q)

-- the state that stands for class k was in the class of p and has the same right-hand sides up to old classes
abbrev pub Takes : List ℕ → List ℕ → List ℕ → List ℕ → List (Option ℕ) → ℕ → ℕ → Type 0
Takes ins starts bytes old reps p k = (s : ℕ) × ((standing reps k ≡ Some s) × (at old s ≡ at old p) × SameStates ins starts bytes old s p)

-- r is the first class from `base` on and below `count` that takes p, if there is one
pub record FindsClass (ins starts bytes old : List ℕ) (reps : List (Option ℕ)) (base count p : ℕ) (r : Option ℕ) : Type 0 where
  pub found : (k : ℕ) → r ≡ Some k → (base ≤ k) × (k < count) × Takes ins starts bytes old reps p k
  pub first : (k : ℕ) → r ≡ Some k → (j : ℕ) → base ≤ j → j < k → Takes ins starts bytes old reps p j → ⊥
  pub none : r ≡ None → (j : ℕ) → base ≤ j → j < count → Takes ins starts bytes old reps p j → ⊥

-- ---- one round
-- The states that are placed have their new classes, `count` in number, and those from `base` on are new; the pending ones have their old classes.
pub record Round (ins starts bytes old new : List ℕ) (pending : List Bool) (reps : List (Option ℕ)) (base count : ℕ) : Type 0 where
  -- placed states of one new class were in one class and have the same right-hand sides up to old classes; such states are in one new class
  pub waits : (q : ℕ) → q < length old → (Placed pending q → ⊥) → at new q ≡ at old q
  pub fine : (p q : ℕ) → p < length old → q < length old → Placed pending p → Placed pending q → at new p ≡ at new q → (at old p ≡ at old q) × SameStates ins starts bytes old p q
  pub coarse : (p q : ℕ) → p < length old → q < length old → Placed pending p → Placed pending q → at old p ≡ at old q → SameStates ins starts bytes old p q → at new p ≡ at new q
  -- for each new class a placed state of it stands
  pub made : (k : ℕ) → base ≤ k → k < count → (s : ℕ) × ((standing reps k ≡ Some s) × Member new k s × Placed pending s)
  -- what stands for a class is a state
  pub inside : (k s : ℕ) → standing reps k ≡ Some s → s < length old
  pub long : length new ≡ length old
  pub known : (q : ℕ) → q < length old → at old q < base
  pub below : (q : ℕ) → q < length old → at new q < count
  pub stays : (q : ℕ) → q < length old → at new q < base → at new q ≡ at old q
  -- an old class with a placed state keeps one
  pub keeps : (r : ℕ) → r < length old → Placed pending r → (s : ℕ) × (Member new (at old r) s × Placed pending s)
  -- each class has a state
  pub every : (k : ℕ) → k < count → (s : ℕ) × Member new k s
  -- where no state stands for an old class, none is placed
  pub unnamed : (c : ℕ) → c < base → standing reps c ≡ None → NonePlaced new pending c
  pub at_least : base ≤ count
  pub flags : length pending ≡ 128
  pub names : length reps ≡ 128

-- what placing the pending state p does: it is placed, and so are the states that were; no other state has another class
pub record Places (ins starts bytes old new : List ℕ) (pending : List Bool) (base count p : ℕ) (new' : List ℕ) (pending' : List Bool) (reps' : List (Option ℕ)) (count' : ℕ) : Type 0 where
  pub round : Round ins starts bytes old new' pending' reps' base count'
  pub here : Placed pending' p
  pub remain : (q : ℕ) → Placed pending q → Placed pending' q
  pub others : (q : ℕ) → (q ≡ p → ⊥) → at new' q ≡ at new q
  pub at_least : count ≤ count'

-- the pending ones of the n states are among the first `len` of the list
pub record Listed (pending : List Bool) (list : List ℕ) (n len : ℕ) : Type 0 where
  pub room : length list ≡ 128
  pub few : len ≤ 128
  pub states : (j : ℕ) → j < len → at list j < n
  pub all : (q : ℕ) → q < n → (Placed pending q → ⊥) → (j : ℕ) × ((j < len) × (at list j ≡ q))

-- the states that have another class than before are the first m of the list
pub record Moved (old new moved : List ℕ) (m : ℕ) : Type 0 where
  pub room : length moved ≡ 128
  pub few : m ≤ 128
  pub states : (j : ℕ) → j < m → at moved j < length old
  pub all : (q : ℕ) → q < length old → (at new q ≡ at old q) ⊎ ((j : ℕ) × ((j < m) × (at moved j ≡ q)))

-- what a round does: no state is pending, and where a state has another class there are more classes
pub record Rounded (ins starts bytes old new : List ℕ) (pending : List Bool) (reps : List (Option ℕ)) (moved : List ℕ) (base count m : ℕ) : Type 0 where
  pub round : Round ins starts bytes old new pending reps base count
  pub placed : (q : ℕ) → q < length old → Placed pending q
  pub listed : Moved old new moved m
  pub grew : 0 < m → base < count

-- ---- the callers of states, in a table with a row for each state called
-- the row of state r
abbrev pub row : List Row → ℕ → Row
row callers r = get_or callers r (record { flags = []; first = 0; end = 0 })

-- state p is flagged as a caller of state r, and within the bounds of its callers
pub record Flagged (callers : List Row) (r p : ℕ) : Type 0 where
  pub flag : get_or (row callers r).flags p false ≡ true
  pub low : (row callers r).first ≤ p
  pub high : p < (row callers r).end

-- what is flagged stays so
pub record StillFlagged (callers callers' : List Row) : Type 0 where
  pub room : length callers' ≡ 128
  pub still : (r p : ℕ) → Flagged callers r p → Flagged callers' r p

-- state p is flagged for the calls in the marks number `from` up to `to`
pub record FlaggedCalls (bytes : List ℕ) (from to p : ℕ) (callers : List Row) : Type 0 where
  pub each : (j : ℕ) → from ≤ j → j < to → 0 < at bytes (2 * j) → at bytes (2 * j + 1) < 128 → Flagged callers (at bytes (2 * j + 1)) p

-- each of n states is flagged for the calls in its right-hand sides
pub record Callers (ins starts bytes : List ℕ) (n : ℕ) (callers : List Row) : Type 0 where
  pub each : (p : ℕ) → p < n → FlaggedCalls bytes (at starts (body_count ins p)) (at starts (body_count ins p + length ins)) p callers

-- ---- the next round
-- 1 of a set flag
unfoldable pub flag : Bool → ℕ
flag false = 0
flag true = 1

-- how many of the first n states are pending
unfoldable pub pending_count : List Bool → ℕ → ℕ
pending_count pending ℕ.zero = 0
pending_count pending (suc n) = pending_count pending n + flag (get_or pending n false)

-- the pending ones of n states are listed, each once
pub record Queue (pending : List Bool) (list : List ℕ) (n len : ℕ) : Type 0 where
  pub listed : Listed pending list n len
  pub counted : len ≤ pending_count pending n

-- what flagging the callers of state r does
pub record FlagsCallers (callers : List Row) (r n : ℕ) (pending pending' : List Bool) (list' : List ℕ) (len : ℕ) : Type 0 where
  pub flags : length pending' ≡ 128
  pub queue : Queue pending' list' n len
  pub still : (q : ℕ) → Placed pending' q → Placed pending q
  pub flagged : (q : ℕ) → q < n → Flagged callers r q → Placed pending' q → ⊥

-- the moved states have their new classes, and their callers are pending
pub record FlagsMoved (callers : List Row) (old new old' : List ℕ) (pending' : List Bool) (list' : List ℕ) (len : ℕ) : Type 0 where
  pub flags : length pending' ≡ 128
  pub same : (q : ℕ) → q < length old → at new q ≡ at old' q
  pub listed : Listed pending' list' (length old) len
  pub flagged : (r q : ℕ) → r < length old → q < length old → (at new r ≡ at old r → ⊥) → Flagged callers r q → Placed pending' q → ⊥

-- all of n states are pending, and no state stands for a class
pub record AllPending (pending : List Bool) (reps : List (Option ℕ)) (list : List ℕ) (n : ℕ) : Type 0 where
  pub flags : length pending ≡ 128
  pub names : length reps ≡ 128
  pub listed : Listed pending list n n
  pub waiting : (q : ℕ) → q < n → Placed pending q → ⊥
  pub unnamed : (c : ℕ) → standing reps c ≡ None

-- what is known when the next round begins: where states were moved, only their callers are pending, or all states are
pub record Continues (callers : List Row) (old new : List ℕ) (reps : List (Option ℕ)) (old' : List ℕ) (pending' : List Bool) (reps' : List (Option ℕ)) (list' : List ℕ) (len : ℕ) : Type 0 where
  pub flags : length pending' ≡ 128
  pub names : length reps' ≡ 128
  pub same : (q : ℕ) → q < length old → at new q ≡ at old' q
  pub listed : Listed pending' list' (length old) len
  pub either : (FlagsMoved callers old new old' pending' list' len × (reps' ≡ reps)) ⊎ AllPending pending' reps' list' (length old)

-- ---- all rounds
-- equivalent states are in one class, if the transducer is well-formed and earliest
pub record Respecting (ins starts bytes : List ℕ) (n : ℕ) (classes : List ℕ) : Type 0 where
  pub each : (outs : List ℕ) (l : Leaf ins) → Layout ins outs starts bytes n → (W : Wf (alphabet ins l) (machine ins outs starts bytes n) (λ q. q < n)) → (E : Earliest (alphabet ins l) (machine ins outs starts bytes n) (λ q. q < n)) → Respects (alphabet ins l) (machine ins outs starts bytes n) (λ q. q < n) (λ q. at classes q)

-- the states of one class have the same right-hand sides up to classes too
pub record Stable (ins starts bytes : List ℕ) (n : ℕ) (classes : List ℕ) : Type 0 where
  pub respects : Respecting ins starts bytes n classes
  pub same : (p q : ℕ) → p < n → q < n → at classes p ≡ at classes q → SameStates ins starts bytes classes p q

-- a round was done, in which m states were moved
pub record Refined (ins starts bytes old new : List ℕ) (pending : List Bool) (reps : List (Option ℕ)) (list moved : List ℕ) (count m : ℕ) : Type 0 where
  pub base : ℕ
  pub classed : Classed ins starts bytes old
  pub respects : Respecting ins starts bytes (length old) old
  pub rounded : Rounded ins starts bytes old new pending reps moved base count m
  pub room : length list ≡ 128

-- the classes from which rounds start: each of `count` classes has a state
pub record Startable (ins starts bytes old new : List ℕ) (count : ℕ) : Type 0 where
  pub classed : Classed ins starts bytes old
  pub respects : Respecting ins starts bytes (length old) old
  pub long : length new ≡ length old
  pub same : (q : ℕ) → q < length old → at new q ≡ at old q
  pub below : (q : ℕ) → q < length old → at old q < count
  pub every : (k : ℕ) → k < count → (s : ℕ) × Member new k s

-- what refining does to classes: they are stable, and as they were where no state was moved
pub record Refines (ins starts bytes old old' new' : List ℕ) (any : Bool) : Type 0 where
  pub stable : Stable ins starts bytes (length old) old'
  pub kept : any ≡ false → (old' ≡ old) × ((q : ℕ) → q < length old → at new' q ≡ at old q)

-- the classes are the classes of equivalent states, if the transducer is well-formed and earliest
pub record Settles (ins starts bytes new least : List ℕ) (n count : ℕ) : Type 0 where
  pub long : length new ≡ n
  pub classes : Classes (λ q. at new q) (λ k. at least k) n count
  pub exact : (outs : List ℕ) (l : Leaf ins) → Layout ins outs starts bytes n → Wf (alphabet ins l) (machine ins outs starts bytes n) (λ q. q < n) → Earliest (alphabet ins l) (machine ins outs starts bytes n) (λ q. q < n) → (p q : ℕ) → p < n → q < n → Exact (alphabet ins l) (machine ins outs starts bytes n) (λ q. at new q) p q
