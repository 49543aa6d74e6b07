-- An input tree on which a state's output has a root symbol other than b: distances, one byte a state, and the steps along which they decrease.
use Rattle.std.specs.Prelude.{ℕ, suc, ◌+◌, ◌*◌, ◌≤◌, ◌<◌, Bool, true, false, List, ◌≢◌, ◌≡◌, eqb, length, get_or, set, Option, Some, None}
use Rattle.theory.specs.Inner.Nodes.{symbol}
use Rattle.theory.specs.Inner.OtherRoot.{Sound, Complete, Falls}
use Rattle.theory.specs.Sum.{sum}
use Rattle.theory.specs.Transducer.{output}
use Rattle.trees.specs.Alphabets.{Leaf}
use Rattle.trees.specs.Code.{Mark}
use Rattle.formats.specs.Inner.Layout.{mark_at, body_number}
use Rattle.formats.specs.Inner.Marked.{part}
use Rattle.theory.specs.Weight.{one_if}
use Rattle.forms.specs.Alphabet.{alphabet}
use Rattle.forms.specs.Inner.Tables.{machine, Layout}
use Rattle.witness.specs.Inner.Shown.{steps_tree}

abbrev pub other_distance : Bool → ℕ
other_distance true = 0
other_distance false = 1

abbrev pub call_distance : ℕ → ℕ
call_distance ℕ.zero = 0
call_distance (suc k) = suc (suc k)

-- How far a right-hand side with this first mark is from a root symbol other than b: 1 for another symbol, one more than the state called for a call; 0 says: not found.
unfoldable pub mark_distance : List ℕ → ℕ → Mark → ℕ
mark_distance dist b (ℕ.zero, x) = other_distance (eqb x b)
mark_distance dist b (suc i, r) = call_distance (get_or dist r 0)

-- the first mark of the right-hand side of q for a
abbrev pub first_mark : List ℕ → List ℕ → List ℕ → ℕ → ℕ → Mark
first_mark ins starts bytes q a = mark_at bytes (get_or starts (body_number ins q a) 0)

-- how far that right-hand side is
abbrev pub step_distance : List ℕ → List ℕ → List ℕ → List ℕ → ℕ → ℕ → ℕ → ℕ
step_distance ins starts bytes dist b q a = mark_distance dist b (first_mark ins starts bytes q a)

-- every distance is that of a right-hand side
pub record Founded (ins starts bytes : List ℕ) (n b : ℕ) (dist : List ℕ) : Type 0 where
  pub step : (q k : ℕ) → q < n → get_or dist q 0 ≡ suc k → (a : ℕ) × (a < length ins) × (step_distance ins starts bytes dist b q a ≡ suc k)

-- no right-hand side of q has a distance
abbrev pub NoneAt : List ℕ → List ℕ → List ℕ → ℕ → List ℕ → ℕ → Type 0
NoneAt ins starts bytes b dist q = (a : ℕ) → a < length ins → step_distance ins starts bytes dist b q a ≡ 0

-- no state without a distance has a right-hand side with one
pub record Finished (ins starts bytes : List ℕ) (n b : ℕ) (dist : List ℕ) : Type 0 where
  pub none : (q : ℕ) → q < n → get_or dist q 0 ≡ 0 → NoneAt ins starts bytes b dist q

-- how many of n states have no distance
abbrev pub missing : List ℕ → ℕ → ℕ
missing dist n = sum (λ q. one_if (eqb (get_or dist q 0) 0)) n

-- ---- what inner functions ask and do
-- a transducer with n states, and room for a distance for each
pub record DistanceTable (ins starts bytes : List ℕ) (n : ℕ) (dist : List ℕ) : Type 0 where
  pub outs : List ℕ
  pub layout : Layout ins outs starts bytes n
  pub leaf : Leaf ins
  pub long : n ≤ length dist

-- q is one of its states
pub record DistanceTableAt (ins starts bytes dist : List ℕ) (q : ℕ) : Type 0 where
  pub states : ℕ
  pub table : DistanceTable ins starts bytes states dist
  pub state : q < states

-- r is this distance, at most 256, or none is found
pub record IsDistance (distance : ℕ) (r : Option ℕ) : Type 0 where
  pub found : (d : ℕ) → r ≡ Some d → (d ≡ distance) × (0 < d) × (d ≤ 256)
  pub none : r ≡ None → distance ≡ 0

-- r is the distance of a right-hand side of q, or none has one
pub record FindsDistance (ins starts bytes dist : List ℕ) (q b : ℕ) (r : Option ℕ) : Type 0 where
  pub found : (d : ℕ) → r ≡ Some d → (0 < d) × (a : ℕ) × (a < length ins) × (step_distance ins starts bytes dist b q a ≡ d)
  pub none : r ≡ None → NoneAt ins starts bytes b dist q

-- the distances so far are those of right-hand sides
pub record Settable (ins starts bytes dist : List ℕ) (q b : ℕ) : Type 0 where
  pub at : DistanceTableAt ins starts bytes dist q
  pub founded : Founded ins starts bytes at.states b dist

-- q, which had no distance, got that of a right-hand side
pub record NewDistance (ins starts bytes dist : List ℕ) (q b : ℕ) (dist' : List ℕ) : Type 0 where
  pub was : get_or dist q 0 ≡ 0
  pub symbol : ℕ
  pub there : symbol < length ins
  pub before : ℕ
  pub distance : step_distance ins starts bytes dist b q symbol ≡ suc before
  pub wrote : dist' ≡ set dist q (suc before)

-- or nothing was done, since it had one, or none of its right-hand sides has
pub record SetsDistance (ins starts bytes dist : List ℕ) (q b : ℕ) (dist' : List ℕ) (r : Bool) : Type 0 where
  pub new : r ≡ true → NewDistance ins starts bytes dist q b dist'
  pub same : r ≡ false → dist' ≡ dist
  pub none : r ≡ false → get_or dist q 0 ≡ 0 → NoneAt ins starts bytes b dist q

pub record Sweepable (ins starts bytes : List ℕ) (n b : ℕ) (dist : List ℕ) : Type 0 where
  pub table : DistanceTable ins starts bytes n dist
  pub founded : Founded ins starts bytes n b dist

-- of all states
pub record SweepsDistances (ins starts bytes : List ℕ) (n b : ℕ) (dist dist' : List ℕ) (r : Bool) : Type 0 where
  pub founded : Founded ins starts bytes n b dist'
  pub fewer : r ≡ true → missing dist' n < missing dist n
  pub same : r ≡ false → dist' ≡ dist
  pub finished : r ≡ false → Finished ins starts bytes n b dist

-- the distances are zeros
pub record Fillable (ins starts bytes : List ℕ) (n : ℕ) (dist : List ℕ) : Type 0 where
  pub table : DistanceTable ins starts bytes n dist
  pub zeros : (q : ℕ) → q < n → get_or dist q 0 ≡ 0

-- the table of distances is sound and complete, whatever the ranks of the output symbols are and whichever leaf is named
pub record FillsDistances (ins starts bytes : List ℕ) (n b : ℕ) (dist : List ℕ) : Type 0 where
  pub sound : (outs : List ℕ) (l : Leaf ins) → Layout ins outs starts bytes n → Sound (alphabet ins l) (machine ins outs starts bytes n) (λ q. q < n) (b, get_or outs b 0) (λ q. get_or dist q 0)
  pub complete : (outs : List ℕ) (l : Leaf ins) → Layout ins outs starts bytes n → Complete (alphabet ins l) (machine ins outs starts bytes n) (λ q. q < n) (b, get_or outs b 0) (λ q. get_or dist q 0)

-- ---- the path along which the distances decrease
-- a right-hand side of q is as far as q
pub record Steppable (ins starts bytes dist : List ℕ) (q b : ℕ) : Type 0 where
  pub at : DistanceTableAt ins starts bytes dist q
  pub found : get_or dist q 0 ≢ 0
  pub step : (a : ℕ) × (a < length ins) × (step_distance ins starts bytes dist b q a ≡ get_or dist q 0)

-- that for a is
pub record FindsStep (ins starts bytes dist : List ℕ) (q b a : ℕ) : Type 0 where
  pub there : a < length ins
  pub distance : step_distance ins starts bytes dist b q a ≡ get_or dist q 0

-- it was written as step k, and r is the state called or the root symbol
pub record PutsStep (ins starts bytes dist : List ℕ) (q b : ℕ) (steps : List ℕ) (k : ℕ) (steps' : List ℕ) (r : ℕ) : Type 0 where
  pub symbol : ℕ
  pub found : FindsStep ins starts bytes dist q b symbol
  pub wrote : steps' ≡ set (set steps (2 * k) symbol) (2 * k + 1) (first_mark ins starts bytes q symbol).0
  pub onward : r ≡ (first_mark ins starts bytes q symbol).1

-- a state with a distance, in a sound table, and room for 128 steps
pub record PathAsked (ins starts bytes dist : List ℕ) (q b : ℕ) (steps : List ℕ) : Type 0 where
  pub at : DistanceTableAt ins starts bytes dist q
  pub sound : Sound (alphabet ins at.table.leaf) (machine ins at.table.outs starts bytes at.states) (λ p. p < at.states) (b, get_or at.table.outs b 0) (λ p. get_or dist p 0)
  pub found : get_or dist q 0 ≢ 0
  pub room : 256 ≤ length steps

-- the steps ss are a path from q, and the output of q on their tree has root symbol x
pub record PathTo (ins outs : List ℕ) (l : Leaf ins) (starts bytes : List ℕ) (n b q count : ℕ) (ss : List Mark) (x : ℕ) : Type 0 where
  pub path : Falls (alphabet ins l) (machine ins outs starts bytes n) (b, get_or outs b 0) q count (steps_tree ins l ss)
  pub there : x < length outs
  pub shown : symbol (output (machine ins outs starts bytes n) (steps_tree ins l ss) q) ≡ (x, get_or outs x 0)

-- the first `count` pairs of bytes are a path from q to x, which is not b; each has an input symbol and one of its children, or 0
pub record DecreasingPath (ins starts bytes dist : List ℕ) (q b : ℕ) (steps : List ℕ) (count x : ℕ) : Type 0 where
  pub distance : count ≡ get_or dist q 0
  pub few : count ≤ 128
  pub inside : (k : ℕ) → k < count → (get_or steps (2 * k) 0 < length ins) × (get_or steps (2 * k + 1) 0 ≤ get_or ins (get_or steps (2 * k) 0) 0)
  pub other : x ≢ b
  pub leads : (outs : List ℕ) (l : Leaf ins) (n : ℕ) → Layout ins outs starts bytes n → q < n → PathTo ins outs l starts bytes n b q count (part steps 0 count) x
