-- Samples of the linear test: the transducer T of document 01 is not linear, and one is whose states that are not reached call a child twice. What the linear test then answers is in Laws.
-- Assumes nothing.
use Prim.Native.Nat.{ℕ, suc, ◌<◌}
use native.Mathlib.Omega.{arith}
use mathlib.Core.List.{List, [], ◌∷◌}
use mathlib.Core.Option.{some}
use mathlib.Core.Path.{◌≡◌, refl}
use lib.Dec.{eqb}
use lib.ListN.{get_or}
use Rattle.theory.specs.Linear.{Once}
use Rattle.theory.specs.Reached.{Reached}
use Rattle.theory.specs.Term.{Term, var, node, none, more, count}
use Rattle.theory.specs.Transducer.{Transducer}
use Rattle.theory.specs.Vars.{AllVars, one, each, done}
use Rattle.theory.specs.Weight.{weight}
use Rattle.theory.proofs.Reach.{reached_least}
use Rattle.trees.specs.Alphabets.{Leaf, inputs, outputs}
use Rattle.trees.specs.Code.{Ranked, preorder, Call}
use Rattle.formats.specs.Samples.{S, T}
use Rattle.formats.specs.Sheet.{Sheet, count_bytes, mark_bytes, body_bytes, each as forEach, terms}
use Rattle.transducer.proofs.Samples.{below, S-alphabets, T-machine, T-sheet, twice}
use Rattle.forms.specs.Alphabet.{alphabet}
use Rattle.queries.specs.Linear.{LinearFile}
use Rattle.queries.proofs.Reached.{of_file}
use Rattle.queries.proofs.Uses.{at_most_one}

-- the initial term of T calls child 1 twice
pub T-not_linear : LinearFile S T → ⊥
unfolding T-machine twice weight
T-not_linear F = omega (arith, (of_file S-alphabets.leaf T-sheet F).initial 1)

-- ---- two states, of which the initial term calls the first: this one calls itself, and the second calls itself and the first, on one child
unfoldable kept : ℕ → ℕ → Term (ℕ × ℕ)
kept ℕ.zero ℕ.zero = var (1, 0)
kept ℕ.zero (suc a) = node 1 none
kept (suc q) ℕ.zero = node 0 (more (var (1, 0)) (more (var (1, 1)) none))
kept (suc q) (suc a) = node 1 none

unfoldable kept_machine : Transducer ℕ
kept_machine = record { sort = λ q. 0; initial = var (1, 0); rhs = kept }

-- its file
abbrev pub kept_file : List ℕ
kept_file = 2 ∷ 0 ∷ 1 ∷ 0 ∷ 1 ∷ 0 ∷ 1 ∷ 0 ∷ 3 ∷ 0 ∷ 1 ∷ 1 ∷ 0 ∷ 1 ∷ 0 ∷ 0 ∷ 1 ∷ 0 ∷ 0 ∷ 1 ∷ 0 ∷ 1 ∷ 1 ∷ 0 ∷ 1 ∷ []

kept_ranked : (q : ℕ) → q < 2 → (a : ℕ) → a < 2 → Ranked (Call 2 (get_or (inputs S) a 0)) (outputs S) (kept q a)
unfolding kept inputs outputs Ranked count
kept_ranked = below 2 _ (below 2 _ (omega arith), (below 2 _ (omega arith), tt))

kept_sheet : Sheet (inputs S) (outputs S) kept_file 2 kept_machine
unfolding kept_machine kept inputs outputs Ranked count preorder count_bytes mark_bytes body_bytes forEach terms
kept_sheet = record {
  counts = 0 ∷ 1 ∷ 0 ∷ 1 ∷ 0 ∷ 1 ∷ 0 ∷ 3 ∷ 0 ∷ 1 ∷ [];
  bytes = 1 ∷ 0 ∷ 1 ∷ 0 ∷ 0 ∷ 1 ∷ 0 ∷ 0 ∷ 1 ∷ 0 ∷ 1 ∷ 1 ∷ 0 ∷ 1 ∷ [];
  coded = refl;
  encodes = record {
    over = record { initial = omega arith; rhs = λ q a h. kept_ranked q h a; sort = λ q h. refl };
    contents = record { states = omega arith; bodies = refl; some = below 5 _ (omega arith); few = below 5 _ (omega arith); all = omega arith };
    counts_coded = refl;
    marks_coded = refl;
  };
}

-- only the first state is reached
kept_reached : (l : Leaf (inputs S)) {q : ℕ} → Reached (alphabet (inputs S) l) kept_machine q → q ≡ 0
unfolding kept_machine kept
kept_reached l = reached_least (λ q. q ≡ 0) (one refl) calls
  where
    calls : (q a : ℕ) (sorts : List ℕ) → q ≡ 0 → (alphabet (inputs S) l).children 0 a ≡ some sorts → AllVars (λ e. e.1 ≡ 0) (kept q a)
    calls ℕ.zero ℕ.zero sorts z k = one refl
    calls ℕ.zero (suc a) sorts z k = each done
    calls (suc q) a sorts z k = absurd (omega arith)

kept_once : (q a : ℕ) → q ≡ 0 → Once (kept q a)
unfolding kept weight
kept_once ℕ.zero ℕ.zero z i = at_most_one (eqb 1 i)
kept_once ℕ.zero (suc a) z i = omega arith
kept_once (suc q) a z i = absurd (omega arith)

-- it is linear, though the second state calls child 1 twice
pub kept_linear : LinearFile S kept_file
unfolding kept_machine weight
kept_linear = record {
  alphabets = S-alphabets;
  states = 2;
  machine = kept_machine;
  sheet = kept_sheet;
  linear = record { initial = λ i. at_most_one (eqb 1 i); rhs = λ q a r k. kept_once q a (kept_reached S-alphabets.leaf r) };
}
