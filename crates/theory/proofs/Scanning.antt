-- States numbered in the order of first meeting, by counting: a reading that goes with the number of states met so far, and fails at a call of any state but those and the next.
use Prim.Native.Nat.{ℕ, suc}
use native.Mathlib.Decide.{dec_lt, ℕ_discrete}
use mathlib.Core.Path.{◌≡◌}
use mathlib.Core.List.{List}
use mathlib.Core.Option.{Option, some, none as nothing, bind as obind}
use Rattle.theory.specs.Grammar.{Grammar}
use Rattle.theory.specs.Term.{Term, var, node, Terms, none, more}
use Rattle.theory.specs.Transducer.{Transducer}

-- Reading goes with the number n of states met so far. A call names one of them (the first test), or the next new one (the second); else reading fails.
unfoldable pub tally : {A B : Type 0} → Dec A → Dec B → ℕ → Option ℕ
tally (yes old) d n = some n
tally (no x) (yes new) n = some (suc n)
tally (no x) (no y) n = nothing

-- the number of states met, after a call of q
unfoldable pub see : ℕ → ℕ → Option ℕ
see q n = tally (dec_lt q n) (ℕ_discrete q n) n

-- the number of states met, after the calls of a term, from left to right
unfoldable mutual
  pub scan : Term (ℕ × ℕ) → ℕ → Option ℕ
  scan (var e) n = see e.1 n
  scan (node k ts) n = scans ts n

  pub scans : Terms (ℕ × ℕ) → ℕ → Option ℕ
  scans none n = some n
  scans (more t ts) n = obind (scan t n) (scans ts)

-- after a right-hand side, which is read only if its symbol is allowed
unfoldable pub scan_rhs : Option (List ℕ) → Term (ℕ × ℕ) → ℕ → Option ℕ
scan_rhs nothing t n = some n
scan_rhs (some sorts) t n = scan t n

-- after k right-hand sides of state p, from that of symbol a on
unfoldable pub scan_rhss : Grammar → Transducer ℕ → ℕ → ℕ → ℕ → ℕ → Option ℕ
scan_rhss G M p ℕ.zero a n = some n
scan_rhss G M p (suc k) a n = obind (scan_rhs (G.children (M.sort p) a) (M.rhs p a) n) (scan_rhss G M p k (suc a))

-- o, if the test holds
unfoldable pub only_if : {A : Type 0} → Dec A → Option ℕ → Option ℕ
only_if (yes h) o = o
only_if (no h) o = nothing

-- after the right-hand sides of m states, from p on, each of which must have been met
unfoldable pub scan_states : Grammar → Transducer ℕ → ℕ → ℕ → ℕ → Option ℕ
scan_states G M ℕ.zero p n = some n
scan_states G M (suc m) p n = only_if (dec_lt p n) (obind (scan_rhss G M p G.symbols 0 n) (scan_states G M m (suc p)))

-- M has the states below N, each of them is met, and they are numbered in that order; Numbers has it that M is then Numbered, and the other way round
unfoldable pub Scanned : Grammar → Transducer ℕ → ℕ → Type 0
Scanned G M N = obind (scan M.initial 0) (scan_states G M N 0) ≡ some N
