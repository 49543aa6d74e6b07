-- The leaves of an input alphabet: no leaf before the first, and what does not depend on which leaf a grammar names.
-- Assumes nothing.
use Prim.Native.Nat.{ℕ, ◌+◌, ◌≤◌}
use native.Mathlib.Decide.{ℕ_discrete}
use native.Mathlib.Omega.{arith}
use mathlib.Core.List.{List}
use mathlib.Core.Logic.{by_cases}
use mathlib.Core.Path.{◌≡◌, ap, ◌∙◌}
use lib.ListN.{get_or}
use Rattle.theory.specs.Accessible.{Accessible}
use Rattle.theory.specs.Discovered.{ReadRhs, no_rhs, skip_rhs, read_rhs, ReadStates, read_initial, read_state}
use Rattle.theory.specs.Earliest.{Shows, Splits}
use Rattle.theory.specs.Equivalent.{EquivStates}
use Rattle.theory.specs.Grammar.{Allowed, AllAllowed, rule, end, next}
use Rattle.theory.specs.Linear.{Linear}
use Rattle.theory.specs.NormalForm.{Identical}
use Rattle.theory.specs.Pref.{IsPref}
use Rattle.theory.specs.Prefix.{Pattern}
use Rattle.theory.specs.Reached.{Reached, by_initial, by_rhs}
use Rattle.theory.specs.Term.{Tree, Terms}
use Rattle.theory.specs.Transducer.{Transducer}
use Rattle.theory.specs.Trimmed.{Trimmed}
use Rattle.trees.specs.Alphabets.{Leaf}
use Rattle.forms.specs.Alphabet.{alphabet}

-- ---- the first leaf
-- if no leaf stands before a, and a is none, then no leaf stands before a + 1
pub not_leaf : {ins : List ℕ} {a : ℕ} → ((l : Leaf ins) → a ≤ l.symbol) → (get_or ins a 0 ≡ 0 → ⊥) → (l : Leaf ins) → a + 1 ≤ l.symbol
not_leaf {ins} {a} before n l = by_cases (ℕ_discrete a l.symbol) (λ e. absurd (n (ap (λ k. get_or ins k 0) e ∙ l.rank))) (λ d. omega (arith, before l))

-- ---- which symbol of rank 0 a grammar names does not matter
module _ {ins : List ℕ} (l l' : Leaf ins) where
  mutual
    unfolding alphabet

    -- the trees are the same
    pub allowed_leaf : {s : ℕ} {d : Tree} → Allowed (alphabet ins l) s d → Allowed (alphabet ins l') s d
    allowed_leaf (rule e ds) = rule e (alloweds_leaf ds)

    alloweds_leaf : {sorts : List ℕ} {ds : Terms ⊥} → AllAllowed (alphabet ins l) sorts ds → AllAllowed (alphabet ins l') sorts ds
    alloweds_leaf end = end
    alloweds_leaf (next d ds) = next (allowed_leaf d) (alloweds_leaf ds)

  pub identical_leaf : {N N' : Transducer ℕ} {k k' : ℕ} → Identical (alphabet ins l) N N' k k' → Identical (alphabet ins l') N N' k k'
  unfolding alphabet
  identical_leaf i = record { number = i.number; initial = i.initial; sort = i.sort; rhs = i.rhs }

  module _ {Q : Type 0} {M : Transducer Q} where
    -- so are the symbols that are shown
    shows_leaf : {q : Q} {v : List ℕ} {b : ℕ × ℕ} → Shows (alphabet ins l) M q v b → Shows (alphabet ins l') M q v b
    shows_leaf s = record { tree = s.tree; allowed = allowed_leaf s.allowed; shown = s.shown }

    splits_leaf : {q : Q} {v : List ℕ} → Splits (alphabet ins l) M q v → Splits (alphabet ins l') M q v
    splits_leaf s = record { one = s.one; two = s.two; shows_one = shows_leaf s.shows_one; shows_two = shows_leaf s.shows_two; differ = s.differ }

    reached_leaf : {q : Q} → Reached (alphabet ins l) M q → Reached (alphabet ins l') M q
    unfolding alphabet
    reached_leaf (by_initial c) = by_initial c
    reached_leaf (by_rhs r e c) = by_rhs (reached_leaf r) e c

    rhs_leaf : {q : Q} {L L' : List Q} {a : ℕ} → ReadRhs (alphabet ins l) M q L a L' → ReadRhs (alphabet ins l') M q L a L'
    unfolding alphabet
    rhs_leaf no_rhs = no_rhs
    rhs_leaf (skip_rhs r e) = skip_rhs (rhs_leaf r) e
    rhs_leaf (read_rhs r e t) = read_rhs (rhs_leaf r) e t

    states_leaf : {p : ℕ} {L : List Q} → ReadStates (alphabet ins l) M p L → ReadStates (alphabet ins l') M p L
    unfolding alphabet
    states_leaf (read_initial r) = read_initial r
    states_leaf (read_state s e r) = read_state (states_leaf s) e (rhs_leaf r)

module _ {ins : List ℕ} (l l' : Leaf ins) {Q : Type 0} {M : Transducer Q} where
  pub equiv_leaf : {p q : Q} → EquivStates (alphabet ins l) M M p q → EquivStates (alphabet ins l') M M p q
  equiv_leaf s = record { sort = s.sort; output = λ d ok. s.output d (allowed_leaf l' l ok) }

  pub pref_leaf : {q : Q} {h : Pattern} → IsPref (alphabet ins l) M q h → IsPref (alphabet ins l') M q h
  pref_leaf P = record { common = λ d ok. P.common d (allowed_leaf l' l ok); splits = λ w o. splits_leaf l l' (P.splits w o) }

  pub linear_leaf : Linear (alphabet ins l) M → Linear (alphabet ins l') M
  unfolding alphabet
  linear_leaf L = record { initial = L.initial; rhs = λ q a r e. L.rhs q a (reached_leaf l' l r) e }

  pub trimmed_leaf : {Valid : Q → Type 0} {N : Transducer ℕ} {k : ℕ} → Trimmed (alphabet ins l) M Valid N k → Trimmed (alphabet ins l') M Valid N k
  trimmed_leaf T = record { prefix = T.prefix; prefs = λ q v. pref_leaf (T.prefs q v); states = T.states; number = T.number; numbers = T.numbers; met = states_leaf l l' T.met; form = identical_leaf l l' T.form }

  pub accessible_leaf : {N : Transducer ℕ} {k : ℕ} → Accessible (alphabet ins l) M N k → Accessible (alphabet ins l') M N k
  accessible_leaf A = record { states = A.states; number = A.number; numbers = A.numbers; met = states_leaf l l' A.met; form = identical_leaf l l' A.form }
