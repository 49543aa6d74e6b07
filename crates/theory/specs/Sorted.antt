-- A transducer in the sorts of a grammar (02, F-14: a pass in two rooms is two passes): its states are pairs of a state and the sort of the trees that it reads there.
use Rattle.std.specs.Prelude.{ℕ, List}
use Rattle.std.proofs.Math.Option.{Option, some, none as nothing, get_or}
use Rattle.theory.specs.Grammar.{Grammar}
use Rattle.theory.specs.Term.{mapT}
use Rattle.theory.specs.Transducer.{Transducer}
use Rattle.theory.specs.Wf.{nth}

-- the sort of child i, where the symbol is allowed
unfoldable pub sort_of : Option (List ℕ) → ℕ → ℕ
sort_of nothing i = 0
sort_of (some sorts) i = get_or (nth sorts i) 0

-- M with its states in the sorts of G: a call on child i goes to the sort of that child
unfoldable pub sorted : {Q : Type 0} → Grammar → Transducer Q → Transducer (Q × ℕ)
sorted G M = record {
  sort = λ s. s.1;
  initial = mapT (λ e. (e.0, (e.1, 0))) M.initial;
  rhs = λ s a. mapT (λ e. (e.0, (e.1, sort_of (G.children s.1 a) e.0))) (M.rhs s.0 a);
}
