-- What spelling a term answers: the span of its letters, or that they are more than a body has.
-- Assumes nothing.
use Prim.Native.Nat.{ℕ, ◌-◌, ◌≤◌, ◌<◌}
use mathlib.Core.List.{List}
use mathlib.Core.Path.{◌≡◌}
use lib.ListN.{length, take, drop}
use Rattle.std.specs.Prelude.{Some, None}
use Rattle.theory.specs.Term.{Term}
use Rattle.theory.proofs.Terms.{conflict}
use Rattle.trees.specs.declared.bytes.Span.{Span}
use Rattle.discovery.specs.Inner.Letters.{spelt}
use Rattle.discovery.specs.Inner.Discovering.{FindsRhs, Spells}
use Rattle.discovery.proofs.Stages.{found_spelt}
use Rattle.theory.specs.Transducer.{Transducer}

module _ {t : Term (ℕ × ℕ)} {letters : List ℕ} where
  pub spells_none : 64 < length (spelt t) → Spells t letters None
  spells_none h = record { over = λ e. h; ordered = λ s e. conflict (cc); inside = λ s e. conflict (cc); spelled = λ s e. conflict (cc) }

  pub spells_span : (v : Span) → v.from ≤ v.to → v.to ≤ length letters → take (v.to - v.from) (drop v.from letters) ≡ spelt t → Spells t letters (Some v)
  spells_span v o i w = record {
    over = λ e. conflict (cc);
    ordered = λ s e. let h : v ≡ s = cc in rw (← h) o;
    inside = λ s e. let h : v ≡ s = cc in rw (← h) i;
    spelled = λ s e. let h : v ≡ s = cc in rw (← h) w;
  }

-- a right-hand side that was found is spelt
pub spells_found : {E : Transducer ℕ} {c a from to : ℕ} {letters : List ℕ} → FindsRhs E c a letters from to → Spells (E.rhs c a) letters (Some (record { from = from; to = to }))
spells_found {from = from} {to = to} F = spells_span (record { from = from; to = to }) F.ordered F.inside (found_spelt F)
