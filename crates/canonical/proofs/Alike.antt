-- The input trees of an alphabet are the ground trees of its grammar; so equivalent transducers are those that give equal output trees on every input tree.
use Prim.Native.Nat.{ℕ, suc}
use mathlib.Core.List.{List}
use mathlib.Core.Logic.{◌↔◌}
use mathlib.Core.Path.{◌≡◌, ap, refl}
use lib.ListN.{get_or, replicate}
use Rattle.theory.specs.Equivalent.{Equivalent}
use Rattle.theory.specs.Grammar.{Allowed, AllAllowed, rule, end, next}
use Rattle.theory.specs.Term.{Tree, Terms, var, node, none, more, count}
use Rattle.theory.specs.Transducer.{Transducer}
use Rattle.theory.proofs.Terms.{conflict}
use Rattle.trees.specs.Alphabets.{Leaf}
use Rattle.trees.specs.Code.{Ranked, AllRanked}
use Rattle.forms.specs.Alphabet.{alphabet, children_inside, children_of_lem}
use Rattle.canonical.specs.Answers.{Alike}

module _ {ins : List ℕ} (l : Leaf ins) where
  mutual
    unfolding Ranked count alphabet

    -- a tree over the alphabet is one of the grammar
    pub ranked_allowed : (s : ℕ) (d : Tree) → Ranked (λ x. ⊥) ins d → Allowed (alphabet ins l) s d
    ranked_allowed s (var x) r = elim x [ ]
    ranked_allowed s (node a ds) r = rule (children_of_lem ins a r.0) (ranked_alloweds ds (get_or ins a 0) r.1 r.2)

    ranked_alloweds : (ds : Terms ⊥) (r : ℕ) → count ds ≡ r → AllRanked (λ x. ⊥) ins ds → AllAllowed (alphabet ins l) (replicate r 0) ds
    ranked_alloweds none ℕ.zero e rs = end
    ranked_alloweds (more d ds) ℕ.zero e rs = conflict (cc)
    ranked_alloweds none (suc r) e rs = conflict (cc)
    ranked_alloweds (more d ds) (suc r) e rs = next (ranked_allowed 0 d rs.0) (ranked_alloweds ds r (cc) rs.1)

  mutual
    unfolding Ranked count alphabet

    -- and a tree of the grammar is one over the alphabet
    pub allowed_ranked : {s : ℕ} (d : Tree) → Allowed (alphabet ins l) s d → Ranked (λ x. ⊥) ins d
    allowed_ranked (var x) _ = elim x [ ]
    allowed_ranked (node a ds) (rule e ok) = let c = children_inside ins a e in let x = alloweds_ranked ds (get_or ins a 0) (rw c.1 at ok) in (c.0, x.0, x.1)

    alloweds_ranked : (ds : Terms ⊥) (r : ℕ) → AllAllowed (alphabet ins l) (replicate r 0) ds → (count ds ≡ r) × AllRanked (λ x. ⊥) ins ds
    alloweds_ranked none ℕ.zero end = (refl, tt)
    alloweds_ranked none (suc r) x = elim x [ ]
    alloweds_ranked (more d ds) ℕ.zero x = elim x [ ]
    alloweds_ranked (more d ds) (suc r) (next ok oks) = let x = alloweds_ranked ds r oks in (ap suc x.0, (allowed_ranked d ok, x.1))

  -- to be equivalent is to be alike
  pub equivalent_alike : {M M' : Transducer ℕ} → Equivalent (alphabet ins l) M M' ↔ Alike ins M M'
  equivalent_alike = (λ e. record { plans = λ d r. e.translation d (ranked_allowed 0 d r) }, λ a. record { translation = λ d ok. a.plans d (allowed_ranked d ok) })
