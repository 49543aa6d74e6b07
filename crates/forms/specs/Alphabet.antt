-- The trees over an input alphabet as those of a tree grammar with one sort: a symbol of rank r has r children, all of sort 0.
use Rattle.std.specs.Prelude.{ℕ, ◌<◌, Bool, true, false, List, ◌≡◌, refl, ltb, length, get_or, replicate}
use Rattle.std.proofs.Math.Option.{Option, some, none as nothing, none-ne-some}
use Rattle.std.proofs.Common.{ap, ◌∙◌, ltb-true, lt-ltb}
use Rattle.theory.specs.Grammar.{Grammar}
use Rattle.trees.specs.Alphabets.{Leaf}

abbrev pub sorts_if : Bool → ℕ → Option (List ℕ)
sorts_if true r = some (replicate r 0)
sorts_if false r = nothing

unfoldable pub children_of : List ℕ → ℕ → Option (List ℕ)
children_of ins a = sorts_if (ltb a (length ins)) (get_or ins a 0)

-- only the symbols of the alphabet are allowed
pub children_inside : (ins : List ℕ) (a : ℕ) {sorts : List ℕ} → children_of ins a ≡ some sorts → (a < length ins) × (sorts ≡ replicate (get_or ins a 0) 0)
unfolding children_of
children_inside ins a {sorts} e = go (ltb a (length ins)) refl e
  where
    go : (b : Bool) → ltb a (length ins) ≡ b → sorts_if b (get_or ins a 0) ≡ some sorts → (a < length ins) × (sorts ≡ replicate (get_or ins a 0) 0)
    go true h e = (ltb-true _ _ h, (cc))
    go false h e = absurd (none-ne-some _ e)

-- and all of them are
pub children_of_lem : (ins : List ℕ) (a : ℕ) → a < length ins → children_of ins a ≡ some (replicate (get_or ins a 0) 0)
unfolding children_of
children_of_lem ins a h = simp (lt-ltb a (length ins) h)

unfoldable pub alphabet : (ins : List ℕ) → Leaf ins → Grammar
alphabet ins l = record {
  children = λ s a. children_of ins a;
  symbols = length ins;
  bounded = λ s a e. (children_inside ins a e).0;
  leaf = λ s. l.symbol;
  leaf_children = λ s. children_of_lem ins l.symbol l.there ∙ ap (λ r. some (replicate r 0)) l.rank;
}
