-- What a byte says as a letter, and the trees that are over such letters: the ranked ones.
-- Assumes nothing.
use Prim.Native.Nat.{ℕ, ◌≤◌, ◌<◌}
use mathlib.Core.Bool.{Bool, true, false}
use mathlib.Core.Path.{◌≡◌, refl, sym, ap, ◌∙◌}
use mathlib.Core.List.{List}
use lib.Dec.{ltb}
use lib.ListN.{length, get_or}
use borrow.Author.Tests.{ltb-true, lt-ltb, le-ltb}
use Rattle.theory.specs.Term.{var, node, Terms, none, more, count, Tree}
use Rattle.theory.proofs.Terms.{conflict}
use Rattle.trees.specs.Code.{Ranked, AllRanked}
use Rattle.trees.specs.Inner.Decode.{symbol, unknown, Over, AllOver}
use Rattle.trees.specs.Inner.Symbols.{symbol_if, symbol_of}
use Rattle.trees.proofs.Codes.{Faithful}

pub symbol_inside : {A : Type 0} (rs : List ℕ) (x : ℕ) (k n : ℕ) → symbol_of {A = A} rs x ≡ symbol k n → (k ≡ x) × (x < length rs) × (n ≡ get_or rs x 0)
unfolding symbol_of
symbol_inside {A} rs x k n e = go (ltb x (length rs)) refl e
  where
    go : (b : Bool) → ltb x (length rs) ≡ b → symbol_if {A = A} b x (get_or rs x 0) ≡ symbol k n → (k ≡ x) × (x < length rs) × (n ≡ get_or rs x 0)
    go true h e = ((cc), ltb-true _ _ h, (cc))
    go false h e = conflict (cc)

pub faithful_symbols : (rs : List ℕ) → Faithful {A = ⊥} (symbol_of rs) (λ x. absurd x) (λ k. k)
faithful_symbols rs = record { calls = λ x a. absurd a; symbols = λ x k n e. (symbol_inside rs x k n e).0 }

-- ---- over the letters is ranked
pub symbol_there : {A : Type 0} (rs : List ℕ) (k : ℕ) → k < length rs → symbol_of {A = A} rs k ≡ symbol k (get_or rs k 0)
unfolding symbol_of
symbol_there rs k h = simp (lt-ltb k (length rs) h)

pub symbol_missing : {A : Type 0} (rs : List ℕ) (k : ℕ) → length rs ≤ k → symbol_of {A = A} rs k ≡ unknown
unfolding symbol_of
symbol_missing rs k h = simp (le-ltb k (length rs) h)

module _ (ins : List ℕ) where
  mutual
    unfolding Over Ranked

    pub over_tree : (d : Tree) → Ranked (λ x. ⊥) ins d → Over (symbol_of ins) (λ x. absurd x) (λ k. k) d
    over_tree (var x) r = absurd x
    over_tree (node k ts) r = (symbol_there ins k r.0 ∙ ap (symbol k) (sym r.1), over_trees ts r.2)

    over_trees : (ds : Terms ⊥) → AllRanked (λ x. ⊥) ins ds → AllOver (symbol_of ins) (λ x. absurd x) (λ k. k) ds
    over_trees none r = tt
    over_trees (more d ds) r = (over_tree d r.0, over_trees ds r.1)

  mutual
    unfolding Over Ranked

    pub ranked_tree : (d : Tree) → Over (symbol_of ins) (λ x. absurd x) (λ k. k) d → Ranked (λ x. ⊥) ins d
    ranked_tree (var x) o = absurd x
    ranked_tree (node k ts) o = let i = symbol_inside ins k k (count ts) o.0 in (i.1, i.2, ranked_trees ts o.1)

    ranked_trees : (ds : Terms ⊥) → AllOver (symbol_of ins) (λ x. absurd x) (λ k. k) ds → AllRanked (λ x. ⊥) ins ds
    ranked_trees none o = tt
    ranked_trees (more d ds) o = (ranked_tree d o.0, ranked_trees ds o.1)
