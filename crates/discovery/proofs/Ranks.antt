-- Ranked terms: their variables, substitution, subtrees, runs; a ranked term is one of the grammar of its alphabet.
-- Assumes nothing.
use Prim.Native.Nat.{ℕ, suc, ◌≤◌, ◌<◌}
use native.Mathlib.Omega.{arith}
use mathlib.Core.List.{List, [], ◌∷◌}
use mathlib.Core.Option.{some}
use mathlib.Core.Path.{◌≡◌, refl, sym, ap, ◌∙◌, subst}
use lib.ListN.{get_or, replicate}
use Rattle.theory.specs.OpenTrees.{AllowedOpen, blank, rule_open, AllAllowedOpen, end_open, next_open}
use Rattle.theory.specs.Term.{Term, Tree, var, node, Terms, none, more, count, bind, binds, sub, subs}
use Rattle.theory.specs.Transducer.{Transducer, run, runs, pick, closed, output, translate}
use Rattle.theory.specs.Vars.{AllVars, one, each, EachVars, done, both}
use Rattle.theory.proofs.Terms.{conflict, count_binds}
use Rattle.trees.specs.Alphabets.{Leaf}
use Rattle.trees.specs.Code.{Ranked, AllRanked, Call}
use Rattle.formats.specs.Sheet.{OverAlphabets}
use Rattle.forms.specs.Alphabet.{alphabet, children_of_lem}

module _ {A : Type 0} (P : A → Type 0) (outs : List ℕ) where
  mutual
    unfolding Ranked

    -- what is said of the variables of a ranked term holds of each
    pub ranked_all : (t : Term A) → Ranked P outs t → AllVars P t
    ranked_all (var a) c = one c
    ranked_all (node k ts) c = each (ranked_each ts c.2)

    ranked_each : (ts : Terms A) → AllRanked P outs ts → EachVars P ts
    ranked_each none c = done
    ranked_each (more t ts) c = both (ranked_all t c.0) (ranked_each ts c.1)

  module _ {B : Type 0} (R : B → Type 0) (f : A → Term B) (each-ranked : (a : A) → P a → Ranked R outs (f a)) where
    mutual
      unfolding Ranked bind

      -- ranked terms for the variables of a ranked term
      pub ranked_bind : (t : Term A) → Ranked P outs t → Ranked R outs (bind t f)
      ranked_bind (var a) c = each-ranked a c
      ranked_bind (node k ts) c = (c.0, count_binds ts f ∙ c.1, ranked_binds ts c.2)

      ranked_binds : (ts : Terms A) → AllRanked P outs ts → AllRanked R outs (binds ts f)
      ranked_binds none c = tt
      ranked_binds (more t ts) c = (ranked_bind t c.0, ranked_binds ts c.1)

  mutual
    unfolding Ranked sub

    -- a subtree of a ranked term is ranked
    pub ranked_sub : {u : Term A} (t : Term A) (v : List ℕ) → Ranked P outs t → sub t v ≡ some u → Ranked P outs u
    ranked_sub {u} (var a) [] c e = let z : var a ≡ u = cc in subst (λ x. Ranked P outs x) z c
    ranked_sub (var a) (i ∷ v) c e = conflict (cc)
    ranked_sub {u} (node k ts) [] c e = let z : node k ts ≡ u = cc in subst (λ x. Ranked P outs x) z c
    ranked_sub (node k ts) (i ∷ v) c e = ranked_subs ts i v c.2 e

    ranked_subs : {u : Term A} (ts : Terms A) (i : ℕ) (v : List ℕ) → AllRanked P outs ts → subs ts i v ≡ some u → Ranked P outs u
    ranked_subs none i v c e = conflict (cc)
    ranked_subs (more t ts) ℕ.zero v c e = conflict (cc)
    ranked_subs (more t ts) (suc ℕ.zero) v c e = ranked_sub t v c.0 e
    ranked_subs (more t ts) (suc (suc i)) v c e = ranked_subs ts (suc i) v c.1 e

  module _ (l : Leaf outs) where
    mutual
      unfolding Ranked alphabet count

      -- a ranked term is allowed by the grammar of its alphabet, all variables of sort 0
      pub ranked_open : (t : Term A) → Ranked P outs t → AllowedOpen (alphabet outs l) (λ e. 0) 0 t
      ranked_open (var x) c = blank refl
      ranked_open (node k ts) c = rule_open (children_of_lem outs k c.0 ∙ ap (λ r. some (replicate r 0)) (sym c.1)) (ranked_opens ts c.2)

      ranked_opens : (ts : Terms A) → AllRanked P outs ts → AllAllowedOpen (alphabet outs l) (λ e. 0) (replicate (count ts) 0) ts
      ranked_opens none c = end_open
      ranked_opens (more t ts) c = next_open (ranked_open t c.0) (ranked_opens ts c.1)

-- ---- runs on ranked terms
module _ {A : Type 0} (P : A → Type 0) {mids outs : List ℕ} {m : ℕ} {N : Transducer ℕ} (O : OverAlphabets mids outs m N) where
  mutual
    unfolding Ranked run runs pick count

    -- what a state gives on a term over the inputs is over the outputs; a variable of it is one of the term's, met by a state
    pub run_ranked : (t : Term A) → Ranked P mids t → (p : ℕ) → p < m → Ranked (λ e. P e.0 × (e.1 < m)) outs (run N t p)
    run_ranked (var x) c p h = (c, h)
    run_ranked (node a ds) c p h =
        ranked_bind (Call m (get_or mids a 0)) outs (λ e. P e.0 × (e.1 < m)) (λ e. pick (runs N ds) e.0 e.1)
        (λ e k. picks_ranked ds c.2 e.0 e.1 k.from_one (omega (arith, k.child, c.1)) k.state) (N.rhs p a) (O.rhs p a h c.0)

    picks_ranked : (ds : Terms A) → AllRanked P mids ds → (i p : ℕ) → 1 ≤ i → i ≤ count ds → p < m → Ranked (λ e. P e.0 × (e.1 < m)) outs (pick (runs N ds) i p)
    picks_ranked none c i p f g h = absurd (omega arith)
    picks_ranked (more d ds) c ℕ.zero p f g h = absurd (omega arith)
    picks_ranked (more d ds) c (suc ℕ.zero) p f g h = run_ranked d c.0 p h
    picks_ranked (more d ds) c (suc (suc i)) p f g h = picks_ranked ds c.1 (suc i) p (omega arith) (omega arith) h

-- what a transducer over two alphabets gives on an input tree is over the second
pub translate_ranked : {ins outs : List ℕ} {n : ℕ} {M : Transducer ℕ} → OverAlphabets ins outs n M → (d : Tree) → Ranked (λ x. ⊥) ins d → Ranked (λ x. ⊥) outs (translate M d)
unfolding translate output closed
translate_ranked {ins} {outs} {n} {M} O d r =
    ranked_bind (Call n 1) outs (λ x. ⊥) (λ e. output M d e.1)
    (λ e c. ranked_bind (λ e. ⊥ × (e.1 < n)) outs (λ x. ⊥) (λ e. absurd e.0) (λ e k. absurd k.0) _ (run_ranked (λ x. ⊥) O d r e.1 c.state)) M.initial O.initial
