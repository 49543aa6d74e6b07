-- The levels and the size of a term with trees put for its variables, so of an output tree.
use Prim.Native.Nat.{ℕ, suc, ◌+◌, ◌≤◌, max}
use native.Mathlib.Omega.{arith}
use mathlib.Core.Path.{◌≡◌, refl, ap, ◌∙◌}
use mathlib.Core.List.{List, [], ◌∷◌}
use mathlib.Core.Option.{some}
use lib.ListN.{length}
use Rattle.theory.specs.Levels.{levels_with, deepest_with, levels_from, deepest_from}
use Rattle.theory.specs.Size.{size, sizes, levels, deepest}
use Rattle.theory.specs.Term.{Term, var, node, Terms, none, more, Tree, bind, binds, sub, subs}
use Rattle.theory.specs.Transducer.{Transducer, output, translate}
use Rattle.theory.specs.Vars.{AllVars, one, each, EachVars, done, both}
use Rattle.theory.specs.Weight.{weight, weights}
use Rattle.theory.proofs.Runs.{call, output_node}
use Rattle.theory.proofs.Terms.{conflict}

module _ {A B : Type 0} (f : A → Term B) where
  mutual
    unfolding levels levels_with deepest_with bind binds

    -- the levels of t[f]
    pub levels_bind : (t : Term A) → levels (bind t f) ≡ levels_with (λ a. levels (f a)) t
    levels_bind (var a) = refl
    levels_bind (node k ts) = ap suc (deepest_binds ts)

    deepest_binds : (ts : Terms A) → deepest (binds ts f) ≡ deepest_with (λ a. levels (f a)) ts
    deepest_binds none = refl
    deepest_binds (more t ts) = omega (arith, levels_bind t, deepest_binds ts)

  mutual
    unfolding size weight weights bind binds

    -- |t[f]| is |t| and the sum of the |f a| over the variables a of t
    pub size_bind : (t : Term A) → size (bind t f) ≡ size t + weight (λ a. size (f a)) t
    size_bind (var a) = omega arith
    size_bind (node k ts) = omega (arith, sizes_binds ts)

    sizes_binds : (ts : Terms A) → sizes (binds ts f) ≡ sizes ts + weights (λ a. size (f a)) ts
    sizes_binds none = omega arith
    sizes_binds (more t ts) = omega (arith, size_bind t, sizes_binds ts)

module _ {A : Type 0} (w : A → ℕ) where
  mutual
    unfolding levels_with deepest_with levels_from deepest_from

    -- reading t with j nodes above it finds j levels more
    pub levels_from_lem : (j : ℕ) (t : Term A) → levels_from w j t ≡ j + levels_with w t
    levels_from_lem j (var a) = refl
    levels_from_lem j (node k ts) = omega (arith, deepest_from_lem (suc j) ts)

    pub deepest_from_lem : (j : ℕ) (ts : Terms A) → max j (deepest_from w j ts) ≡ j + deepest_with w ts
    deepest_from_lem j none = omega arith
    deepest_from_lem j (more t ts) = omega (arith, levels_from_lem j t, deepest_from_lem j ts)

  mutual
    unfolding levels_with deepest_with sub

    -- what stands for a variable is as many levels down as its address is long
    pub levels_at : {a : A} (t : Term A) (v : List ℕ) → sub t v ≡ some (var a) → length v + w a ≤ levels_with w t
    levels_at {a} (var x) [] e = let h : x ≡ a = cc in omega (arith, ap w h)
    levels_at (var x) (i ∷ v) e = conflict (cc)
    levels_at (node k ts) [] e = conflict (cc)
    levels_at (node k ts) (i ∷ v) e = omega (arith, deepest_at ts i v e)

    deepest_at : {a : A} (ts : Terms A) (i : ℕ) (v : List ℕ) → subs ts i v ≡ some (var a) → length v + w a ≤ deepest_with w ts
    deepest_at none i v e = conflict (cc)
    deepest_at (more t ts) ℕ.zero v e = conflict (cc)
    deepest_at (more t ts) (suc ℕ.zero) v e = omega (arith, levels_at t v e)
    deepest_at (more t ts) (suc (suc i)) v e = omega (arith, deepest_at ts (suc i) v e)

module _ {A : Type 0} {v w : A → ℕ} where
  mutual
    unfolding levels_with deepest_with

    -- the levels do not rise if those of no variable do
    pub levels_mono : {t : Term A} → AllVars (λ a. v a ≤ w a) t → levels_with v t ≤ levels_with w t
    levels_mono (one l) = l
    levels_mono (each ls) = omega (arith, deepest_mono ls)

    deepest_mono : {ts : Terms A} → EachVars (λ a. v a ≤ w a) ts → deepest_with v ts ≤ deepest_with w ts
    deepest_mono done = omega arith
    deepest_mono (both l ls) = omega (arith, levels_mono l, deepest_mono ls)

module _ {Q : Type 0} (M : Transducer Q) where
  -- the levels of ⟦q⟧(a(ds)), from those that the calls of rhs(q, a) give
  pub output_levels : (q : Q) (a : ℕ) (ds : Terms ⊥) → levels (output M (node a ds) q) ≡ levels_with (λ e. levels (call M ds e)) (M.rhs q a)
  output_levels q a ds = ap levels (output_node M q a ds) ∙ levels_bind (call M ds) (M.rhs q a)

  -- the levels of ⟦M⟧(d), from those that the states of the initial term give
  pub translate_levels : (d : Tree) → levels (translate M d) ≡ levels_with (λ e. levels (output M d e.1)) M.initial
  unfolding translate
  translate_levels d = levels_bind (λ e. output M d e.1) M.initial

  -- the size of ⟦q⟧(a(ds))
  pub output_size : (q : Q) (a : ℕ) (ds : Terms ⊥) → size (output M (node a ds) q) ≡ size (M.rhs q a) + weight (λ e. size (call M ds e)) (M.rhs q a)
  output_size q a ds = ap size (output_node M q a ds) ∙ size_bind (call M ds) (M.rhs q a)

  -- the size of ⟦M⟧(d)
  pub translate_size : (d : Tree) → size (translate M d) ≡ size M.initial + weight (λ e. size (output M d e.1)) M.initial
  unfolding translate
  translate_size d = size_bind (λ e. output M d e.1) M.initial
