-- Sums over the variables of a term.
use Prim.Native.Nat.{ℕ, ◌+◌, ◌*◌, ◌≤◌}
use native.Mathlib.Nat.{mul-add, mul-zero}
use native.Mathlib.Omega.{arith}
use mathlib.Core.Path.{◌≡◌, refl, ap}
use mathlib.Core.Bool.{Bool, true, false}
use lib.Dec.{eqb}
use borrow.Author.Tests.{eq-eqb, ne_eqb}
use Rattle.theory.specs.Term.{Term, var, node, Terms, none, more, bind, binds}
use Rattle.theory.specs.Vars.{AllVars, one, each, EachVars, done, both}
use Rattle.theory.specs.Weight.{weight, weights, one_if}

-- a test that holds counts 1
pub one_if_eq : (a b : ℕ) → a ≡ b → one_if (eqb a b) ≡ 1
one_if_eq a b e = ap one_if (eq-eqb a b e)

-- a test that fails counts 0
pub one_if_ne : (a b : ℕ) → (a ≡ b → ⊥) → one_if (eqb a b) ≡ 0
one_if_ne a b n = ap one_if (ne_eqb a b n)

-- a test counts at most 1
pub one_if_le : (b : Bool) → one_if b ≤ 1
one_if_le true = omega arith
one_if_le false = omega arith

module _ {A : Type 0} {v w : A → ℕ} where
  mutual
    unfolding weight weights

    -- a sum does not rise if no part does
    pub weight_le : {t : Term A} → AllVars (λ a. v a ≤ w a) t → weight v t ≤ weight w t
    weight_le (one l) = l
    weight_le (each ls) = weights_le ls

    pub weights_le : {ts : Terms A} → EachVars (λ a. v a ≤ w a) ts → weights v ts ≤ weights w ts
    weights_le done = omega arith
    weights_le (both l ls) = omega (arith, weight_le l, weights_le ls)

  mutual
    unfolding weight weights

    -- sums with equal parts
    pub weight_cong : {t : Term A} → AllVars (λ a. v a ≡ w a) t → weight v t ≡ weight w t
    weight_cong (one e) = e
    weight_cong (each es) = weights_cong es

    weights_cong : {ts : Terms A} → EachVars (λ a. v a ≡ w a) ts → weights v ts ≡ weights w ts
    weights_cong done = refl
    weights_cong (both e es) = omega (arith, weight_cong e, weights_cong es)

module _ {A : Type 0} where
  mutual
    unfolding weight weights

    -- a sum of sums
    pub weight_add : (v w : A → ℕ) (t : Term A) → weight (λ a. v a + w a) t ≡ weight v t + weight w t
    weight_add v w (var a) = refl
    weight_add v w (node k ts) = weights_add v w ts

    weights_add : (v w : A → ℕ) (ts : Terms A) → weights (λ a. v a + w a) ts ≡ weights v ts + weights w ts
    weights_add v w none = omega arith
    weights_add v w (more t ts) = omega (arith, weight_add v w t, weights_add v w ts)

  mutual
    unfolding weight weights

    -- a multiple of a sum
    pub weight_times : (m : ℕ) (w : A → ℕ) (t : Term A) → weight (λ a. m * w a) t ≡ m * weight w t
    weight_times m w (var a) = refl
    weight_times m w (node k ts) = weights_times m w ts

    weights_times : (m : ℕ) (w : A → ℕ) (ts : Terms A) → weights (λ a. m * w a) ts ≡ m * weights w ts
    weights_times m w none = omega (arith, mul-zero m)
    weights_times m w (more t ts) = omega (arith, weight_times m w t, weights_times m w ts, mul-add m (weight w t) (weights w ts))

  mutual
    unfolding weight weights

    -- a sum whose parts are 0
    pub weight_zero : (t : Term A) → weight (λ a. 0) t ≡ 0
    weight_zero (var a) = refl
    weight_zero (node k ts) = weights_zero ts

    weights_zero : (ts : Terms A) → weights (λ a. 0) ts ≡ 0
    weights_zero none = refl
    weights_zero (more t ts) = omega (arith, weight_zero t, weights_zero ts)

module _ {A B : Type 0} (w : B → ℕ) (f : A → Term B) where
  mutual
    unfolding weight weights bind binds

    -- the sum over t[f] is that over t of the sums over the f a
    pub weight_bind : (t : Term A) → weight w (bind t f) ≡ weight (λ a. weight w (f a)) t
    weight_bind (var a) = refl
    weight_bind (node k ts) = weights_binds ts

    weights_binds : (ts : Terms A) → weights w (binds ts f) ≡ weights (λ a. weight w (f a)) ts
    weights_binds none = refl
    weights_binds (more t ts) = omega (arith, weight_bind t, weights_binds ts)
