-- The laws of sums over the numbers below n.
use Prim.Native.Nat.{ℕ, suc, ◌+◌, ◌*◌, ◌≤◌, ◌<◌}
use native.Mathlib.Decide.{ℕ_discrete}
use native.Mathlib.Nat.{mul-add, add-mul, mul-zero, zero-mul, one-mul}
use native.Mathlib.Omega.{arith}
use mathlib.Core.Path.{◌≡◌, refl, ap, sym, ◌∙◌}
use mathlib.Core.Logic.{by_cases}
use lib.Dec.{eqb}
use Rattle.theory.specs.Sum.{sum}
use Rattle.theory.specs.Weight.{one_if}
use Rattle.theory.proofs.Weights.{one_if_eq, one_if_ne}

-- sums with equal parts
pub sum_cong : (f g : ℕ → ℕ) (n : ℕ) → ((i : ℕ) → i < n → f i ≡ g i) → sum f n ≡ sum g n
unfolding sum
sum_cong f g ℕ.zero h = refl
sum_cong f g (suc n) h = omega (arith, sum_cong f g n (λ i l. h i (omega arith)), h n (omega arith))

-- a sum whose parts are 0
pub sum_zero : (f : ℕ → ℕ) (n : ℕ) → ((i : ℕ) → i < n → f i ≡ 0) → sum f n ≡ 0
unfolding sum
sum_zero f ℕ.zero h = refl
sum_zero f (suc n) h = omega (arith, sum_zero f n (λ i l. h i (omega arith)), h n (omega arith))

-- a sum of sums
pub sum_add : (f g : ℕ → ℕ) (n : ℕ) → sum (λ i. f i + g i) n ≡ sum f n + sum g n
unfolding sum
sum_add f g ℕ.zero = omega arith
sum_add f g (suc n) = omega (arith, sum_add f g n)

-- a multiple of a sum
pub sum_times : (m : ℕ) (f : ℕ → ℕ) (n : ℕ) → sum (λ i. m * f i) n ≡ m * sum f n
unfolding sum
sum_times m f ℕ.zero = omega (arith, mul-zero m)
sum_times m f (suc n) = omega (arith, sum_times m f n, mul-add m (sum f n) (f n))

-- a multiple of a sum, by the right
pub sum_by : (f : ℕ → ℕ) (m n : ℕ) → sum (λ i. f i * m) n ≡ sum f n * m
unfolding sum
sum_by f m ℕ.zero = omega (arith, zero-mul m)
sum_by f m (suc n) = omega (arith, sum_by f m n, add-mul (sum f n) (f n) m)

-- a part is at most the sum
pub sum_part : (f : ℕ → ℕ) (n j : ℕ) → j < n → f j ≤ sum f n
unfolding sum
sum_part f ℕ.zero j l = absurd (omega arith)
sum_part f (suc n) j l = by_cases (ℕ_discrete j n) (λ e. rw e (omega arith)) (λ e. omega (arith, sum_part f n j (omega arith)))

-- sums over two numbers, in either order
pub sum_swap : (f : ℕ → ℕ → ℕ) (n m : ℕ) → sum (λ i. sum (f i) m) n ≡ sum (λ j. sum (λ i. f i j) n) m
unfolding sum
sum_swap f ℕ.zero m = sym (sum_zero (λ j. 0) m (λ j l. refl))
sum_swap f (suc n) m = ap (λ x. x + sum (f n) m) (sum_swap f n m) ∙ sym (sum_add (λ j. sum (λ i. f i j) n) (f n) m)

-- the one part whose number is x
pub sum_one_part : (f : ℕ → ℕ) (x n : ℕ) → x < n → sum (λ r. one_if (eqb x r) * f r) n ≡ f x
unfolding sum
sum_one_part f x ℕ.zero l = absurd (omega arith)
sum_one_part f x (suc n) l = by_cases (ℕ_discrete x n)
    (λ e. omega (arith, ap (λ b. b * f n) (one_if_eq x n e), one-mul (f n), ap f e, sum_zero (λ r. one_if (eqb x r) * f r) n (λ r m. ap (λ b. b * f r) (one_if_ne x r (λ z. omega arith)) ∙ zero-mul (f r))))
    (λ e. omega (arith, ap (λ b. b * f n) (one_if_ne x n e), zero-mul (f n), sum_one_part f x n (omega arith)))

-- the first parts are at most the sum
pub sum_prefix : (f : ℕ → ℕ) (j n : ℕ) → j ≤ n → sum f j ≤ sum f n
unfolding sum
sum_prefix f j ℕ.zero l = let z : j ≡ 0 = omega arith in rw z (omega arith)
sum_prefix f j (suc n) l = by_cases (ℕ_discrete j (suc n)) (λ e. rw e (omega arith)) (λ e. omega (arith, sum_prefix f j n (omega arith)))
