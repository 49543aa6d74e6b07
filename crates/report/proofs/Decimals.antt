-- Numbers in decimal: digit by digit, and how long they are.
-- Assumes nothing.
use Prim.Native.Nat.{ℕ, zero, suc, ◌+◌, ◌*◌, ◌/◌, ◌%◌, ◌≤◌, ◌<◌}
use native.Mathlib.Decide.{dec_lt}
use native.Mathlib.Nat.{div-lt_iff_lt-mul}
use native.Mathlib.Omega.{arith}
use mathlib.Core.List.{[], ◌∷◌, ◌++◌}
use mathlib.Core.Logic.{by_cases}
use mathlib.Core.Path.{◌≡◌, refl, ◌∙◌}
use lib.ListN.{length, length-append}
use borrow.Author.Tests.{lt-ltb, le-ltb}
use Rattle.report.specs.Text.{decimal, number_text}

one_digit : (f n : ℕ) → n < 10 → decimal f n ≡ (48 + n) ∷ []
unfolding decimal
one_digit zero n h = refl
one_digit (suc f) n h = simp (lt-ltb n 10 h)

last_digit : (f n : ℕ) → 10 ≤ n → decimal (suc f) n ≡ decimal f (n / 10) ++ ((48 + n % 10) ∷ [])
unfolding decimal
last_digit f n h = simp (le-ltb n 10 h)

-- 10 ^ (f + 1)
abbrev top : ℕ → ℕ
top zero = 10
top (suc f) = top f * 10

tenth_below : (f : ℕ) {n : ℕ} → n < top (suc f) → n / 10 < top f
tenth_below f {n} h = (div-lt_iff_lt-mul {k = 10} {x = n} {y = top f} (omega arith)).1 h

-- f + 1 digits are enough for a number below 10 ^ (f + 1)
enough : (f n : ℕ) → n < top f → decimal f n ≡ decimal (suc f) n
enough zero n h = one_digit 0 n h ∙ rw (one_digit 1 n h)
enough (suc f) n h = by_cases (dec_lt n 10) (λ l. one_digit (suc f) n l ∙ rw (one_digit (suc (suc f)) n l)) (λ l. last_digit f n (omega arith) ∙ rw (last_digit (suc f) n (omega arith), enough f (n / 10) (tenth_below f h)))

-- any number has at most as many
most : (f n : ℕ) → length (decimal f n) ≤ f + 1
unfolding decimal
most zero n = omega arith
most (suc f) n = by_cases (dec_lt n 10) (λ l. rw (one_digit (suc f) n l) (omega arith)) (λ l. rw (last_digit f n (omega arith)) (omega (arith, length-append (decimal f (n / 10)) ((48 + n % 10) ∷ []), most f (n / 10))))

-- and a number below 10 ^ (g + 1) at most g + 1
short : (f g n : ℕ) → n < top g → length (decimal f n) ≤ g + 1
unfolding decimal
short zero g n h = omega arith
short (suc f) zero n h = rw (one_digit (suc f) n h) (omega arith)
short (suc f) (suc g) n h = by_cases (dec_lt n 10) (λ l. rw (one_digit (suc f) n l) (omega arith)) (λ l. rw (last_digit f n (omega arith)) (omega (arith, length-append (decimal f (n / 10)) ((48 + n % 10) ∷ []), short f g (n / 10) (tenth_below g h))))

-- ---- a number below 10,000
pub number_digit : (n : ℕ) → n < 10 → number_text n ≡ (48 + n) ∷ []
number_digit n h = one_digit 3 n h

pub number_more : (n : ℕ) → n < 10000 → 10 ≤ n → number_text n ≡ number_text (n / 10) ++ ((48 + n % 10) ∷ [])
number_more n h g = last_digit 2 n g ∙ rw (enough 2 (n / 10) (tenth_below 2 h))

pub number_four : (n : ℕ) → length (number_text n) ≤ 4
number_four n = most 3 n

pub number_three : (n : ℕ) → n < 1000 → length (number_text n) ≤ 3
number_three n h = short 3 2 n h

pub number_two : (n : ℕ) → n < 100 → length (number_text n) ≤ 2
number_two n h = short 3 1 n h

pub number_one : (n : ℕ) → n < 10 → length (number_text n) ≤ 1
number_one n h = short 3 0 n h
