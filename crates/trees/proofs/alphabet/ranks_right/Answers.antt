-- `ranks_right` meets its contract. Assumes nothing.
use native.Mathlib.Omega.{arith}
use Rattle.trees.proofs.Deciding.{decides_no, decides_same}
use Rattle.trees.proofs.alphabet.ranks_right.Goals as goal

pub returns-then-rs-lt1 : goal.returns-then-rs-lt1
returns-then-rs-lt1 c = decides_no (λ R. omega (arith, R.some))

pub returns-then-rs-most : goal.returns-then-rs-most
returns-then-rs-most c = decides_no (λ R. omega (arith, R.few))

pub returns : goal.returns
returns c = decides_same (λ low. record { some = omega arith; few = omega arith; low = low }) (λ R. R.low) c.ranks_low.ensures
