-- `write_number` meets its contract: the last digit goes behind the digits of the tenth. The number falls. Assumes nothing.
use Prim.Native.Nat.{ℕ, ◌+◌, ◌/◌, ◌%◌, ◌≤◌, ◌<◌}
use native.Mathlib.Omega.{arith}
use mathlib.Core.List.{List, [], ◌∷◌}
use mathlib.Core.Path.{ap, sym}
use lib.ListN.{length, set, length-append}
use Rattle.formats.specs.Inner.Written.{Wrote}
use Rattle.report.specs.Text.{number_text}
use Rattle.report.proofs.Decimals.{number_digit, number_more}
use Rattle.formats.proofs.Writing.{then, wrote_as, wrote_long}
use Rattle.report.proofs.Pieces.{one_byte}
use Rattle.report.proofs.text.+write_number.Goals as goal

-- the digits of the tenth, and the last digit
module _ {t u : List ℕ} {at n to : ℕ} (low : n < 10000) (more : 10 ≤ n) (W : Wrote t u at to (number_text (n / 10))) where
  room : at + length (number_text n) ≤ length t → to + 1 ≤ length u
  room h = omega (arith, W.behind, wrote_long W, ap length (number_more n low more), length-append (number_text (n / 10)) ((48 + n % 10) ∷ []))

  last : Wrote t (set u to (48 + n % 10)) at (to + 1) (number_text n)
  last = wrote_as (sym (number_more n low more)) (then W (one_byte u to (48 + n % 10)))

pub bounds-text-at : goal.bounds-text-at
bounds-text-at t c = omega (arith, ap length (number_digit c.args.n c.if-n-lt10.true), c.requires)

pub returns-then-n-lt10 : goal.returns-then-n-lt10
returns-then-n-lt10 t c = let a = c.args in wrote_as (sym (number_digit a.n c.if-n-lt10.true)) (one_byte a.text.now a.at (48 + a.n))

pub write_number-to-requires : goal.write_number-to-requires
write_number-to-requires t c =
    let a = c.args in
    let p = c.requires in
    let n = a.n in
    let e = ap length (number_more n p.0 c.if-n-lt10.false) in
    (omega (arith, c.decreases), (omega (arith, p.0), omega (arith, p.1, e, length-append (number_text (n / 10)) ((48 + n % 10) ∷ []))))

pub bounds-text-to : goal.bounds-text-to
bounds-text-to t c = let p = c.requires in omega (arith, room p.0 c.if-n-lt10.false c.write_number-to.ensures p.1)

pub overflow_add-result-2 : goal.overflow_add-result-2
overflow_add-result-2 t c = let p = c.requires in omega (arith, room p.0 c.if-n-lt10.false c.write_number-to.ensures p.1, c.write_number-to.auto.text)

pub returns : goal.returns
returns t c = let p = c.requires in last p.0 c.if-n-lt10.false c.write_number-to.ensures
