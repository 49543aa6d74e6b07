-- `write_codes` meets its contract. Assumes nothing.
use Prim.Native.Nat.{◌*◌}
use native.Mathlib.Omega.{arith}
use mathlib.Core.Path.{◌≡◌, refl, ap, ◌∙◌}
use lib.Seq.{sets}
use Rattle.trees.proofs.Judging.{refuse, pass, accept}
use Rattle.codes.specs.Codes.{codes}
use Rattle.codes.proofs.Writing.{codes_more}
use Rattle.codes.proofs.symbol.write_codes.Goals as goal

pub returns-then-area-lt128 : goal.returns-then-area-lt128
returns-then-area-lt128 c = refuse (λ h. omega (arith, c.if-area-lt128.true)) refl

pub loop-k-init : goal.loop-k-init
unfolding codes
loop-k-init c = refl

pub loop-k-preserved : goal.loop-k-preserved
loop-k-preserved c = let l = c.loop-k in codes_more c.args.area.now l.k l.invariant (c.copy_at.ensures ∙ ap (sets l.area (2 * l.k)) c.symbol_code.ensures)

pub returns : goal.returns
returns c = let e : c.loop-k.k ≡ 64 = omega arith in pass (omega (arith, c.if-area-lt128.false)) (accept (rw e at c.loop-k.invariant))
