-- `write_refused` meets its contract: its pieces, one behind the other. Assumes nothing.
use Prim.Native.Nat.{◌<◌}
use native.Mathlib.Omega.{arith}
use mathlib.Core.Path.{ap}
use Rattle.report.specs.Text.{number_text}
use Rattle.report.proofs.Decimals.{number_two}
use Rattle.formats.proofs.Writing.{then, wrote_as}
use Rattle.report.proofs.Pieces.{refusal_low}
use Rattle.report.proofs.text.write_refused.Goals as goal

pub write_number-b-requires : goal.write_number-b-requires
write_number-b-requires c =
    let k = c.from.result in
    let l : k < 100 = omega (arith, c.from.ensures, refusal_low c.args.r) in
    (omega arith, omega (arith, number_two k l, c.requires))

pub write_word-requires : goal.write_word-requires
write_word-requires c =
    let k = c.from.result in
    let l : k < 100 = omega (arith, c.from.ensures, refusal_low c.args.r) in
    omega (arith, number_two k l, c.requires)

pub returns : goal.returns
returns c = then (then c.write_word-a.ensures (wrote_as (ap number_text c.from.ensures) c.write_number-b.ensures)) c.write_word.ensures
