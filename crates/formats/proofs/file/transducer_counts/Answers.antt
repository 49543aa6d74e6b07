-- `transducer_counts` meets its contract. Assumes nothing.
use native.Mathlib.Omega.{arith}
use mathlib.Core.Logic.{inr}
use mathlib.Core.Path.{refl}
use Rattle.formats.proofs.Verdicts.{accepted_alphabets, accepted_states, accepted_long, counts_handed, none_handed}
use Rattle.formats.proofs.file.transducer_counts.Goals as goal

pub counts_end-requires : goal.counts_end-requires
counts_end-requires c =
    let J = c.read_transducer.ensures in
    (accepted_alphabets c.args.stock.now c.args.sheet.now c.in-Ok.n J c.in-Ok.is, omega (arith, accepted_states c.args.stock.now c.args.sheet.now c.in-Ok.n J c.in-Ok.is))

pub slice_bounds-result-end : goal.slice_bounds-result-end
slice_bounds-result-end c = omega (arith, c.counts_end.ensures, accepted_long c.args.stock.now c.args.sheet.now c.in-Ok.n c.read_transducer.ensures c.in-Ok.is)

pub returns-in-Ok : goal.returns-in-Ok
returns-in-Ok c = counts_handed c.args.stock.now c.args.sheet.now c.in-Ok.n c.read_transducer.ensures c.in-Ok.is c.counts_end.result c.counts_end.ensures

pub returns-in-Err : goal.returns-in-Err
returns-in-Err c = inr (none_handed c.args.stock.now c.args.sheet.now c.in-Err.field-0 c.read_transducer.ensures c.in-Err.is, refl)
