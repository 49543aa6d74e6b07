-- `caplune_read_transducer` meets its contract. Assumes nothing.
use Rattle.trees.specs.Refusal.{outcome_of}
use native.Mathlib.Omega.{arith}
use mathlib.Core.Path.{refl, ap}
use Rattle.formats.proofs.Verdicts.{accepted_alphabets, accepted_states}
use Rattle.exports.proofs.Parts.{end_inside, parts_sized}
use Rattle.exports.proofs.Telling.{tells_accepted, tells_refused}
use Rattle.exports.proofs.caplune_read_transducer.Goals as goal

pub counts_end-end-requires : goal.counts_end-end-requires
counts_end-end-requires c = (accepted_alphabets c.args.stock.now c.args.file.now c.in-Ok.n c.read_transducer.ensures c.in-Ok.is, omega (arith, accepted_states c.args.stock.now c.args.file.now c.in-Ok.n c.read_transducer.ensures c.in-Ok.is))

pub overflow_sub-marks : goal.overflow_sub-marks
overflow_sub-marks c = end_inside c.args.stock.now c.args.file.now c.in-Ok.n c.counts_end-end.result c.read_transducer.ensures c.in-Ok.is c.counts_end-end.ensures

pub returns-in-Ok : goal.returns-in-Ok
returns-in-Ok c = tells_accepted c.read_transducer.result c.read_transducer.ensures (ap outcome_of c.in-Ok.is) refl (parts_sized c.args.stock.now c.args.file.now c.in-Ok.n c.counts_end-end.result c.read_transducer.ensures c.in-Ok.is c.counts_end-end.ensures)

pub returns-in-Err : goal.returns-in-Err
returns-in-Err c = tells_refused c.read_transducer.result c.read_transducer.ensures (ap outcome_of c.in-Err.is) c.from.ensures refl
