-- `write_normal` meets its contract: the file passes all checks, so that it has a normal form. Assumes nothing.
use Prim.Native.Nat.{ℕ}
use native.Mathlib.Omega.{arith}
use lib.ListN.{length-replicate}
use Rattle.report.proofs.Reporting.{states_few, marks_few, line_short, normal_written, normal_sizes, normal_there}
use Rattle.report.proofs.report.write_normal.Goals as goal

pub unwrap-form-requires : goal.unwrap-form-requires
unwrap-form-requires c = normal_there c.clean.result c.clean.ensures (omega (arith, length-replicate {A = ℕ} 20483 0)) c.requires.0

pub write_sizes-requires : goal.write_sizes-requires
write_sizes-requires c = let S = normal_sizes c.clean.ensures c.unwrap-form.ensures in (omega (arith, states_few S), omega (arith, marks_few S), omega (arith, c.requires.1, line_short S c.args.word.now))

pub returns : goal.returns
returns c = normal_written (normal_sizes c.clean.ensures c.unwrap-form.ensures) c.write_sizes.ensures
