-- `write_both` meets its contract: one line behind the other. Assumes nothing.
use native.Mathlib.Omega.{arith}
use Rattle.report.proofs.Reporting.{both_hold, both_written}
use Rattle.report.proofs.report.write_both.Goals as goal

pub write_normal-at-requires : goal.write_normal-at-requires
write_normal-at-requires c = let a = c.args in (search (both_hold a.stock.now a.first.now a.second.now c.requires.0), omega (arith, c.requires.1))

pub write_normal-requires : goal.write_normal-requires
write_normal-requires c = let a = c.args in (search (both_hold a.stock.now a.first.now a.second.now c.requires.0), omega (arith, c.requires.1, c.write_normal-at.ensures.short, c.write_normal-at.auto.text))

pub returns : goal.returns
returns c = both_written c.write_normal-at.ensures c.write_normal.ensures
