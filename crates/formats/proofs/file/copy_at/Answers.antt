-- `copy_at` meets its contract. The invariant: writing what is left from j on ends as writing all from the start. Assumes nothing.
use Prim.Native.Nat.{◌+◌}
use native.Mathlib.Nat.{add-zero}
use native.Mathlib.Numerals.{add-one}
use native.Mathlib.Omega.{arith}
use mathlib.Core.Path.{refl}
use lib.ListN.{drop, get_or, drop_of_length-le}
use lib.Seq.{drop-cons}
use Rattle.formats.proofs.Writing.{begin, one_more_lem, finish}
use Rattle.formats.proofs.file.copy_at.Goals as goal

pub loop-j-init : goal.loop-j-init
loop-j-init c = let a = c.args in rw add-zero (begin a.from.now a.area.now a.at)

pub loop-j-preserved : goal.loop-j-preserved
loop-j-preserved c =
    let a = c.args in
    let l = c.loop-j in
    one_more_lem l.invariant (get_or a.from.now l.j 0) (drop (l.j + 1) a.from.now) (rw add-one (drop-cons a.from.now l.j 0 c.loop-j-test.true)) (omega arith) refl

pub returns : goal.returns
returns c =
    let a = c.args in
    let l = c.loop-j in
    (finish l.invariant (drop_of_length-le a.from.now {i = l.j} (omega (arith, c.loop-j-test.false)))).1
