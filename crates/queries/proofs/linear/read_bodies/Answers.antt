-- `read_bodies` meets its contract. The invariant: j of the bodies were read. Assumes nothing.
use Prim.Native.Nat.{◌+◌, ◌<◌}
use native.Mathlib.Omega.{arith}
use Rattle.discovery.proofs.Loops.{none_counted, some_counted}
use Rattle.queries.proofs.Reading.{part_body, part_inside, part_low, bodies_none, bodies_next, bodies_stop, bodies_all}
use Rattle.queries.proofs.linear.read_bodies.Goals as goal

pub loop-j-init : goal.loop-j-init
loop-j-init c = bodies_none c.requires.0 c.requires.1

pub read_marks-requires : goal.read_marks-requires
read_marks-requires c =
    let B = c.requires.2 in
    let l = c.loop-j in
    let j = c.args.b + l.j in
    let h : j < c.args.b + c.args.k = omega (arith, c.loop-j-test.true) in
    (l.invariant.queue, l.invariant.wide, part_inside B j h c.from-from.ensures c.from-to.ensures, part_low B j h c.from-from.ensures c.from-to.ensures)

pub returns-in_err-read_marks : goal.returns-in_err-read_marks
returns-in_err-read_marks c = rw c.from_residual.ensures (bodies_stop c.loop-j.invariant (part_body c.requires.2 (c.args.b + c.loop-j.j) (omega (arith, c.loop-j-test.true)) c.from-from.ensures c.from-to.ensures) c.read_marks.ensures c.loop-j-test.true (none_counted _ c.in_err-read_marks.was))

pub loop-j-preserved : goal.loop-j-preserved
loop-j-preserved c =
    let l = c.loop-j in
    let t = c.loop-j-test.true in
    let e = part_body c.requires.2 (c.args.b + l.j) (omega (arith, t)) c.from-from.ensures c.from-to.ensures in
    bodies_next l.invariant e c.read_marks.ensures (some_counted c.in_ok-read_marks.was)

pub returns : goal.returns
returns c = bodies_all c.loop-j.invariant (omega arith) (omega arith)
