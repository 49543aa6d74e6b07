-- `read_reached` meets its contract. The invariant: the bodies of the first p states met were read. Assumes nothing.
use Prim.Native.Nat.{◌<◌}
use native.Mathlib.Omega.{arith}
use borrow.Author.Rules.{rules}
use lib.ListN.{length}
use Rattle.discovery.proofs.Loops.{none_counted, some_counted}
use Rattle.discovery.proofs.Queues.{queue_few}
use Rattle.queries.proofs.Reading.{low_fewer, initial_read, state_fits, state_read, state_stop, states_all}
use Rattle.queries.proofs.linear.read_reached.Goals as goal

pub loop-p-init : goal.loop-p-init
loop-p-init c = initial_read (rw c.new-queue.ensures.2 at c.read_bodies.ensures) (some_counted c.in-Some.is)

pub read_bodies-requires : goal.read_bodies-requires
read_bodies-requires c = (c.new-queue.ensures.0, c.new-queue.ensures.1, low_fewer c.requires 1 (omega arith))

pub overflow_mul-q : goal.overflow_mul-q
overflow_mul-q c =
    let f = state_fits c.loop-p.invariant c.loop-p-test.true c.from-q.ensures _ c.requires.low in
    let g : length c.args.starts.now < 18446744073709551616 = search rules in
    omega (arith, f, c.requires.long, g)

pub overflow_add-q : goal.overflow_add-q
overflow_add-q c =
    let f = state_fits c.loop-p.invariant c.loop-p-test.true c.from-q.ensures _ c.requires.low in
    let g : length c.args.starts.now < 18446744073709551616 = search rules in
    omega (arith, f, c.requires.long, g)

pub read_bodies-requires-in-loop-p : goal.read_bodies-requires-in-loop-p
read_bodies-requires-in-loop-p c =
    let T = c.loop-p.invariant in
    (T.queue, T.wide, low_fewer c.requires _ (state_fits T c.loop-p-test.true c.from-q.ensures _ c.requires.low))

pub returns-in_default-read_bodies : goal.returns-in_default-read_bodies
returns-in_default-read_bodies c = state_stop c.loop-p.invariant c.loop-p-test.true c.from-q.ensures c.read_bodies-in-loop-p.ensures (none_counted _ c.in_default-read_bodies.is)

pub loop-p-smaller : goal.loop-p-smaller
loop-p-smaller c = omega (arith, queue_few c.loop-p.invariant.queue, c.loop-p.invariant.wide, c.loop-p-test.true)

pub loop-p-preserved : goal.loop-p-preserved
loop-p-preserved c = state_read c.loop-p.invariant c.loop-p-test.true c.from-q.ensures c.read_bodies-in-loop-p.ensures (some_counted c.in-Some-read_bodies.is)

pub returns : goal.returns
returns c = states_all c.loop-p.invariant c.loop-p-test.false
