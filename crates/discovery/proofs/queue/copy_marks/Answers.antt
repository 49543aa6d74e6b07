-- `copy_marks` meets its contract. The invariant: the first j letters were copied. Assumes nothing.
use mathlib.Core.Path.{refl}
use Rattle.discovery.proofs.Queues.{copied_none, copied_next}
use Rattle.discovery.proofs.queue.copy_marks.Goals as goal

pub loop-j-init : goal.loop-j-init
loop-j-init g c = copied_none c.args.s.now c.requires.0

pub loop-j-preserved : goal.loop-j-preserved
loop-j-preserved g c =
    let l = c.loop-j in
    copied_next c.args.s.now l.j l.invariant c.loop-j-test.true refl c.copy_mark.ensures
