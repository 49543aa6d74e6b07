-- `fill_counts` meets its contract. The invariant: the counts so far are written. Assumes nothing.
use Prim.Native.Nat.{◌+◌, ◌-◌, ◌*◌, ◌/◌, ◌%◌, ◌<◌}
use mathlib.Core.Path.{◌∙◌, refl}
use native.Mathlib.Omega.{arith}
use lib.ListN.{length, get_or, set, length-set}
use Rattle.forms.proofs.Filing.{count_more}
use Rattle.forms.proofs.write.fill_counts.Goals as goal

pub overflow_sub-size : goal.overflow_sub-size
overflow_sub-size c = omega (arith, c.requires.2 c.loop-j.j c.loop-j-test.true)

pub bounds-counts-j-in-loop-j : goal.bounds-counts-j-in-loop-j
bounds-counts-j-in-loop-j c =
    let l = c.loop-j in
    omega (arith, length-set l.counts (2 * l.j) ((get_or c.args.starts.now (l.j + 1) 0 - get_or c.args.starts.now l.j 0) / 256))

pub loop-j-preserved : goal.loop-j-preserved
loop-j-preserved c =
    let l = c.loop-j in
    let t = c.args.starts.now in
    let s = get_or t (l.j + 1) 0 - get_or t l.j 0 in
    let room : 2 * l.j + 1 < length l.counts = omega arith in
    (length-set (set l.counts (2 * l.j) (s / 256)) (2 * l.j + 1) (s % 256) ∙ length-set l.counts (2 * l.j) (s / 256) ∙ l.invariant.0, count_more l.counts l.j s room t refl l.invariant.1)
