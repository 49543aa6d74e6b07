-- `follow` meets its contract. The invariant: the symbol sought stands at the rest of the address in what the term at mark j gives over the trees from below on.
-- Assumes nothing.
use Prim.Native.Nat.{ℕ, ◌+◌, ◌*◌, ◌<◌}
use mathlib.Core.Path.{sym, ◌∙◌}
use native.Mathlib.Omega.{arith}
use mathlib.Core.List.{List}
use lib.ListN.{length}
use Rattle.queries.proofs.Following.{Following, begin_follow, in_part, follow_hops, follow_place, follow_number, follow_call, follow_end, follow_zero, follow_far, follow_known, follow_enough, follow_child}
use Rattle.queries.proofs.address.follow.Goals as goal

-- the mark at which the term begins is there
mark_there : {ins outs : List ℕ} {n : ℕ} {starts bytes s v : List ℕ} {j to r below k : ℕ} → Following ins outs n starts bytes s v j to r below k → 2 * j + 1 < length bytes
mark_there {outs = outs} {n} {bytes = bytes} {j = j} {to} {r} F = omega (arith, in_part outs n r bytes j to F.inside F.there, F.inside)

pub loop-j-init : goal.loop-j-init
loop-j-init c = rw (c.from-j.ensures, c.from-to.ensures) (begin_follow c.requires c.args.v.now)

pub overflow_mul-j : goal.overflow_mul-j
overflow_mul-j c = omega (arith, mark_there c.loop-j.invariant, c.well_formed)

pub bounds-marks-j : goal.bounds-marks-j
bounds-marks-j c = omega (arith, mark_there c.loop-j.invariant, c.well_formed)

pub overflow_mul-j-in-loop-j : goal.overflow_mul-j-in-loop-j
overflow_mul-j-in-loop-j c = omega (arith, mark_there c.loop-j.invariant, c.well_formed)

pub overflow_add-j : goal.overflow_add-j
overflow_add-j c = omega (arith, mark_there c.loop-j.invariant, c.well_formed)

pub bounds-marks-j-in-loop-j : goal.bounds-marks-j-in-loop-j
bounds-marks-j-in-loop-j c = omega (arith, mark_there c.loop-j.invariant, c.well_formed)

pub skip-p-requires : goal.skip-p-requires
skip-p-requires c = follow_hops c.requires c.args.v.now c.loop-j.invariant c.from-i.ensures c.from-x.ensures c.if-i-gt0.true

pub bounds-s-p : goal.bounds-s-p
bounds-s-p c = (follow_place c.requires c.args.v.now c.loop-j.invariant c.from-i.ensures c.from-x.ensures c.if-i-gt0.true c.skip-p.ensures).0

pub overflow_mul-b : goal.overflow_mul-b
overflow_mul-b c = omega (arith, (follow_number c.requires c.args.v.now c.loop-j.invariant c.from-i.ensures c.from-x.ensures c.if-i-gt0.true c.skip-p.ensures c.from-a.ensures).1, c.requires.bounds.long, c.well_formed)

pub overflow_add-b : goal.overflow_add-b
overflow_add-b c = omega (arith, (follow_number c.requires c.args.v.now c.loop-j.invariant c.from-i.ensures c.from-x.ensures c.if-i-gt0.true c.skip-p.ensures c.from-a.ensures).1, c.requires.bounds.long, c.well_formed)

pub overflow_add-b-then-i-gt0 : goal.overflow_add-b-then-i-gt0
overflow_add-b-then-i-gt0 c = omega (arith, (follow_number c.requires c.args.v.now c.loop-j.invariant c.from-i.ensures c.from-x.ensures c.if-i-gt0.true c.skip-p.ensures c.from-a.ensures).1, c.requires.bounds.long, c.well_formed)

pub offset_bounds-starts-b : goal.offset_bounds-starts-b
offset_bounds-starts-b c = omega (arith, (follow_number c.requires c.args.v.now c.loop-j.invariant c.from-i.ensures c.from-x.ensures c.if-i-gt0.true c.skip-p.ensures c.from-a.ensures).1, c.requires.bounds.long, c.well_formed)

pub bounds-starts-b : goal.bounds-starts-b
bounds-starts-b c = omega (arith, (follow_number c.requires c.args.v.now c.loop-j.invariant c.from-i.ensures c.from-x.ensures c.if-i-gt0.true c.skip-p.ensures c.from-a.ensures).1, c.requires.bounds.long, c.well_formed)

pub overflow_add-b-then-i-gt0-2 : goal.overflow_add-b-then-i-gt0-2
overflow_add-b-then-i-gt0-2 c = omega (arith, (follow_number c.requires c.args.v.now c.loop-j.invariant c.from-i.ensures c.from-x.ensures c.if-i-gt0.true c.skip-p.ensures c.from-a.ensures).1, c.requires.bounds.long, c.well_formed)

pub offset_bounds-starts-b-then-i-gt0 : goal.offset_bounds-starts-b-then-i-gt0
offset_bounds-starts-b-then-i-gt0 c = omega (arith, (follow_number c.requires c.args.v.now c.loop-j.invariant c.from-i.ensures c.from-x.ensures c.if-i-gt0.true c.skip-p.ensures c.from-a.ensures).1, c.requires.bounds.long, c.well_formed)

pub bounds-starts-b-then-i-gt0 : goal.bounds-starts-b-then-i-gt0
bounds-starts-b-then-i-gt0 c = omega (arith, (follow_number c.requires c.args.v.now c.loop-j.invariant c.from-i.ensures c.from-x.ensures c.if-i-gt0.true c.skip-p.ensures c.from-a.ensures).1, c.requires.bounds.long, c.well_formed)

pub bounds-ins-a : goal.bounds-ins-a
bounds-ins-a c = (follow_number c.requires c.args.v.now c.loop-j.invariant c.from-i.ensures c.from-x.ensures c.if-i-gt0.true c.skip-p.ensures c.from-a.ensures).0

pub overflow_add-below : goal.overflow_add-below
overflow_add-below c = omega (arith, (follow_place c.requires c.args.v.now c.loop-j.invariant c.from-i.ensures c.from-x.ensures c.if-i-gt0.true c.skip-p.ensures).0, c.well_formed)

pub loop-j-smaller-then-i-gt0 : goal.loop-j-smaller-then-i-gt0
loop-j-smaller-then-i-gt0 c = omega (arith, follow_place c.requires c.args.v.now c.loop-j.invariant c.from-i.ensures c.from-x.ensures c.if-i-gt0.true c.skip-p.ensures)

pub loop-j-preserved-then-i-gt0 : goal.loop-j-preserved-then-i-gt0
loop-j-preserved-then-i-gt0 c = follow_call c.requires c.args.v.now c.loop-j.invariant c.from-i.ensures c.from-x.ensures c.if-i-gt0.true c.skip-p.ensures c.from-a.ensures c.from-j-then-i-gt0.ensures c.from-to-then-i-gt0.ensures c.from-r.ensures

pub returns-then-k-v : goal.returns-then-k-v
returns-then-k-v c = follow_end c.requires c.args.v.now c.loop-j.invariant c.from-i.ensures c.from-x.ensures (omega arith) c.if-k-v.true

pub returns-then-c-eq0 : goal.returns-then-c-eq0
returns-then-c-eq0 c = follow_zero c.requires c.args.v.now c.loop-j.invariant c.from-i.ensures c.from-x.ensures (omega arith) c.if-k-v.false (sym c.from-c.ensures ∙ c.if-c-eq0.true)

pub bounds-outs-x : goal.bounds-outs-x
bounds-outs-x c = follow_known c.requires c.args.v.now c.loop-j.invariant c.from-i.ensures c.from-x.ensures (omega arith)

pub returns-then-c-from : goal.returns-then-c-from
returns-then-c-from c = follow_far c.requires c.args.v.now c.loop-j.invariant c.from-i.ensures c.from-x.ensures (omega arith) c.if-k-v.false (omega (arith, c.from.ensures, c.from-c.ensures, c.if-c-from.true))

pub overflow_add-j-else-i-gt0 : goal.overflow_add-j-else-i-gt0
overflow_add-j-else-i-gt0 c = omega (arith, mark_there c.loop-j.invariant, c.well_formed)

pub skip_marks-j-requires : goal.skip_marks-j-requires
skip_marks-j-requires c = (c.loop-j.invariant.inside, omega (arith, follow_enough c.requires c.args.v.now c.loop-j.invariant c.from-i.ensures c.from-x.ensures (omega arith), c.from.ensures, c.if-c-from.false, c.if-c-eq0.false))

pub loop-j-preserved : goal.loop-j-preserved
loop-j-preserved c = follow_child c.requires c.args.v.now c.loop-j.invariant c.from-i.ensures c.from-x.ensures (omega arith) c.if-k-v.false c.from-c.ensures (omega (arith, c.if-c-eq0.false)) (omega (arith, c.from.ensures, c.if-c-from.false)) c.skip_marks-j.ensures
