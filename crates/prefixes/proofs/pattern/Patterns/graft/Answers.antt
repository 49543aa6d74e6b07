-- `graft` meets its contract. The invariant is `Grafting`. Assumes nothing.
use Prim.Native.Nat.{◌+◌, ◌*◌}
use native.Mathlib.Omega.{arith}
use mathlib.Core.Path.{◌∙◌}
use Rattle.prefixes.proofs.Grafts.{called, graft_room, graft_symbol, graft_call, graft_end}
use borrow.Rule.Slice.PartMut.{mid_len}
use Rattle.prefixes.proofs.pattern.Patterns.graft.Goals as goal
use Rattle.prefixes.proofs.pattern.Patterns.graft.Goals.{then-i-eq0, else-i-eq0}

pub bounds-self-q : goal.bounds-self-q
bounds-self-q c =
    let C = called c.requires c.loop-j.j c.loop-j.invariant.first c.loop-j-test.true c.if-i-eq0.false c.from-q.ensures in
    omega arith

pub slice_bounds-copy_at-end : goal.slice_bounds-copy_at-end
slice_bounds-copy_at-end c =
    let C = called c.requires c.loop-j.j c.loop-j.invariant.first c.loop-j-test.true c.if-i-eq0.false c.from-q.ensures in
    omega (arith, C.small, c.from-size.ensures)

pub copy_at-requires : goal.copy_at-requires
copy_at-requires c =
    let C = called c.requires c.loop-j.j c.loop-j.invariant.first c.loop-j-test.true c.if-i-eq0.false c.from-q.ensures in
    omega (arith, C.small, C.inside, c.from-size.ensures, graft_room c.requires c.loop-j.invariant c.loop-j-test.true, mid_len (64 * c.from-q.result) (64 * c.from-q.result + c.from-size.result) c.args.self.now.heads.now (omega (arith, C.small, C.inside, c.from-size.ensures)))

pub loop-j-preserved : goal.loop-j-preserved
loop-j-preserved c =
    let G = c.requires in
    let L = c.loop-j.invariant in
    let t = c.loop-j-test.true in
    elim c.if-i-eq0.branch [
      | then-i-eq0 w ↦ graft_symbol G L t w.if-i-eq0.true w.out-is w.w-is
      | else-i-eq0 w ↦
          graft_call G L t w.if-i-eq0.false w.from-q.ensures w.from-size.ensures (w.out-is ∙ w.copy_at.ensures) w.w-is
    ]

pub returns : goal.returns
returns c = graft_end c.requires c.loop-j.invariant c.loop-j-test.false
