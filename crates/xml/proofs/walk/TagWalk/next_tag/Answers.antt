-- `next_tag` meets its contract. Assumes nothing.
use Prim.Native.Nat.{◌-◌}
use native.Mathlib.Omega.{arith}
use mathlib.Core.Logic.{inl, inr}
use Rattle.xml.specs.Inner.Walk.{open_node}
use Rattle.xml.proofs.Walking.{root_step, end_step, child_walk, child_step, close_step, restart}
use Rattle.xml.proofs.walk.TagWalk.next_tag.Goals as goal
use Rattle.xml.proofs.walk.TagWalk.next_tag.Goals.{else-self-s-2-via-then-self-s-2+else-self-last-gt0, else-self-s-2-via-else-self-s-2}

pub returns-then-self-s : goal.returns-then-self-s
returns-then-self-s c = end_step c.requires c.if-self-eq0.true c.if-self-s.true

pub returns-then-self-eq0 : goal.returns-then-self-eq0
returns-then-self-eq0 c = restart (root_step c.requires c.if-self-eq0.true) c.enter.ensures

pub enter-requires-then-self-last-gt0 : goal.enter-requires-then-self-last-gt0
enter-requires-then-self-last-gt0 c = (child_walk c.requires (c.args.self.now.depth - 1) (omega (arith, c.if-self-eq0.false)) (open_node 0 0) c.if-self-s-2.true c.if-self-last-gt0.true, c.if-self-s-2.true)

pub returns-then-self-last-gt0 : goal.returns-then-self-last-gt0
returns-then-self-last-gt0 c = restart (child_step c.requires (c.args.self.now.depth - 1) (omega (arith, c.if-self-eq0.false)) (open_node 0 0) c.if-self-s-2.true c.if-self-last-gt0.true) c.enter-then-self-last-gt0.ensures

pub returns : goal.returns
returns c =
    close_step c.requires (c.args.self.now.depth - 1) (omega (arith, c.if-self-eq0.false)) (open_node 0 0)
    (elim c.else-self-s-2.branch [ else-self-s-2-via-then-self-s-2+else-self-last-gt0 w ↦ inl (omega (arith, w.if-self-last-gt0.false)) | else-self-s-2-via-else-self-s-2 w ↦ inr w.if-self-s-2.false ])
