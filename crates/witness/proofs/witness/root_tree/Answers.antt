-- `root_tree` meets its contract. Assumes nothing.
use Prim.Native.Nat.{ℕ}
use mathlib.Core.Path.{◌∙◌}
use lib.ListN.{length-replicate}
use Rattle.witness.proofs.WayBack.{root_below, root_steps, root_upable, root_found}
use Rattle.witness.proofs.witness.root_tree.Goals as goal

pub write_steps-tree-requires : goal.write_steps-tree-requires
write_steps-tree-requires c = root_steps c.requires (root_below c.requires c.mark_of-first.ensures.0 c.mark_of-first.ensures.1 c.mark_of-second.ensures.0 c.mark_of-second.ensures.1 c.find_bottom-f.ensures) (c.find_bottom-f.auto.steps ∙ length-replicate {A = ℕ} 256 0)

pub step_up-span-requires : goal.step_up-span-requires
step_up-span-requires c = root_upable c.requires (root_below c.requires c.mark_of-first.ensures.0 c.mark_of-first.ensures.1 c.mark_of-second.ensures.0 c.mark_of-second.ensures.1 c.find_bottom-f.ensures) c.write_steps-tree.ensures c.write_steps-tree.auto.buffer

pub returns : goal.returns
returns c = root_found c.requires (root_below c.requires c.mark_of-first.ensures.0 c.mark_of-first.ensures.1 c.mark_of-second.ensures.0 c.mark_of-second.ensures.1 c.find_bottom-f.ensures) c.write_steps-tree.ensures c.write_steps-tree.auto.buffer c.step_up-span.ensures
