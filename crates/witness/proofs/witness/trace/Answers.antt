-- `trace` meets its contract. Assumes nothing.
use mathlib.Core.Path.{ap, ◌∙◌}
use Rattle.classes.specs.Inner.Classes.{at}
use Rattle.witness.proofs.Showing.{show_root, show_address_asked, show_leading, show_roomy, traced}
use Rattle.witness.proofs.witness.trace.Goals as goal

pub root_tree-f-requires : goal.root_tree-f-requires
root_tree-f-requires c = show_root c.requires.0 c.requires.1 c.requires.2.leaf (c.from-i.ensures ∙ ap (at c.args.left.starts.now) c.body_of.ensures) (c.from-j.ensures ∙ ap (at c.args.right.starts.now) c.body_of-2.ensures) c.requires.2.tree_room

pub write_address-w-requires : goal.write_address-w-requires
write_address-w-requires c = show_address_asked c.requires.0 c.requires.1 (c.from-i.ensures ∙ ap (at c.args.left.starts.now) c.body_of.ensures) c.requires.2.address_room

pub trace_back-s-requires : goal.trace_back-s-requires
trace_back-s-requires c = (show_leading c.requires.0 c.requires.1 c.requires.2.leaf, show_roomy c.requires.0 c.requires.1 c.root_tree-f.ensures c.write_address-w.ensures (c.root_tree-f.auto.buffer ∙ c.requires.2.tree_room) c.requires.2.address_room c.write_address-w.auto.place (c.from-i.ensures ∙ ap (at c.args.left.starts.now) c.body_of.ensures) (c.from-j.ensures ∙ ap (at c.args.right.starts.now) c.body_of-2.ensures))

pub returns : goal.returns
returns c = traced c.requires.0 c.requires.1 c.root_tree-f.ensures c.write_address-w.ensures (c.root_tree-f.auto.buffer ∙ c.requires.2.tree_room) c.requires.2.address_room c.write_address-w.auto.place (c.from-i.ensures ∙ ap (at c.args.left.starts.now) c.body_of.ensures) (c.from-j.ensures ∙ ap (at c.args.right.starts.now) c.body_of-2.ensures) c.requires.2.leaf c.requires.2.rank c.trace_back-s.ensures c.trace_back-s.auto.buffer c.trace_back-s.auto.place
