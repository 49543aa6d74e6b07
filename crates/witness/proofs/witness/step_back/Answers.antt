-- `step_back` meets its contract. Assumes nothing.
use Rattle.witness.proofs.WayBack.{back_address_asked, back_done}
use Rattle.witness.proofs.witness.step_back.Goals as goal

pub write_address-at-requires : goal.write_address-at-requires
write_address-at-requires c = back_address_asked c.args.p c.requires.0 c.requires.1 c.from-q.ensures c.from-a.ensures c.from-m.ensures c.body_of.ensures c.from-from.ensures

pub returns : goal.returns
returns c = back_done c.args.p c.requires.0 c.requires.1 c.from-q.ensures c.from-a.ensures c.from-m.ensures c.from-i.ensures c.body_of.ensures c.from-from.ensures c.write_address-at.ensures c.write_address-at.auto.place c.step_up-span.ensures c.step_up-span.auto.buffer
