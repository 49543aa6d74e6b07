-- `held_body` meets its contract: the bodies that are held lie within the area. Assumes nothing.
use Rattle.trees.proofs.Deciding.{held}
use Rattle.records.proofs.Entering.{chained_end}
use Rattle.records.proofs.making.held_body.Goals as goal

pub body_of-requires : goal.body_of-requires
body_of-requires c = chained_end (held c.chained.ensures c.if-not-chained.false-raw) c.args.number c.if-number-h.false
