-- `one_body` meets its contract. Assumes nothing.
use Rattle.formats.proofs.Behind.{body_decided}
use Rattle.formats.proofs.bodies.one_body.Goals as goal

pub returns : goal.returns
returns c = let a = c.args in body_decided a.outs.now a.marks.now a.n a.r a.from a.to c.measure_body.ensures c.is_some.ensures
