-- `pattern_classes` meets its contract. The invariant is `BytesLoop`. Assumes nothing.
use Rattle.classes.proofs.Patterns.{bytes_part, bytes_next}
use Rattle.classes.proofs.classes.pattern_classes.Goals as goal

pub pattern_byte-requires : goal.pattern_byte-requires
pattern_byte-requires c = bytes_part c.requires c.loop-p.invariant c.loop-p-test.true c.from-from.ensures c.from-to.ensures

pub loop-p-preserved : goal.loop-p-preserved
loop-p-preserved c = bytes_next c.requires c.loop-p.invariant c.loop-p-test.true c.from-from.ensures c.from-to.ensures c.pattern_byte.ensures
