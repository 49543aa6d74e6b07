-- `cut_by` meets its contract: what `graft` wrote and what `cut_pattern` shared is the cut. Assumes nothing.
use Rattle.prefixes.proofs.Grafts.{graftable, to_cut_pattern, cut_by, cut_none}
use Rattle.prefixes.proofs.pattern.Patterns.cut_by.Goals as goal

pub graft-len-requires : goal.graft-len-requires
graft-len-requires c = graftable c.requires

pub cut_pattern-requires : goal.cut_pattern-requires
cut_pattern-requires c = to_cut_pattern c.requires c.graft-len.ensures c.from.ensures

pub returns-in_default-clause-cut : goal.returns-in_default-clause-cut
returns-in_default-clause-cut c = cut_none c.requires c.graft-len.ensures c.from.ensures c.cut_pattern.auto.x c.in_default.ensures

pub returns-clause-cut : goal.returns-clause-cut
returns-clause-cut c = cut_by c.requires c.graft-len.ensures c.from.ensures c.cut_pattern.auto.x c.in-Some.ensures
