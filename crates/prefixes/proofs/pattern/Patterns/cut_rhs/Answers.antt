-- `cut_rhs` meets its contract: the right-hand side for the leaf is left out, and any other cuts. Assumes nothing.
use Rattle.prefixes.proofs.Settling.{can_cut, body_cut, leaf_out}
use Rattle.prefixes.proofs.pattern.Patterns.cut_rhs.Goals as goal

pub returns-then-a-tables-clause-cut : goal.returns-then-a-tables-clause-cut
returns-then-a-tables-clause-cut c = leaf_out c.requires.0.table c.if-a-tables.true

pub cut_by-requires : goal.cut_by-requires
cut_by-requires c =
    can_cut c.requires.0 c.args.q c.args.a c.requires.1 c.requires.2 c.body-body.ensures.0 c.body-body.ensures.1

pub returns-clause-cut : goal.returns-clause-cut
returns-clause-cut c =
    body_cut c.requires.0 c.args.q c.args.a c.requires.1 c.requires.2 c.body-body.ensures.0 c.body-body.ensures.1 c.cut_by.ensures.cut c.args.tables.now.leaf
