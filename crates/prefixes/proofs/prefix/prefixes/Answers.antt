-- `prefixes` meets its contract: the start is above the common prefixes, and the cuts end with them, whichever leaf is named. Assumes nothing.
use Rattle.std.proofs.Common.{rules}
use Rattle.prefixes.proofs.Settling.{stays_more}
use Rattle.prefixes.proofs.Starting.{can_settle, all_prefixes, put_back}
use Rattle.prefixes.proofs.prefix.prefixes.Goals as goal

pub settle-requires : goal.settle-requires
settle-requires c = let k = c.start_heads.ensures in can_settle c.requires k.started k.same.long_sizes

pub returns : goal.returns
returns c =
    let k = c.start_heads.ensures in
    let s = c.settle.ensures in
    let t = stays_more k.same s.same in
    put_back (search rules) (search rules) (all_prefixes c.requires k.started k.same.long_sizes c.leaf_symbol.ensures s.cut s.same.long_sizes)
