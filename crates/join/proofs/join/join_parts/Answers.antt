-- `join_parts` meets its contract: the starts of the bodies of both transducers, and what is discovered by them. Assumes nothing.
use Prim.Native.Nat.{ℕ}
use mathlib.Core.Path.{◌∙◌}
use lib.ListN.{length-replicate}
use Rattle.transducer.proofs.Translating.{starts_fit}
use native.Mathlib.Omega.{arith}
use Rattle.join.proofs.Numbers.{pair_numbers}
use Rattle.join.proofs.Entering.{tables_read, parts_joined}
use Rattle.join.proofs.join.join_parts.Goals as goal

pub fill_starts-requires : goal.fill_starts-requires
fill_starts-requires c = starts_fit c.requires.0.first c.input_ranks.ensures

pub fill_starts-requires-2 : goal.fill_starts-requires-2
fill_starts-requires-2 c = starts_fit c.requires.0.second c.input_ranks-2.ensures

pub discover-requires : goal.discover-requires
discover-requires c =
    let b = c.requires in
    let f = c.fill_starts in
    let g = c.fill_starts-2 in
    let T = tables_read b.0 c.input_ranks.ensures c.input_ranks-2.ensures f.new.starts g.new.starts f.ensures.starts g.ensures.starts (f.auto.starts ∙ length-replicate {A = ℕ} 2050 0) (g.auto.starts ∙ length-replicate {A = ℕ} 2050 0) in
    (T, record { numbers = pair_numbers T; leaf = T.alphabets.leaf }, omega arith, b.1, b.2)

pub returns : goal.returns
returns c =
    let f = c.fill_starts in
    let g = c.fill_starts-2 in
    parts_joined c.requires.0 c.input_ranks.ensures c.input_ranks-2.ensures f.new.starts g.new.starts f.ensures.starts g.ensures.starts (f.auto.starts ∙ length-replicate {A = ℕ} 2050 0) (g.auto.starts ∙ length-replicate {A = ℕ} 2050 0) c.discover.ensures
