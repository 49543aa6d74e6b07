-- `judge_parts` meets its contract. Assumes nothing.
use Prim.Native.Nat.{ℕ}
use native.Mathlib.Omega.{arith}
use mathlib.Core.Path.{◌∙◌}
use lib.ListN.{length-replicate}
use Rattle.formats.specs.Inner.Layout.{Right}
use Rattle.formats.proofs.Counts.{in_bounds, short_bodies, to_offsets, from_offsets}
use Rattle.trees.proofs.Deciding.{refuted, held}
use Rattle.formats.proofs.Verdicts.{few_symbols, many_states, wrong_length, wrong_sums, wrong_body, all_right}
use Rattle.formats.proofs.file.judge_parts.Goals as goal
use Rattle.formats.proofs.file.judge_parts.Goals.{then-counts-bodies-via-then-counts-bodies, then-counts-bodies-via-else-counts-bodies+then-not-counts_right}

pub returns-then-n-gt128 : goal.returns-then-n-gt128
returns-then-n-gt128 c = many_states c.requires c.input_ranks-ins.ensures (omega (arith, c.if-n-gt128.true))

pub returns-then-counts-bodies : goal.returns-then-counts-bodies
returns-then-counts-bodies c =
    elim c.then-counts-bodies.branch [
      | then-counts-bodies-via-then-counts-bodies w ↦ wrong_length c.requires c.input_ranks-ins.ensures w.if-counts-bodies.true
      | then-counts-bodies-via-else-counts-bodies+then-not-counts_right w ↦ wrong_sums c.requires c.input_ranks-ins.ensures (refuted w.counts_right.ensures w.if-not-counts_right.true-raw)
    ]

pub bodies_whole-requires : goal.bodies_whole-requires
bodies_whole-requires c =
    let F = c.fill_starts in
    let S = held c.counts_right.ensures c.if-not-counts_right.false-raw in
    let R : Right c.input_ranks-ins.result.now c.args.n c.args.counts.now c.args.marks.now = record { symbols = few_symbols c.requires c.input_ranks-ins.ensures; states = omega (arith, c.if-n-gt128.false); long = c.if-counts-bodies.false; sums = S } in
    (in_bounds F.new.starts R F.ensures.starts (F.auto.starts ∙ length-replicate {A = ℕ} 2050 0), short_bodies F.new.starts R F.ensures.starts (F.auto.starts ∙ length-replicate {A = ℕ} 2050 0))

pub returns-then-not-bodies_whole : goal.returns-then-not-bodies_whole
returns-then-not-bodies_whole c =
    let F = c.fill_starts in
    let b = c.bodies_whole in
    let S = held c.counts_right.ensures c.if-not-counts_right.false-raw in
    let R : Right c.input_ranks-ins.result.now c.args.n c.args.counts.now c.args.marks.now = record { symbols = few_symbols c.requires c.input_ranks-ins.ensures; states = omega (arith, c.if-n-gt128.false); long = c.if-counts-bodies.false; sums = S } in
    let l = F.auto.starts ∙ length-replicate {A = ℕ} 2050 0 in
    wrong_body c.requires c.input_ranks-ins.ensures R c.output_ranks.ensures (λ W. refuted b.ensures c.if-not-bodies_whole.true-raw (from_offsets F.new.starts R F.ensures.starts l c.output_ranks.result.now W))

pub returns : goal.returns
returns c =
    let F = c.fill_starts in
    let b = c.bodies_whole in
    let S = held c.counts_right.ensures c.if-not-counts_right.false-raw in
    let R : Right c.input_ranks-ins.result.now c.args.n c.args.counts.now c.args.marks.now = record { symbols = few_symbols c.requires c.input_ranks-ins.ensures; states = omega (arith, c.if-n-gt128.false); long = c.if-counts-bodies.false; sums = S } in
    let l = F.auto.starts ∙ length-replicate {A = ℕ} 2050 0 in
    all_right c.requires c.input_ranks-ins.ensures R c.output_ranks.ensures (to_offsets F.new.starts R F.ensures.starts l c.output_ranks.result.now (held b.ensures c.if-not-bodies_whole.false-raw))
