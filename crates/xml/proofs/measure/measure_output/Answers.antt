-- `measure_output` meets its contract. Assumes nothing.
use Prim.Native.Nat.{ℕ, ◌<◌}
use native.Mathlib.Omega.{arith}
use mathlib.Core.List.{List}
use mathlib.Core.Path.{◌≡◌, ap, ◌∙◌}
use lib.ListN.{length, get_or, replicate, length-replicate}
use Rattle.xml.proofs.Standing.{end_standing, not_known, children_missing, few_levels_lem, symbol_read, one_tree}
use Rattle.xml.proofs.measure.measure_output.Goals as goal

pub loop-symbol-init : goal.loop-symbol-init
loop-symbol-init c =
    let e = ap (λ r. r.iter.rest.now) c.into_iter-symbol-iterator.ensures.into_iter_gives ∙ ap (λ r. r.rest.now) c.rev-symbol-items.ensures.source ∙ c.iter.ensures.rest in
    rw e (end_standing c.args.ranks.now c.args.s.now (replicate {A = ℕ} 4096 0) (omega (arith, c.if-s-gt4096.false)) (length-replicate {A = ℕ} 4096 0))

pub returns-in_err-get : goal.returns-in_err-get
returns-in_err-get c = rw c.from_residual.ensures (not_known c.loop-symbol.invariant _ _ c.in-Some.ensures.steps (omega (arith, c.in_err-get.ensures.lookup.3, c.from.ensures)))

-- the symbol is known, and this is its rank
known_rank : (ranks : List ℕ) {x symbol r rank : ℕ} → x ≡ symbol → x < length ranks → r ≡ get_or ranks x 0 → rank ≡ r → (symbol < length ranks) × (rank ≡ get_or ranks symbol 0)
known_rank ranks e h f g = (omega arith, g ∙ f ∙ ap (λ i. get_or ranks i 0) e)

pub returns-then-rank-behind : goal.returns-then-rank-behind
returns-then-rank-behind c =
    let r = c.in_ok-get.ensures.lookup in
    let k = known_rank c.args.ranks.now c.from.ensures r.3.0 (r.4 (omega arith) 0) c.from-rank.ensures in
    children_missing c.loop-symbol.invariant _ _ c.in-Some.ensures.steps k.0 k.1 c.if-rank-behind.true

pub overflow_cast-levels : goal.overflow_cast-levels
overflow_cast-levels c =
    let r = c.in_ok-get.ensures.lookup in
    let k = known_rank c.args.ranks.now c.from.ensures r.3.0 (r.4 (omega arith) 0) c.from-rank.ensures in
    omega (arith, few_levels_lem c.loop-symbol.invariant _ _ c.in-Some.ensures.steps k.0 k.1 c.most_levels-deep.ensures)

pub overflow_add-levels : goal.overflow_add-levels
overflow_add-levels c = omega (arith, overflow_cast-levels c)

pub loop-symbol-preserved : goal.loop-symbol-preserved
loop-symbol-preserved c =
    let r = c.in_ok-get.ensures.lookup in
    let k = known_rank c.args.ranks.now c.from.ensures r.3.0 (r.4 (omega arith) 0) c.from-rank.ensures in
    symbol_read c.loop-symbol.invariant _ _ c.in-Some.ensures.steps k.0 k.1 c.if-rank-behind.false c.most_levels-deep.ensures

pub returns : goal.returns
returns c = one_tree c.loop-symbol.invariant c.in-None.ensures.steps.0 c.if-behind-ne1.false c.from-2.ensures
