-- `cut_pattern` meets its contract. Assumes nothing.
use native.Mathlib.Omega.{arith}
use mathlib.Core.Path.{◌∙◌}
use Rattle.prefixes.proofs.Ends.{letter_inside, end_there, end_right}
use Rattle.prefixes.proofs.Grafts.{cut_answer}
use Rattle.prefixes.proofs.Patterns.{cutting_start, cutting_done, first_there, second_there, run_one, run_equal, same_turn, run_turn, other_turn, top_ranks}
use Rattle.prefixes.proofs.pattern.cut_pattern.Goals as goal
use Rattle.prefixes.proofs.pattern.cut_pattern.Goals.{then-w-i, else-w-i}

pub bounds-y-j : goal.bounds-y-j
bounds-y-j c =
    let l = c.loop-i in
    letter_inside _ _ l.j (second_there l.invariant c.loop-i-test.true)

pub slice_bounds-equal_letters-count-then-w-i : goal.slice_bounds-equal_letters-count-then-w-i
slice_bounds-equal_letters-count-then-w-i c = omega (arith, (run_one c.loop-i.invariant c.loop-i-test.true).second)

pub slice_bounds-equal_letters-start-then-w-i : goal.slice_bounds-equal_letters-start-then-w-i
slice_bounds-equal_letters-start-then-w-i c = omega (arith, (run_one c.loop-i.invariant c.loop-i-test.true).second)

-- the same letter in both: it is passed with those behind it that are the same, or is written further to the front
pub overflow_add-i : goal.overflow_add-i
overflow_add-i c =
    let M = c.loop-i.invariant in
    let t = c.loop-i-test.true in
    elim c.if-w-i.branch [
      | then-w-i w ↦ omega (arith, w.n-is, w.equal_letters-n.ensures, M.long, (run_equal M t c.if-k-y.true).first)
      | else-w-i w ↦ omega (arith, w.n-is, M.long)
    ]

pub overflow_add-j : goal.overflow_add-j
overflow_add-j c =
    let M = c.loop-i.invariant in
    let t = c.loop-i-test.true in
    elim c.if-w-i.branch [
      | then-w-i w ↦ omega (arith, w.n-is, w.equal_letters-n.ensures, (run_equal M t c.if-k-y.true).second)
      | else-w-i w ↦ omega (arith, w.n-is, (run_one M t).second)
    ]

pub overflow_add-w : goal.overflow_add-w
overflow_add-w c =
    let M = c.loop-i.invariant in
    let t = c.loop-i-test.true in
    elim c.if-w-i.branch [
      | then-w-i w ↦ omega (arith, w.n-is, w.equal_letters-n.ensures, M.long, M.behind, (run_equal M t c.if-k-y.true).first)
      | else-w-i w ↦ omega (arith, w.n-is, M.long, M.behind)
    ]

pub loop-i-preserved-then-k-y : goal.loop-i-preserved-then-k-y
loop-i-preserved-then-k-y c =
    let M = c.loop-i.invariant in
    let t = c.loop-i-test.true in
    elim c.if-w-i.branch [
      | then-w-i w ↦ run_turn M t c.if-k-y.true w.if-w-i.true (w.n-is ∙ w.equal_letters-n.ensures)
      | else-w-i w ↦ rw w.n-is (same_turn M t c.if-k-y.true)
    ]

pub loop-i-smaller-then-k-y : goal.loop-i-smaller-then-k-y
loop-i-smaller-then-k-y c =
    let M = c.loop-i.invariant in
    let t = c.loop-i-test.true in
    elim c.if-w-i.branch [
      | then-w-i w ↦ omega (arith, w.n-is, w.equal_letters-n.ensures, t, M.long, (run_equal M t c.if-k-y.true).some)
      | else-w-i w ↦ omega (arith, w.n-is, t, M.long)
    ]

pub loop-i-init : goal.loop-i-init
loop-i-init c = cutting_start _ _ _ c.requires.0 c.requires.1

pub tree_end-i-requires : goal.tree_end-i-requires
tree_end-i-requires c = end_there (top_ranks _) _ _ (first_there c.loop-i.invariant c.loop-i-test.true)

pub tree_end-j-requires : goal.tree_end-j-requires
tree_end-j-requires c = end_there (top_ranks _) _ _ (second_there c.loop-i.invariant c.loop-i-test.true)

pub loop-i-preserved : goal.loop-i-preserved
loop-i-preserved c =
    let M = c.loop-i.invariant in
    let t = c.loop-i-test.true in
    rw c.from.ensures (other_turn M t c.if-k-y.false (end_right (top_ranks _) _ _ (first_there M t) c.tree_end-i.ensures) (end_right (top_ranks _) _ _ (second_there M t) c.tree_end-j.ensures))

pub loop-i-smaller : goal.loop-i-smaller
loop-i-smaller c =
    let M = c.loop-i.invariant in
    let t = c.loop-i-test.true in
    omega (arith, t, M.long, (end_right (top_ranks _) _ _ (first_there M t) c.tree_end-i.ensures).further)

pub returns : goal.returns
returns c = rw c.then_some.ensures (cut_answer c.loop-i.cut c.requires.0 (cutting_done c.loop-i.invariant (omega arith)))
