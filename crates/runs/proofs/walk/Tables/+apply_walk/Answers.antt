-- `apply` and `walk` meet their contracts. What falls from call to call: the marks of the first transducer's body from here on, 65 times, and the marks of the second's that are left. The loop's invariant: writing what is left from here ends as writing all from the start. Assumes nothing.
use Prim.Native.Nat.{◌+◌}
use native.Mathlib.Omega.{arith}
use mathlib.Core.List.{[], ◌∷◌}
use mathlib.Core.Path.{◌≡◌, sym, ◌∙◌}
use Rattle.runs.specs.Inner.Tables.{applied_by, walked_by}
use Rattle.runs.proofs.Lettering.{wrote_as, piece_more, piece_over, finish}
use Rattle.runs.proofs.Walks.{walk_symbol, walk_end, ready_few, apply_call, symbol_fits, body_few, body_walk, apply_walk, to_skip, child_after, to_apply, call_walk}
use Rattle.runs.proofs.walk.Tables.+apply_walk.Goals as goal
use Rattle.runs.proofs.walk.Tables.+apply_walk.Goals.{walk-then-i-eq0+in_ok-end, walk-else-i-eq0+in_ok-end-2}

pub apply-returns-then-i-gt0 : goal.apply-returns-then-i-gt0
apply-returns-then-i-gt0 t c = wrote_as (apply_call c.requires.0 c.from-i.ensures c.from-x.ensures c.if-i-gt0.true) c.put.ensures

pub apply-bounds-self-b : goal.apply-bounds-self-b
apply-bounds-self-b t c = omega (arith, c.body_of-b.ensures, (symbol_fits c.requires.0 c.from-i.ensures c.from-x.ensures (omega (arith, c.if-i-gt0.false))).1)

pub apply-bounds-self-b-2 : goal.apply-bounds-self-b-2
apply-bounds-self-b-2 t c = omega (arith, c.body_of-b.ensures, (symbol_fits c.requires.0 c.from-i.ensures c.from-x.ensures (omega (arith, c.if-i-gt0.false))).1)

pub apply-walk-requires : goal.apply-walk-requires
apply-walk-requires t c =
    let P = c.requires in
    let z : c.from-i.result ≡ 0 = omega (arith, c.if-i-gt0.false) in
    (omega (arith, (ready_few P.0).1, body_few P.0 c.from-i.ensures c.from-x.ensures z c.body_of-b.ensures c.from-from.ensures c.from-to.ensures), (body_walk P.0 c.from-i.ensures c.from-x.ensures z c.body_of-b.ensures c.from-from.ensures c.from-to.ensures, P.1))

pub apply-returns : goal.apply-returns
apply-returns t c =
    let P = c.requires in
    let z : c.from-i.result ≡ 0 = omega (arith, c.if-i-gt0.false) in
    wrote_as (apply_walk P.0 c.from-i.ensures c.from-x.ensures z c.body_of-b.ensures c.from-from.ensures c.from-to.ensures) c.walk.ensures

pub walk-skip-requires : goal.walk-skip-requires
walk-skip-requires t c =
    let l = c.loop-j in
    λ k h. to_skip c.requires.0 l.j (omega arith) c.loop-j-test.true c.from-i.ensures c.from-x.ensures c.if-i-eq0.false k (omega arith)

pub walk-apply-requires : goal.walk-apply-requires
walk-apply-requires t c =
    let P = c.requires in
    let l = c.loop-j in
    (omega (arith, c.loop-j-test.true, child_after P.0 l.j (omega arith) c.loop-j-test.true c.from-i.ensures c.from-x.ensures c.if-i-eq0.false c.skip.ensures), (to_apply P.0 l.j (omega arith) c.loop-j-test.true c.from-i.ensures c.from-x.ensures c.if-i-eq0.false c.skip.ensures, l.invariant.low))

pub walk-loop-j-preserved : goal.walk-loop-j-preserved
walk-loop-j-preserved t c =
    let a = c.args in
    let s = a.self.now in
    let P = c.requires.0 in
    let l = c.loop-j in
    let x = c.from-x.result in
    let less = c.loop-j-test.true in
    let rest = walked_by s a.below (l.j + 1) a.to in
    elim c.if-i-eq0.branch [
      | walk-then-i-eq0+in_ok-end w ↦
          let e = walk_symbol s.stock.now s.starts.now s.marks.now s.s.now a.below l.j a.to less P.inside (sym c.from-i.ensures ∙ w.if-i-eq0.true) c.from-x.ensures in
          rw (w.letters-is, w.end-is) (piece_more l.invariant (x ∷ []) rest e w.put.ensures w.in_ok-end.was)
      | walk-else-i-eq0+in_ok-end-2 w ↦
          let e = call_walk P l.j (omega arith) less c.from-i.ensures c.from-x.ensures w.if-i-eq0.false w.skip.ensures in
          rw (w.letters-is, w.end-is) (piece_more l.invariant (applied_by s x w.skip.result) rest e w.apply.ensures w.in_ok-end-2.was)
    ]

pub walk-returns-in_err-end : goal.walk-returns-in_err-end
walk-returns-in_err-end t c =
    let a = c.args in
    let s = a.self.now in
    let l = c.loop-j in
    let x = c.from-x.result in
    let e = walk_symbol s.stock.now s.starts.now s.marks.now s.s.now a.below l.j a.to c.loop-j-test.true c.requires.0.inside (sym c.from-i.ensures ∙ c.if-i-eq0.true) c.from-x.ensures in
    rw c.from_residual.ensures (piece_over l.invariant (x ∷ []) (walked_by a.self.now a.below (l.j + 1) a.to) e c.put.ensures c.in_err-end.was)

pub walk-returns-in_err-end-2 : goal.walk-returns-in_err-end-2
walk-returns-in_err-end-2 t c =
    let a = c.args in
    let l = c.loop-j in
    rw c.from_residual-in_err-end-2.ensures (piece_over l.invariant (applied_by a.self.now c.from-x.result c.skip.result) (walked_by a.self.now a.below (l.j + 1) a.to) (call_walk c.requires.0 l.j (omega arith) c.loop-j-test.true c.from-i.ensures c.from-x.ensures c.if-i-eq0.false c.skip.ensures) c.apply.ensures c.in_err-end-2.was)

pub walk-returns : goal.walk-returns
walk-returns t c =
    let a = c.args in
    let s = a.self.now in
    let l = c.loop-j in
    finish l.invariant (walk_end s.stock.now s.starts.now s.marks.now s.s.now a.below l.j a.to (omega (arith, c.requires.0.ordered)) (omega (arith, c.loop-j-test.false)))
