-- `copy_keys` meets its contract. The invariant: writing what is left of the marks ends as writing all of them from the start. Assumes nothing.
use Prim.Native.Nat.{◌+◌, ◌*◌}
use native.Mathlib.Nat.{add-zero}
use native.Mathlib.Omega.{arith}
use mathlib.Core.Path.{◌≡◌, ap, ◌∙◌}
use lib.ListN.{get_or, length-set}
use Rattle.formats.proofs.Writing.{begin, finish}
use Rattle.formats.specs.Inner.Marked.{part}
use Rattle.formats.specs.Sheet.{mark_bytes}
use Rattle.classes.specs.Inner.Classes.{key_of, keyed}
use Rattle.canonical.proofs.Quotients.{key_by, key_there, key_more, keys_end}
use Rattle.canonical.proofs.quotient.copy_keys.Goals as goal
use Rattle.canonical.proofs.quotient.copy_keys.Goals.{then-i-gt0, else-i-gt0}

pub loop-k-init : goal.loop-k-init
loop-k-init c =
    let a = c.args in
    rw (add-zero a.from, add-zero a.at) (begin (mark_bytes (keyed a.classes.now (part a.marks.now a.from (a.from + a.n)))) a.out.now (2 * a.at))

pub bounds-classes-from : goal.bounds-classes-from
bounds-classes-from c = rw c.from.ensures (key_there c.requires.0 c.loop-k-test.true c.if-i-gt0.true)

pub bounds-out-at : goal.bounds-out-at
bounds-out-at c = omega (arith, c.loop-k.invariant.same)

pub bounds-out-at-in-loop-k : goal.bounds-out-at-in-loop-k
bounds-out-at-in-loop-k c = omega (arith, c.loop-k.invariant.same, length-set c.loop-k.out (2 * (c.args.at + c.loop-k.k)) (get_or c.args.marks.now (2 * (c.args.from + c.loop-k.k)) 0))

pub loop-k-preserved : goal.loop-k-preserved
loop-k-preserved c =
    let a = c.args in
    let l = c.loop-k in
    let i = get_or a.marks.now (2 * (a.from + l.k)) 0 in
    let x = get_or a.marks.now (2 * (a.from + l.k) + 1) 0 in
    let y = c.if-i-gt0.x in
    let key : key_of a.classes.now (i, x) ≡ (i, y) = elim c.if-i-gt0.branch [
      | then-i-gt0 w ↦ key_by a.classes.now i x y (λ h. w.x-is ∙ ap (λ q. get_or a.classes.now q 0) w.from.ensures) (λ h. absurd (omega arith))
      | else-i-gt0 w ↦ key_by a.classes.now i x y (λ h. absurd (omega arith)) (λ h. w.x-is)
    ] in
    key_more c.requires.0 c.loop-k-test.true a.at l.invariant key

pub shape_of-out : goal.shape_of-out
shape_of-out c = c.loop-k.invariant.same

pub returns : goal.returns
returns c =
    let a = c.args in
    let l = c.loop-k in
    record { wrote = (finish l.invariant (keys_end a.classes.now a.marks.now a.from a.n l.k l.auto.k-end c.loop-k-test.false)).1 }
