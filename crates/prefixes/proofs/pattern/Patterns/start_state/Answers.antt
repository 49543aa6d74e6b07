-- `start_state` meets its contract. The invariant: writing the names of the marks from j on ends as writing all of them from the start. Assumes nothing.
use Prim.Native.Nat.{◌+◌, ◌-◌, ◌*◌}
use native.Mathlib.Omega.{arith}
use mathlib.Core.Path.{refl, ap, ◌∙◌}
use lib.ListN.{get_or, set, length-set}
use Rattle.formats.proofs.Writing.{room, one_more_lem, finish}
use Rattle.prefixes.specs.Inner.Heads.{names}
use Rattle.prefixes.proofs.Starting.{names_first, names_end, start_fits}
use Rattle.prefixes.proofs.pattern.Patterns.start_state.Goals as goal

pub bounds-self-w : goal.bounds-self-w
bounds-self-w c =
    let a = c.args in
    let l = c.loop-j in
    let S = c.requires in
    room l.invariant.1 (names_first a.tables.now.marks.now l.j a.body.to c.loop-j-test.true S.inside) (start_fits S)

pub loop-j-preserved : goal.loop-j-preserved
loop-j-preserved c =
    let a = c.args in
    let l = c.loop-j in
    let x = get_or a.tables.now.marks.now (2 * l.j + 1) 0 in
    let I = l.invariant in (
      omega arith,
      one_more_lem I.1 x (names a.tables.now.marks.now (l.j + 1) a.body.to) (names_first a.tables.now.marks.now l.j a.body.to c.loop-j-test.true c.requires.inside) refl refl,
      I.2,
      record { heads = I.3.heads; sizes = I.3.sizes; long_heads = length-set _ _ _ ∙ I.3.long_heads; long_sizes = I.3.long_sizes },
    )

pub returns-clause-same : goal.returns-clause-same
returns-clause-same c = let I = c.loop-j.invariant.3 in record { heads = I.heads; sizes = I.sizes; long_heads = I.long_heads; long_sizes = length-set _ _ _ ∙ I.long_sizes }

pub returns-clause-started : goal.returns-clause-started
returns-clause-started c =
    let a = c.args in
    let l = c.loop-j in
    let I = l.invariant in
    record { wrote = (finish I.1 (names_end a.tables.now.marks.now l.j a.body.to I.0 c.loop-j-test.false)).1; size = ap (λ s. set s a.q (a.body.to - a.body.from)) I.2 }
