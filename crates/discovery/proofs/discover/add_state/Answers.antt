-- `add_state` meets its contract. The invariant: the right-hand sides of the state for the symbols below a were added. Assumes nothing.
use native.Mathlib.Omega.{arith}
use borrow.Author.Rules.{rules}
use mathlib.Core.Path.{refl, ◌∙◌}
use Prim.Native.Nat.{◌<◌}
use lib.ListN.{length}
use mathlib.Core.Logic.{inl}
use Rattle.discovery.proofs.Stages.{stage_none, stage_state, stage_room, stage_next, stage_all, rhs_sayable}
use Rattle.discovery.proofs.Loops.{adds_none, adds_some, none_counted, some_counted}
use Rattle.discovery.proofs.TooLarge.{stage_over}
use Rattle.discovery.proofs.discover.add_state.Goals as goal

pub loop-a-init : goal.loop-a-init
loop-a-init g c =
    let X = c.requires.1.numbers in
    let l = c.requires.1.leaf in
    record { starts = refl; stage = stage_none X l c.requires.2 c.requires.3 c.from-c.ensures }

pub spell_rhs-requires : goal.spell_rhs-requires
spell_rhs-requires g c =
    let X = c.requires.1.numbers in
    let l = c.requires.1.leaf in
    let e = c.symbols-symbols.ensures in
    let T = c.loop-a.invariant.stage in
    let there : c.loop-a.a < length (g.S.Spelled.ins c.args.source.now) = omega (arith, e, c.loop-a-test.true) in
    (search rules, (c.requires.0, stage_state X l T, there))

pub returns-in_err-span : goal.returns-in_err-span
returns-in_err-span g c =
    let X = c.requires.1.numbers in
    let l = c.requires.1.leaf in
    let e = c.symbols-symbols.ensures in
    let T = c.loop-a.invariant.stage in
    let there : c.loop-a.a < length (g.S.Spelled.ins c.args.source.now) = omega (arith, e, c.loop-a-test.true) in
    rw c.from_residual.ensures (adds_none (stage_over X T there refl (inl (c.spell_rhs.ensures.over c.in_err-span.was))))

pub add_body-requires : goal.add_body-requires
add_body-requires g c =
    let X = c.requires.1.numbers in
    let l = c.requires.1.leaf in
    let e = c.symbols-symbols.ensures in
    let T = c.loop-a.invariant.stage in
    let there : c.loop-a.a < length (g.S.Spelled.ins c.args.source.now) = omega (arith, e, c.loop-a-test.true) in
    let room = stage_room X l T there in
    (search rules, (T.bodies.queue, T.bodies.few, rw (c.spell_rhs.ensures.spelled _ c.in_ok-span.was, T.bodies.wide) (rhs_sayable X c.from-c.result c.loop-a.a (stage_state X l T) there), rw e (omega (arith, room, T.bodies.long)), rw e T.bodies.all, T.bodies.room))

pub returns-in_err-add_body : goal.returns-in_err-add_body
returns-in_err-add_body g c =
    let X = c.requires.1.numbers in
    let l = c.requires.1.leaf in
    let e = c.symbols-symbols.ensures in
    let T = c.loop-a.invariant.stage in
    let there : c.loop-a.a < length (g.S.Spelled.ins c.args.source.now) = omega (arith, e, c.loop-a-test.true) in
    rw c.from_residual-in_err-add_body.ensures (adds_none (stage_over X T there (c.spell_rhs.ensures.spelled _ c.in_ok-span.was) (rw e at (c.add_body.ensures.over (none_counted _ c.in_err-add_body.was)))))

pub loop-a-preserved : goal.loop-a-preserved
loop-a-preserved g c =
    let X = c.requires.1.numbers in
    let l = c.requires.1.leaf in
    let e = c.symbols-symbols.ensures in
    let T = c.loop-a.invariant.stage in
    let there : c.loop-a.a < length (g.S.Spelled.ins c.args.source.now) = omega (arith, e, c.loop-a-test.true) in
    let I = c.loop-a.invariant in
    let k = c.add_body in
    record {
      starts = k.auto.starts ∙ I.starts;
      stage = stage_next X l T there (rw e at k.ensures) (some_counted c.in_ok-add_body.was) (c.spell_rhs.ensures.spelled _ c.in_ok-span.was);
    }

pub returns : goal.returns
returns g c =
    let X = c.requires.1.numbers in
    let l = c.requires.1.leaf in
    let e = c.symbols-symbols.ensures in
    adds_some (stage_all X l c.loop-a.invariant.stage (omega (arith, e, c.loop-a.auto.a-end, c.loop-a-test.false)))
