-- `Placing::find_class` meets its contract. The invariant: the classes passed do not take the state. Assumes nothing.
use Rattle.merging.proofs.Rounds.{takes_like, decided_not}
use Rattle.merging.specs.Inner.Refining.{Takes}
use Rattle.std.specs.Prelude.{Some}
use Rattle.std.proofs.lemmas.Option.{same_Some}
use borrow.Author.Count.{below_more}
use mathlib.Core.Path.{◌≡◌, sym, ap, ◌∙◌}
use native.Mathlib.Omega.{arith}
use Prim.Native.Nat.{◌≤◌}
use Rattle.merging.proofs.refining.Placing.find_class.Goals as goal
use Rattle.merging.proofs.refining.Placing.find_class.Goals.{in-Some+else-old-q, else-old-q-via-then-old-q+else-same_states, else-old-q-via-else-old-q, in_default}

pub returns-then-same_states : goal.returns-then-same_states
returns-then-same_states c =
    let i = c.loop-k in
    let t : Takes c.args.bodies.now.ins.now c.args.bodies.now.starts.now c.args.bodies.now.marks.now c.args.old.now c.args.self.now.reps c.args.p i.k = (c.from-q.result, (c.in-Some.is ∙ ap Some (sym c.from-q.ensures), c.if-old-q.true, c.same_states.ensures.sound c.if-same_states.true)) in
    record {
      found = λ k e. let z : k ≡ i.k = same_Some _ _ (sym e) in rw z (i.auto.k, c.loop-k-test.true, t);
      first = λ k e. let z : k ≡ i.k = same_Some _ _ (sym e) in rw z i.invariant;
      none = λ e. absurd (cc);
    }

pub loop-k-preserved : goal.loop-k-preserved
loop-k-preserved c =
    let a = c.args in
    let i = c.loop-k in
    let miss : a.base ≤ i.k → Takes a.bodies.now.ins.now a.bodies.now.starts.now a.bodies.now.marks.now a.old.now a.self.now.reps a.p i.k → ⊥ = elim c.match-self-k.branch [
      | in-Some+else-old-q w ↦ elim w.else-old-q.branch [
        | else-old-q-via-then-old-q+else-same_states w' ↦ λ b t. decided_not w'.same_states.ensures w'.if-same_states.false (takes_like a.self.now.reps i.k (w.in-Some.is ∙ ap Some (sym w.from-q.ensures)) t).1
        | else-old-q-via-else-old-q w' ↦ λ b t. w'.if-old-q.false (takes_like a.self.now.reps i.k (w.in-Some.is ∙ ap Some (sym w.from-q.ensures)) t).0
      ]
      | in_default w ↦ λ b t. w.in_default.not-Some t.0 t.1.0
    ] in
    λ j b h. below_more (λ j. a.base ≤ j → Takes a.bodies.now.ins.now a.bodies.now.starts.now a.bodies.now.marks.now a.old.now a.self.now.reps a.p j → ⊥) i.k (λ j h b. i.invariant j b h) miss j h b

pub returns : goal.returns
returns c = record { found = λ k e. absurd (cc); first = λ k e. absurd (cc); none = λ e j b h. c.loop-k.invariant j b (omega arith) }
