-- `Placing::represent` meets its contract. Assumes nothing.
use Rattle.merging.proofs.Rounds.{Looked, looked_from, looked_nowhere, member_or, placed_represents, made_represents}
use Rattle.merging.specs.Inner.Refining.{Member, standing}
use Rattle.std.specs.Prelude.{Some, false}
use lib.ListN.{set}
use mathlib.Core.Path.{◌≡◌, refl, sym, ap, ◌∙◌}
use native.Mathlib.Omega.{arith}
use Rattle.merging.proofs.refining.Placing.represent.Goals as goal
use Rattle.merging.proofs.refining.Placing.represent.Goals.{in-Some, in-None, in-Some-placed, in-None-placed}

pub bounds-self-q : goal.bounds-self-q
bounds-self-q c = omega (arith, c.unwrap_or-q.ensures, (member_or c.find_member.result c.find_member.ensures c.requires.0).there, c.requires.1)

pub overflow_cast-self : goal.overflow_cast-self
overflow_cast-self c =
    let a = c.args in
    let C : Looked a.classes.now a.self.now.pending a.self.now.reps a.c c.match-self-from.placed = elim c.match-self-from.branch [
      | in-Some w ↦ rw w.placed-is (looked_from w.placed_member-placed.ensures)
      | in-None w ↦ rw w.placed-is (looked_nowhere a.self.now.reps a.c (ap (standing a.self.now.reps) (sym c.from.ensures) ∙ w.in-None.is))
    ] in
    elim c.match-placed.branch [
      | in-Some-placed w ↦ omega (arith, (C.found _ w.in-Some-placed.is).0, w.q-is, c.requires.1)
      | in-None-placed w ↦ omega (arith, w.unwrap_or-q.ensures, (member_or w.find_member.result w.find_member.ensures c.requires.0).there, w.q-is, c.requires.1)
    ]

pub returns : goal.returns
returns c =
    let a = c.args in
    let C : Looked a.classes.now a.self.now.pending a.self.now.reps a.c c.match-self-from.placed = elim c.match-self-from.branch [
      | in-Some w ↦ rw w.placed-is (looked_from w.placed_member-placed.ensures)
      | in-None w ↦ rw w.placed-is (looked_nowhere a.self.now.reps a.c (ap (standing a.self.now.reps) (sym c.from.ensures) ∙ w.in-None.is))
    ] in
    let e : set a.self.now.reps c.from-2.result (Some c.match-placed.q) ≡ set a.self.now.reps a.c (Some c.match-placed.q) = ap (λ k. set a.self.now.reps k (Some c.match-placed.q)) c.from-2.ensures in
    elim c.match-placed.branch [
      | in-Some-placed w ↦ rw w.self-is (placed_represents C e w.in-Some-placed.is refl w.q-is)
      | in-None-placed w ↦
          let m : Member a.classes.now a.c c.match-placed.q = rw (w.q-is, w.unwrap_or-q.ensures) (member_or w.find_member.result w.find_member.ensures c.requires.0) in
          rw w.self-is (made_represents C e w.in-None-placed.is m (ap (λ q. set a.self.now.pending q false) (sym w.q-is)))
    ]
