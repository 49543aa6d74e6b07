-- `Placing::place` meets its contract. Assumes nothing.
use Rattle.merging.proofs.Rounds.{can_stand, stands, places_rep, places_with, find_asks, room, places_made, places_fresh, decided_not, waits}
use native.Mathlib.Omega.{arith}
use Rattle.merging.proofs.refining.Placing.place.Goals as goal

pub represent-rep-requires : goal.represent-rep-requires
represent-rep-requires c = can_stand c.requires.0 c.requires.1 c.requires.2 c.requires.3

pub returns-then-not-self-p : goal.returns-then-not-self-p
returns-then-not-self-p c =
    let pre = c.requires in
    let few = pre.0.layout.few_states in
    let S = stands pre.0 pre.1 pre.2 pre.3 c.represent-rep.ensures in
    places_rep few pre.2 S c.if-not-self-p.true

pub returns-then-same_states : goal.returns-then-same_states
returns-then-same_states c =
    let pre = c.requires in
    let few = pre.0.layout.few_states in
    let S = stands pre.0 pre.1 pre.2 pre.3 c.represent-rep.ensures in
    places_with few pre.2 S (waits c.represent-rep.new.self.pending c.args.p c.if-not-self-p.false) (c.same_states.ensures.sound c.if-same_states.true)

pub find_class-requires : goal.find_class-requires
find_class-requires c =
    let pre = c.requires in
    let few = pre.0.layout.few_states in
    let S = stands pre.0 pre.1 pre.2 pre.3 c.represent-rep.ensures in
    let f = find_asks few pre.2 S (waits c.represent-rep.new.self.pending c.args.p c.if-not-self-p.false) in (pre.0, pre.2, f.0, f.1)

pub overflow_cast-new-in-None : goal.overflow_cast-new-in-None
overflow_cast-new-in-None c =
    let pre = c.requires in
    let few = pre.0.layout.few_states in
    let S = stands pre.0 pre.1 pre.2 pre.3 c.represent-rep.ensures in
    omega (arith, room few pre.2 S (waits c.represent-rep.new.self.pending c.args.p c.if-not-self-p.false))

pub offset_bounds-self-count : goal.offset_bounds-self-count
offset_bounds-self-count c =
    let pre = c.requires in
    let few = pre.0.layout.few_states in
    let S = stands pre.0 pre.1 pre.2 pre.3 c.represent-rep.ensures in
    omega (arith, room few pre.2 S (waits c.represent-rep.new.self.pending c.args.p c.if-not-self-p.false))

pub bounds-self-count : goal.bounds-self-count
bounds-self-count c =
    let pre = c.requires in
    let few = pre.0.layout.few_states in
    let S = stands pre.0 pre.1 pre.2 pre.3 c.represent-rep.ensures in
    omega (arith, room few pre.2 S (waits c.represent-rep.new.self.pending c.args.p c.if-not-self-p.false))

pub overflow_add-result : goal.overflow_add-result
overflow_add-result c =
    let pre = c.requires in
    let few = pre.0.layout.few_states in
    let S = stands pre.0 pre.1 pre.2 pre.3 c.represent-rep.ensures in
    omega (arith, room few pre.2 S (waits c.represent-rep.new.self.pending c.args.p c.if-not-self-p.false))

pub returns-in-Some : goal.returns-in-Some
returns-in-Some c =
    let pre = c.requires in
    let few = pre.0.layout.few_states in
    let S = stands pre.0 pre.1 pre.2 pre.3 c.represent-rep.ensures in
    places_made few pre.2 S (waits c.represent-rep.new.self.pending c.args.p c.if-not-self-p.false) c.find_class.ensures c.in-Some.is

pub returns-in-None : goal.returns-in-None
returns-in-None c =
    let pre = c.requires in
    let few = pre.0.layout.few_states in
    let S = stands pre.0 pre.1 pre.2 pre.3 c.represent-rep.ensures in
    places_fresh few pre.2 S (waits c.represent-rep.new.self.pending c.args.p c.if-not-self-p.false) c.find_class.ensures c.in-None.is (decided_not c.same_states.ensures c.if-same_states.false)
