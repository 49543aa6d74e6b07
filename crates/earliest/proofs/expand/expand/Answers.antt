-- `expand` meets its contract. The invariant: writing what the marks from j on give ends as writing all of it from the start. Assumes nothing.
use Prim.Native.Nat.{◌+◌, ◌*◌, ◌≤◌, ◌<◌}
use native.Mathlib.Omega.{arith}
use mathlib.Core.Path.{ap, ◌∙◌}
use lib.ListN.{length}
use lib.Seq.{sets}
use Rattle.formats.proofs.Writing.{begin, room, one_more_lem, room_word, word_more, finish}
use Rattle.prefixes.specs.Inner.Patterns.{head_at}
use Rattle.prefixes.proofs.Grafts.{head_lent}
use Rattle.earliest.specs.Inner.Letters.{labeled, expanded}
use Rattle.earliest.proofs.Expanded.{labels, labeled_length, expand_symbol, expand_end, called_head, expanded_short}
use Rattle.earliest.proofs.expand.expand.Goals as goal
use Rattle.earliest.proofs.expand.expand.Goals.{then-i-eq0, else-i-eq0}

pub loop-j-init : goal.loop-j-init
loop-j-init c =
    let a = c.args in
    begin (expanded a.heads.now a.sizes.now a.marks.now a.from a.to) a.out.now 0

pub overflow_cast-out : goal.overflow_cast-out
overflow_cast-out c = omega (arith, c.from-x.ensures, c.type_inv.marks (2 * c.loop-j.j + 1))

pub offset_bounds-out-w : goal.offset_bounds-out-w
offset_bounds-out-w c =
    let there : c.loop-j.w < length c.loop-j.out = room c.loop-j.invariant (expand_symbol c.args.heads.now c.args.sizes.now c.args.marks.now c.loop-j.j c.args.to c.loop-j-test.true c.requires.grafts.inside c.from-i.ensures c.from-x.ensures c.if-i-eq0.true) (omega (arith, expanded_short c.requires)) in
    omega arith

pub bounds-out-w : goal.bounds-out-w
bounds-out-w c =
    room c.loop-j.invariant (expand_symbol c.args.heads.now c.args.sizes.now c.args.marks.now c.loop-j.j c.args.to c.loop-j-test.true c.requires.grafts.inside c.from-i.ensures c.from-x.ensures c.if-i-eq0.true) (omega (arith, expanded_short c.requires))

pub overflow_add-w : goal.overflow_add-w
overflow_add-w c =
    let there : c.loop-j.w < length c.loop-j.out = room c.loop-j.invariant (expand_symbol c.args.heads.now c.args.sizes.now c.args.marks.now c.loop-j.j c.args.to c.loop-j-test.true c.requires.grafts.inside c.from-i.ensures c.from-x.ensures c.if-i-eq0.true) (omega (arith, expanded_short c.requires)) in
    omega arith

pub overflow_mul-start : goal.overflow_mul-start
overflow_mul-start c =
    let C = called_head c.requires c.loop-j.j c.loop-j.auto.j c.loop-j-test.true c.from-i.ensures c.from-x.ensures c.if-i-eq0.false in
    omega arith

pub bounds-sizes-x : goal.bounds-sizes-x
bounds-sizes-x c =
    let C = called_head c.requires c.loop-j.j c.loop-j.auto.j c.loop-j-test.true c.from-i.ensures c.from-x.ensures c.if-i-eq0.false in
    omega arith

pub overflow_add-end : goal.overflow_add-end
overflow_add-end c =
    let C = called_head c.requires c.loop-j.j c.loop-j.auto.j c.loop-j-test.true c.from-i.ensures c.from-x.ensures c.if-i-eq0.false in
    omega (arith, c.from.ensures)

pub slice_bounds-label_head-end : goal.slice_bounds-label_head-end
slice_bounds-label_head-end c =
    let C = called_head c.requires c.loop-j.j c.loop-j.auto.j c.loop-j-test.true c.from-i.ensures c.from-x.ensures c.if-i-eq0.false in
    omega (arith, c.from.ensures)

pub overflow_mul-i : goal.overflow_mul-i
overflow_mul-i c =
    let C = called_head c.requires c.loop-j.j c.loop-j.auto.j c.loop-j-test.true c.from-i.ensures c.from-x.ensures c.if-i-eq0.false in
    omega arith

pub overflow_add-i : goal.overflow_add-i
overflow_add-i c =
    let C = called_head c.requires c.loop-j.j c.loop-j.auto.j c.loop-j-test.true c.from-i.ensures c.from-x.ensures c.if-i-eq0.false in
    omega arith

pub label_head-requires : goal.label_head-requires
label_head-requires c =
    let C = called_head c.requires c.loop-j.j c.loop-j.auto.j c.loop-j-test.true c.from-i.ensures c.from-x.ensures c.if-i-eq0.false in
    let i = c.from-i.result in
    let q = c.from-x.result in
    let a = c.args in
    let fits = room_word c.loop-j.invariant (labels a.heads.now a.sizes.now i q) (expanded a.heads.now a.sizes.now a.marks.now (c.loop-j.j + 1) a.to) C.next (omega (arith, expanded_short c.requires)) in
    let there : c.loop-j.w + length (head_at a.heads.now a.sizes.now q) ≤ length c.loop-j.out = omega (arith, labeled_length (65536 * i + 64 * q) (head_at a.heads.now a.sizes.now q)) in
    rw (head_lent a.heads.now a.sizes.now c.from-x.result c.from.ensures (omega arith)) (omega arith, omega arith, there)

pub overflow_add-w-else-i-eq0 : goal.overflow_add-w-else-i-eq0
overflow_add-w-else-i-eq0 c =
    let C = called_head c.requires c.loop-j.j c.loop-j.auto.j c.loop-j-test.true c.from-i.ensures c.from-x.ensures c.if-i-eq0.false in
    let i = c.from-i.result in
    let q = c.from-x.result in
    let a = c.args in
    let fits = room_word c.loop-j.invariant (labels a.heads.now a.sizes.now i q) (expanded a.heads.now a.sizes.now a.marks.now (c.loop-j.j + 1) a.to) C.next (omega (arith, expanded_short c.requires)) in
    let there : c.loop-j.w + length (head_at a.heads.now a.sizes.now q) ≤ length c.loop-j.out = omega (arith, labeled_length (65536 * i + 64 * q) (head_at a.heads.now a.sizes.now q)) in
    omega (arith, c.from.ensures, c.loop-j.invariant.same, c.well_formed)

pub loop-j-preserved : goal.loop-j-preserved
loop-j-preserved c =
    let a = c.args in
    let l = c.loop-j in
    let E = c.requires in
    let x = c.from-x.result in
    let rest = expanded a.heads.now a.sizes.now a.marks.now (l.j + 1) a.to in
    elim c.if-i-eq0.branch [
      | then-i-eq0 w ↦ one_more_lem l.invariant x rest (expand_symbol a.heads.now a.sizes.now a.marks.now l.j a.to c.loop-j-test.true E.grafts.inside c.from-i.ensures c.from-x.ensures w.if-i-eq0.true) w.w-is w.out-is
      | else-i-eq0 w ↦
          let i = c.from-i.result in
          let C = called_head E l.j l.auto.j c.loop-j-test.true c.from-i.ensures c.from-x.ensures w.if-i-eq0.false in
          let e = head_lent a.heads.now a.sizes.now x w.from.ensures (omega arith) in
          word_more l.invariant (labels a.heads.now a.sizes.now i x) rest C.next
          (w.w-is ∙ omega (arith, C.long, w.from.ensures, labeled_length (65536 * i + 64 * x) (head_at a.heads.now a.sizes.now x)))
          (w.out-is ∙ w.label_head.ensures ∙ ap (λ s. sets l.out l.w (labeled (65536 * i + 64 * x) s)) e)
    ]

pub returns : goal.returns
returns c =
    let a = c.args in
    let l = c.loop-j in
    let f = finish l.invariant (expand_end a.heads.now a.sizes.now a.marks.now l.j a.to (l.auto.j-end c.requires.grafts.ordered) c.loop-j-test.false) in
    record { size = omega (arith, f.0); wrote = f.1 }
