-- `walk_pair` meets its contract: bodies that go in step as far as the shorter one are of one size. Assumes nothing.
use native.Mathlib.Omega.{arith}
use Rattle.pairs.proofs.Searching.{walk_there, walk_ordered, walk_inside, size_of, walk_clash, walk_joinable, walk_alike}
use Rattle.pairs.proofs.pairs.walk_pair.Goals as goal

pub offset_bounds-left-i : goal.offset_bounds-left-i
offset_bounds-left-i c = omega (arith, (walk_there c.requires).0, c.requires.searching.forms.left.bounds.long)

pub bounds-left-i : goal.bounds-left-i
bounds-left-i c = omega (arith, (walk_there c.requires).0, c.requires.searching.forms.left.bounds.long)

pub offset_bounds-right-j : goal.offset_bounds-right-j
offset_bounds-right-j c = omega (arith, (walk_there c.requires).1, c.requires.searching.forms.right.bounds.long)

pub bounds-right-j : goal.bounds-right-j
bounds-right-j c = omega (arith, (walk_there c.requires).1, c.requires.searching.forms.right.bounds.long)

pub overflow_add-i : goal.overflow_add-i
overflow_add-i c = omega (arith, (walk_there c.requires).0, c.requires.searching.forms.left.bounds.long)

pub offset_bounds-left-i-2 : goal.offset_bounds-left-i-2
offset_bounds-left-i-2 c = omega (arith, (walk_there c.requires).0, c.requires.searching.forms.left.bounds.long)

pub bounds-left-i-2 : goal.bounds-left-i-2
bounds-left-i-2 c = omega (arith, (walk_there c.requires).0, c.requires.searching.forms.left.bounds.long)

pub overflow_sub-size : goal.overflow_sub-size
overflow_sub-size c = omega (arith, (walk_ordered c.requires).0, c.from.ensures, c.from-from.ensures)

pub overflow_add-j : goal.overflow_add-j
overflow_add-j c = omega (arith, (walk_there c.requires).1, c.requires.searching.forms.right.bounds.long)

pub offset_bounds-right-j-2 : goal.offset_bounds-right-j-2
offset_bounds-right-j-2 c = omega (arith, (walk_there c.requires).1, c.requires.searching.forms.right.bounds.long)

pub bounds-right-j-2 : goal.bounds-right-j-2
bounds-right-j-2 c = omega (arith, (walk_there c.requires).1, c.requires.searching.forms.right.bounds.long)

pub overflow_sub-from : goal.overflow_sub-from
overflow_sub-from c = omega (arith, (walk_ordered c.requires).1, c.from-2.ensures, c.from-other.ensures)

pub first_clash-clash-requires : goal.first_clash-clash-requires
first_clash-clash-requires c =
    let i = walk_inside c.requires in
    let o = walk_ordered c.requires in
    let n = size_of c.from-from.ensures c.from-other.ensures c.from.ensures c.from-2.ensures c.min-n.ensures in
    (omega (arith, i.0, o.0, c.from-from.ensures, c.from-other.ensures, n), omega (arith, i.1, o.1, c.from-from.ensures, c.from-other.ensures, n))

pub returns-in-Some : goal.returns-in-Some
returns-in-Some c =
    let W = c.requires in
    walk_clash W (size_of c.from-from.ensures c.from-other.ensures c.from.ensures c.from-2.ensures c.min-n.ensures) (rw (c.from-from.ensures, c.from-other.ensures) at c.first_clash-clash.ensures) _ c.in-Some.is

pub join_marks-r-requires : goal.join_marks-r-requires
join_marks-r-requires c =
    let W = c.requires in
    (rw (c.from-from.ensures, c.from-other.ensures) (walk_joinable W (size_of c.from-from.ensures c.from-other.ensures c.from.ensures c.from-2.ensures c.min-n.ensures) (rw (c.from-from.ensures, c.from-other.ensures) at c.first_clash-clash.ensures) c.in-None.is), omega (arith, W.parent, W.searching.merging.few), W.symbol)

pub returns-in-None : goal.returns-in-None
returns-in-None c =
    let W = c.requires in
    walk_alike W (size_of c.from-from.ensures c.from-other.ensures c.from.ensures c.from-2.ensures c.min-n.ensures) (rw (c.from-from.ensures, c.from-other.ensures) at c.first_clash-clash.ensures) c.in-None.is (rw (c.from-from.ensures, c.from-other.ensures) at c.join_marks-r.ensures)
