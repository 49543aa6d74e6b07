-- `bodies_whole` meets its contract. The invariants: the bodies passed are whole. Assumes nothing.
use Prim.Native.Nat.{ℕ, ◌<◌}
use lib.ListN.{length, get_or}
use Rattle.trees.specs.Inner.Decode.{Whole}
use Rattle.formats.specs.Inner.Layout.{mark_of, body}
use Rattle.formats.proofs.Marks.{BodyOk}
use Rattle.formats.proofs.bodies.bodies_whole.Given as goal

abbrev pub invariant-loop-a : goal.invariant-loop-a
invariant-loop-a l = (b : ℕ) → b < l.a → BodyOk l.ins l.outs l.n (λ j. get_or l.starts j 0) l.marks l.q b

abbrev pub invariant-loop-q : goal.invariant-loop-q
invariant-loop-q l = Whole (mark_of l.outs l.n 1) (body (λ j. get_or l.starts j 0) l.marks 0) × ((p b : ℕ) → p < l.q → b < length l.ins → BodyOk l.ins l.outs l.n (λ j. get_or l.starts j 0) l.marks p b)
