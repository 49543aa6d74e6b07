-- `fill` meets its contract: the bytes between are written, and the others stay. Assumes nothing.
use Prim.Native.Nat.{ℕ, ◌+◌, ◌≤◌}
use native.Mathlib.Omega.{arith}
use mathlib.Core.List.{List, ◌++◌, append_assoc}
use mathlib.Core.Path.{◌≡◌, sym, ap, ap₂, ◌∙◌}
use lib.ListN.{length, take, drop, replicate, length-replicate, length-take, length-drop}
use lib.Seq.{sets, sets-eq}
use borrow.Rule.Slice.PartMut.{put_mid}
use Rattle.std.proofs.Common.{drop-drop}
use Rattle.witness.proofs.shown.fill.Goals as goal

filled : (buffer part : List ℕ) (at n e k : ℕ) → at + n ≤ length buffer → k ≡ n → part ≡ replicate (length (take k (drop at buffer))) e → put_mid at k buffer part ≡ sets buffer at (replicate n e)
filled buffer part at n e k h i f =
    let m : length (take k (drop at buffer)) ≡ n = simp (length-take, length-drop) (omega arith) in
    let r = length-replicate n e in
    let y : drop k (drop at buffer) ≡ drop (at + length (replicate n e)) buffer = drop-drop k at buffer ∙ ap (λ j. drop (at + j) buffer) (i ∙ sym r) in
    ap₂ (λ u v. take at buffer ++ (u ++ v)) (f ∙ ap (λ j. replicate j e) m) y ∙ sym (sets-eq (replicate n e) buffer at (omega arith) ∙ append_assoc (take at buffer) (replicate n e) (drop (at + length (replicate n e)) buffer))

pub returns : goal.returns
returns c = filled _ _ c.args.at c.args.n c.args.e _ c.requires (omega arith) (c.fill.ensures.after (λ y e. e))
