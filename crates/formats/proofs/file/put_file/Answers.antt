-- `put_file` meets its contract: one byte, and then two lists, one behind the other. Assumes nothing.
use Prim.Native.Nat.{◌+◌}
use native.Mathlib.Omega.{arith}
use mathlib.Core.Path.{sym, ap, ◌∙◌}
use lib.ListN.{length, set, length-append}
use lib.Seq.{sets}
use Rattle.formats.proofs.Writing.{sets-append}
use Rattle.formats.proofs.file.put_file.Goals as goal

pub returns : goal.returns
returns c =
    let a = c.args in
    let l = set a.area.now 0 a.n in
    record {
      size = omega (arith, length-append a.counts.now a.marks.now);
      wrote = c.copy_at-2.ensures ∙ ap (λ z. sets z (1 + length a.counts.now) a.marks.now) c.copy_at.ensures ∙ sym (sets-append a.counts.now a.marks.now l 1);
    }
