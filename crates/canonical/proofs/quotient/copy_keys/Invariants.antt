-- `copy_keys` meets its contract. The invariant: writing what is left of the marks ends as writing all of them from the start. Assumes nothing.
use Prim.Native.Nat.{◌+◌, ◌*◌}
use Rattle.formats.proofs.Writing.{Writing}
use Rattle.formats.specs.Inner.Marked.{part}
use Rattle.formats.specs.Sheet.{mark_bytes}
use Rattle.classes.specs.Inner.Classes.{keyed}
use Rattle.canonical.proofs.Quotients.{keys_left}
use Rattle.canonical.proofs.quotient.copy_keys.Given as goal

abbrev pub invariant-loop-k : goal.invariant-loop-k
invariant-loop-k l = Writing (mark_bytes (keyed l.classes (part l.marks l.from (l.from + l.n)))) (2 * l.at) l.initial.out (keys_left l.classes l.marks l.from l.n l.k) (2 * (l.at + l.k)) l.out
