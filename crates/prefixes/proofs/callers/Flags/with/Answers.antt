-- `with` meets its contract: two words of 128 bits. Assumes nothing.
use Prim.Native.Nat.{◌<◌, ◌^◌}
use native.Mathlib.Omega.{arith}
use Rattle.std.proofs.lemmas.Nat.{or_lt}
use Rattle.prefixes.proofs.callers.Flags.with.Goals as goal

pub returns : goal.returns
returns c =
    let a = c.args.self in
    let n : a.next < 2 ^ 128 = omega arith in
    omega (arith, or_lt 128 a.next c.args.word n (omega arith))
