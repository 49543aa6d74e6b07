-- `join_file` meets its contract: the alphabets, the parts of the joined transducer, and its file. Assumes nothing.
use Prim.Native.Nat.{ℕ}
use native.Mathlib.Omega.{arith}
use lib.ListN.{length-replicate}
use Rattle.std.proofs.lemmas.Result.{err_from_is_err_and}
use Rattle.trees.proofs.Tried.{none_refused, some_given}
use Rattle.join.proofs.Entering.{found_writes, found_joined}
use Rattle.join.proofs.Forming.{file_over}
use Rattle.join.proofs.join.join_file.Goals as goal

pub join_parts-requires : goal.join_parts-requires
join_parts-requires c = (c.requires.0, omega (arith, length-replicate {A = ℕ} 2050 0), length-replicate {A = ℕ} 16384 0)

pub write_found-requires : goal.write_found-requires
write_found-requires c = found_writes c.requires.0 c.join_stocks-size.ensures c.join_parts.ensures (some_given _ c.ok_or.ensures.value c.in_ok-states.was) c.requires.1

pub returns : goal.returns
returns c = found_joined c.requires.0 c.join_stocks-size.ensures c.join_parts.ensures (some_given _ c.ok_or.ensures.value c.in_ok-states.was) c.write_found.ensures

pub returns-in_err-states : goal.returns-in_err-states
returns-in_err-states c =
    let p = err_from_is_err_and c.from_residual.result c.from_residual.ensures.1 in
    let w = none_refused c.ok_or.ensures.value c.in_err-states.was in
    rw (p.1, p.2, w.1) (file_over c.join_parts.ensures c.requires.0 w.0)
