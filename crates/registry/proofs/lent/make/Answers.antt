-- `make` meets its contract: what `start` says, with the records that `renew` leaves. Assumes nothing.
use Rattle.std.proofs.Common.{refl}
use Rattle.std.proofs.lemmas.Result.{err_from_is_err_and}
use Rattle.std.specs.Prelude.{length}
use Rattle.trees.specs.Alphabets.{alphabet_check}
use Rattle.trees.specs.Refusal.{Holds, check, done}
use Rattle.trees.proofs.Judging.{pass, accept, accepted_holds, refused_fails, refused_early}
use Prim.Native.Nat.{◌≤◌}
use Rattle.registry.proofs.lent.make.Goals as goal

pub returns-in_err-head : goal.returns-in_err-head
returns-in_err-head c =
    let p = err_from_is_err_and c.from_residual.result c.from_residual.ensures.1 in
    let a = c.args in
    rw (p.1, p.2) (refused_early (check 9 (33 ≤ length a.records.now) (alphabet_check a.stock.now (check 8 (length a.stock.now ≤ length a.area.now) done))) done (refl, refl, (refused_fails c.in_err-head.ensures).1) c.in_err-head.ensures)

pub renew-requires : goal.renew-requires
unfolding Holds
renew-requires c = (accepted_holds c.in_ok-head.ensures).0.0

pub returns : goal.returns
unfolding Holds
returns c =
    let w = accepted_holds c.in_ok-head.ensures in
    pass w.0.0 (pass w.0.1.0 (pass w.0.1.1.0 (accept (record { head = w.1.head; records = c.renew.ensures; bodies = w.1.bodies }))))
