-- `sound` meets its contract: the tests together make the counts sound. Assumes nothing.
use Rattle.std.proofs.Common.{◌≡◌, ◌∙◌, min, ap, arith}
use borrow.Author.Tests.{eqb-true, eq-eqb}
use Rattle.records.specs.Book.{tally, too_many}
use Rattle.records.proofs.Chains.{first_tally, counts_told, counts_tell}
use Rattle.records.proofs.chain.sound.Goals as goal

pub returns : goal.returns
returns c =
    let rs = c.args.records.now in
    let e : c.counted.result ≡ min (tally rs 33) too_many = c.counted.ensures ∙ ap (λ n. min n too_many) (first_tally rs 33 c.requires) in
    record { sound = λ q. counts_tell e (omega arith) (omega arith) (eqb-true _ _ q); complete = λ S. eq-eqb _ _ (counts_told e S) }
