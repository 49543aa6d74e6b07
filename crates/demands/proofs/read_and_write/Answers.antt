-- `read_and_write` meets its contract: what demand 2 says of what the reader and the writer ensure. Assumes nothing.
use borrow.Author.Rules.{rules}
use Rattle.std.proofs.lemmas.Result.{err_from_is_err_and}
use Rattle.demands.proofs.Second.{not_read, written_again}
use Rattle.demands.proofs.read_and_write.Goals as goal

pub returns : goal.returns
returns c = search (written_again, rules)

pub returns-in_err-n : goal.returns-in_err-n
returns-in_err-n c =
    let p = err_from_is_err_and c.from_residual.result c.from_residual.ensures.1 in
    rw (p.1, p.2) (not_read c.read_transducer.result c.in_err-n.field-0.0 c.in_err-n.was c.read_transducer.ensures)
