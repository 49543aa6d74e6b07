-- `write_and_read` meets its contract: what request F-4 says of what `write_xml` and `read_xml` ensure. Assumes nothing.
use borrow.Author.Rules.{rules}
use Rattle.demands.proofs.Xml.{not_written, text_inside, text_long, read_back}
use Rattle.demands.proofs.write_and_read.Goals as goal

pub slice_bounds-read_xml-end : goal.slice_bounds-read_xml-end
slice_bounds-read_xml-end c = search (text_inside, rules)

pub slice_bounds-read_xml-end-in-Ok : goal.slice_bounds-read_xml-end-in-Ok
slice_bounds-read_xml-end-in-Ok c = search (text_long, rules)

pub returns-in-Ok-clause-reads_back : goal.returns-in-Ok-clause-reads_back
returns-in-Ok-clause-reads_back c = search (read_back, rules)

pub returns-in-Err-clause-reads_back : goal.returns-in-Err-clause-reads_back
returns-in-Err-clause-reads_back c = search (not_written, rules)
