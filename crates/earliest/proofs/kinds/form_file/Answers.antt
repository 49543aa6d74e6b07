-- `form_file` meets its contract: the form of the parts, and its file. Assumes nothing.
use Rattle.forms.proofs.Filing.{found_writable}
use Rattle.earliest.proofs.Forming.{form_file}
use Rattle.earliest.proofs.kinds.form_file.Goals as goal

pub write_found-requires : goal.write_found-requires
write_found-requires g c = found_writable c.requires.0.alphabets c.make-found.ensures.layout c.make-found.ensures.packed c.requires.1

pub returns : goal.returns
returns g c = form_file c.make-found.result c.make-found.ensures c.write_found.ensures
