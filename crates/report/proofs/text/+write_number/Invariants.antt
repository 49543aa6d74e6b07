-- `write_number` meets its contract: the last digit goes behind the digits of the tenth. The number falls. Assumes nothing.
use Rattle.report.proofs.text.+write_number.Given as goal

abbrev pub decreases-write_number : goal.decreases-write_number
decreases-write_number l = l.n
