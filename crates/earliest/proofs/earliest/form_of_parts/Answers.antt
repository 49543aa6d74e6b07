-- `form_of_parts` meets its contract: the starts of the bodies, and the form by them. Assumes nothing.
use Prim.Native.Nat.{ℕ}
use native.Mathlib.Omega.{arith}
use mathlib.Core.Path.{◌∙◌}
use lib.ListN.{length-replicate}
use Rattle.transducer.proofs.Translating.{starts_fit}
use Rattle.earliest.proofs.Forming.{parts_formable, form_by}
use Rattle.earliest.proofs.earliest.form_of_parts.Goals as goal

pub overflow_mul-n : goal.overflow_mul-n
overflow_mul-n c = omega (arith, (starts_fit c.requires.0 c.input_ranks-ins.ensures).1)

pub overflow_add-n : goal.overflow_add-n
overflow_add-n c = omega (arith, (starts_fit c.requires.0 c.input_ranks-ins.ensures).1)

pub fill_starts-requires : goal.fill_starts-requires
fill_starts-requires c = starts_fit c.requires.0 c.input_ranks-ins.ensures

pub form_of_table-requires : goal.form_of_table-requires
form_of_table-requires c = (parts_formable c.requires.0 c.input_ranks-ins.ensures c.output_ranks.ensures c.fill_starts.new.starts c.fill_starts.ensures.starts (c.fill_starts.auto.starts ∙ length-replicate {A = ℕ} 2050 0), c.requires.1, c.requires.2)

pub returns : goal.returns
returns c = form_by c.requires.0 c.input_ranks-ins.ensures c.output_ranks.ensures c.fill_starts.new.starts c.fill_starts.ensures.starts (c.fill_starts.auto.starts ∙ length-replicate {A = ℕ} 2050 0) c.form_of_table.ensures
