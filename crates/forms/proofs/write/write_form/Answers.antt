-- `write_form` meets its contract. Assumes nothing.
use Prim.Native.Nat.{ℕ}
use native.Mathlib.Omega.{arith}
use mathlib.Core.Path.{◌∙◌}
use lib.ListN.{length-replicate}
use Rattle.forms.proofs.Filing.{form_layout, form_bounds, form_written, form_accepted_lem}
use Rattle.forms.proofs.write.write_form.Goals as goal

pub overflow_mul-m : goal.overflow_mul-m
overflow_mul-m c = omega (arith, (form_bounds c.requires c.input_ranks.ensures).0)

pub overflow_add-m : goal.overflow_add-m
overflow_add-m c = omega (arith, (form_bounds c.requires c.input_ranks.ensures).0)

pub fill_counts-requires : goal.fill_counts-requires
fill_counts-requires c =
    let w = form_bounds c.requires c.input_ranks.ensures in
    (w.1, omega (arith, w.0, length-replicate {A = ℕ} 4098 0), (form_layout c.requires c.input_ranks.ensures).bounds.ordered)

pub offset_bounds-starts-m : goal.offset_bounds-starts-m
offset_bounds-starts-m c = omega (arith, (form_bounds c.requires c.input_ranks.ensures).0)

pub bounds-starts-m : goal.bounds-starts-m
bounds-starts-m c = (form_bounds c.requires c.input_ranks.ensures).1

pub overflow_mul-end : goal.overflow_mul-end
overflow_mul-end c = omega (arith, c.from-end.ensures, (form_bounds c.requires c.input_ranks.ensures).2)

pub unwrap-requires : goal.unwrap-requires
unwrap-requires c =
    let f = c.fill_counts in
    form_accepted_lem c.requires c.input_ranks.ensures f.new.counts (f.auto.counts ∙ length-replicate {A = ℕ} 4098 0) f.ensures c.from-end.ensures c.write_transducer.result c.write_transducer.ensures

pub returns : goal.returns
returns c =
    let f = c.fill_counts in
    form_written c.requires c.input_ranks.ensures f.new.counts (f.auto.counts ∙ length-replicate {A = ℕ} 4098 0) f.ensures c.from-end.ensures c.write_transducer.result c.write_transducer.ensures _ c.unwrap.ensures
