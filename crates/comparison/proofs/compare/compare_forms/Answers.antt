-- `compare_forms` meets its contract: the pair search, and from a clash what is shown. Assumes nothing.
use Prim.Native.Nat.{ℕ}
use native.Mathlib.Omega.{arith}
use lib.ListN.{length-replicate}
use Rattle.comparison.proofs.Comparing.{forms_searchable, forms_searched, forms_same, forms_differ}
use Rattle.comparison.proofs.compare.compare_forms.Goals as goal

pub slice_bounds-classes1-end : goal.slice_bounds-classes1-end
slice_bounds-classes1-end c = omega (arith, c.requires.0.left.few_states, length-replicate {A = ℕ} 128 0)

pub slice_bounds-classes2-end : goal.slice_bounds-classes2-end
slice_bounds-classes2-end c = omega (arith, c.requires.0.right.few_states, length-replicate {A = ℕ} 128 0)

pub search-requires : goal.search-requires
search-requires c = (forms_searchable c.requires.0, omega (arith, length-replicate {A = ℕ} 1536 0))

pub show-shown-requires : goal.show-shown-requires
show-shown-requires c = (c.requires.0, (forms_searched c.requires.0 c.search.ensures).clash _ c.in-Err.is, c.requires.1, c.requires.2)

pub returns-in-Ok : goal.returns-in-Ok
returns-in-Ok c = forms_same c.requires.0 (forms_searched c.requires.0 c.search.ensures) c.in-Ok.is

pub returns-in-Err : goal.returns-in-Err
returns-in-Err c = forms_differ c.requires.0 c.show-shown.ensures
