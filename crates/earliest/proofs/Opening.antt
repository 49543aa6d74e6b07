-- The initial term: what is asked to write it expanded, and what was written.
-- Assumes nothing.
use Prim.Native.Nat.{ℕ, ◌≤◌}
use native.Mathlib.Omega.{arith}
use mathlib.Core.List.{List}
use mathlib.Core.Path.{◌≡◌, sym, ap₂, ◌∙◌}
use lib.ListN.{length, get_or}
use Rattle.formats.specs.Inner.Judging.{Put}
use Rattle.formats.specs.Inner.Layout.{body}
use Rattle.prefixes.proofs.Grafts.{lent_area}
use Rattle.earliest.specs.Inner.Letters.{earliest, expanded, expanded_body, Expandable, Expanding}
use Rattle.discovery.specs.Inner.Letters.{spelt}
use Rattle.earliest.proofs.Expanded.{expanded_short}
use Rattle.earliest.proofs.Finding.{can_expand, lent_letters}
use Rattle.earliest.proofs.Locating.{whole_spelt}
use Rattle.earliest.proofs.Numbers.{expanded_whole_initial}

module _ {ins outs starts bytes heads sizes : List ℕ} (X : Expanding ins outs starts bytes heads sizes) {letters : List ℕ} (room : 4096 ≤ length letters) {from to : ℕ} (f : from ≡ get_or starts 0 0) (t : to ≡ get_or starts 1 0) where
  -- it can be expanded
  pub initial_expandable : Expandable heads sizes bytes from to letters
  unfolding body
  initial_expandable =
      let L = X.layout in
      can_expand X.table L.few_states (omega (arith, L.bounds.ordered 0 (omega arith))) (omega (arith, L.bounds.inside 1 (omega arith))) (omega (arith, L.few 0 (omega arith))) {r = 1} (rw (f, t) L.wholes.initial) (omega arith) room

  module _ {len : ℕ} {letters' : List ℕ} (P : Put (expanded heads sizes bytes from to) letters letters' len) where
    pub initial_short : len ≤ length letters
    initial_short = omega (arith, P.size, expanded_short initial_expandable)

    -- its letters were written
    pub initial_written : lent_area len letters' ≡ spelt (earliest ins outs starts bytes heads sizes).initial
    unfolding earliest
    initial_written = lent_letters P (expanded_short initial_expandable) ∙ ap₂ (expanded heads sizes bytes) f t ∙ sym (whole_spelt outs (expanded_body starts bytes heads sizes 0) (expanded_whole_initial X.table X.layout))
