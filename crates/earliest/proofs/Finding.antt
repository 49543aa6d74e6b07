-- The right-hand side of a state of the earliest form: what is asked to write the expanded right-hand side that it is part of, and which of the letters written are its own.
-- Assumes nothing.
use Prim.Native.Nat.{ℕ, ◌+◌, ◌-◌, ◌*◌, ◌/◌, ◌%◌, ◌≤◌, ◌<◌}
use native.Mathlib.Omega.{arith}
use mathlib.Core.List.{List}
use mathlib.Core.Path.{◌≡◌, refl, sym, ap, ap₂, ◌∙◌}
use lib.ListN.{length, get_or, take, drop}
use lib.Seq.{length-slice, length-take-le, take_at, take-take, sets-eq, length-sets}
use Rattle.trees.specs.Inner.Decode.{forest, Whole}
use Rattle.formats.specs.Inner.Judging.{Put}
use Rattle.formats.specs.Inner.Layout.{pairs, mark_at, mark_of, body, body_number}
use Rattle.formats.specs.Inner.Marked.{part}
use Rattle.formats.proofs.Pairs.{getD_slice, number_less, pairs_length}
use Rattle.transducer.specs.Inner.Written.{Callable}
use Rattle.transducer.proofs.Meaning.{body_read}
use Rattle.prefixes.specs.Inner.Heads.{Heads, head_of}
use Rattle.prefixes.specs.Inner.Patterns.{top_of, head_at, Ended}
use Rattle.prefixes.proofs.Grafts.{head_length, head_lent, lent_area, lent_head}
use Rattle.discovery.specs.Inner.Discovering.{FindsRhs}
use Rattle.earliest.specs.Inner.Letters.{earliest, expanded, expanded_body, letter_of, under, Expandable, Expanding, Locatable, LocatedAt, State}
use Rattle.discovery.specs.Inner.Letters.{spelt}
use Rattle.earliest.proofs.Expanded.{expanded_short}
use Rattle.earliest.proofs.Locating.{located_slice}
use Rattle.earliest.proofs.Numbers.{expanded_whole}

-- ---- the letters of a body
-- a body over at most 4 children can be expanded
pub can_expand : {outs heads sizes bytes : List ℕ} {from to : ℕ} → Heads outs heads sizes → length sizes ≤ 128 → from ≤ to → 2 * to ≤ length bytes → to ≤ from + 64 → {r : ℕ} → Whole (mark_of outs (length sizes) r) (part bytes from to) → r ≤ 4 → {out : List ℕ} → 4096 ≤ length out → Expandable heads sizes bytes from to out
can_expand {outs} {heads} {sizes} {bytes} {from} {to} T few_states ordered inside few {r} W low room =
    let l = pairs_length bytes to inside in
    let R = body_read outs (length sizes) r (part bytes from to) W in
    let at : (j : ℕ) → from ≤ j → j < to → Callable (length sizes) r (mark_at bytes j) = λ j h g.
    let k : from + (j - from) ≡ j = omega arith in
    let i : j - from < length (part bytes from to) = omega (arith, length-slice from to (pairs bytes) l) in
    rw ((getD_slice from to (j - from) (pairs bytes) l i).1, k) at (R.callable (j - from) i) in
    record {
      grafts = record {
        ordered = ordered;
        inside = inside;
        few = few;
        there = λ j h g some. let s = (at j h g some).1 in (s, T.small (mark_at bytes j).1 s, omega (arith, T.long));
        room = room;
      };
      children = λ j h g. by_child (mark_at bytes j).0 (λ some. omega (arith, (at j h g some).0));
      few_states = few_states;
    }
  where
    by_child : (i : ℕ) → (0 < i → i ≤ 4) → i ≤ 4
    by_child ℕ.zero k = omega arith
    by_child (ℕ.suc i) k = k (omega arith)

-- what was written from the start of the area is what is read there
pub lent_letters : {w before after : List ℕ} {r : ℕ} → Put w before after r → length w ≤ length before → lent_area r after ≡ w
lent_letters {w} {before} {after} {r} P h =
    let z : r - 0 ≡ length w = omega (arith, P.size) in
    rw (z, P.wrote, sets-eq w before 0 (omega arith)) (take_at w (drop (0 + length w) before) (length w) refl)

-- ---- the right-hand side of state c for symbol a
module _ {ins outs starts bytes heads sizes : List ℕ} (X : Expanding ins outs starts bytes heads sizes) {c a : ℕ} (S : State heads sizes c) (there : a < length ins) {letters : List ℕ} (room : 4096 ≤ length letters)
    {from to : ℕ} (f : from ≡ get_or starts (body_number ins (c / 64) a) 0) (t : to ≡ get_or starts (body_number ins (c / 64) a + 1) 0) where
  -- the right-hand side of state c / 64 can be expanded
  pub rhs_expandable : Expandable heads sizes bytes from to letters
  unfolding body
  rhs_expandable =
      let L = X.layout in
      let j = body_number ins (c / 64) a in
      let less = number_less ins (c / 64) (length sizes) a S.state there in
      can_expand X.table L.few_states (omega (arith, L.bounds.ordered j less)) (omega (arith, L.bounds.inside (j + 1) (omega arith))) (omega (arith, L.few j less)) {r = get_or ins a 0} (rw (f, t) (L.wholes.rhs (c / 64) a S.state there)) (X.ranks a there) room

  module _ {len : ℕ} {letters' : List ℕ} (P : Put (expanded heads sizes bytes from to) letters letters' len) {size : ℕ} (right : size ≡ get_or sizes (c / 64) 0) where
    -- the parts that are lent: of the table, and of the letters
    pub rhs_lent : (64 * (c / 64) + size ≤ length heads) × (len ≤ length letters)
    rhs_lent = (omega (arith, X.table.long, S.state, X.table.small (c / 64) S.state), omega (arith, P.size, expanded_short rhs_expandable))

    written : lent_area len letters' ≡ expanded_body starts bytes heads sizes (body_number ins (c / 64) a)
    written = lent_letters P (expanded_short rhs_expandable) ∙ ap₂ (expanded heads sizes bytes) f t

    head_here : lent_head heads (c / 64) size ≡ head_at heads sizes (c / 64)
    head_here = head_lent heads sizes (c / 64) right (omega (arith, rhs_lent.0))

    whole_here : Whole (letter_of outs) (lent_area len letters')
    whole_here = rw written (expanded_whole X.table X.layout (c / 64) a S.state there)

    -- the pattern of state c / 64 is a prefix of what was written
    pub rhs_locatable : Locatable outs (lent_head heads (c / 64) size) (lent_area len letters') (c % 64)
    unfolding head_of
    rhs_locatable = record {
      few_symbols = X.layout.few_symbols;
      pattern = rw head_here (X.table.each (c / 64) S.state);
      whole = whole_here;
      prefix = rw (head_here, written) (X.prefixed (c / 64) a S.state there);
      there = rw head_here (omega (arith, S.inside, head_length heads sizes (c / 64) (omega (arith, rhs_lent.0))));
    }

    -- and what stands under its ⊤ is the right-hand side
    pub finds_rhs : {at stop : ℕ} → LocatedAt outs (lent_head heads (c / 64) size) (lent_area len letters') (c % 64) at → Ended (letter_of outs) (lent_area len letters') at stop → FindsRhs (earliest ins outs starts bytes heads sizes) c a letters' at stop
    unfolding earliest
    finds_rhs {at} {stop} K E =
        let z : len - 0 ≡ len = omega arith in
        let l : len ≤ length letters' = omega (arith, ap length P.wrote, length-sets letters 0 (expanded heads sizes bytes from to), rhs_lent.1) in
        let k : length (lent_area len letters') ≡ len = ap (λ n. length (take n letters')) z ∙ length-take-le len letters' l in
        record {
          ordered = omega (arith, E.further);
          inside = omega (arith, E.inside);
          spelled =
              ap (drop at) (sym (take-take stop len letters' (omega (arith, E.inside))) ∙ ap (λ n. take stop (take n letters')) (sym z))
              ∙ located_slice K E whole_here
              ∙ ap₂ (λ h w. spelt (under (c % 64) (forest (top_of outs) h) (forest (letter_of outs) w))) head_here written;
        }
