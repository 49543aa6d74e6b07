-- The file of a transducer as a table of starts and its marks: they are laid out, without gaps, and read as that transducer.
-- Assumes nothing.
use Prim.Native.Nat.{ℕ, ◌+◌, ◌≤◌, ◌<◌}
use native.Mathlib.Omega.{arith}
use mathlib.Core.List.{List}
use mathlib.Core.Path.{refl, sym}
use lib.ListN.{length, get_or}
use Rattle.theory.specs.NormalForm.{Identical}
use Rattle.theory.specs.Transducer.{Transducer}
use Rattle.theory.proofs.Identity.{identical_trans}
use Rattle.trees.specs.Alphabets.{Leaf}
use Rattle.formats.specs.Inner.Layout.{offset, body_count, transducer, Right, Starts, Wholes}
use Rattle.formats.specs.Sheet.{Encodes}
use Rattle.formats.proofs.Offsets.{offset_ordered, offset_next, offset_most}
use Rattle.formats.proofs.Sheets.{counted_right, encodes_counted, encodes_wholes, encodes_unique, wholes_encodes}
use Rattle.forms.specs.Alphabet.{alphabet, children_inside}
use Rattle.forms.specs.Inner.Tables.{machine, Layout, Packed}
use Rattle.forms.proofs.Filing.{SameBodies, body_from, wholes_same, bodies_identical}

module _ {ins outs : List ℕ} {n : ℕ} {counts bytes : List ℕ} {M : Transducer ℕ} (E : Encodes ins outs n counts bytes M) (few : length ins ≤ 16) where
  encoded_right : Right ins n counts bytes
  encoded_right = counted_right ins n counts bytes few (encodes_counted ins outs n counts bytes M E)

  encoded_wholes : Wholes ins outs n (offset counts) bytes
  encoded_wholes = encodes_wholes ins outs n counts bytes M E

  -- M is the transducer that is read from its bodies
  encoded_read : (l : Leaf ins) → Identical (alphabet ins l) M (transducer ins outs n (offset counts) bytes) n n
  unfolding transducer alphabet
  encoded_read l =
      let u = encodes_unique ins outs n counts bytes M (transducer ins outs n (offset counts) bytes) E (wholes_encodes ins outs n counts bytes encoded_right encoded_wholes) in
      record { number = refl; initial = u.0; sort = E.over.sort; rhs = λ p a sorts h k. u.1 p a h (children_inside ins a k).0 }

  -- its bodies by a table of the starts
  starts_bodies : (starts : List ℕ) → Starts counts starts (body_count ins n) → SameBodies ins n (offset counts) bytes (λ j. get_or starts j 0) bytes
  starts_bodies starts S = record { same = λ j h. body_from (offset counts) (λ j. get_or starts j 0) bytes j (sym (S j (omega arith))) (sym (S (j + 1) (omega arith))) }

  -- The bodies of M lie where the table says, at most 64 marks each, and are whole.
  pub encoded_layout : {starts : List ℕ} → length outs ≤ 64 → Starts counts starts (body_count ins n) → body_count ins n < length starts → Layout ins outs starts bytes n
  encoded_layout {starts} low S long = record {
    few_symbols = low;
    few_states = encoded_right.states;
    few_inputs = few;
    bounds = record {
      long = long;
      ordered = λ j h. omega (arith, S j (omega arith), S (j + 1) (omega arith), offset_ordered counts j);
      inside = λ j h. omega (arith, S j h, encoded_right.sums.all, offset_most counts j (body_count ins n) h);
    };
    few = λ j h. omega (arith, S j (omega arith), S (j + 1) (omega arith), offset_next counts j (omega (arith, encoded_right.long)), (encoded_right.sums.each j h).1);
    wholes = wholes_same (starts_bodies starts S) encoded_wholes;
  }

  -- They lie there without gaps.
  pub encoded_packed : {starts : List ℕ} → Starts counts starts (body_count ins n) → Packed ins starts n
  unfolding offset
  encoded_packed S = record {
    start = S 0 (omega arith);
    increasing = λ j h. omega (arith, S j (omega arith), S (j + 1) (omega arith), offset_next counts j (omega (arith, encoded_right.long)), (encoded_right.sums.each j h).0);
    all = omega (arith, S (body_count ins n) (omega arith), encoded_right.sums.few);
  }

  -- What is read from them is M.
  pub encoded_same : (starts : List ℕ) → Starts counts starts (body_count ins n) → (l : Leaf ins) → Identical (alphabet ins l) M (machine ins outs starts bytes n) n n
  encoded_same starts S l = identical_trans (encoded_read l) (bodies_identical (starts_bodies starts S) outs l)
