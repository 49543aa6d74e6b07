-- From the classes of equivalent states and the quotient to the normal form.
use Prim.Native.Nat.{ℕ, ◌-◌, ◌≤◌, ◌<◌}
use native.Mathlib.Nat.{sub-zero}
use native.Mathlib.Omega.{arith}
use mathlib.Core.List.{List}
use mathlib.Core.Path.{◌≡◌}
use lib.ListN.{length, length-replicate, replicate, take}
use lib.Seq.{length-take-le}
use Rattle.theory.specs.Wf.{Wf}
use Rattle.theory.proofs.Equivalences.{equivalent_refl}
use Rattle.theory.proofs.Identity.{identical_sym, identical_normal}
use Rattle.theory.proofs.NormalForms.{classes_normal}
use Rattle.trees.specs.Alphabets.{Leaf}
use Rattle.forms.specs.Alphabet.{alphabet}
use Rattle.forms.specs.Inner.Tables.{machine}
use Rattle.forms.proofs.Files.{machine_wf}
use Rattle.merging.specs.Inner.Refining.{Settles}
use Rattle.classes.proofs.Numbering.{classes_few}
use Rattle.canonical.specs.Inner.Normal.{Reducible, Reduces}
use Rattle.canonical.specs.Inner.Quotients.{Mergeable, Merges}

-- the quotient by the classes of equivalent states is the normal form of an earliest and numbered transducer
reduces : {ins outs starts bytes classes least starts' out : List ℕ} {k count : ℕ} → Reducible ins outs starts bytes k → Settles ins starts bytes classes least k count → Merges ins outs starts bytes classes least k count starts' out → Reduces ins outs starts bytes k starts' out count
reduces {ins} {outs} {starts} {bytes} {k = k} R S Q = record {
  layout = Q.layout;
  packed = Q.packed;
  normal = λ l E N. identical_normal (identical_sym (Q.merged l)) (classes_normal equivalent_refl (wf l) E N S.classes (S.exact outs l R.layout (wf l) E));
}
  where
    wf : (l : Leaf ins) → Wf (alphabet ins l) (machine ins outs starts bytes k) (λ q. q < k)
    wf l = machine_wf l R.layout.wholes

module _ {ins outs starts bytes classes least : List ℕ} {n count : ℕ} (R : Reducible ins outs starts bytes n) (S : Settles ins starts bytes classes least n count) where
  -- what the classes of equivalent states are to be merged by
  pub settled_mergeable : {starts' out : List ℕ} → 128 ≤ length least → 2050 ≤ length starts' → length out ≡ 16384 → Mergeable ins outs starts bytes classes least (length classes) count starts' out
  settled_mergeable l s o = rw S.long (record {
    layout = R.layout;
    packed = R.packed;
    long = S.long;
    few = omega (arith, classes_few S.classes, R.layout.few_states, l);
    classed = S.classes;
    starts_room = s;
    bytes_room = o;
  })

  pub settled_reduces : {starts' out : List ℕ} → Merges ins outs starts bytes classes least (length classes) count starts' out → Reduces ins outs starts bytes n starts' out count
  settled_reduces Q = reduces R S (rw S.long at Q)

-- n zeros
abbrev zeros : ℕ → List ℕ
zeros n = replicate {A = ℕ} n 0

-- with a byte for each state in two such parts
module _ {ins outs starts bytes : List ℕ} (k : ℕ) (R : Reducible ins outs starts bytes k) where
  part_long : length (take (k - 0) (zeros 128)) ≡ k
  part_long = rw (sub-zero k) (length-take-le k (zeros 128) (omega (arith, length-replicate {A = ℕ} 128 0, R.layout.few_states)))

  pub reducible_part : Reducible ins outs starts bytes (length (take (k - 0) (zeros 128)))
  reducible_part = rw part_long R

  pub reduces_part : {starts' out : List ℕ} {n : ℕ} → Reduces ins outs starts bytes (length (take (k - 0) (zeros 128))) starts' out n → Reduces ins outs starts bytes k starts' out n
  reduces_part G = rw part_long at G
