-- Cleaning from its ends: the normal form of the parts of a file.
use Rattle.std.specs.Prelude.{None, Option, Some}
use Prim.Native.Nat.{ℕ}
use mathlib.Core.List.{List}
use mathlib.Core.Path.{◌≡◌}
use Rattle.theory.proofs.Equivalences.{equivalent_trans}
use Rattle.theory.proofs.Identity.{identical_sym, identical_normal}
use Rattle.theory.proofs.Terms.{conflict}
use Rattle.theory.proofs.Trimming.{trimmed_equivalent, trimmed_earliest, trimmed_numbered}
use Rattle.trees.specs.Alphabets.{inputs, outputs}
use Rattle.transducer.specs.Inner.Machine.{Machine}
use Rattle.earliest.specs.Inner.Loaded.{FormOfParts, FormMade}
use Rattle.earliest.proofs.Forming.{early_file}
use Rattle.forms.proofs.Files.{encoded_wf}
use Rattle.canonical.specs.Inner.Normal.{Reducible, Reduces, NormalOf}

-- ---- of the parts of a file, by their earliest form
module _ {stock counts bytes from early : List ℕ} {n : ℕ} {r : Option ℕ} (X : Machine stock n counts bytes) (B : FormOfParts stock n counts bytes from early r) where
  -- it is over the limits
  pub normal_over : {starts out : List ℕ} → r ≡ None → FormMade NormalOf stock n counts bytes starts out None
  normal_over e = record {
    over = λ z. B.over e;
    within = λ k z. conflict (cc);
    layout = λ k z. conflict (cc);
    packed = λ k z. conflict (cc);
    made = λ k z. conflict (cc);
  }

  module _ {k : ℕ} (e : r ≡ Some k) where
    pub normal_reducible : {ins outs : List ℕ} → ins ≡ inputs stock → outs ≡ outputs stock → Reducible ins outs from early k
    normal_reducible i o = rw (i, o) (record { layout = B.layout k e; packed = B.packed k e })

    -- its quotient by the equivalence of states is the normal form
    normal_here : {starts out : List ℕ} {c : ℕ} → Reduces (inputs stock) (outputs stock) from early k starts out c → FormMade NormalOf stock n counts bytes starts out (Some c)
    normal_here {c = c} R = record {
      over = λ z. conflict (cc);
      within = λ c' z. early_file B X k e;
      layout = λ c' z. let h : c ≡ c' = cc in rw (← h) R.layout;
      packed = λ c' z. let h : c ≡ c' = cc in rw (← h) R.packed;
      made = λ c' z counts' bytes' N E same.
          let h : c ≡ c' = cc in
          record {
            alphabets = X.alphabets;
            machine = X.machine;
            machine_coded = X.encodes;
            form = N;
            normal = λ l.
                let W = encoded_wf X.alphabets.ins.few l X.encodes in
                let T = B.trimmed k e X.machine X.encodes l in
                let Q = R.normal l (trimmed_earliest W T) (trimmed_numbered W T) in
                identical_normal (identical_sym (same l)) (rw (← h) (record { equivalent = equivalent_trans (trimmed_equivalent W T) Q.equivalent; canonical = Q.canonical; numbered = Q.numbered }));
            form_coded = E;
          };
    }

    pub normal_states : {ins outs starts out : List ℕ} {c : ℕ} → ins ≡ inputs stock → outs ≡ outputs stock → Reduces ins outs from early k starts out c → FormMade NormalOf stock n counts bytes starts out (Some c)
    normal_states i o R = normal_here (rw (i, o) at R)
