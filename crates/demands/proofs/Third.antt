-- Demand 3 is met: the theorems of `canonical`, `comparison` and `registry`, put together.
-- Assumes nothing.
use Rattle.std.specs.Prelude.{Option, Some, Result}
use Rattle.trees.specs.declared.refusal.Refusal.{Refusal}
use Rattle.forms.specs.declared.write.Form.{Form}
use Rattle.witness.specs.declared.witness.Shown.{Shown}
use Prim.Native.Nat.{ℕ, ◌≤◌}
use mathlib.Core.List.{List}
use mathlib.Core.Path.{◌≡◌, refl, sym, ◌∙◌}
use lib.ListN.{length}
use Rattle.theory.proofs.Equivalences.{equivalent_refl}
use Rattle.trees.specs.Refusal.{Holds}
use Rattle.formats.specs.Sheet.{longest, file}
use Rattle.trees.proofs.Judging.{must_accept}
use Rattle.canonical.specs.Answers.{NormalFile, Cleans}
use Rattle.canonical.proofs.Laws.{cleaned, cleaned_exact, clean_accepted, clean_alike, clean_again, sheets_alike}
use Rattle.witness.specs.Difference.{tree_area, address_area}
use Rattle.comparison.specs.Answers.{Found, Differ, Compares}
use Rattle.comparison.proofs.Laws.{compare_exact}
use Rattle.registry.proofs.Questions.{calls_orderly}
use Rattle.demands.specs.Third.{Accepted, Wrote, SameExactly, AlikeExactly, Judges, Again, Demand3}

-- ---- cleaning
same : {stock s s' before after before' after' : List ℕ} (r r' : Result Form Refusal) → Accepted stock s → Accepted stock s' → longest ≤ length before → longest ≤ length before' → Cleans stock s before after r → Cleans stock s' before' after' r' → SameExactly stock s s' after after' r r'
unfolding Holds
same r r' A A' long long' J J' =
    let w = must_accept (long, A) J in
    let w' = must_accept (long', A') J' in
    record {
      clean = _;
      clean' = _;
      wrote = record { values = w.0; answer = w.1.0; bytes = refl };
      wrote' = record { values = w'.0; answer = w'.1.0; bytes = refl };
      exact = cleaned_exact r r' J w.1.0 J' w'.1.0;
    }

-- ---- comparison
found_differs : {stock s s' tree tree' address address' : List ℕ} (o : Option Shown) → Found stock s s' tree tree' address address' o → (v : Shown) → o ≡ Some v → Differ stock s s' tree tree' address address' v.nodes v.numbers v.left v.right
found_differs {stock} {s} {s'} {tree} {tree'} {address} {address'} o F v e = rw e at F

verdict : {stock s s' tree tree' address address' : List ℕ} (r : Result (Option Shown) Refusal) → Accepted stock s → Accepted stock s' → tree_area ≤ length tree → address_area ≤ length address → Compares stock s s' tree tree' address address' r → AlikeExactly stock s s' tree tree' address address' r
unfolding Holds
verdict r A A' h h' J =
    let w = must_accept ((h, h'), (A.0, (A.1.0, (A.1.1.0, (A'.1.0, (A'.1.1.0, (A.1.1.1.0, (A'.1.1.1.0, tt)))))))) J in
    record {
      verdict = w.0;
      answer = w.1.0;
      exact = compare_exact r J w.1.0;
      shown = found_differs w.0 w.1.1;
    }

-- ---- clean sheets
module _ {stock s : List ℕ} {k : ℕ} {counts bytes : List ℕ} (F : NormalFile stock s k counts bytes) where
  -- the file of a normal form is that of its own normal form
  own : NormalFile stock (file k counts bytes) k counts bytes
  own = record {
    alphabets = F.alphabets;
    states = k;
    machine = F.form;
    sheet = record { counts = counts; bytes = bytes; coded = refl; encodes = F.encodes };
    form = F.form;
    normal = λ l. record { equivalent = equivalent_refl; canonical = (F.normal l).canonical; numbered = (F.normal l).numbered };
    encodes = F.encodes;
  }

  file_again : Again stock s (file k counts bytes)
  unfolding Holds own
  file_again = record {
    accepted_again = clean_accepted F;
    alike = (sheets_alike F own).0 (clean_alike F);
    cleans_to_itself = λ r long J. let w = must_accept (long, clean_accepted F) J in let C = cleaned r J w.1.0 in record { values = w.0; answer = w.1.0; bytes = C.begins ∙ clean_again F C.normal };
  }

clean_sheet : {stock s before after x : List ℕ} (r : Result Form Refusal) → Cleans stock s before after r → Wrote r after x → Again stock s x
clean_sheet {stock} {s} r J W = let C = cleaned r J W.answer in rw (sym W.bytes ∙ C.begins) (file_again C.normal)

-- ---- demand 3
pub demand_3 : Demand3
demand_3 = record {
  cleaning = same;
  comparing = verdict;
  again = clean_sheet;
  calls = λ C. (calls_orderly C).exact;
}

-- ---- of the functions themselves
pub judges : {stock s s' area area' other other' tree tree' address address' : List ℕ} (r r' : Result Form Refusal) (v : Result (Option Shown) Refusal) → Cleans stock s area area' r → Cleans stock s' other other' r' → Compares stock s s' tree tree' address address' v → Judges stock s s' (area, area') (other, other') (tree, tree') (address, address') r r' v
judges r r' v J J' C A A' l l' h h' = (same r r' A A' l l' J J', verdict v A A' h h' C)
