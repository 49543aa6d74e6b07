-- What a comparison promises: it answers alike exactly if the two files sew alike, and exactly then the part that is handed out is not empty; there is one such part.
use Rattle.std.specs.Prelude.{Option, Some, None, Result}
use Rattle.trees.specs.declared.refusal.Refusal.{Refusal}
use Rattle.witness.specs.declared.witness.Shown.{Shown}
use Rattle.trees.specs.Refusal.{outcome_of, accepted, Holds}
use Prim.Native.Nat.{ℕ, ◌≤◌}
use native.Mathlib.Decide.{dec_lt}
use native.Mathlib.Omega.{arith}
use mathlib.Core.List.{List, [], ◌∷◌}
use mathlib.Core.Logic.{◌↔◌, ◌≢◌, inl, inr, by_cases}
use mathlib.Core.Path.{◌≡◌, refl, ap, sym, ◌∙◌}
use lib.ListN.{length, get_or, length-append}
use Rattle.theory.specs.Transducer.{Transducer}
use Rattle.theory.proofs.Terms.{conflict}
use Rattle.trees.specs.Alphabets.{inputs, outputs}
use Rattle.trees.specs.Code.{Mark}
use Rattle.formats.specs.Sheet.{mark_bytes, body_bytes, bodies_of, Sheet}
use Rattle.formats.proofs.Cuts.{length-mark_bytes}
use Rattle.trees.proofs.Judging.{accepted_holds}
use Rattle.formats.proofs.Sheets.{sheet_unique}
use Rattle.canonical.specs.Answers.{SewAlike}
use Rattle.comparison.specs.Answers.{Found, pair_check, Compares, FewerMarks, HandsShorter}
use Rattle.comparison.proofs.Comparing.{differ_unlike}

-- what is found says which
found_exact : {stock s s' : List ℕ} (tree tree' address address' : List ℕ) (v : Option Shown) → Found stock s s' tree tree' address address' v → (v ≡ None) ↔ SewAlike stock s s'
found_exact tree tree' address address' None F = (λ e. F.0, λ a. refl)
found_exact tree tree' address address' (Some v) F = (λ e. conflict (cc), λ a. absurd (differ_unlike F a))

-- Of two files accepted for comparison under one stock: the answer is alike exactly if the two sew alike.
pub compare_exact : {stock s s' tree tree' address address' : List ℕ} (r : Result (Option Shown) Refusal) {v : Option Shown} → Compares stock s s' tree tree' address address' r → outcome_of r ≡ accepted v → (v ≡ None) ↔ SewAlike stock s s'
compare_exact {stock} {s} {s'} {tree} {tree'} {address} {address'} r {v} J e = found_exact tree tree' address address' v (accepted_holds (rw e at J)).1

-- bodies of which the first has a mark have bytes
bytes_some : (bs : List (List Mark)) → 1 ≤ length bs → 1 ≤ length (get_or bs 0 []) → 1 ≤ length (body_bytes bs)
unfolding body_bytes
bytes_some [] h g = absurd (omega arith)
bytes_some (b ∷ bs) h g = omega (arith, length-append (mark_bytes b) (body_bytes bs), length-mark_bytes b, g)

-- so the marks of a file are never empty
marks_some : {ins outs s : List ℕ} {n : ℕ} {M : Transducer ℕ} (S : Sheet ins outs s n M) → S.bytes ≢ []
marks_some {ins} {n = n} {M} S e =
    let C = S.encodes.contents in
    let w = bytes_some (bodies_of (length ins) n M) (omega (arith, C.bodies)) (C.some 0 (omega (arith, C.bodies))) in
    absurd (omega (arith, ap length (S.encodes.marks_coded ∙ e)))

fewer_some : {stock s s' part : List ℕ} → FewerMarks stock s s' part → part ≢ []
fewer_some F e = by_cases (dec_lt (length F.sheet'.bytes) (length F.sheet.bytes)) (λ h. marks_some F.sheet' (sym (F.right h) ∙ e)) (λ h. marks_some F.sheet (sym (F.left (omega arith)) ∙ e))

-- Of two files accepted for comparison under one stock: the part that is handed out is not empty exactly if the two sew alike.
pub shorter_exact : {stock s s' part : List ℕ} → HandsShorter stock s s' part → Holds (pair_check stock s s') → SewAlike stock s s' ↔ (part ≢ [])
shorter_exact (inl (h, inl (a, F))) g = (λ b. fewer_some F, λ n. a)
shorter_exact (inl (h, inr (f, e))) g = (λ b. absurd (f b), λ n. absurd (n e))
shorter_exact (inr (f, e)) g = absurd (f g)

-- the marks of the one with fewer are one list of bytes
fewer_unique : {stock s s' part part' : List ℕ} → FewerMarks stock s s' part → FewerMarks stock s s' part' → part ≡ part'
fewer_unique {stock} {s} {s'} F G =
    let u : F.sheet.bytes ≡ G.sheet.bytes = (sheet_unique (inputs stock) (outputs stock) s F.states G.states F.machine G.machine F.sheet G.sheet).2 in
    let u' : F.sheet'.bytes ≡ G.sheet'.bytes = (sheet_unique (inputs stock) (outputs stock) s' F.states' G.states' F.machine' G.machine' F.sheet' G.sheet').2 in
    by_cases
    (dec_lt (length F.sheet'.bytes) (length F.sheet.bytes))
    (λ h. F.right h ∙ u' ∙ sym (G.right (omega (arith, ap length u, ap length u'))))
    (λ h. F.left (omega arith) ∙ u ∙ sym (G.left (omega (arith, ap length u, ap length u'))))

-- The contract of `shorter` determines the part that is handed out.
pub shorter_unique : {stock s s' part part' : List ℕ} → HandsShorter stock s s' part → HandsShorter stock s s' part' → part ≡ part'
shorter_unique (inl (h, inl (a, F))) (inl (h', inl (a', F'))) = fewer_unique F F'
shorter_unique (inl (h, inl (a, F))) (inl (h', inr (f, e))) = absurd (f a)
shorter_unique (inl (h, inr (f, e))) (inl (h', inl (a, F))) = absurd (f a)
shorter_unique (inl (h, inr (f, e))) (inl (h', inr (f', e'))) = e ∙ sym e'
shorter_unique (inl (h, g)) (inr (f, e)) = absurd (f h)
shorter_unique (inr (f, e)) (inl (h, g)) = absurd (f h)
shorter_unique (inr (f, e)) (inr (f', e')) = e ∙ sym e'
