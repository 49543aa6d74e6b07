-- A transducer in the sorts of a grammar gives on the allowed trees what it gives without, and is well-formed.
use Prim.Native.Nat.{ℕ, suc, ◌≤◌}
use native.Mathlib.Omega.{arith}
use mathlib.Core.Path.{◌≡◌, refl, sym, ap, ◌∙◌}
use mathlib.Core.List.{List, [], ◌∷◌}
use mathlib.Core.Option.{some}
use lib.ListN.{length}
use Rattle.theory.specs.Equivalent.{Equivalent}
use Rattle.theory.specs.Grammar.{Grammar, Allowed, rule, AllAllowed, end, next}
use Rattle.theory.specs.Sorted.{sort_of, sorted}
use Rattle.theory.specs.Term.{Term, Terms, Tree, mapT, bind}
use Rattle.theory.specs.Transducer.{Transducer, closed, pick, runs, output, translate}
use Rattle.theory.specs.Vars.{AllVars, one}
use Rattle.theory.specs.Wf.{nth, Wf}
use Rattle.theory.proofs.OpenRuns.{all_bind}
use Rattle.theory.proofs.Runs.{output_node, call}
use Rattle.theory.proofs.Terms.{bind_cong, bind_map}
use Rattle.theory.proofs.Vars.{all_map}

module _ {Q : Type 0} (G : Grammar) (M : Transducer Q) where
  mutual
    unfolding sorted sort_of call pick runs closed bind output nth

    -- ⟦(q, s)⟧ = ⟦q⟧ on the trees of sort s
    pub sorted_output : {s : ℕ} {d : Tree} → Allowed G s d → (q : Q) → output (sorted G M) d (q, s) ≡ output M d q
    sorted_output {s} (rule {a} {sorts} {ds} k all) q =
        output_node (sorted G M) (q, s) a ds
        ∙ (bind_map _ (M.rhs q a) (call (sorted G M) ds)
        ∙ (bind_cong (M.rhs q a) (λ e. ap (λ o. call (sorted G M) ds (e.0, (e.1, sort_of o e.0))) k ∙ sorted_call all e.0 e.1)
        ∙ sym (output_node M q a ds)))

    sorted_call : {sorts : List ℕ} {ds : Terms ⊥} → AllAllowed G sorts ds → (i : ℕ) (q : Q) → call (sorted G M) ds (i, (q, sort_of (some sorts) i)) ≡ call M ds (i, q)
    sorted_call end i q = refl
    sorted_call (next ok oks) ℕ.zero q = refl
    sorted_call (next ok oks) (suc ℕ.zero) q = sorted_output ok q
    sorted_call (next ok oks) (suc (suc i)) q = sorted_call oks (suc i) q

  -- ⟦M⟧ stays as it is on the trees of the grammar
  pub sorted_translate : {d : Tree} → Allowed G 0 d → translate (sorted G M) d ≡ translate M d
  unfolding translate sorted
  sorted_translate {d} ok = bind_map _ M.initial (λ e. output (sorted G M) d e.1) ∙ bind_cong M.initial (λ e. sorted_output ok e.1)

  pub sorted_equivalent : Equivalent G M (sorted G M)
  sorted_equivalent = record { translation = λ d ok. sym (sorted_translate ok) }

-- a child that is there has a sort
nth_there : (sorts : List ℕ) (i : ℕ) → 1 ≤ i → i ≤ length sorts → nth sorts i ≡ some (sort_of (some sorts) i)
unfolding nth sort_of
nth_there [] i p h = absurd (omega arith)
nth_there (s ∷ sorts) ℕ.zero p h = absurd (omega arith)
nth_there (s ∷ sorts) (suc ℕ.zero) p h = refl
nth_there (s ∷ sorts) (suc (suc i)) p h = nth_there sorts (suc i) (omega arith) (omega arith)

all_renamed : {A B : Type 0} {R : B → Type 0} (f : A → B) {t : Term A} → AllVars (λ e. R (f e)) t → AllVars R (mapT f t)
unfolding mapT
all_renamed f x = all_bind (all_map (λ e r. one r) x)

-- it is well-formed, if M calls valid states alone, on children that are there
pub sorted_wf : {Q : Type 0} {G : Grammar} (M : Transducer Q) {Valid : Q → Type 0} → AllVars (λ e. Valid e.1 × (e.0 ≡ 1)) M.initial
    → ((q : Q) (s a : ℕ) (sorts : List ℕ) → Valid q → G.children s a ≡ some sorts → AllVars (λ e. Valid e.1 × ((1 ≤ e.0) × (e.0 ≤ length sorts))) (M.rhs q a))
    → Wf G (sorted G M) (λ s. Valid s.0)
unfolding sorted sort_of nth
sorted_wf M i r = record {
  initial = all_renamed _ (all_map (λ e x. record { valid = x.0; sort = ap (nth (0 ∷ [])) x.1 ∙ nth_there (0 ∷ []) 1 (omega arith) (omega arith) }) i);
  rhs = λ s a {sorts} v k. all_renamed _ (all_map (λ e x. record { valid = x.0; sort = nth_there sorts e.0 x.1.0 x.1.1 ∙ ap (λ o. some (sort_of o e.0)) (sym k) }) (r s.0 s.1 a sorts v k));
}

-- grammars with the same children have the same trees: one sort that forbids nothing is the alphabet
module _ {G G' : Grammar} (same : (s a : ℕ) → G.children s a ≡ G'.children s a) where
  mutual
    pub allowed_same : {s : ℕ} {d : Tree} → Allowed G s d → Allowed G' s d
    allowed_same {s} (rule {a} k all) = rule (sym (same s a) ∙ k) (all_same all)

    all_same : {sorts : List ℕ} {ds : Terms ⊥} → AllAllowed G sorts ds → AllAllowed G' sorts ds
    all_same end = end
    all_same (next ok oks) = next (allowed_same ok) (all_same oks)
