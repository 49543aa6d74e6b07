-- Reading depth first comes to an end where the valid states are finitely many; so the listing in depth-first order exists.
use Prim.Native.Nat.{ℕ, ◌<◌, ◌≤◌, suc, ◌+◌}
use native.Mathlib.Omega.{arith}
use mathlib.Core.Path.{◌≡◌, refl}
use mathlib.Core.Logic.{◌⊎◌, ◌≢◌, inr, inl}
use mathlib.Core.List.{List, [], ◌∷◌, ◌++◌}
use mathlib.Core.Option.{some, Option, none as nothing}
use lib.ListN.{get_elem?, length, length-append}
use Rattle.theory.specs.Discovered.{read_call}
use Rattle.theory.specs.Distinct.{Distinct}
use Rattle.theory.specs.Grammar.{Grammar}
use Rattle.theory.specs.Preorder.{Visit, visit_old, visit_new, visit_node, Visits, visit_none, visit_more, VisitRhs, no_symbol, skip_symbol, visit_symbol, Preordered}
use Rattle.theory.specs.Registry.{added}
use Rattle.theory.specs.Term.{Term, var, Terms}
use Rattle.theory.specs.Transducer.{Transducer}
use Rattle.theory.specs.Vars.{AllVars, one, each, EachVars, done, both}
use Rattle.theory.specs.Wf.{Wf}
use Rattle.theory.proofs.Discovery.{Every, read_every}
use Rattle.theory.proofs.DiscoveryExists.{Finite, pigeon_list, find_in}
use Rattle.theory.proofs.Lists.{Extends, get_some, get_lt, enter_distinct, empty_distinct}
use Rattle.theory.proofs.Preorders.{visit_extends, visit_distinct, visit_valid}
use Rattle.theory.proofs.Terms.{conflict}
use Rattle.theory.proofs.Vars.{all_map}

-- a list that extends another is no shorter
pub extends_length : {I : Type 0} {R R' : List I} → Extends R R' → length R ≤ length R'
extends_length {R = []} x = omega arith
extends_length {R = y ∷ R} {R'} x = let z = get_some (y ∷ R) (length R) (omega arith) in get_lt R' (length R) (x.kept (length R) z.0 z.1)

-- a list of valid states, none of them twice; at most k more can be listed
record Room {Q : Type 0} (Valid : Q → Type 0) (F : List Q) (k : ℕ) (L : List Q) : Type 0 where
  distinct : Distinct L
  valid : Every Valid L
  fuel : length F < k + length L

module _ {Q : Type 0} (dec : Discrete Q) {G : Grammar} {M : Transducer Q} {Valid : Q → Type 0} (W : Wf G M Valid) {F : List Q} (fin : Finite Valid F) where
  room_visit : {k : ℕ} {t : Term (ℕ × Q)} {L L' : List Q} → Visit G M t L L' → AllVars (λ e. Valid e.1) t → Room Valid F k L → Room Valid F k L'
  room_visit r p h = record { distinct = visit_distinct r h.distinct; valid = visit_valid W r p h.valid; fuel = let l = extends_length (visit_extends r) in omega (arith, h.fuel) }

  module _ (k : ℕ) (below : (q : Q) → Valid q → (L : List Q) → Room Valid F k L → (L' : List Q) × VisitRhs G M q 0 L L') where
    visit_call : (e : ℕ × Q) → Valid e.1 → (L : List Q) → Room Valid F (suc k) L → ((n : ℕ) × (get_elem? L n ≡ some e.1)) ⊎ ((n : ℕ) → get_elem? L n ≢ some e.1) → (L' : List Q) × Visit G M (var e) L L'
    visit_call e v L h (inl s) = (L, visit_old (record { number = s.0; there = s.1 }))
    visit_call e v L h (inr f) =
        let x = below e.1 v (L ++ e.1 ∷ []) (record {
          distinct = enter_distinct (added f) h.distinct;
          valid = read_every {t = var e} (read_call (added f)) h.valid (one v);
          fuel = omega (arith, h.fuel, length-append L (e.1 ∷ []));
        }) in
        (x.0, visit_new (λ s. f s.number s.there) x.1)

    mutual
      visit_term : {t : Term (ℕ × Q)} → AllVars (λ e. Valid e.1) t → (L : List Q) → Room Valid F (suc k) L → (L' : List Q) × Visit G M t L L'
      visit_term (one {a = e} v) L h = visit_call e v L h (find_in dec L e.1)
      visit_term (each ps) L h = let x = visit_terms ps L h in (x.0, visit_node x.1)

      visit_terms : {ts : Terms (ℕ × Q)} → EachVars (λ e. Valid e.1) ts → (L : List Q) → Room Valid F (suc k) L → (L' : List Q) × Visits G M ts L L'
      visit_terms done L h = (L, visit_none)
      visit_terms (both p ps) L h =
          let x = visit_term p L h in
          let y = visit_terms ps x.0 (room_visit x.1 p h) in
          (y.0, visit_more x.1 y.1)

  visit_symbols : (k : ℕ) → ((t : Term (ℕ × Q)) → AllVars (λ e. Valid e.1) t → (L : List Q) → Room Valid F k L → (L' : List Q) × Visit G M t L L')
      → (j a : ℕ) → a + j ≡ G.symbols → (q : Q) → Valid q → (L : List Q) → Room Valid F k L → (L' : List Q) × VisitRhs G M q a L L'
  visit_symbols k term ℕ.zero a z q v L h = let l : G.symbols ≤ a = omega arith in (L, no_symbol l)
  visit_symbols k term (suc j) a z q v L h = go (G.children (M.sort q) a) refl (λ L' h'. visit_symbols k term j (suc a) (omega arith) q v L' h')
    where
      go : (o : Option (List ℕ)) → G.children (M.sort q) a ≡ o → ((L₁ : List Q) → Room Valid F k L₁ → (L' : List Q) × VisitRhs G M q (suc a) L₁ L') → (L' : List Q) × VisitRhs G M q a L L'
      go nothing e next = let l : a < G.symbols = omega arith in let x = next L h in (x.0, skip_symbol l e x.1)
      go (some sorts) e next =
          let p = all_map (λ e f. f.valid) (W.rhs q a v e) in
          let x = term (M.rhs q a) p L h in
          let y = next x.0 (room_visit x.1 p h) in
          (y.0, visit_symbol e x.1 y.1)

  visit_fuel : (k : ℕ) {t : Term (ℕ × Q)} → AllVars (λ e. Valid e.1) t → (L : List Q) → Room Valid F k L → (L' : List Q) × Visit G M t L L'
  visit_fuel ℕ.zero p L h = absurd (omega (arith, pigeon_list h.distinct h.valid fin, h.fuel))
  visit_fuel (suc k) p L h = visit_term k (λ q v L₁ h₁. visit_symbols k (λ t' p' L₂ h₂. visit_fuel k p' L₂ h₂) G.symbols 0 (omega arith) q v L₁ h₁) p L h

  -- The states can be listed in depth-first order.
  pub preordered_exists : (L : List Q) × Preordered G M L
  preordered_exists = visit_fuel (suc (length F)) (all_map (λ e f. f.valid) W.initial) [] (record { distinct = empty_distinct; valid = record { every = λ n q e. conflict (cc) }; fuel = omega arith })
