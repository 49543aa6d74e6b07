-- The states that are reached: the least set with the states of the initial term that goes with the calls; they are those of the list in the order of first meeting.
use Prim.Native.Nat.{ℕ, ◌<◌}
use mathlib.Core.Path.{◌≡◌, sym}
use mathlib.Core.Logic.{◌↔◌}
use mathlib.Core.List.{List}
use mathlib.Core.Option.{some}
use lib.ListN.{get_elem?}
use Rattle.theory.specs.Discovered.{Discovered}
use Rattle.theory.specs.Grammar.{Grammar}
use Rattle.theory.specs.Inner.Closed.{Listed, Closed}
use Rattle.theory.specs.Linear.{Once, Linear}
use Rattle.theory.specs.NormalForm.{Identical}
use Rattle.theory.specs.Reached.{Reached, by_initial, by_rhs}
use Rattle.theory.specs.Term.{Term}
use Rattle.theory.specs.Transducer.{Transducer}
use Rattle.theory.specs.Vars.{AllVars}
use Rattle.theory.specs.Wf.{Wf, Fits}
use Rattle.theory.proofs.Discovery.{states_valid}
use Rattle.theory.proofs.Identity.{identical_sym, identical_wf}
use Rattle.theory.proofs.Listings.{all_both}
use Rattle.theory.proofs.Vars.{all_at, all_map, at_all}

module _ {Q : Type 0} (G : Grammar) (M : Transducer Q) where
  -- the states of the initial term are reached
  pub reached_initial : AllVars (λ e. Reached G M e.1) M.initial
  reached_initial = at_all M.initial (λ v e s. by_initial (record { address = v; child = e.0; there = s }))

  -- what a state calls that is reached is reached
  pub reached_rhs : (q : Q) (a : ℕ) {sorts : List ℕ} → Reached G M q → G.children (M.sort q) a ≡ some sorts → AllVars (λ e. Reached G M e.1) (M.rhs q a)
  reached_rhs q a r k = at_all (M.rhs q a) (λ v e s. by_rhs r k (record { address = v; child = e.0; there = s }))

module _ {Q : Type 0} {G : Grammar} {M : Transducer Q} (P : Q → Type 0) (initial : AllVars (λ e. P e.1) M.initial)
    (rhs : (q : Q) (a : ℕ) (sorts : List ℕ) → P q → G.children (M.sort q) a ≡ some sorts → AllVars (λ e. P e.1) (M.rhs q a)) where
  -- What has the states of the initial term and goes with the calls has every state that is reached.
  pub reached_least : {q : Q} → Reached G M q → P q
  reached_least (by_initial c) = all_at initial c.address c.there
  reached_least (by_rhs {p} {a = a} r k c) = all_at (rhs p a _ (reached_least r) k) c.address c.there

  -- If it has only states that are reached, it has just these: what a program that marks states, and ends when no call leads further, has marked.
  pub reached_exact : ((q : Q) → P q → Reached G M q) → (q : Q) → P q ↔ Reached G M q
  reached_exact only q = (only q, reached_least)

module _ {Q : Type 0} {G : Grammar} {M : Transducer Q} {Valid : Q → Type 0} (W : Wf G M Valid) where
  -- a state that is reached is valid
  pub reached_valid : {q : Q} → Reached G M q → Valid q
  reached_valid = reached_least Valid (all_map (λ e f. f.valid) W.initial) (λ q a sorts v k. all_map (λ e f. f.valid) (W.rhs q a v k))

  reached_fits : {sorts : List ℕ} {t : Term (ℕ × Q)} → AllVars (Fits M Valid sorts) t → AllVars (λ e. Reached G M e.1) t → AllVars (Fits M (Reached G M) sorts) t
  reached_fits f r = all_map (λ e p. record { valid = p.1; sort = p.0.sort }) (all_both f r)

  -- M is well-formed on the states that are reached
  pub reached_wf : Wf G M (Reached G M)
  reached_wf = record { initial = reached_fits W.initial (reached_initial G M); rhs = λ q a r k. reached_fits (W.rhs q a (reached_valid r) k) (reached_rhs G M q a r k) }

  -- the states met are those that are reached
  pub met_reached : {L : List Q} → Discovered G M L → (n : ℕ) (q : Q) → get_elem? L n ≡ some q → Reached G M q
  met_reached d n q e = (states_valid reached_wf d).every n q e

-- a state that is reached is listed at its number
pub reached_listed : {Q : Type 0} {G : Grammar} {M : Transducer Q} {L : List Q} {idx : Q → ℕ} → Closed G M L idx → {q : Q} → Reached G M q → Listed L idx q
reached_listed {L} {idx} C = reached_least (Listed L idx) C.initial (λ q a sorts v k. C.rhs q a v k)

-- where every valid state is reached, M is linear exactly if its initial term and all right-hand sides of valid states are
pub linear_all : {Q : Type 0} {G : Grammar} {M : Transducer Q} {Valid : Q → Type 0} → Wf G M Valid → ((q : Q) → Valid q → Reached G M q)
    → Linear G M ↔ (Once M.initial × ((q : Q) (a : ℕ) (sorts : List ℕ) → Valid q → G.children (M.sort q) a ≡ some sorts → Once (M.rhs q a)))
linear_all W all = (λ l. (l.initial, λ q a sorts v k. l.rhs q a (all q v) k), λ h. record { initial = h.0; rhs = λ q a r k. h.1 q a _ (reached_valid W r) k })

-- identical transducers reach the same states
pub identical_reached : {G : Grammar} {M M' : Transducer ℕ} {n n' : ℕ} → Wf G M (λ q. q < n) → Identical G M M' n n' → {q : ℕ} → Reached G M q → Reached G M' q
identical_reached {G} {M} {M'} {n} W i r =
    (reached_least (λ q. (q < n) × Reached G M' q)
    (all_both (all_map (λ e f. f.valid) W.initial) (rw i.initial (reached_initial G M')))
    (λ q a sorts p k.
    let t : M.rhs q a ≡ M'.rhs q a = i.rhs q a sorts p.0 k in
    let k' : G.children (M'.sort q) a ≡ some sorts = rw (i.sort q p.0) at k in
    all_both (all_map (λ e f. f.valid) (W.rhs q a p.0 k)) (rw t (reached_rhs G M' q a p.1 k')))
    r).1

-- so both are linear, or none
pub identical_linear : {G : Grammar} {M M' : Transducer ℕ} {n n' : ℕ} → Wf G M (λ q. q < n) → Identical G M M' n n' → Linear G M → Linear G M'
identical_linear {G} {M} {M'} W i l = record {
  initial = rw (← i.initial) l.initial;
  rhs = λ q a r k.
      let r' = identical_reached (identical_wf i W) (identical_sym i) r in
      let v = reached_valid W r' in
      let k' : G.children (M.sort q) a ≡ some _ = rw (← i.sort q v) at k in
      let t : M'.rhs q a ≡ M.rhs q a = sym (i.rhs q a _ v k') in
      rw t (l.rhs q a r' k');
}
