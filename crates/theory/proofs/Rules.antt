-- Rule 1, the order of first meeting, and rule 2, the depth-first order, are numbering rules.
use Prim.Native.Nat.{ℕ, ◌<◌, suc}
use native.Mathlib.Decide.{ℕ_discrete}
use native.Mathlib.Omega.{arith}
use mathlib.Core.Path.{ap, ◌∙◌}
use mathlib.Core.List.{List}
use mathlib.Core.Option.{some}
use Rattle.theory.specs.Discovered.{Discovered}
use Rattle.theory.specs.Grammar.{Grammar}
use Rattle.theory.specs.Inner.Closed.{Closed, Listed}
use Rattle.theory.specs.Numbered.{count_up}
use Rattle.theory.specs.Orders.{first_meeting, depth_first, order_of}
use Rattle.theory.specs.Preorder.{Preordered}
use Rattle.theory.specs.Reached.{Reached, by_initial, by_rhs}
use Rattle.theory.specs.Rule.{IsRule, Renumbers, Stands}
use Rattle.theory.specs.Transducer.{Transducer}
use Rattle.theory.specs.Wf.{Wf}
use Rattle.theory.proofs.Discovery.{states_valid, states_distinct, discovered_closed, distinct_indexes, index_of}
use Rattle.theory.proofs.DiscoveryExists.{Finite, discovered_exists}
use Rattle.theory.proofs.Morphism.{Maps}
use Rattle.theory.proofs.Numbers.{count_get}
use Rattle.theory.proofs.PreorderExists.{preordered_exists}
use Rattle.theory.proofs.Preorders.{visit_same, preordered_closed, preordered_distinct, preordered_valid, preordered_mapped}
use Rattle.theory.proofs.Readings.{discovered_unique, discovered_mapped}
use Rattle.theory.proofs.Vars.{all_at, at_all}

-- the states below n are finitely many
pub finite_below : (n : ℕ) → Finite (λ q. q < n) (count_up 0 n)
finite_below n = record { place = λ q l. (q, count_get 0 n q l ∙ ap some (omega arith)) }

module _ {Q : Type 0} {G : Grammar} {M : Transducer Q} where
  -- a closed list has every reached state
  pub closed_reached : {L : List Q} {idx : Q → ℕ} {q : Q} → Closed G M L idx → Reached G M q → Listed L idx q
  closed_reached C (by_initial c) = all_at C.initial c.address c.there
  closed_reached C (by_rhs {p} {a = a} r k c) = all_at (C.rhs p a (closed_reached C r) k) c.address c.there

  module _ {Valid : Q → Type 0} (W : Wf G M Valid) where
    -- M is well-formed on its reached states
    pub reached_wf : Wf G M (λ q. Valid q × Reached G M q)
    reached_wf = record {
      initial = at_all M.initial (λ v e s. let f = all_at W.initial v s in record { valid = (f.valid, by_initial (record { address = v; child = e.0; there = s })); sort = f.sort });
      rhs = λ q a r k. at_all (M.rhs q a) (λ v e s. let f = all_at (W.rhs q a r.0 k) v s in record { valid = (f.valid, by_rhs r.1 k (record { address = v; child = e.0; there = s })); sort = f.sort });
    }

    -- reached states are valid
    pub reached_valid : {q : Q} → Reached G M q → Valid q
    reached_valid (by_initial c) = (all_at W.initial c.address c.there).valid
    reached_valid (by_rhs {p} {a = a} r k c) = (all_at (W.rhs p a (reached_valid r) k) c.address c.there).valid

discovered_stands : {G : Grammar} {M : Transducer ℕ} {L : List ℕ} {q : ℕ} → Discovered G M L → Reached G M q → Stands L q
discovered_stands {L} {q} d r = record { number = index_of ℕ_discrete L q; there = closed_reached (discovered_closed (distinct_indexes ℕ_discrete (states_distinct d)) d) r }

preordered_stands : {G : Grammar} {M : Transducer ℕ} {L : List ℕ} {q : ℕ} → Preordered G M L → Reached G M q → Stands L q
preordered_stands {L} {q} d r = record { number = index_of ℕ_discrete L q; there = closed_reached (preordered_closed (distinct_indexes ℕ_discrete (preordered_distinct d)) d) r }

-- a transducer with other numbers is the image of M
pub renumbers_maps : {G : Grammar} {M M' : Transducer ℕ} {n : ℕ} {f : ℕ → ℕ} → Renumbers G M M' n f → Maps G M M' (λ q. q < n) f
renumbers_maps r = record { initial = r.initial; rhs = λ q a l k. r.rhs q a l k }

-- Rule 1, the order of first meeting, is a numbering rule.
pub meeting_rule : (G : Grammar) → IsRule G (first_meeting G)
meeting_rule G = record {
  some_list = λ M n W. discovered_exists ℕ_discrete W (finite_below n);
  one_list = λ W d d'. discovered_unique d d';
  reached = λ W d q. (λ r. discovered_stands d r, λ s. ((states_valid (reached_wf W) d).every s.number q s.there).1);
  once = λ W d. states_distinct d;
  same_order = λ W r d. discovered_mapped W (renumbers_maps r) r.sort r.one_to_one d;
}

-- Rule 2, the depth-first order, is a numbering rule.
pub depth_rule : (G : Grammar) → IsRule G (depth_first G)
depth_rule G = record {
  some_list = λ M n W. preordered_exists ℕ_discrete W (finite_below n);
  one_list = λ W d d'. visit_same d d';
  reached = λ W d q. (λ r. preordered_stands d r, λ s. ((preordered_valid (reached_wf W) d).every s.number q s.there).1);
  once = λ W d. preordered_distinct d;
  same_order = λ W r d. preordered_mapped W (renumbers_maps r) r.sort r.one_to_one d;
}

-- Both rules are numbering rules.
pub order_rule : (k : ℕ) (G : Grammar) → IsRule G (order_of k G)
unfolding order_of
order_rule ℕ.zero G = meeting_rule G
order_rule (suc ℕ.zero) G = meeting_rule G
order_rule (suc (suc k)) G = depth_rule G
