-- Reading depth first: what it lists, that it leads to one list, and that a one_to_one map of states carries it over.
use Prim.Native.Nat.{ℕ, ◌≤◌}
use native.Mathlib.Decide.{ℕ_discrete}
use native.Mathlib.Omega.{arith}
use mathlib.Core.Path.{◌≡◌, refl, ap, ◌∙◌}
use mathlib.Core.Logic.{by_cases, ◌⊎◌, inl, inr, ⊎_elim}
use mathlib.Core.List.{List, [], ◌∷◌, ◌++◌, map, map-append}
use mathlib.Core.Option.{some}
use lib.ListN.{length}
use Rattle.theory.specs.Discovered.{read_call}
use Rattle.theory.specs.Distinct.{Distinct}
use Rattle.theory.specs.Grammar.{Grammar}
use Rattle.theory.specs.Inner.Closed.{Closed, Listed}
use Rattle.theory.specs.Listing.{Indexes}
use Rattle.theory.specs.Preorder.{Visit, visit_old, visit_new, visit_node, Visits, visit_none, visit_more, VisitRhs, no_symbol, skip_symbol, visit_symbol, Preordered}
use Rattle.theory.specs.Registry.{added}
use Rattle.theory.specs.Rule.{Stands}
use Rattle.theory.specs.Term.{Term, Terms, var, bind, binds, mapT}
use Rattle.theory.specs.Transducer.{Transducer, renamed}
use Rattle.theory.specs.Vars.{AllVars, one, each, EachVars, done, both}
use Rattle.theory.specs.Wf.{Wf}
use Rattle.theory.proofs.Discovery.{Every, read_every}
use Rattle.theory.proofs.Lists.{Extends, extends_refl, extends_trans, enter_extends, enter_distinct, empty_distinct, get_last, get_snoc}
use Rattle.theory.proofs.Morphism.{Maps}
use Rattle.theory.proofs.Readings.{get_map, map_get}
use Rattle.theory.proofs.Terms.{conflict}
use Rattle.theory.proofs.Vars.{all_map}

-- what stands in a list stands in one that extends it
stands_extend : {Q : Type 0} {L L' : List Q} {q : Q} → Extends L L' → Stands L q → Stands L' q
stands_extend {q = q} x s = record { number = s.number; there = x.kept s.number q s.there }

-- a state of the list stands at its number
pub stands_listed : {Q : Type 0} {F : List Q} {idx : Q → ℕ} {q : Q} → Indexes F idx → Stands F q → Listed F idx q
stands_listed {q = q} I s = rw (I.index s.number q s.there) s.there

-- all right-hand sides of q call listed states
record ClosedAt {Q : Type 0} (G : Grammar) (M : Transducer Q) (L : List Q) (q : Q) : Type 0 where
  calls : (a : ℕ) (sorts : List ℕ) → G.children (M.sort q) a ≡ some sorts → AllVars (λ e. Stands L e.1) (M.rhs q a)

closed_extend : {Q : Type 0} {G : Grammar} {M : Transducer Q} {L L' : List Q} {q : Q} → Extends L L' → ClosedAt G M L q → ClosedAt G M L' q
closed_extend x c = record { calls = λ a sorts k. all_map (λ e s. stands_extend x s) (c.calls a sorts k) }

module _ {Q : Type 0} {G : Grammar} {M : Transducer Q} where
  mutual
    -- reading keeps what is listed, at its number
    pub visit_extends : {t : Term (ℕ × Q)} {L L' : List Q} → Visit G M t L L' → Extends L L'
    visit_extends (visit_old e) = extends_refl
    visit_extends (visit_new f r) = extends_trans (enter_extends (added (λ n e. f (record { number = n; there = e })))) (visit_rhs_extends r)
    visit_extends (visit_node r) = visits_extend r

    visits_extend : {ts : Terms (ℕ × Q)} {L L' : List Q} → Visits G M ts L L' → Extends L L'
    visits_extend visit_none = extends_refl
    visits_extend (visit_more r rs) = extends_trans (visit_extends r) (visits_extend rs)

    pub visit_rhs_extends : {q : Q} {a : ℕ} {L L' : List Q} → VisitRhs G M q a L L' → Extends L L'
    visit_rhs_extends (no_symbol l) = extends_refl
    visit_rhs_extends (skip_symbol l k r) = visit_rhs_extends r
    visit_rhs_extends (visit_symbol k t r) = extends_trans (visit_extends t) (visit_rhs_extends r)

  mutual
    -- no state is listed twice
    pub visit_distinct : {t : Term (ℕ × Q)} {L L' : List Q} → Visit G M t L L' → Distinct L → Distinct L'
    visit_distinct (visit_old e) d = d
    visit_distinct (visit_new f r) d = visit_rhs_distinct r (enter_distinct (added (λ n e. f (record { number = n; there = e }))) d)
    visit_distinct (visit_node r) d = visits_distinct r d

    visits_distinct : {ts : Terms (ℕ × Q)} {L L' : List Q} → Visits G M ts L L' → Distinct L → Distinct L'
    visits_distinct visit_none d = d
    visits_distinct (visit_more r rs) d = visits_distinct rs (visit_distinct r d)

    pub visit_rhs_distinct : {q : Q} {a : ℕ} {L L' : List Q} → VisitRhs G M q a L L' → Distinct L → Distinct L'
    visit_rhs_distinct (no_symbol l) d = d
    visit_rhs_distinct (skip_symbol l k r) d = visit_rhs_distinct r d
    visit_rhs_distinct (visit_symbol k t r) d = visit_rhs_distinct r (visit_distinct t d)

  mutual
    -- reading from one list leads to one list
    pub visit_same : {t : Term (ℕ × Q)} {L L' L'' : List Q} → Visit G M t L L' → Visit G M t L L'' → L' ≡ L''
    visit_same (visit_old e) (visit_old e') = refl
    visit_same (visit_old e) (visit_new f r) = absurd (f e)
    visit_same (visit_new f r) (visit_old e) = absurd (f e)
    visit_same (visit_new f r) (visit_new f' r') = visit_rhs_same r r'
    visit_same (visit_node r) (visit_node r') = visits_same r r'

    visits_same : {ts : Terms (ℕ × Q)} {L L' L'' : List Q} → Visits G M ts L L' → Visits G M ts L L'' → L' ≡ L''
    visits_same visit_none visit_none = refl
    visits_same (visit_more r rs) (visit_more r' rs') = visits_same rs (rw (← visit_same r r') at rs')

    pub visit_rhs_same : {q : Q} {a : ℕ} {L L' L'' : List Q} → VisitRhs G M q a L L' → VisitRhs G M q a L L'' → L' ≡ L''
    visit_rhs_same (no_symbol l) (no_symbol l') = refl
    visit_rhs_same (no_symbol l) (skip_symbol l' k r) = absurd (omega arith)
    visit_rhs_same (no_symbol l) (visit_symbol k t r) = absurd (omega (arith, G.bounded _ _ k))
    visit_rhs_same (skip_symbol l k r) (no_symbol l') = absurd (omega arith)
    visit_rhs_same (skip_symbol l k r) (skip_symbol l' k' r') = visit_rhs_same r r'
    visit_rhs_same (skip_symbol l k r) (visit_symbol k' t r') = conflict (cc)
    visit_rhs_same (visit_symbol k t r) (no_symbol l) = absurd (omega (arith, G.bounded _ _ k))
    visit_rhs_same (visit_symbol k t r) (skip_symbol l' k' r') = conflict (cc)
    visit_rhs_same (visit_symbol k t r) (visit_symbol k' t' r') = visit_rhs_same r (rw (← visit_same t t') at r')

  mutual
    -- the states that a term calls are listed after reading it
    pub visit_calls : {t : Term (ℕ × Q)} {L L' : List Q} → Visit G M t L L' → AllVars (λ e. Stands L' e.1) t
    visit_calls (visit_old e) = one e
    visit_calls (visit_new {e} {L} f r) = one (record { number = length L; there = (visit_rhs_extends r).kept (length L) e.1 (get_last L e.1) })
    visit_calls (visit_node r) = each (visits_calls r)

    visits_calls : {ts : Terms (ℕ × Q)} {L L' : List Q} → Visits G M ts L L' → EachVars (λ e. Stands L' e.1) ts
    visits_calls visit_none = done
    visits_calls (visit_more r rs) = both (all_map (λ e s. stands_extend (visits_extend rs) s) (visit_calls r)) (visits_calls rs)

  -- the states that the right-hand sides of q for the symbols from a on call are listed after reading them
  visit_rhs_calls : {q : Q} {a : ℕ} {L L' : List Q} → VisitRhs G M q a L L' → (b : ℕ) (sorts : List ℕ) → a ≤ b → G.children (M.sort q) b ≡ some sorts → AllVars (λ e. Stands L' e.1) (M.rhs q b)
  visit_rhs_calls (no_symbol l) b sorts m k = absurd (omega (arith, G.bounded _ b k))
  visit_rhs_calls (skip_symbol {a} l h r) b sorts m k = by_cases (ℕ_discrete b a) (λ z. let k' = rw z at k in conflict (cc)) (λ n. visit_rhs_calls r b sorts (omega arith) k)
  visit_rhs_calls (visit_symbol {a} h t r) b sorts m k = by_cases (ℕ_discrete b a) (λ z. rw z (all_map (λ e s. stands_extend (visit_rhs_extends r) s) (visit_calls t))) (λ n. visit_rhs_calls r b sorts (omega arith) k)

  entered_closed : {L L' : List Q} {q r : Q} → VisitRhs G M r 0 (L ++ r ∷ []) L' → Stands (L ++ r ∷ []) q → Stands L q ⊎ ClosedAt G M L' q
  entered_closed {L} {r = r} v s = ⊎_elim (λ e. inl (record { number = s.number; there = e })) (λ e. inr (record { calls = λ a sorts k. rw e.1 (visit_rhs_calls v a sorts (omega arith) (rw e.1 at k)) })) (get_snoc L r s.number s.there)

  then_closed : {L L' L'' : List Q} {q : Q} → (Stands L' q → Stands L q ⊎ ClosedAt G M L' q) → Extends L' L'' → Stands L' q ⊎ ClosedAt G M L'' q → Stands L q ⊎ ClosedAt G M L'' q
  then_closed f x (inl s) = ⊎_elim inl (λ c. inr (closed_extend x c)) (f s)
  then_closed f x (inr c) = inr c

  mutual
    -- a state that is listed after reading was listed before, or all its right-hand sides call listed states
    visit_closed : {t : Term (ℕ × Q)} {L L' : List Q} → Visit G M t L L' → (q : Q) → Stands L' q → Stands L q ⊎ ClosedAt G M L' q
    visit_closed (visit_old e) q s = inl s
    visit_closed (visit_new f r) q s = ⊎_elim (λ s'. entered_closed r s') inr (visit_rhs_closed r q s)
    visit_closed (visit_node r) q s = visits_closed r q s

    visits_closed : {ts : Terms (ℕ × Q)} {L L' : List Q} → Visits G M ts L L' → (q : Q) → Stands L' q → Stands L q ⊎ ClosedAt G M L' q
    visits_closed visit_none q s = inl s
    visits_closed (visit_more r rs) q s = then_closed (λ s'. visit_closed r q s') (visits_extend rs) (visits_closed rs q s)

    visit_rhs_closed : {r : Q} {a : ℕ} {L L' : List Q} → VisitRhs G M r a L L' → (q : Q) → Stands L' q → Stands L q ⊎ ClosedAt G M L' q
    visit_rhs_closed (no_symbol l) q s = inl s
    visit_rhs_closed (skip_symbol l k r) q s = visit_rhs_closed r q s
    visit_rhs_closed (visit_symbol k t r) q s = then_closed (λ s'. visit_closed t q s') (visit_rhs_extends r) (visit_rhs_closed r q s)

  -- A list of the states in depth-first order is closed.
  pub preordered_closed : {F : List Q} {idx : Q → ℕ} → Indexes F idx → Preordered G M F → Closed G M F idx
  preordered_closed {F} {idx} I v = record {
    initial = all_map (λ e s. stands_listed I s) (visit_calls v);
    rhs = λ q a l k. all_map (λ e s. stands_listed I s) (⊎_elim (λ s. conflict (cc s.there)) (λ c. c.calls a _ k) (visit_closed v q (record { number = idx q; there = l })));
  }

  -- No state is listed twice.
  pub preordered_distinct : {F : List Q} → Preordered G M F → Distinct F
  preordered_distinct v = visit_distinct v empty_distinct

  module _ {Valid : Q → Type 0} (W : Wf G M Valid) where
    mutual
      -- every state is valid after reading a term that calls valid ones
      pub visit_valid : {t : Term (ℕ × Q)} {L L' : List Q} → Visit G M t L L' → AllVars (λ e. Valid e.1) t → Every Valid L → Every Valid L'
      visit_valid (visit_old e) p l = l
      visit_valid (visit_new {e} f r) (one p) l = visit_rhs_valid r p (read_every {t = var e} (read_call (added (λ n z. f (record { number = n; there = z })))) l (one p))
      visit_valid (visit_node r) (each ps) l = visits_valid r ps l

      visits_valid : {ts : Terms (ℕ × Q)} {L L' : List Q} → Visits G M ts L L' → EachVars (λ e. Valid e.1) ts → Every Valid L → Every Valid L'
      visits_valid visit_none done l = l
      visits_valid (visit_more r rs) (both p ps) l = visits_valid rs ps (visit_valid r p l)

      pub visit_rhs_valid : {q : Q} {a : ℕ} {L L' : List Q} → VisitRhs G M q a L L' → Valid q → Every Valid L → Every Valid L'
      visit_rhs_valid (no_symbol l) v s = s
      visit_rhs_valid (skip_symbol l k r) v s = visit_rhs_valid r v s
      visit_rhs_valid {q} (visit_symbol {a} k t r) v s = visit_rhs_valid r v (visit_valid t (all_map (λ e f. f.valid) (W.rhs q a v k)) s)

    -- Every listed state is valid.
    pub preordered_valid : {F : List Q} → Preordered G M F → Every Valid F
    preordered_valid v = visit_valid v (all_map (λ e f. f.valid) W.initial) (record { every = λ n q e. conflict (cc) })

-- A map of states that keeps right-hand sides and sorts, and takes no two valid states to one, carries reading over.
module _ {Q Q' : Type 0} {G : Grammar} {M : Transducer Q} {M' : Transducer Q'} {Valid : Q → Type 0} {f : Q → Q'} (W : Wf G M Valid) (F : Maps G M M' Valid f) (same-sort : (q : Q) → Valid q → M'.sort (f q) ≡ M.sort q) (inj : (q r : Q) → Valid q → Valid r → f q ≡ f r → q ≡ r) where
  stands_mapped : {L : List Q} {q : Q} → Valid q → Every Valid L → Stands (map f L) (f q) → Stands L q
  stands_mapped {L} {q} v l s = let x = map_get f L s.number s.there in record { number = s.number; there = rw (inj x.0 q (l.every s.number x.0 x.1) v x.2) at x.1 }

  mutual
    unfolding renamed mapT bind

    -- a renamed term is read as the term is
    pub visit_mapped : {t : Term (ℕ × Q)} {L L' : List Q} → Visit G M t L L' → AllVars (λ e. Valid e.1) t → Every Valid L → Visit G M' (renamed f t) (map f L) (map f L')
    visit_mapped (visit_old {L} s) p l = visit_old (record { number = s.number; there = get_map f L s.number s.there })
    visit_mapped (visit_new {e} {L} g r) (one v) l =
        let l' = read_every {t = var e} (read_call (added (λ n z. g (record { number = n; there = z })))) l (one v) in
        visit_new (λ s. g (stands_mapped v l s)) (rw (map-append f L (e.1 ∷ [])) at (visit_rhs_mapped r v l'))
    visit_mapped (visit_node r) (each ps) l = visit_node (visits_mapped r ps l)

    visits_mapped : {ts : Terms (ℕ × Q)} {L L' : List Q} → Visits G M ts L L' → EachVars (λ e. Valid e.1) ts → Every Valid L → Visits G M' (binds ts (λ e. var (e.0, f e.1))) (map f L) (map f L')
    visits_mapped visit_none done l = visit_none
    visits_mapped (visit_more r rs) (both p ps) l = visit_more (visit_mapped r p l) (visits_mapped rs ps (visit_valid W r p l))

    pub visit_rhs_mapped : {q : Q} {a : ℕ} {L L' : List Q} → VisitRhs G M q a L L' → Valid q → Every Valid L → VisitRhs G M' (f q) a (map f L) (map f L')
    visit_rhs_mapped (no_symbol l) v s = no_symbol l
    visit_rhs_mapped {q} (skip_symbol {a} l k r) v s = skip_symbol l (ap (λ s. G.children s a) (same-sort q v) ∙ k) (visit_rhs_mapped r v s)
    visit_rhs_mapped {q} (visit_symbol {a} k t r) v s =
        let p = all_map (λ e f. f.valid) (W.rhs q a v k) in
        visit_symbol (ap (λ s. G.children s a) (same-sort q v) ∙ k) (rw (← F.rhs q a v k) at (visit_mapped t p s)) (visit_rhs_mapped r v (visit_valid W t p s))

  -- The depth-first order carries over.
  pub preordered_mapped : {L : List Q} → Preordered G M L → Preordered G M' (map f L)
  preordered_mapped v = rw (← F.initial) at (visit_mapped v (all_map (λ e f. f.valid) W.initial) (record { every = λ n q e. conflict (cc) }))
