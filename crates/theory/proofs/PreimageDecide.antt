-- Marking pairs as long as one more can be marked ends with a table that is justified and saturated: so it is decided whether a tree is an output.
use Prim.Native.Nat.{ℕ, suc, ◌+◌, ◌*◌, ◌≤◌, ◌<◌}
use native.Mathlib.Decide.{ℕ_discrete, dec_lt}
use native.Mathlib.Omega.{arith}
use mathlib.Core.Path.{◌≡◌, refl, ap}
use mathlib.Core.Logic.{◌⊎◌, inl, inr, ⊎_elim, by_cases, ite, if_pos, if_neg}
use mathlib.Core.List.{List}
use mathlib.Core.Option.{Option, some, none as nothing}
use lib.Dec.{eqb}
use lib.ListN.{length}
use Rattle.theory.specs.Grammar.{Grammar}
use Rattle.theory.specs.Linear.{Linear}
use Rattle.theory.specs.Reached.{Reached}
use Rattle.theory.specs.Matched.{At, Matched, demand, symbol, MatchedAll, matched_none, matched_more, Justified, Saturated}
use Rattle.theory.specs.Preimage.{Preimage}
use Rattle.theory.specs.Size.{size}
use Rattle.theory.specs.Sum.{sum}
use Rattle.theory.specs.Term.{Term, var, node, Terms, none, more, Tree, count}
use Rattle.theory.specs.Transducer.{Transducer}
use Rattle.theory.specs.Weight.{one_if}
use Rattle.theory.specs.Wf.{Wf}
use Rattle.theory.proofs.Bounded.{all_or_some, sum_le, sum_lt}
use Rattle.theory.proofs.Demands.{matched_map, at_inside}
use Rattle.theory.proofs.Matching.{at_unique, at_exists, one_node, matched_head, matched_var, matched_node}
use Rattle.theory.proofs.PreimageBound.{Small, linear_found, linear_none}
use Rattle.theory.proofs.Preimages.{justified_mark}
use Rattle.theory.proofs.Reach.{reached_valid}
use Rattle.theory.proofs.Terms.{conflict}
use Rattle.theory.proofs.Weights.{one_if_eq, one_if_ne}

module _ {D : ℕ × ℕ → ℕ → Type 0} (dec : (e : ℕ × ℕ) (p : ℕ) → Dec (D e p)) where
  matched_more_dec : {t : Term (ℕ × ℕ)} {ts : Terms (ℕ × ℕ)} {u : Tree} {us : Terms ⊥} {p : ℕ} → Dec (Matched (λ e p u. D e p) t p u) → Dec (MatchedAll (λ e p u. D e p) ts (p + size u) us) → Dec (MatchedAll (λ e p u. D e p) (more t ts) p (more u us))
  matched_more_dec (yes m) (yes ms) = yes (matched_more m ms)
  matched_more_dec (yes m) (no f) = no (λ x. f (matched_head x).1)
  matched_more_dec (no f) d = no (λ x. f (matched_head x).0)

  matched_node_dec : {j k p : ℕ} {ts : Terms (ℕ × ℕ)} {us : Terms ⊥} → Dec (k ≡ j) → Dec (MatchedAll (λ e p u. D e p) ts (suc p) us) → Dec (Matched (λ e p u. D e p) (node k ts) p (node j us))
  matched_node_dec (yes e) (yes m) = yes (rw e (symbol m))
  matched_node_dec (yes e) (no f) = no (λ x. f (matched_node x).1)
  matched_node_dec (no f) d = no (λ x. f (matched_node x).0)

  matched_var_dec : {e : ℕ × ℕ} {p : ℕ} {u : Tree} → Dec (D e p) → Dec (Matched (λ e p u. D e p) (var e) p u)
  matched_var_dec (yes d) = yes (demand d)
  matched_var_dec (no f) = no (λ x. f (matched_var x))

  matched_count : {X : Terms (ℕ × ℕ)} {us : Terms ⊥} {p : ℕ} → MatchedAll (λ e p u. D e p) X p us → count X ≡ count us
  unfolding count
  matched_count matched_none = refl
  matched_count (matched_more m ms) = ap suc (matched_count ms)

  mutual
    unfolding count

    -- whether a term matches is decided
    pub matched_dec : (X : Term (ℕ × ℕ)) (p : ℕ) (u : Tree) → Dec (Matched (λ e p u. D e p) X p u)
    matched_dec (var e) p u = matched_var_dec (dec e p)
    matched_dec (node k ts) p (var x) = absurd x
    matched_dec (node k ts) p (node j us) = matched_node_dec (ℕ_discrete k j) (matched_all_dec ts (suc p) us)

    matched_all_dec : (X : Terms (ℕ × ℕ)) (p : ℕ) (us : Terms ⊥) → Dec (MatchedAll (λ e p u. D e p) X p us)
    matched_all_dec none p none = yes matched_none
    matched_all_dec none p (more u us) = no (λ m. omega (arith, matched_count m))
    matched_all_dec (more t ts) p none = no (λ m. omega (arith, matched_count m))
    matched_all_dec (more t ts) p (more u us) = matched_more_dec (matched_dec t p u) (matched_all_dec ts (p + size u) us)

unfoldable dec_both : {A B : Type 0} → Dec A → Dec B → Dec (A × B)
dec_both (yes a) (yes b) = yes (a, b)
dec_both (yes a) (no f) = no (λ x. f x.1)
dec_both (no f) d = no (λ x. f x.0)

-- a table with the entry at q and p changed
unfoldable put : (ℕ → ℕ → ℕ) → ℕ → ℕ → ℕ → ℕ → ℕ → ℕ
put f q p x r y = ite (dec_both (ℕ_discrete r q) (ℕ_discrete y p)) x (f r y)

put_at : (f : ℕ → ℕ → ℕ) (q p x r y : ℕ) → (r ≡ q) × (y ≡ p) → put f q p x r y ≡ x
unfolding put
put_at f q p x r y e = if_pos (dec_both (ℕ_discrete r q) (ℕ_discrete y p)) e x (f r y)

put_other : (f : ℕ → ℕ → ℕ) (q p x r y : ℕ) → ((r ≡ q) × (y ≡ p) → ⊥) → put f q p x r y ≡ f r y
unfolding put
put_other f q p x r y e = if_neg (dec_both (ℕ_discrete r q) (ℕ_discrete y p)) e x (f r y)

module _ (G : Grammar) (M : Transducer ℕ) (n : ℕ) (t : Tree) where
  -- the marked pairs have numbers in the order of marking, from 1, and a symbol; the others have 0
  record Table : Type 0 where
    stamp : ℕ → ℕ → ℕ
    symbol_of : ℕ → ℕ → ℕ
    last : ℕ
    bounded : (q p : ℕ) → stamp q p ≤ last
    justified : Justified G M (λ q. Unit {0}) t (λ q p. 1 ≤ stamp q p) symbol_of stamp

  empty : Table
  empty = record { stamp = λ q p. 0; symbol_of = λ q p. 0; last = 0; bounded = λ q p. omega arith; justified = λ q p u v a m. absurd (omega arith) }

  -- a pair that can be marked
  record Next (T : Table) (q p a : ℕ) : Type 0 where
    sorts : List ℕ
    allowed : G.children (M.sort q) a ≡ some sorts
    tree : Tree
    there : At t p tree
    new : T.stamp q p ≡ 0
    matched : Matched (λ e p u. 1 ≤ T.stamp e.1 p) (M.rhs q a) p tree

  mark_keeps : (T : Table) (q p : ℕ) → T.stamp q p ≡ 0 → (r y : ℕ) → 1 ≤ T.stamp r y → (1 ≤ put T.stamp q p (suc T.last) r y) × (put T.stamp q p (suc T.last) r y ≡ T.stamp r y)
  mark_keeps T q p z r y l =
      let ne : (r ≡ q) × (y ≡ p) → ⊥ = λ e. let w = rw (e.0, e.1) at l in omega arith in
      let e = put_other T.stamp q p (suc T.last) r y ne in
      (omega arith, e)

  mark_only : (T : Table) (q p a : ℕ) → T.stamp q p ≡ 0 → (r y : ℕ) → 1 ≤ put T.stamp q p (suc T.last) r y → ((1 ≤ T.stamp r y) × (put T.symbol_of q p a r y ≡ T.symbol_of r y)) ⊎ ((r ≡ q) × (y ≡ p))
  mark_only T q p a z r y l = by_cases (dec_both (ℕ_discrete r q) (ℕ_discrete y p)) inr (λ ne. inl (omega (arith, put_other T.stamp q p (suc T.last) r y ne), put_other T.symbol_of q p a r y ne))

  -- to mark it keeps the table justified
  mark : (T : Table) (q p a : ℕ) → Next T q p a → Table
  mark T q p a x = record {
    stamp = put T.stamp q p (suc T.last);
    symbol_of = put T.symbol_of q p a;
    last = suc T.last;
    bounded = λ r y. by_cases (dec_both (ℕ_discrete r q) (ℕ_discrete y p)) (λ z. omega (arith, put_at T.stamp q p (suc T.last) r y z)) (λ z. omega (arith, put_other T.stamp q p (suc T.last) r y z, T.bounded r y));
    justified = justified_mark q p a T.justified (mark_keeps T q p x.new) (mark_only T q p a x.new) (put_at T.symbol_of q p a q p (refl, refl)) x.allowed
        (λ u at. rw (at_unique at x.there) (matched_map (λ e p' u' m. (m, omega (arith, T.bounded e.1 p', put_at T.stamp q p (suc T.last) q p (refl, refl)))) x.matched));
  }

  -- nothing is to be marked at q and p for a
  Stuck : Table → ℕ → ℕ → ℕ → Type 0
  Stuck T q p a = (u : Tree) (sorts : List ℕ) → At t p u → G.children (M.sort q) a ≡ some sorts → Matched (λ e p u. 1 ≤ T.stamp e.1 p) (M.rhs q a) p u → 1 ≤ T.stamp q p

  look : (T : Table) (q p a : ℕ) → p < size t → Stuck T q p a ⊎ Next T q p a
  unfolding Stuck
  look T q p a l = by_cases (ℕ_discrete (T.stamp q p) 0)
      (λ z. let x = at_exists t p l in go z x.0 x.1 (G.children (M.sort q) a) refl (matched_dec {D = λ e p. 1 ≤ T.stamp e.1 p} (λ e p. dec_lt 0 (T.stamp e.1 p)) (M.rhs q a) p x.0))
      (λ z. inl (λ u sorts at c m. omega arith))
    where
      go : T.stamp q p ≡ 0 → (u : Tree) → At t p u → (o : Option (List ℕ)) → G.children (M.sort q) a ≡ o → Dec (Matched (λ e p u. 1 ≤ T.stamp e.1 p) (M.rhs q a) p u) → Stuck T q p a ⊎ Next T q p a
      go z u at nothing c d = inl (λ v sorts at' c' m. conflict (cc))
      go z u at (some sorts) c (yes m) = inr (record { sorts = sorts; allowed = c; tree = u; there = at; new = z; matched = m })
      go z u at (some sorts) c (no f) = inl (λ v sorts at' c' m. absurd (f (rw (at_unique at at') m)))

  -- the number of pairs that are not marked
  unmarked : Table → ℕ
  unmarked T = sum (λ q. sum (λ p. one_if (eqb (T.stamp q p) 0)) (size t)) n

  marked_fewer : (T : Table) (q p a : ℕ) (x : Next T q p a) → q < n → p < size t → unmarked (mark T q p a x) < unmarked T
  unfolding unmarked mark
  marked_fewer T q p a x l h =
      let le : (r y : ℕ) → one_if (eqb (put T.stamp q p (suc T.last) r y) 0) ≤ one_if (eqb (T.stamp r y) 0) = λ r y. by_cases (dec_both (ℕ_discrete r q) (ℕ_discrete y p))
      (λ z. omega (arith, one_if_ne (put T.stamp q p (suc T.last) r y) 0 (λ e. omega (arith, put_at T.stamp q p (suc T.last) r y z))))
      (λ z. rw (put_other T.stamp q p (suc T.last) r y z) (omega arith)) in
      sum_lt _ _ n q l (λ r m. sum_le _ _ (size t) (λ y k. le r y))
      (sum_lt _ _ (size t) p h (λ y k. le q y) (omega (arith, one_if_ne (put T.stamp q p (suc T.last) q p) 0 (λ e. omega (arith, put_at T.stamp q p (suc T.last) q p (refl, refl))), one_if_eq (T.stamp q p) 0 x.new)))

  Full : Table → Type 0
  Full T = (q : ℕ) → q < n → (p : ℕ) → p < size t → (a : ℕ) → a < G.symbols → Stuck T q p a

  round : (T : Table) → Full T ⊎ ((q : ℕ) × (q < n) × ((p : ℕ) × (p < size t) × ((a : ℕ) × (a < G.symbols) × Next T q p a)))
  unfolding Full
  round T = all_or_some n (λ q l. all_or_some (size t) (λ p h. all_or_some G.symbols (λ a k. look T q p a h)))

  -- marking ends
  loop : (fuel : ℕ) (T : Table) → unmarked T < fuel → (T' : Table) × Full T'
  loop ℕ.zero T l = absurd (omega arith)
  loop (suc fuel) T l = ⊎_elim (λ f. (T, f)) (λ x. loop fuel (mark T x.0 x.2.0 x.2.2.0 x.2.2.2) (omega (arith, marked_fewer T x.0 x.2.0 x.2.2.0 x.2.2.2 x.1 x.2.1))) (round T)

  -- There is a table that is justified and saturated.
  pub table_exists : (Marked : ℕ → ℕ → Type 0) × (symbol_of : ℕ → ℕ → ℕ) × (rank : ℕ → ℕ → ℕ) × Justified G M (λ q. Unit {0}) t Marked symbol_of rank × Saturated G M (λ q. q < n) t Marked × ((q p : ℕ) → Dec (Marked q p))
  unfolding Full Stuck
  table_exists =
      let x = loop (suc (unmarked empty)) empty (omega arith) in
      let T = x.0 in
      (λ q p. 1 ≤ T.stamp q p, T.symbol_of, T.stamp, T.justified, (λ q p u a sorts l at c m. x.1 q l p (omega (arith, at_inside at, one_node u)) a (G.bounded _ a c) u sorts at c m), λ q p. dec_lt 0 (T.stamp q p))

-- Whether t is an output of a linear transducer is decided; if it is, an input tree with at most 1 + R·n·|t| nodes and 1 + n·|t| levels is found.
pub preimage_decide : {G : Grammar} {M : Transducer ℕ} {n R : ℕ} → Wf G M (λ q. q < n) → Linear G M → ((s a : ℕ) (sorts : List ℕ) → G.children s a ≡ some sorts → length sorts ≤ R) → (t : Tree)
    → ((d : Tree) × Preimage G M t d × Small R (n * size t) d) ⊎ ((d : Tree) → ¬ (Preimage G M t d))
preimage_decide {G} {M} {n} W L few t =
    let (Marked, symbol_of, rank, J₁, S₁, dec) = table_exists G M n t in
    let K : Justified G M (Reached G M) t Marked symbol_of rank = λ q p u r at m. J₁ q p u tt at m in
    let S : Saturated G M (Reached G M) t Marked = λ q p u a sorts r at c m. S₁ q p u a sorts (reached_valid W r) at c m in
    by_cases (matched_dec {D = λ e p. Marked e.1 p} (λ e p. dec e.1 p) M.initial 0 t)
    (λ m. inl (linear_found W L few K m))
    (λ f. inr ((linear_none W L K S).0 f))
