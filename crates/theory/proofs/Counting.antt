-- The number of nodes with a symbol in an output tree, from the multiplicities of the states at the nodes of the input tree.
use Prim.Native.Nat.{ℕ, suc, ◌+◌, ◌*◌, ◌≤◌, ◌<◌}
use native.Mathlib.Decide.{ℕ_discrete, dec_lt}
use native.Mathlib.Nat.{mul-add, mul-zero, zero-mul, one-mul, mul_comm, mul_assoc, le-mul_of_pos_right}
use native.Mathlib.Omega.{arith}
use mathlib.Core.Path.{◌≡◌, refl, ap, sym, ◌∙◌}
use mathlib.Core.Logic.{by_cases}
use mathlib.Core.List.{List, [], ◌∷◌, ◌++◌}
use mathlib.Core.Option.{some}
use lib.Dec.{eqb}
use lib.ListN.{get_elem?, length}
use Rattle.theory.specs.Grammar.{Grammar, Allowed, rule, AllAllowed, end, next}
use Rattle.theory.specs.Inner.Nodes.{symbol, child_at}
use Rattle.theory.specs.Multiplicity.{contribution, calls_of, calls_on, passed, over_children}
use Rattle.theory.specs.Occurrences.{occurrences, occurrences_in, total}
use Rattle.theory.specs.Sum.{sum}
use Rattle.theory.specs.Term.{Term, var, node, Terms, none, more, Tree, bind, binds, count}
use Rattle.theory.specs.Transducer.{Transducer, output, translate, runs, pick}
use Rattle.theory.specs.Vars.{AllVars, one, each, EachVars, done, both}
use Rattle.theory.specs.Weight.{weight, weights, one_if}
use Rattle.theory.specs.Wf.{Wf, Fits, nth}
use Rattle.theory.proofs.OpenRuns.{all_vars}
use Rattle.theory.proofs.Runs.{call, output_node, by_output, initial_sort}
use Rattle.theory.proofs.Slim.{allowed_count}
use Rattle.theory.proofs.Sums.{sum_cong, sum_zero, sum_add, sum_times, sum_by, sum_part, sum_swap, sum_one_part}
use Rattle.theory.proofs.Terms.{conflict}
use Rattle.theory.proofs.Vars.{all_map}
use Rattle.theory.proofs.Weights.{one_if_eq, one_if_ne, weight_cong, weight_add, weight_times, weight_zero}

module _ {A B : Type 0} (k : ℕ) (f : A → Term B) where
  mutual
    unfolding occurrences occurrences_in weight weights bind binds

    -- |t[f]|_k is |t|_k and the sum of the |f a|_k over the variables a of t
    pub occurrences_bind : (t : Term A) → occurrences k (bind t f) ≡ occurrences k t + weight (λ a. occurrences k (f a)) t
    occurrences_bind (var a) = omega arith
    occurrences_bind (node j ts) = omega (arith, occurrences_binds ts)

    occurrences_binds : (ts : Terms A) → occurrences_in k (binds ts f) ≡ occurrences_in k ts + weights (λ a. occurrences k (f a)) ts
    occurrences_binds none = omega arith
    occurrences_binds (more t ts) = omega (arith, occurrences_bind t, occurrences_binds ts)

-- the root symbol of a ground tree stands in it
pub root_occurs : (t : Tree) → 1 ≤ occurrences (symbol t).0 t
unfolding occurrences symbol
root_occurs (var x) = absurd x
root_occurs (node k ts) = omega (arith, one_if_eq k k refl)

-- sums over children with equal parts
pub over_cong : (f g : ℕ → Tree → ℕ) (i : ℕ) (ds : Terms ⊥) → ((i : ℕ) (d : Tree) → f i d ≡ g i d) → over_children f i ds ≡ over_children g i ds
unfolding over_children
over_cong f g i none h = refl
over_cong f g i (more d ds) h = omega (arith, h i d, over_cong f g (suc i) ds h)

over_add : (f g : ℕ → Tree → ℕ) (i : ℕ) (ds : Terms ⊥) → over_children (λ i d. f i d + g i d) i ds ≡ over_children f i ds + over_children g i ds
unfolding over_children
over_add f g i none = omega arith
over_add f g i (more d ds) = omega (arith, over_add f g (suc i) ds)

over_times : (m : ℕ) (f : ℕ → Tree → ℕ) (i : ℕ) (ds : Terms ⊥) → over_children (λ i d. m * f i d) i ds ≡ m * over_children f i ds
unfolding over_children
over_times m f i none = omega (arith, mul-zero m)
over_times m f i (more d ds) = omega (arith, over_times m f (suc i) ds, mul-add m (f i d) (over_children f (suc i) ds))

over_sum : (f : ℕ → ℕ → Tree → ℕ) (n i : ℕ) (ds : Terms ⊥) → sum (λ q. over_children (f q) i ds) n ≡ over_children (λ i d. sum (λ q. f q i d) n) i ds
unfolding over_children
over_sum f n i none = sum_zero (λ q. 0) n (λ q l. refl)
over_sum f n i (more d ds) = sum_add (λ q. f q i d) (λ q. over_children (f q) (suc i) ds) n ∙ ap (λ x. sum (λ q. f q i d) n + x) (over_sum f n (suc i) ds)

module _ {A : Type 0} where
  -- the sum over the variables of sums below n
  pub weight_sum : (f : ℕ → A → ℕ) (n : ℕ) (t : Term A) → weight (λ a. sum (λ r. f r a) n) t ≡ sum (λ r. weight (f r) t) n
  unfolding sum
  weight_sum f ℕ.zero t = weight_zero t
  weight_sum f (suc n) t = weight_add (λ a. sum (λ r. f r a) n) (f n) t ∙ ap (λ x. x + weight (f n) t) (weight_sum f n t)

  weight_over : (f : ℕ → Tree → A → ℕ) (i : ℕ) (ds : Terms ⊥) (t : Term A) → weight (λ a. over_children (λ i d. f i d a) i ds) t ≡ over_children (λ i d. weight (f i d) t) i ds
  unfolding over_children
  weight_over f i none t = weight_zero t
  weight_over f i (more d ds) t = weight_add (f i d) (λ a. over_children (λ i d. f i d a) (suc i) ds) t ∙ ap (λ x. weight (f i d) t + x) (weight_over f (suc i) ds t)

  weight_by : (w : A → ℕ) (m : ℕ) (t : Term A) → weight (λ a. w a * m) t ≡ weight w t * m
  weight_by w m t = weight_cong (all_vars (λ a. mul_comm (w a) m) t) ∙ (weight_times m w t ∙ mul_comm m (weight w t))

module _ (M : Transducer ℕ) (n k : ℕ) where
  -- what the call e gives over the children, by children and states
  spread : ℕ × ℕ → ℕ → Tree → ℕ
  spread e i d = sum (λ r. (one_if (eqb e.0 i) * one_if (eqb e.1 r)) * occurrences k (output M d r)) n

  spread_here : (e : ℕ × ℕ) (i : ℕ) (d : Tree) → e.1 < n → e.0 ≡ i → spread e i d ≡ occurrences k (output M d e.1)
  unfolding spread
  spread_here e i d l z = sum_cong _ (λ r. one_if (eqb e.1 r) * occurrences k (output M d r)) n (λ r h. ap (λ b. (b * one_if (eqb e.1 r)) * occurrences k (output M d r)) (one_if_eq e.0 i z) ∙ ap (λ b. b * occurrences k (output M d r)) (one-mul _))
      ∙ sum_one_part (λ r. occurrences k (output M d r)) e.1 n l

  spread_other : (e : ℕ × ℕ) (i : ℕ) (d : Tree) → (e.0 ≡ i → ⊥) → spread e i d ≡ 0
  unfolding spread
  spread_other e i d z = sum_zero _ n (λ r h. ap (λ b. (b * one_if (eqb e.1 r)) * occurrences k (output M d r)) (one_if_ne e.0 i z) ∙ (ap (λ b. b * occurrences k (output M d r)) (zero-mul _) ∙ zero-mul _))

  spread_before : (e : ℕ × ℕ) (j : ℕ) (ds : Terms ⊥) → e.0 < j → over_children (spread e) j ds ≡ 0
  unfolding over_children
  spread_before e j none l = refl
  spread_before e j (more d ds) l = omega (arith, spread_other e j d (λ z. omega arith), spread_before e (suc j) ds (omega arith))

  spread_call : (e : ℕ × ℕ) (j x : ℕ) (ds : Terms ⊥) → e.1 < n → suc e.0 ≡ j + x → 1 ≤ x → x ≤ count ds → over_children (spread e) j ds ≡ occurrences k (call M ds (x, e.1))
  unfolding over_children count call pick runs output
  spread_call e j x none l h p q = absurd (omega arith)
  spread_call e j ℕ.zero (more d ds) l h p q = absurd (omega arith)
  spread_call e j (suc ℕ.zero) (more d ds) l h p q = omega (arith, spread_here e j d l (omega arith), spread_before e (suc j) ds (omega arith))
  spread_call e j (suc (suc x)) (more d ds) l h p q = omega (arith, spread_other e j d (λ z. omega arith), spread_call e (suc j) (suc x) ds l (omega arith) (omega arith) (omega arith))

  -- the calls of a term over the children, by children and states
  calls_spread : (ds : Terms ⊥) {t : Term (ℕ × ℕ)} → AllVars (λ e. (1 ≤ e.0) × (e.0 ≤ count ds) × (e.1 < n)) t
      → weight (λ e. occurrences k (call M ds e)) t ≡ over_children (λ i d. sum (λ r. calls_on i r t * occurrences k (output M d r)) n) 1 ds
  unfolding spread calls_on
  calls_spread ds {t} range = weight_cong (all_map (λ e h. sym (spread_call e 1 e.0 ds h.2 (omega arith) h.0 h.1)) range)
      ∙ (weight_over (λ i d e. spread e i d) 1 ds t
      ∙ over_cong _ _ 1 ds (λ i d. weight_sum _ n t ∙ sum_cong _ _ n (λ r l. weight_by _ (occurrences k (output M d r)) t)))

  -- the parts of a step: what the right-hand side of q has, and what its calls give
  step_part : (m : ℕ → ℕ) (a q : ℕ) (ds : Terms ⊥) → (1 ≤ m q → AllVars (λ e. (1 ≤ e.0) × (e.0 ≤ count ds) × (e.1 < n)) (M.rhs q a))
      → m q * occurrences k (output M (node a ds) q) ≡ m q * occurrences k (M.rhs q a) + m q * over_children (λ i d. sum (λ r. calls_on i r (M.rhs q a) * occurrences k (output M d r)) n) 1 ds
  step_part m a q ds range = by_cases (ℕ_discrete (m q) 0)
      (λ z. rw z (omega (arith, zero-mul (occurrences k (output M (node a ds) q)), zero-mul (occurrences k (M.rhs q a)), zero-mul (over_children (λ i d. sum (λ r. calls_on i r (M.rhs q a) * occurrences k (output M d r)) n) 1 ds))))
      (λ z. ap (λ x. m q * x) (ap (occurrences k) (output_node M q a ds) ∙ (occurrences_bind k (call M ds) (M.rhs q a) ∙ ap (λ x. occurrences k (M.rhs q a) + x) (calls_spread ds (range (omega arith)))))
      ∙ mul-add (m q) _ _)

  passed_part : (m : ℕ → ℕ) (a i : ℕ) (d : Tree) → sum (λ q. m q * sum (λ r. calls_on i r (M.rhs q a) * occurrences k (output M d r)) n) n ≡ contribution M n k (passed M n a m i) d
  unfolding contribution passed
  passed_part m a i d = sum_cong _ _ n (λ q l. sym (sum_times (m q) _ n))
      ∙ (sum_swap (λ q r. m q * (calls_on i r (M.rhs q a) * occurrences k (output M d r))) n n
      ∙ sum_cong _ _ n (λ r l. sum_cong _ _ n (λ q h. sym (mul_assoc (m q) _ _)) ∙ sum_by (λ q. m q * calls_on i r (M.rhs q a)) (occurrences k (output M d r)) n))

  -- The step: what the states at a node give is what their right-hand sides have, and what the states called give at the children.
  pub contribution_step : (m : ℕ → ℕ) (a : ℕ) (ds : Terms ⊥) → ((q : ℕ) → q < n → 1 ≤ m q → AllVars (λ e. (1 ≤ e.0) × (e.0 ≤ count ds) × (e.1 < n)) (M.rhs q a))
      → contribution M n k m (node a ds) ≡ sum (λ q. m q * occurrences k (M.rhs q a)) n + over_children (λ i d. contribution M n k (passed M n a m i) d) 1 ds
  unfolding contribution
  contribution_step m a ds range = sum_cong _ _ n (λ q l. step_part m a q ds (range q l))
      ∙ (sum_add (λ q. m q * occurrences k (M.rhs q a)) _ n
      ∙ ap (λ x. sum (λ q. m q * occurrences k (M.rhs q a)) n + x) (sum_cong _ _ n (λ q l. sym (over_times (m q) _ 1 ds)) ∙ (over_sum _ n 1 ds ∙ over_cong _ _ 1 ds (λ i d. passed_part m a i d))))

  -- The output tree has what the initial term has, and what the states that it calls give.
  pub translate_occurrences : (d : Tree) → AllVars (λ e. e.1 < n) M.initial → occurrences k (translate M d) ≡ occurrences k M.initial + contribution M n k (λ q. calls_of q M.initial) d
  unfolding translate contribution calls_of
  translate_occurrences d range = occurrences_bind k _ M.initial ∙ ap (λ x. occurrences k M.initial + x)
      (weight_cong (all_map (λ e l. sym (sum_one_part (λ r. occurrences k (output M d r)) e.1 n l)) range)
      ∙ (weight_sum _ n M.initial ∙ sum_cong _ _ n (λ r l. weight_by _ (occurrences k (output M d r)) M.initial)))

-- only the multiplicities of the n states count
pub contribution_cong : (M : Transducer ℕ) (n k : ℕ) (m m' : ℕ → ℕ) (d : Tree) → ((q : ℕ) → q < n → m q ≡ m' q) → contribution M n k m d ≡ contribution M n k m' d
unfolding contribution
contribution_cong M n k m m' d h = sum_cong _ _ n (λ q l. ap (λ x. x * occurrences k (output M d q)) (h q l))

-- one state gives at least its multiplicity of the root symbol of its output
pub multiplicity_le : (M : Transducer ℕ) (n : ℕ) (m : ℕ → ℕ) (d : Tree) (q : ℕ) → q < n → m q ≤ contribution M n (symbol (output M d q)).0 m d
unfolding contribution
multiplicity_le M n m d q l =
    let k = (symbol (output M d q)).0 in
    let r : 0 < occurrences k (output M d q) = root_occurs (output M d q) in
    omega (arith, le-mul_of_pos_right (m q) r, sum_part (λ q. m q * occurrences k (output M d q)) n q l)

-- Overflow is exact: where a multiplicity is over a bound, so is the number of nodes with some symbol.
pub overflow : (M : Transducer ℕ) (n bound : ℕ) (m : ℕ → ℕ) (d : Tree) (q : ℕ) → q < n → bound < m q → (k : ℕ) × ((symbol (output M d q)).0 ≡ k) × (bound < contribution M n k m d)
overflow M n bound m d q l h = ((symbol (output M d q)).0, refl, omega (arith, multiplicity_le M n m d q l))

-- what a child adds is at most what the children add
pub over_part : {d : Tree} (f : ℕ → Tree → ℕ) (j x i : ℕ) (ds : Terms ⊥) → suc i ≡ j + x → child_at ds x ≡ some d → f i d ≤ over_children f j ds
unfolding over_children child_at
over_part f j x i none h e = conflict (cc)
over_part f j ℕ.zero i (more d ds) h e = conflict (cc)
over_part {d} f j (suc ℕ.zero) i (more d' ds) h e = let z : d' ≡ d = cc in let y : i ≡ j = omega arith in rw (← z, y) (omega arith)
over_part f j (suc (suc x)) i (more d ds) h e = omega (arith, over_part f (suc j) (suc x) i ds (omega arith) e)

module _ {Q : Type 0} {G : Grammar} {M : Transducer Q} {Valid : Q → Type 0} (W : Wf G M Valid) (k : ℕ) (absent : (q : Q) (a : ℕ) (sorts : List ℕ) → Valid q → G.children (M.sort q) a ≡ some sorts → occurrences k (M.rhs q a) ≡ 0) where
  absent_bind : {t : Term (ℕ × Q)} (f : ℕ × Q → Tree) → occurrences k t ≡ 0 → AllVars (λ e. occurrences k (f e) ≡ 0) t → occurrences k (bind t f) ≡ 0
  absent_bind {t} f z all = omega (arith, occurrences_bind k f t, weight_cong all ∙ weight_zero t)

  -- a symbol that no right-hand side has stands in no output
  pub absent_output : {d : Tree} (q : Q) → Valid q → Allowed G (M.sort q) d → occurrences k (output M d q) ≡ 0
  absent_output {d} = by_output W (λ q t. occurrences k t ≡ 0) (λ q a sorts f v c all. absent_bind f (absent q a sorts v c) all) d

  -- a symbol that neither the initial term nor a right-hand side has stands in no output tree
  pub absent_translate : {d : Tree} → occurrences k M.initial ≡ 0 → Allowed G 0 d → occurrences k (translate M d) ≡ 0
  unfolding translate
  absent_translate {d} z ok = absent_bind (λ e. output M d e.1) z (all_map (λ e p. absent_output e.1 p.0 (rw p.1 at ok)) (initial_sort M W))

-- where only symbols below b stand in a ground tree, its root symbol is below b
pub root_below : (b : ℕ) (t : Tree) → ((k : ℕ) → b ≤ k → occurrences k t ≡ 0) → (symbol t).0 < b
root_below b t h = by_cases (dec_lt (symbol t).0 b) (λ l. l) (λ l. absurd (omega (arith, root_occurs t, h (symbol t).0 (omega arith))))

-- one input tree more
pub total_snoc : {Q : Type 0} (M : Transducer Q) (k : ℕ) (ds : List Tree) (d : Tree) → total M k (ds ++ d ∷ []) ≡ total M k ds + occurrences k (translate M d)
unfolding total
total_snoc M k [] d = omega arith
total_snoc M k (x ∷ ds) d = omega (arith, total_snoc M k ds d)

-- the outputs of the first trees have at most what those of all have
pub total_append : {Q : Type 0} (M : Transducer Q) (k : ℕ) (ds es : List Tree) → total M k (ds ++ es) ≡ total M k ds + total M k es
unfolding total
total_append M k [] es = omega arith
total_append M k (x ∷ ds) es = omega (arith, total_append M k ds es)

mutual
  unfolding weight weights

  -- a sum over variables that is not 0 has a part that is not
  weight_some : {A : Type 0} {P : A → Type 0} {t : Term A} (w : A → ℕ) → AllVars P t → 1 ≤ weight w t → (a : A) × P a × (1 ≤ w a)
  weight_some w (one {a} p) l = (a, p, l)
  weight_some w (each ps) l = weights_some w ps l

  weights_some : {A : Type 0} {P : A → Type 0} {ts : Terms A} (w : A → ℕ) → EachVars P ts → 1 ≤ weights w ts → (a : A) × P a × (1 ≤ w a)
  weights_some w done l = absurd (omega arith)
  weights_some w (both {t} p ps) l = by_cases (dec_lt 0 (weight w t)) (λ h. weight_some w p h) (λ h. weights_some w ps (omega arith))

-- a sum that is not 0 has a part that is not
pub sum_some : (f : ℕ → ℕ) (n : ℕ) → 1 ≤ sum f n → (j : ℕ) × (j < n) × (1 ≤ f j)
unfolding sum
sum_some f ℕ.zero l = absurd (omega arith)
sum_some f (suc n) l = by_cases (dec_lt 0 (f n)) (λ h. (n, omega arith, h)) (λ h. let r = sum_some f n (omega arith) in (r.0, omega (arith, r.1), r.2))

-- every call of the vector m is of a state that reads sort s
abbrev pub ForSort : Transducer ℕ → ℕ → (ℕ → ℕ) → ℕ → Type 0
ForSort M n m s = (q : ℕ) → q < n → 1 ≤ m q → M.sort q ≡ s

product_pos : (a b : ℕ) → 1 ≤ a * b → (1 ≤ a) × (1 ≤ b)
product_pos a b l = by_cases (ℕ_discrete a 0)
    (λ z. absurd (omega (arith, ap (λ x. x * b) z ∙ zero-mul b)))
    (λ z. by_cases (ℕ_discrete b 0) (λ y. absurd (omega (arith, ap (λ x. a * x) y ∙ mul-zero a))) (λ y. (omega arith, omega arith)))

test_pos : (a b : ℕ) → 1 ≤ one_if (eqb a b) → a ≡ b
test_pos a b l = by_cases (ℕ_discrete a b) (λ e. e) (λ e. absurd (omega (arith, one_if_ne a b e)))

nth_range : {s : ℕ} (sorts : List ℕ) (i : ℕ) → nth sorts i ≡ some s → (1 ≤ i) × (i ≤ length sorts)
unfolding nth
nth_range [] i e = conflict (cc)
nth_range (x ∷ xs) ℕ.zero e = conflict (cc)
nth_range (x ∷ xs) (suc ℕ.zero) e = (omega arith, omega arith)
nth_range (x ∷ xs) (suc (suc i)) e = let h = nth_range xs (suc i) e in (omega arith, omega arith)

module _ {G : Grammar} {M : Transducer ℕ} {n : ℕ} (W : Wf G M (λ q. q < n)) {m : ℕ → ℕ} {s a : ℕ} {sorts : List ℕ} (for-sort : ForSort M n m s) (c : G.children s a ≡ some sorts) where
  rhs_calls_lem : (q : ℕ) → q < n → 1 ≤ m q → AllVars (Fits M (λ q. q < n) sorts) (M.rhs q a)
  rhs_calls_lem q l h = W.rhs q a l (rw (for-sort q l h) c)

  -- the vector at a child is of states that read its sort
  pub passed_sort : (i : ℕ) {s' : ℕ} → nth sorts i ≡ some s' → ForSort M n (passed M n a m i) s'
  unfolding passed calls_on
  passed_sort i e r l h =
      let x = sum_some _ n h in
      let y = product_pos (m x.0) _ x.2 in
      let z = weight_some _ (rhs_calls_lem x.0 x.1 y.0) y.1 in
      let t = product_pos _ _ z.2 in
      let f : nth sorts i ≡ some (M.sort r) = rw (test_pos _ i t.0, test_pos _ r t.1) at z.1.sort in
      cc

  -- The step, for a well-formed transducer.
  pub counting_step : (k : ℕ) {ds : Terms ⊥} → AllAllowed G sorts ds → contribution M n k m (node a ds) ≡ sum (λ q. m q * occurrences k (M.rhs q a)) n + over_children (λ i d. contribution M n k (passed M n a m i) d) 1 ds
  counting_step k {ds} oks = contribution_step M n k m a ds (λ q l h. all_map (λ e f. let r = nth_range sorts e.0 f.sort in (r.0, omega (arith, r.1, allowed_count oks), f.valid)) (rhs_calls_lem q l h))

-- The start, for a well-formed transducer.
pub counting_start : {G : Grammar} {M : Transducer ℕ} {n : ℕ} → Wf G M (λ q. q < n) → (k : ℕ) (d : Tree) → occurrences k (translate M d) ≡ occurrences k M.initial + contribution M n k (λ q. calls_of q M.initial) d
counting_start {M} {n} W k d = translate_occurrences M n k d (all_map (λ e f. f.valid) W.initial)

-- the vector of the initial term is of states that read sort 0
pub start_sort : {G : Grammar} {M : Transducer ℕ} {n : ℕ} → Wf G M (λ q. q < n) → ForSort M n (λ q. calls_of q M.initial) 0
unfolding calls_of
start_sort {M} W r l h = let z = weight_some _ (initial_sort M W) h in let e = test_pos _ r z.2 in rw e at (sym z.1.1)

-- the node d' of d is met with the vector m', where d has m
pub data Visited (M : Transducer ℕ) (n : ℕ) (m : ℕ → ℕ) (d : Tree) : (ℕ → ℕ) → Tree → Type 0 where
  top : Visited M n m d m d
  child : {m' : ℕ → ℕ} {a : ℕ} {ds : Terms ⊥} {d' : Tree} (i : ℕ) → Visited M n m d m' (node a ds) → child_at ds i ≡ some d' → Visited M n m d (passed M n a m' i) d'

allowed_rule : {G : Grammar} {s a : ℕ} {ds : Terms ⊥} → Allowed G s (node a ds) → (sorts : List ℕ) × (G.children s a ≡ some sorts) × AllAllowed G sorts ds
allowed_rule (rule {sorts} c oks) = (sorts, c, oks)

allowed_child : {G : Grammar} {sorts : List ℕ} {ds : Terms ⊥} {d : Tree} → AllAllowed G sorts ds → (i : ℕ) → child_at ds i ≡ some d → (s : ℕ) × (nth sorts i ≡ some s) × Allowed G s d
unfolding nth child_at
allowed_child end i e = conflict (cc)
allowed_child (next ok oks) ℕ.zero e = conflict (cc)
allowed_child {d} (next {s} {d = d'} ok oks) (suc ℕ.zero) e = let h : d' ≡ d = cc in (s, refl, rw h at ok)
allowed_child (next ok oks) (suc (suc i)) e = allowed_child oks (suc i) e

module _ {G : Grammar} {M : Transducer ℕ} {n : ℕ} (W : Wf G M (λ q. q < n)) where
  -- what is given at a node is at most what is given in all
  pub visited_le : {m : ℕ → ℕ} {s : ℕ} {d : Tree} {m' : ℕ → ℕ} {d' : Tree} → ForSort M n m s → Allowed G s d → Visited M n m d m' d' → (s' : ℕ) × ForSort M n m' s' × Allowed G s' d' × ((k : ℕ) → contribution M n k m' d' ≤ contribution M n k m d)
  visited_le {s = s} f ok top = (s, f, ok, λ k. omega arith)
  visited_le f ok (child {m'} {a} {ds} {d'} i v e) =
      let x = visited_le f ok v in
      let y = allowed_rule x.2 in
      let z = allowed_child y.2 i e in
      (z.0, passed_sort W x.1 y.1 i z.1, z.2, λ k. omega (arith, x.3 k, counting_step W x.1 y.1 k y.2, over_part (λ i d. contribution M n k (passed M n a m' i) d) 1 i i ds (omega arith) e))

  -- Overflow is exact: if a multiplicity at some node is over a bound, the output tree has more nodes than that with some symbol, one that the output of the state has at the root.
  pub overflow_translate : {m' : ℕ → ℕ} {d d' : Tree} (bound q : ℕ) → Allowed G 0 d → Visited M n (λ q. calls_of q M.initial) d m' d' → q < n → bound < m' q → bound < occurrences (symbol (output M d' q)).0 (translate M d)
  overflow_translate {m'} {d} {d'} bound q ok v l h =
      let x = visited_le (start_sort W) ok v in
      let k = (symbol (output M d' q)).0 in
      omega (arith, multiplicity_le M n m' d' q l, x.3 k, counting_start W k d)

  -- so where all the numbers fit, every multiplicity does
  pub multiplicities_fit : {m' : ℕ → ℕ} {d d' : Tree} (bound q : ℕ) → Allowed G 0 d → Visited M n (λ q. calls_of q M.initial) d m' d' → q < n → ((k : ℕ) → occurrences k (translate M d) ≤ bound) → m' q ≤ bound
  multiplicities_fit {m'} {d} {d'} bound q ok v l fit = by_cases (dec_lt bound (m' q)) (λ h. absurd (omega (arith, overflow_translate bound q ok v l h, fit (symbol (output M d' q)).0))) (λ h. omega arith)

  -- and that symbol is one of the output alphabet, where the right-hand sides have only symbols below b
  pub overflow_symbol : {m' : ℕ → ℕ} {d d' : Tree} (b q : ℕ) → ((k q a : ℕ) (sorts : List ℕ) → b ≤ k → q < n → G.children (M.sort q) a ≡ some sorts → occurrences k (M.rhs q a) ≡ 0)
      → Allowed G 0 d → Visited M n (λ q. calls_of q M.initial) d m' d' → q < n → 1 ≤ m' q → (symbol (output M d' q)).0 < b
  overflow_symbol {d' = d'} b q absent ok v l h =
      let x = visited_le (start_sort W) ok v in
      root_below b (output M d' q) (λ k z. absent_output W k (λ q a sorts l c. absent k q a sorts z l c) q l (rw (x.1 q l h) x.2))

-- a symbol that stands in no output tree stands in none of several
pub absent_total : {Q : Type 0} (M : Transducer Q) (k : ℕ) (ds : List Tree) → ((j : ℕ) (d : Tree) → get_elem? ds j ≡ some d → occurrences k (translate M d) ≡ 0) → total M k ds ≡ 0
unfolding total
absent_total M k [] h = refl
absent_total M k (d ∷ ds) h = omega (arith, h 0 d refl, absent_total M k ds (λ j e g. h (suc j) e g))
