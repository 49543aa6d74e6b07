-- One state if one state will do (02, F-7; Maneth, Seidl & Vu 2021, theorem 4): a canonical transducer has an equivalent one with one state exactly if the walk goes through for each symbol.
use Prim.Native.Nat.{ℕ, suc, ◌<◌}
use native.Mathlib.Omega.{arith}
use mathlib.Core.Path.{◌≡◌, refl, sym, ap, subst, ◌∙◌}
use mathlib.Core.Logic.{◌⊎◌, inl, inr, ⊎_elim}
use mathlib.Core.List.{List, [], ◌∷◌, ◌++◌}
use mathlib.Core.Option.{Option, some, none as nothing, some-injective, get_or, Option-elim}
use Rattle.theory.specs.Canonical.{Canonical}
use Rattle.theory.specs.Equivalent.{Equivalent}
use Rattle.theory.specs.Grammar.{Grammar, Allowed, AllAllowed, rule, end, next}
use Rattle.theory.specs.Inner.Nodes.{child_at}
use Rattle.theory.specs.NormalForm.{Identical}
use Rattle.theory.specs.OneState.{OneState, OneStateOf, Constant, one_state, moved, copies, stepped, Factor}
use Rattle.theory.specs.Reached.{Called}
use Rattle.theory.specs.Term.{Term, Terms, var, node, none, bind, mapT, sub, Tree, symbol_at, root}
use Rattle.theory.specs.Transducer.{Transducer, translate, output}
use Rattle.theory.specs.Vars.{AllVars, one}
use Rattle.theory.specs.Wf.{Wf, Fits, nth}
use Rattle.theory.proofs.Bounded.{all_or_some, if_some}
use Rattle.theory.proofs.Agree.{Agree, agree_match}
use Rattle.theory.proofs.Equivalences.{equivalent_sym, equivalent_trans}
use Rattle.theory.proofs.Existence.{match_equal}
use Rattle.theory.proofs.Factors.{first_child, first_none, first_called, factor, factor_complete, factor_unique, factor_sound, factor_ground}
use Rattle.theory.proofs.Match.{match_map}
use Rattle.theory.proofs.OpenRuns.{all_bind}
use Rattle.theory.proofs.Runs.{fill, call, call_at, Meets, output_node, by_tree, initial_sort, nth_one}
use Rattle.theory.proofs.Terms.{conflict, bind_var, bind_bind, bind_cong, bind_map, sub_bind_var}
use Rattle.theory.proofs.Vars.{all_map, all_at, at_all, all_one, bind_ext}

module _ (M : Transducer ℕ) where
  -- the initial term moved to child i gives over the children what M gives on child i
  pub fill_moved : {d : Tree} (ds : Terms ⊥) (i : ℕ) → child_at ds i ≡ some d → fill M ds (moved M.initial i) ≡ translate M d
  unfolding moved translate
  fill_moved ds i s = bind_map (λ e. (i, e.1)) M.initial (call M ds) ∙ bind_cong M.initial (λ e. call_at M ds i e.1 s)

  -- what M does at a node, over its children, is what it gives on the tree
  pub fill_stepped : (a : ℕ) (ds : Terms ⊥) → fill M ds (stepped M a) ≡ translate M (node a ds)
  unfolding stepped translate
  fill_stepped a ds = bind_bind M.initial (λ e. M.rhs e.1 a) (call M ds) ∙ bind_cong M.initial (λ e. sym (output_node M e.1 a ds))

-- the one number below 1
below_one : {q : ℕ} → q < 1 → q ≡ 0
below_one l = omega arith

module _ {G : Grammar} {N : Transducer ℕ} (O : OneState G N) where
  -- the state reads sort 0
  pub one_sort : N.sort 0 ≡ 0
  one_sort = sym (nth_one 1 (go N.initial O.initial O.wf.initial).sort)
    where
      go : (t : Term (ℕ × ℕ)) → t ≡ var (1, 0) → AllVars (Fits N (λ q. q < 1) (0 ∷ [])) t → Fits N (λ q. q < 1) (0 ∷ []) (1, 0)
      go t e f = all_one (rw e at f)

  -- it translates a tree as the state does
  pub one_translate : (d : Tree) → translate N d ≡ output N d 0
  unfolding translate bind
  one_translate d = ap (λ t. bind t (λ e. output N d e.1)) O.initial

-- among allowed children the one of a sort is allowed there
allowed_child : {G : Grammar} {sorts : List ℕ} {ds : Terms ⊥} {s : ℕ} → AllAllowed G sorts ds → (i : ℕ) → nth sorts i ≡ some s → (d : Tree) × (child_at ds i ≡ some d) × Allowed G s d
unfolding nth child_at
allowed_child end i e = conflict (cc)
allowed_child (next a as') ℕ.zero e = conflict (cc)
allowed_child {s = s} (next {s = r} {d = d} a as') (suc ℕ.zero) e = let z : r ≡ s = cc in (d, refl, rw z at a)
allowed_child (next a as') (suc (suc i)) e = allowed_child as' (suc i) e

module _ {G : Grammar} (M : Transducer ℕ) {N : Transducer ℕ} (O : OneState G N) where
  sound_step : ((a : ℕ) (sorts : List ℕ) → G.children 0 a ≡ some sorts → copies M.initial (N.rhs 0 a) ≡ stepped M a) → (q a : ℕ) (sorts : List ℕ) (ds : Terms ⊥) → q < 1 → G.children (N.sort q) a ≡ some sorts → AllVars (Meets G N (λ q. q < 1) (λ q d. output N d q ≡ translate M d) ds) (N.rhs q a) → output N (node a ds) q ≡ translate M (node a ds)
  unfolding copies
  sound_step h q a sorts ds l k m =
      let z = below_one l in
      let k' : G.children 0 a ≡ some sorts = ap (λ s. G.children s a) (sym (ap N.sort z ∙ one_sort O)) ∙ k in
      output_node N q a ds
      ∙ (bind_ext (all_map (λ e p. call_at N ds e.0 e.1 p.found ∙ (p.holds ∙ sym (fill_moved M ds e.0 p.found))) m)
      ∙ (sym (bind_bind (N.rhs q a) (λ e. moved M.initial e.0) (call M ds))
      ∙ (ap (λ t. fill M ds (bind t (λ e. moved M.initial e.0))) (ap (λ p. N.rhs p a) z)
      ∙ (ap (fill M ds) (h a sorts k') ∙ fill_stepped M a ds))))

  -- If for each symbol what M does at a node is made of copies of its initial term, under the right-hand side of the one state, the two are equivalent.
  pub one_sound : ((a : ℕ) (sorts : List ℕ) → G.children 0 a ≡ some sorts → copies M.initial (N.rhs 0 a) ≡ stepped M a) → Equivalent G M N
  one_sound h = record { translation = λ d ok. sym (one_translate O d ∙ by_tree O.wf (λ q d. output N d q ≡ translate M d) (sound_step h) 0 (omega arith) (rw (one_sort O) ok)) }

module _ {G : Grammar} {M : Transducer ℕ} {Valid : ℕ → Type 0} (W : Wf G M Valid) where
  -- what M does at a node calls states that read the sorts of the children
  pub stepped_fits : (a : ℕ) {sorts : List ℕ} → G.children 0 a ≡ some sorts → AllVars (Fits M Valid sorts) (stepped M a)
  unfolding stepped
  stepped_fits a k = all_bind (all_map (λ e p. W.rhs e.1 a p.0 (ap (λ s. G.children s a) (sym p.1) ∙ k)) (initial_sort M W))

  -- so does the initial term moved to a child of sort 0
  moved_fits : {sorts : List ℕ} (i : ℕ) → nth sorts i ≡ some 0 → AllVars (Fits M Valid sorts) (moved M.initial i)
  unfolding moved mapT
  moved_fits i z = all_bind (all_map (λ e p. one (record { valid = p.0; sort = z ∙ ap some p.1 })) (initial_sort M W))

  copies_fit : {sorts : List ℕ} {r : Term (ℕ × ℕ)} → AllVars (λ e. nth sorts e.0 ≡ some 0) r → AllVars (Fits M Valid sorts) (copies M.initial r)
  unfolding copies
  copies_fit p = all_bind (all_map (λ e z. moved_fits e.0 z) p)

module _ {G : Grammar} {M N : Transducer ℕ} {Valid : ℕ → Type 0} (C : Canonical G M Valid) (O : OneState G N) (h : Equivalent G M N) where
  one_calls : (a : ℕ) {sorts : List ℕ} → G.children 0 a ≡ some sorts → AllVars (λ e. (e.1 ≡ 0) × (nth sorts e.0 ≡ some 0)) (N.rhs 0 a)
  one_calls a k = all_map (λ e f. let z = below_one f.valid in (z, f.sort ∙ ap some (ap N.sort z ∙ one_sort O))) (O.wf.rhs 0 a (omega arith) (ap (λ s. G.children s a) (one_sort O) ∙ k))

  one_agree : (a : ℕ) {sorts : List ℕ} → G.children 0 a ≡ some sorts → Agree G M M sorts (copies M.initial (N.rhs 0 a)) (stepped M a)
  unfolding copies
  one_agree a k ds ok =
      bind_bind (N.rhs 0 a) (λ e. moved M.initial e.0) (call M ds)
      ∙ (bind_ext (all_map (λ e p. let x = allowed_child ok e.0 p.1 in
      fill_moved M ds e.0 x.1 ∙ (h.translation x.0 x.2 ∙ (one_translate O x.0 ∙ (ap (output N x.0) (sym p.0) ∙ sym (call_at N ds e.0 e.1 x.1))))) (one_calls a k))
      ∙ (sym (output_node N 0 a ds) ∙ (sym (one_translate O (node a ds)) ∙ (sym (h.translation (node a ds) (rule k ok)) ∙ sym (fill_stepped M a ds)))))

  -- If a transducer with one state is equivalent to M, what M does at a node is made of copies of its initial term under the right-hand side of the one state.
  pub one_factor : (a : ℕ) (sorts : List ℕ) → G.children 0 a ≡ some sorts → Factor M.initial (stepped M a) (N.rhs 0 a)
  one_factor a sorts k = record {
    state = all_map (λ e p. p.0) (one_calls a k);
    whole = match_equal (match_map (λ e e' r. record { child = r.child; state = C.reduced e.1 e'.1 r.state.valid r.state.valid' r.state.equiv })
        (agree_match C.earliest C.earliest (copies_fit C.wf (all_map (λ e p. p.1) (one_calls a k))) (stepped_fits C.wf a k) (one_agree a k)));
  }

-- the transducer with one state that the walk finds: its right-hand side for a is the factor of what M does at a node with a
unfoldable pub factored : Transducer ℕ → Transducer ℕ
factored M = one_state (λ a. get_or (factor M.initial (stepped M a)) (node 0 none))

-- the walk goes through, for each symbol
abbrev pub Factors : Grammar → Transducer ℕ → Type 0
Factors G M = (a : ℕ) (sorts : List ℕ) → G.children 0 a ≡ some sorts → (r : Term (ℕ × ℕ)) × (factor M.initial (stepped M a) ≡ some r)

-- the right-hand side that the walk finds
pub factored_rhs : (M : Transducer ℕ) (q a : ℕ) {r : Term (ℕ × ℕ)} → factor M.initial (stepped M a) ≡ some r → (factored M).rhs q a ≡ r
unfolding factored one_state Option-elim
factored_rhs M q a h = rw h

-- what holds of the states that a term calls holds of those that it calls when moved
moved_all : (P : ℕ → Type 0) (A : Term (ℕ × ℕ)) (i : ℕ) → AllVars (λ e. P e.1) A → AllVars (λ e. P e.1) (moved A i)
unfolding moved mapT
moved_all P A i p = all_bind (all_map (λ e h. one h) p)

module _ {G : Grammar} {M : Transducer ℕ} {Valid : ℕ → Type 0} (W : Wf G M Valid) (F : Factors G M) where
  -- a call that the walk makes is on a child of sort 0
  factored_call : (a : ℕ) {sorts : List ℕ} {r : Term (ℕ × ℕ)} → G.children 0 a ≡ some sorts → factor M.initial (stepped M a) ≡ some r → (v : List ℕ) (e : ℕ × ℕ) → sub r v ≡ some (var e) → (e.1 ≡ 0) × (nth sorts e.0 ≡ some 0)
  unfolding copies
  factored_call a {r = r} k h v e s =
      let x = factor_sound M.initial (stepped M a) h in
      let c = all_at x.1 v s in
      let t : sub (stepped M a) (v ++ c.called.address) ≡ some (var (e.0, c.called.state)) = ap (λ u. sub u (v ++ c.called.address)) (sym x.0) ∙ (sub_bind_var r (λ e. moved M.initial e.0) v c.called.address s ∙ c.called.there) in
      let f = all_at (stepped_fits W a k) (v ++ c.called.address) t in
      let z : 0 ≡ M.sort c.called.state = all_at (moved_sort e.0) c.called.address c.called.there in
      (c.state, f.sort ∙ ap some (sym z))
    where
      moved_sort : (i : ℕ) → AllVars (λ e. 0 ≡ M.sort e.1) (moved M.initial i)
      moved_sort i = moved_all (λ q. 0 ≡ M.sort q) M.initial i (all_map (λ e p. p.1) (initial_sort M W))

  -- what the walk finds is a transducer with one state
  pub factored_one : OneState G (factored M)
  unfolding factored one_state nth
  factored_one = record {
    initial = refl;
    wf = record {
      initial = one {a = (1, 0)} (record { valid = omega arith; sort = refl });
      rhs = λ q a l k. let x = F a _ k in rw x.1 (at_all x.0 (λ v e s. let y = factored_call a k x.1 v e s in record { valid = omega (arith, y.0); sort = y.1 }));
    };
  }

  -- The one-state transducer that the walk finds is equivalent to M.
  pub factored_found : OneStateOf G M (factored M)
  factored_found = record {
    one = factored_one;
    equivalent = one_sound M factored_one (λ a sorts k. let x = F a sorts k in ap (copies M.initial) (factored_rhs M 0 a x.1) ∙ (factor_sound M.initial (stepped M a) x.1).0);
  }

-- an initial term without calls stays at a node
stepped_ground : (M : Transducer ℕ) (a : ℕ) → AllVars (λ e. ⊥) M.initial → stepped M a ≡ M.initial
unfolding stepped
stepped_ground M a p = bind_ext (all_map (λ e x. absurd x) p) ∙ bind_var M.initial

-- so the walk finds it
pub ground_factor : (M : Transducer ℕ) (a : ℕ) → AllVars (λ e. ⊥) M.initial → factor M.initial (stepped M a) ≡ some M.initial
ground_factor M a p = rw (stepped_ground M a p) (factor_ground M.initial p)

-- a term has no call, or it has one
data Calling (t : Term (ℕ × ℕ)) : Type 0 where
  calls_none : AllVars (λ e. ⊥) t → Calling t
  calls_some : (q : ℕ) → Called t q → Calling t

calling : (t : Term (ℕ × ℕ)) → Calling t
calling t = go (first_child t) refl
  where
    go : (o : Option ℕ) → first_child t ≡ o → Calling t
    go nothing z = calls_none (first_none t z)
    go (some i) z = let x = first_called t z in calls_some x.state (record { address = x.address; child = i; there = x.there })

-- an initial term without calls gives every tree the same
pub ground_constant : {G : Grammar} (M : Transducer ℕ) → AllVars (λ e. ⊥) M.initial → Constant G M
unfolding translate
ground_constant M p d d' ok ok' = bind_ext (all_map (λ e x. absurd x) p)

module _ {G : Grammar} {M : Transducer ℕ} {Valid : ℕ → Type 0} (C : Canonical G M Valid) where
  -- where the initial term of a canonical transducer calls a state, outputs have two symbols
  called_varies : {q : ℕ} → Called M.initial q → Constant G M → ⊥
  unfolding translate symbol_at
  called_varies {q} c h =
      let p = all_at (initial_sort M C.wf) c.address c.there in
      let s = C.earliest q p.0 in
      let at : (d : Tree) → symbol_at (translate M d) (c.address ++ []) ≡ symbol_at (output M d q) [] = λ d. ap root (sub_bind_var M.initial (λ e. output M d e.1) c.address [] c.there) in
      let e = h s.shows_one.tree s.shows_two.tree (subst (λ r. Allowed G r s.shows_one.tree) (sym p.1) s.shows_one.allowed) (subst (λ r. Allowed G r s.shows_two.tree) (sym p.1) s.shows_two.allowed) in
      s.differ (some-injective _ _ (sym s.shows_one.shown ∙ (sym (at s.shows_one.tree) ∙ (ap (λ t. symbol_at t (c.address ++ [])) e ∙ (at s.shows_two.tree ∙ s.shows_two.shown)))))

  -- A canonical transducer gives every tree the same exactly if its initial term has no call.
  pub constant_ground : Constant G M → AllVars (λ e. ⊥) M.initial
  constant_ground h = go (calling M.initial)
    where
      go : Calling M.initial → AllVars (λ e. ⊥) M.initial
      go (calls_none p) = p
      go (calls_some q c) = absurd (called_varies c h)

  varies_called : ¬ Constant G M → (q : ℕ) × Called M.initial q
  varies_called h = go (calling M.initial)
    where
      go : Calling M.initial → (q : ℕ) × Called M.initial q
      go (calls_none p) = absurd (h (ground_constant M p))
      go (calls_some q c) = (q, c)

  -- If some transducer with one state is equivalent to M, the walk goes through.
  pub one_factors : {N : Transducer ℕ} → OneStateOf G M N → Factors G M
  one_factors {N} O a sorts k = go (calling M.initial)
    where
      go : Calling M.initial → (r : Term (ℕ × ℕ)) × (factor M.initial (stepped M a) ≡ some r)
      go (calls_none p) = (M.initial, ground_factor M a p)
      go (calls_some q c) = let f = one_factor C O.one O.equivalent a sorts k in (N.rhs 0 a, rw (← f.whole) (factor_complete c f.state))

  -- Where the walk fails, no transducer with one state, of any size, is equivalent to M.
  pub factors_none : (a : ℕ) (sorts : List ℕ) → G.children 0 a ≡ some sorts → factor M.initial (stepped M a) ≡ nothing → (N : Transducer ℕ) → ¬ OneStateOf G M N
  factors_none a sorts k h N O = let x = one_factors O a sorts k in conflict (cc x.1)

  -- If every tree gets the same output tree, the walk goes through, and the right-hand sides that it finds are that tree, with no call.
  pub constant_factored : Constant G M → Factors G M
  constant_factored h a sorts k = (M.initial, ground_factor M a (constant_ground h))

  pub constant_rhs : Constant G M → (a : ℕ) → AllVars (λ e. ⊥) ((factored M).rhs 0 a)
  constant_rhs h a = rw (factored_rhs M 0 a (ground_factor M a (constant_ground h))) (constant_ground h)

  -- Otherwise there is only one such transducer.
  pub one_only : {N N' : Transducer ℕ} → ¬ Constant G M → OneStateOf G M N → OneStateOf G M N' → Identical G N N' 1 1
  one_only {N} {N'} h O O' =
      let c = (varies_called h).1 in
      record {
        number = refl;
        initial = O.one.initial ∙ sym O'.one.initial;
        sort = λ p l. let z = below_one l in ap N.sort z ∙ (one_sort O.one ∙ (sym (one_sort O'.one) ∙ sym (ap N'.sort z)));
        rhs = λ p a sorts l k.
            let z = below_one l in
            let k' : G.children 0 a ≡ some sorts = ap (λ s. G.children s a) (sym (ap N.sort z ∙ one_sort O.one)) ∙ k in
            ap (λ p. N.rhs p a) z ∙ (factor_unique c (one_factor C O.one O.equivalent a sorts k') (one_factor C O'.one O'.equivalent a sorts k') ∙ sym (ap (λ p. N'.rhs p a) z));
      }

  -- Whether M gives every tree the same is decided.
  pub decide_constant : Dec (Constant G M)
  decide_constant = go (calling M.initial)
    where
      go : Calling M.initial → Dec (Constant G M)
      go (calls_none p) = yes (ground_constant M p)
      go (calls_some q c) = no (called_varies c)

-- equivalent transducers have the same equivalent ones with one state
of_equivalent : {Q Q' : Type 0} {G : Grammar} {M : Transducer Q} {M' : Transducer Q'} {N : Transducer ℕ} → Equivalent G M M' → OneStateOf G M N → OneStateOf G M' N
of_equivalent h O = record { one = O.one; equivalent = equivalent_trans (equivalent_sym h) O.equivalent }

constant_equivalent : {Q Q' : Type 0} {G : Grammar} {M : Transducer Q} {M' : Transducer Q'} → Equivalent G M M' → Constant G M → Constant G M'
constant_equivalent h c d d' ok ok' = sym (h.translation d ok) ∙ (c d d' ok ok' ∙ h.translation d' ok')

-- M is any transducer, and N a canonical one that is equivalent to it, as its normal form is.
module _ {Q : Type 0} {G : Grammar} {M : Transducer Q} {N : Transducer ℕ} {Valid : ℕ → Type 0} (h : Equivalent G M N) (C : Canonical G N Valid) where
  -- If the walk goes through for each symbol, the transducer with one state that it finds is equivalent to M.
  pub one_found : Factors G N → OneStateOf G M (factored N)
  one_found F = of_equivalent (equivalent_sym h) (factored_found C.wf F)

  -- If it fails for a symbol, no transducer with one state, of any size, is.
  pub one_none : (a : ℕ) (sorts : List ℕ) → G.children 0 a ≡ some sorts → factor N.initial (stepped N a) ≡ nothing → (K : Transducer ℕ) → ¬ OneStateOf G M K
  one_none a sorts k f K O = factors_none C a sorts k f K (of_equivalent h O)

  -- If every tree gets the same output tree, it goes through, and the right-hand sides that it finds have no call.
  pub one_constant : Constant G M → Factors G N × ((a : ℕ) → AllVars (λ e. ⊥) ((factored N).rhs 0 a))
  one_constant c = let c' = constant_equivalent h c in (constant_factored C c', constant_rhs C c')

  -- Otherwise there is only one transducer with one state that is equivalent to M.
  pub one_unique : {K K' : Transducer ℕ} → ¬ Constant G M → OneStateOf G M K → OneStateOf G M K' → Identical G K K' 1 1
  one_unique c O O' = one_only C (λ c'. c (constant_equivalent (equivalent_sym h) c')) (of_equivalent h O) (of_equivalent h O')

  look_factor : (a : ℕ) → ((sorts : List ℕ) → G.children 0 a ≡ some sorts → (r : Term (ℕ × ℕ)) × (factor N.initial (stepped N a) ≡ some r)) ⊎ ((sorts : List ℕ) × (G.children 0 a ≡ some sorts) × (factor N.initial (stepped N a) ≡ nothing))
  look_factor a = if_some (G.children 0 a) (go (factor N.initial (stepped N a)))
    where
      go : (o : Option (Term (ℕ × ℕ))) → ((r : Term (ℕ × ℕ)) × (o ≡ some r)) ⊎ (o ≡ nothing)
      go nothing = inr refl
      go (some r) = inl (r, refl)

  -- So whether there is one is decided.
  pub decide_one : Dec ((K : Transducer ℕ) × OneStateOf G M K)
  decide_one = ⊎_elim
      (λ f. yes (factored N, one_found (λ a sorts k. f a (G.bounded _ a k) sorts k)))
      (λ x. no (λ O. one_none x.0 x.2.0 x.2.1 x.2.2 O.0 O.1))
      (all_or_some G.symbols (λ a l. look_factor a))
