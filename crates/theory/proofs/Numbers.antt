-- The numbers 0, 1, … as a list of states: a transducer is Numbered exactly if counting finds it so (Scanned); and what is listed as met, or identical to what is numbered, is numbered.
use Prim.Native.Nat.{ℕ, suc, ◌<◌, ◌≤◌, ◌+◌}
use native.Mathlib.Decide.{dec_lt}
use native.Mathlib.Omega.{arith}
use mathlib.Core.Path.{◌≡◌, refl, sym, ap, ap₂, ◌∙◌, subst, fun_ext}
use mathlib.Core.List.{List, [], ◌∷◌, ◌++◌}
use mathlib.Core.Option.{Option, none as nothing, some, bind as obind, bind-eq-some_iff, some-injective}
use lib.ListN.{get_elem?, length}
use Rattle.theory.specs.Discovered.{Read, read_call, read_node, Reads, read_none, read_more, ReadRhs, no_rhs, skip_rhs, read_rhs, ReadStates, read_initial, read_state, Discovered}
use Rattle.theory.specs.Grammar.{Grammar}
use Rattle.theory.specs.Listing.{Indexes, listed}
use Rattle.theory.specs.NormalForm.{Identical}
use Rattle.theory.specs.Numbered.{count_up, Numbered}
use Rattle.theory.specs.Registry.{Enter, found, added}
use Rattle.theory.specs.Term.{Term, var, node, Terms, none, more}
use Rattle.theory.specs.Transducer.{Transducer}
use Rattle.theory.proofs.Discovery.{discovered_scanned}
use Rattle.theory.proofs.Listings.{listed_sort, listed_rhs}
use Rattle.theory.proofs.Lists.{get_lt}
use Rattle.theory.proofs.Morphism.{renamed_id}
use Rattle.theory.proofs.Scanning.{scan, scans, scan_rhs, scan_rhss, scan_states, only_if, Scanned}
use Rattle.theory.proofs.Scans.{Met, met_old, met_new, see_met, only_if_some}

-- the k-th number from p on is p + k
pub count_get : (p n k : ℕ) → k < n → get_elem? (count_up p n) k ≡ some (p + k)
unfolding count_up
count_get p ℕ.zero k l = absurd (omega arith)
count_get p (suc n) ℕ.zero l = ap some (omega arith)
count_get p (suc n) (suc k) l = count_get (suc p) n k (omega arith) ∙ ap some (omega arith)

-- there are n of them
pub count_length : (p n : ℕ) → length (count_up p n) ≡ n
unfolding count_up
count_length p ℕ.zero = refl
count_length p (suc n) = ap suc (count_length (suc p) n)

-- each state below n has its own number in 0, 1, …
pub own_indexes : (n : ℕ) → Indexes (count_up 0 n) (λ q. q)
own_indexes n = record { index = λ k q e. let l = get_lt (count_up 0 n) k e in some-injective _ _ (sym e ∙ (count_get 0 n k (omega (arith, count_length 0 n)) ∙ ap some (omega arith))) }

-- listed as 0, 1, … a transducer is itself
pub own_identical : {G : Grammar} (N : Transducer ℕ) (n : ℕ) → Identical G N (listed N (count_up 0 n) (λ q. q)) n (length (count_up 0 n))
unfolding listed
own_identical N n =
    let here : (p : ℕ) → p < n → get_elem? (count_up 0 n) p ≡ some p = λ p l. count_get 0 n p l ∙ ap some (omega arith) in
    record {
      number = sym (count_length 0 n);
      initial = sym (renamed_id N.initial);
      sort = λ p l. sym (listed_sort N (count_up 0 n) (λ q. q) p (here p l));
      rhs = λ p a sorts l k. sym (listed_rhs N (count_up 0 n) (λ q. q) p a (here p l) ∙ renamed_id (N.rhs p a));
    }

-- one number more stands at the end
count_snoc : (p n : ℕ) → count_up p (suc n) ≡ count_up p n ++ ((p + n) ∷ [])
unfolding count_up
count_snoc p ℕ.zero = ap (λ k. k ∷ []) (omega arith)
count_snoc p (suc n) = ap (◌∷◌ p) (count_snoc (suc p) n ∙ ap (λ k. count_up (suc p) n ++ k ∷ []) (omega arith))

-- ---- what counting finds numbered is
met_enter : {q n m : ℕ} → Met q n m → (k : ℕ) × Enter (count_up 0 n) q k (count_up 0 m)
met_enter {q} {n} (met_old l e) = (q, subst (λ m. Enter (count_up 0 n) q q (count_up 0 m)) (sym e) (found (count_get 0 n q l ∙ ap some (omega arith))))
met_enter {q} {n} (met_new z e) =
    let new : (k : ℕ) → get_elem? (count_up 0 n) k ≡ some n → ⊥ = λ k s. omega (arith, (own_indexes n).index k n s, get_lt (count_up 0 n) k s, count_length 0 n) in
    let there : Enter (count_up 0 n) n (length (count_up 0 n)) (count_up 0 n ++ n ∷ []) = added new in
    let zero : 0 + n ≡ n = omega arith in
    (length (count_up 0 n), rw (z, e, count_snoc 0 n, zero) there)

mutual
  unfolding scan

  scan_read : (t : Term (ℕ × ℕ)) (n : ℕ) {m : ℕ} → scan t n ≡ some m → Read t (count_up 0 n) (count_up 0 m)
  scan_read (var e) n h = read_call (met_enter (see_met h)).1
  scan_read (node k ts) n h = read_node (scans_read ts n h)

  scans_read : (ts : Terms (ℕ × ℕ)) (n : ℕ) {m : ℕ} → scans ts n ≡ some m → Reads ts (count_up 0 n) (count_up 0 m)
  scans_read none n h = subst (λ m. Reads none (count_up 0 n) (count_up 0 m)) (some-injective _ _ h) read_none
  scans_read (more t ts) n h = let x = (bind-eq-some_iff _ _).0 h in read_more (scan_read t n x.1) (scans_read ts x.0 x.2)

module _ (G : Grammar) (M : Transducer ℕ) where
  rhs_step : (p a n : ℕ) {m : ℕ} {L : List ℕ} (o : Option (List ℕ)) → G.children (M.sort p) a ≡ o → ReadRhs G M p L a (count_up 0 n) → scan_rhs o (M.rhs p a) n ≡ some m → ReadRhs G M p L (suc a) (count_up 0 m)
  unfolding scan_rhs
  rhs_step p a n {L = L} nothing e r h = subst (λ m. ReadRhs G M p L (suc a) (count_up 0 m)) (some-injective _ _ h) (skip_rhs r e)
  rhs_step p a n (some sorts) e r h = read_rhs r e (scan_read (M.rhs p a) n h)

  rhss_read : (p k a n : ℕ) {m : ℕ} {L : List ℕ} → ReadRhs G M p L a (count_up 0 n) → scan_rhss G M p k a n ≡ some m → ReadRhs G M p L (a + k) (count_up 0 m)
  unfolding scan_rhss
  rhss_read p ℕ.zero a n {m} r h = let z : a + 0 ≡ a = omega arith in let y : n ≡ m = some-injective _ _ h in rw (z, ← y) r
  rhss_read p (suc k) a n r h =
      let x = (bind-eq-some_iff _ _).0 h in
      let z : a + suc k ≡ suc a + k = omega arith in
      rw z (rhss_read p k (suc a) x.0 (rhs_step p a n _ refl r x.1) x.2)

  states_read : (m p n : ℕ) {k : ℕ} → ReadStates G M p (count_up 0 n) → scan_states G M m p n ≡ some k → ReadStates G M (p + m) (count_up 0 k)
  unfolding scan_states
  states_read ℕ.zero p n {k} s h = let z : p + 0 ≡ p = omega arith in let y : n ≡ k = some-injective _ _ h in rw (z, ← y) s
  states_read (suc m) p n s h =
      let g = only_if_some _ h in
      let x = (bind-eq-some_iff _ _).0 g.1 in
      let z : p + suc m ≡ suc p + m = omega arith in
      let zero : 0 + G.symbols ≡ G.symbols = omega arith in
      let r : ReadRhs G M p (count_up 0 n) G.symbols (count_up 0 x.0) = rw zero at (rhss_read p G.symbols 0 n no_rhs x.1) in
      rw z (states_read m (suc p) x.0 (read_state s (count_get 0 n p g.0 ∙ ap some (omega arith)) r) x.2)

-- A transducer that counting finds numbered is numbered.
pub scanned_numbered : (G : Grammar) (M : Transducer ℕ) (n : ℕ) → Scanned G M n → Numbered G M n
unfolding Scanned Numbered count_up
scanned_numbered G M n h =
    let x = (bind-eq-some_iff _ _).0 h in
    let zero : 0 + n ≡ n = omega arith in
    rw (count_length 0 n) (rw zero at (states_read G M n 0 x.0 (read_initial (scan_read M.initial 0 x.1)) x.2))

-- ---- and the other way round
module _ {G : Grammar} {N N' : Transducer ℕ} {n n' : ℕ} (i : Identical G N N' n n') where
  same_rhs : (p a : ℕ) (m : ℕ) (o : Option (List ℕ)) → p < n → G.children (N.sort p) a ≡ o → scan_rhs o (N.rhs p a) m ≡ scan_rhs o (N'.rhs p a) m
  unfolding scan_rhs
  same_rhs p a m nothing l e = refl
  same_rhs p a m (some sorts) l e = rw (i.rhs p a sorts l e)

  same_rhss : (p k a m : ℕ) → p < n → scan_rhss G N p k a m ≡ scan_rhss G N' p k a m
  unfolding scan_rhss
  same_rhss p ℕ.zero a m l = refl
  same_rhss p (suc k) a m l = ap₂ obind (same_rhs p a m (G.children (N.sort p) a) l refl ∙ ap (λ s. scan_rhs (G.children s a) (N'.rhs p a) m) (i.sort p l)) (fun_ext (λ x. same_rhss p k (suc a) x l))

  same_states : (j p m : ℕ) → p + j ≤ n → scan_states G N j p m ≡ scan_states G N' j p m
  unfolding scan_states
  same_states ℕ.zero p m l = refl
  same_states (suc j) p m l = ap (only_if (dec_lt p m)) (ap₂ obind (same_rhss p G.symbols 0 m (omega arith)) (fun_ext (λ x. same_states j (suc p) x (omega arith))))

  -- identical transducers are counted alike
  same_scan : obind (scan N.initial 0) (scan_states G N n 0) ≡ obind (scan N'.initial 0) (scan_states G N' n' 0)
  same_scan = ap₂ (λ t k. obind (scan t 0) (scan_states G N k 0)) i.initial i.number ∙ ap (obind (scan N'.initial 0)) (fun_ext (λ m. same_states n' 0 m (omega (arith, i.number))))

  identical_scanned : Scanned G N n → Scanned G N' n'
  unfolding Scanned
  identical_scanned h = sym same_scan ∙ (h ∙ ap some i.number)

  scanned_identical : Scanned G N' n' → Scanned G N n
  unfolding Scanned
  scanned_identical h = same_scan ∙ (h ∙ ap some (sym i.number))

-- A numbered transducer is found so by counting.
pub numbered_scanned : (G : Grammar) (M : Transducer ℕ) (n : ℕ) → Numbered G M n → Scanned G M n
unfolding Numbered
numbered_scanned G M n d = scanned_identical (own_identical M n) (discovered_scanned (own_indexes n) d)

-- Listed in the order of first meeting, the states are numbered.
pub discovered_numbered : {Q : Type 0} {G : Grammar} {M : Transducer Q} {F : List Q} {idx : Q → ℕ} → Indexes F idx → Discovered G M F → Numbered G (listed M F idx) (length F)
discovered_numbered {G = G} {M} {F} {idx} I d = scanned_numbered G (listed M F idx) (length F) (discovered_scanned I d)

-- What is identical to a numbered transducer is numbered.
pub identical_numbered : {G : Grammar} {N N' : Transducer ℕ} {n n' : ℕ} → Identical G N N' n n' → Numbered G N n → Numbered G N' n'
identical_numbered {G} {N} {N'} {n} {n'} i h = scanned_numbered G N' n' (identical_scanned i (numbered_scanned G N n h))
