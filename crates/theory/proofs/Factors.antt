-- Writing a term as copies of the initial term, moved to children, under other symbols: a function that finds it, which is sound and complete.
use Prim.Native.Nat.{◌+◌, ℕ, suc, ◌<◌, ◌≤◌}
use native.Mathlib.Omega.{arith}
use mathlib.Core.Path.{◌≡◌, refl, sym, ap, ap₂, subst, ◌∙◌}
use mathlib.Core.Logic.{◌≢◌, ◌↔◌}
use mathlib.Core.List.{List, [], ◌∷◌, ◌++◌}
use mathlib.Core.Option.{Option, some, none as nothing, some-injective, bind as obind, bind-eq-some_iff, or_else}
use Rattle.theory.specs.OneState.{moved, copies, Factor}
use Rattle.theory.specs.Reached.{Called}
use Rattle.theory.specs.Size.{size, sizes}
use Rattle.theory.specs.Term.{Term, Terms, var, node, none, more, bind, binds, mapT, sub, subs}
use Rattle.theory.specs.Vars.{AllVars, one, each, EachVars, done, both}
use Rattle.theory.proofs.Discovery.{calls_of, calls_in}
use Rattle.theory.proofs.Existence.{decide_term}
use Rattle.theory.proofs.OpenRuns.{all_bind, all_vars}
use Rattle.theory.proofs.Terms.{conflict, sub_bind, var_below}
use Rattle.theory.proofs.Vars.{all_at, all_map}

-- the child that the leftmost call of a term is on, if it has a call
unfoldable mutual
  pub first_child : Term (ℕ × ℕ) → Option ℕ
  first_child (var e) = some e.0
  first_child (node k ts) = first_child_in ts

  pub first_child_in : Terms (ℕ × ℕ) → Option ℕ
  first_child_in none = nothing
  first_child_in (more t ts) = or_else (first_child t) (first_child_in ts)

-- i, if the test holds
unfoldable pub when : {P : Type 0} → Dec P → ℕ → Option ℕ
when (yes p) i = some i
when (no f) i = nothing

-- i, if t is A moved to child i; that child is the one that the leftmost call of t is on
unfoldable pub copy_at : Term (ℕ × ℕ) → Term (ℕ × ℕ) → Option ℕ → Option ℕ
copy_at A t nothing = nothing
copy_at A t (some i) = when (decide_term t (moved A i)) i

unfoldable pub copy_of : Term (ℕ × ℕ) → Term (ℕ × ℕ) → Option ℕ
copy_of A t = copy_at A t (first_child t)

-- the call of state 0 on child i, where a copy was found, and else what is found below
unfoldable pub call_or : Option ℕ → Option (Term (ℕ × ℕ)) → Option (Term (ℕ × ℕ))
call_or (some i) o = some (var (i, 0))
call_or nothing o = o

-- The walk: where t is A moved to child i, the call of state 0 on child i; where a call stands elsewhere, nothing; else the symbol stays, and the walk goes on with its children.
unfoldable mutual
  pub factor : Term (ℕ × ℕ) → Term (ℕ × ℕ) → Option (Term (ℕ × ℕ))
  factor A (var e) = call_or (copy_of A (var e)) nothing
  factor A (node k ts) = call_or (copy_of A (node k ts)) (obind (factors A ts) (λ rs. some (node k rs)))

  pub factors : Term (ℕ × ℕ) → Terms (ℕ × ℕ) → Option (Terms (ℕ × ℕ))
  factors A none = some none
  factors A (more t ts) = obind (factor A t) (λ r. obind (factors A ts) (λ rs. some (more r rs)))

-- the child of the first call of a list
unfoldable pub head_child : List (ℕ × ℕ) → Option ℕ
head_child [] = nothing
head_child (e ∷ es) = some e.0

head_append : (es fs : List (ℕ × ℕ)) → head_child (es ++ fs) ≡ or_else (head_child es) (head_child fs)
unfolding head_child or_else
head_append [] fs = refl
head_append (e ∷ es) fs = refl

mutual
  unfolding first_child calls_of head_child

  -- the leftmost call is the first of the calls, from left to right
  pub first_head : (t : Term (ℕ × ℕ)) → first_child t ≡ head_child (calls_of t)
  first_head (var e) = refl
  first_head (node k ts) = first_heads ts

  first_heads : (ts : Terms (ℕ × ℕ)) → first_child_in ts ≡ head_child (calls_in ts)
  first_heads none = refl
  first_heads (more t ts) = ap₂ or_else (first_head t) (first_heads ts) ∙ sym (head_append (calls_of t) (calls_in ts))

-- a call on child i stands at an address
pub record CallOn (look : List ℕ → Option (Term (ℕ × ℕ))) (i : ℕ) : Type 0 where
  pub state : ℕ
  pub address : List ℕ
  pub there : look address ≡ some (var (i, state))

mutual
  unfolding first_child sub or_else

  -- a term whose leftmost call is on child i has a call on child i
  pub first_called : (t : Term (ℕ × ℕ)) {i : ℕ} → first_child t ≡ some i → CallOn (sub t) i
  first_called (var e) h = record { state = e.1; address = []; there = ap (λ j. some (var (j, e.1))) (some-injective _ _ h) }
  first_called (node k ts) h = let x = first_called_in ts h in record { state = x.1.state; address = suc x.0 ∷ x.1.address; there = x.1.there }

  first_called_in : (ts : Terms (ℕ × ℕ)) {i : ℕ} → first_child_in ts ≡ some i → (j : ℕ) × CallOn (subs ts (suc j)) i
  first_called_in none h = conflict (cc)
  first_called_in (more t ts) {i} h = go (first_child t) refl h (λ g. first_called t g) (λ g. first_called_in ts g)
    where
      go : (o : Option ℕ) → first_child t ≡ o → or_else o (first_child_in ts) ≡ some i → (first_child t ≡ some i → CallOn (sub t) i) → (first_child_in ts ≡ some i → (j : ℕ) × CallOn (subs ts (suc j)) i) → (j : ℕ) × CallOn (subs (more t ts) (suc j)) i
      go nothing z h f g = let x = g h in (suc x.0, record { state = x.1.state; address = x.1.address; there = x.1.there })
      go (some c) z h f g = let x = f (z ∙ h) in (0, record { state = x.state; address = x.address; there = x.there })

mutual
  unfolding first_child or_else

  -- a term without a leftmost call has no call
  pub first_none : (t : Term (ℕ × ℕ)) → first_child t ≡ nothing → AllVars (λ e. ⊥) t
  first_none (var e) h = conflict (cc)
  first_none (node k ts) h = each (first_none_in ts h)

  first_none_in : (ts : Terms (ℕ × ℕ)) → first_child_in ts ≡ nothing → EachVars (λ e. ⊥) ts
  first_none_in none h = done
  first_none_in (more t ts) h = go (first_child t) refl h (λ g. first_none t g) (λ g. first_none_in ts g)
    where
      go : (o : Option ℕ) → first_child t ≡ o → or_else o (first_child_in ts) ≡ nothing → (first_child t ≡ nothing → AllVars (λ e. ⊥) t) → (first_child_in ts ≡ nothing → EachVars (λ e. ⊥) ts) → EachVars (λ e. ⊥) (more t ts)
      go nothing z h f g = both (f z) (g h)
      go (some c) z h f g = conflict (cc)

-- the calls of a moved term are on that child
pub moved_child : (A : Term (ℕ × ℕ)) (i : ℕ) → AllVars (λ e. e.0 ≡ i) (moved A i)
unfolding moved mapT
moved_child A i = all_bind (all_vars (λ e. one refl) A)

-- a moved term calls the same states at the same addresses
pub sub_moved : (A : Term (ℕ × ℕ)) (i : ℕ) (v : List ℕ) {e : ℕ × ℕ} → sub A v ≡ some (var e) → sub (moved A i) v ≡ some (var (i, e.1))
unfolding moved mapT bind
sub_moved A i v s = sub_bind A _ v s

-- the leftmost call of a moved term with a call is on that child
pub first_moved : (A : Term (ℕ × ℕ)) (i : ℕ) {q : ℕ} → Called A q → first_child (moved A i) ≡ some i
first_moved A i c = go (first_child (moved A i)) refl
  where
    go : (o : Option ℕ) → first_child (moved A i) ≡ o → first_child (moved A i) ≡ some i
    go nothing z = absurd (all_at (first_none (moved A i) z) c.address (sub_moved A i c.address c.there))
    go (some j) z = let x = first_called (moved A i) z in z ∙ ap some (all_at (moved_child A i) x.address x.there)

mutual
  unfolding sub size

  sub_size : {A : Type 0} {u : Term A} (t : Term A) (v : List ℕ) → sub t v ≡ some u → size u ≤ size t
  sub_size {u} (var a) [] e = let z : size u ≡ 0 = cc in omega arith
  sub_size (var a) (i ∷ v) e = conflict (cc)
  sub_size {u} (node k ts) [] e = let z : size u ≡ suc (sizes ts) = cc in omega arith
  sub_size (node k ts) (i ∷ v) e = let h = subs_size ts i v e in omega arith

  subs_size : {A : Type 0} {u : Term A} (ts : Terms A) (i : ℕ) (v : List ℕ) → subs ts i v ≡ some u → size u ≤ sizes ts
  subs_size none i v e = conflict (cc)
  subs_size (more t ts) ℕ.zero v e = conflict (cc)
  subs_size (more t ts) (suc ℕ.zero) v e = let h = sub_size t v e in omega arith
  subs_size (more t ts) (suc (suc i)) v e = let h = subs_size ts (suc i) v e in omega arith

-- a subtree below the root is smaller
sub_smaller : {A : Type 0} {u : Term A} (t : Term A) (i : ℕ) (v : List ℕ) → sub t (i ∷ v) ≡ some u → size u < size t
unfolding sub size
sub_smaller (var a) i v e = conflict (cc)
sub_smaller (node k ts) i v e = let h = subs_size ts i v e in omega arith

mutual
  unfolding bind size

  map_size : {A B : Type 0} (f : A → B) (t : Term A) → size (bind t (λ a. var (f a))) ≡ size t
  map_size f (var a) = refl
  map_size f (node k ts) = ap suc (maps_size f ts)

  maps_size : {A B : Type 0} (f : A → B) (ts : Terms A) → sizes (binds ts (λ a. var (f a))) ≡ sizes ts
  maps_size f none = refl
  maps_size f (more t ts) = ap₂ ◌+◌ (map_size f t) (maps_size f ts)

-- a moved term has the size of the term
pub moved_size : (A : Term (ℕ × ℕ)) (i : ℕ) → size (moved A i) ≡ size A
unfolding moved mapT
moved_size A i = map_size _ A

module _ {A : Term (ℕ × ℕ)} {q : ℕ} (c : Called A q) where
  -- copies do not nest: what has a symbol above copies is no copy
  pub no_copy : (k : ℕ) (rs : Terms (ℕ × ℕ)) (i : ℕ) → copies A (node k rs) ≢ moved A i
  unfolding copies sub bind
  no_copy k rs i z =
      let s = ap (λ t. sub t c.address) z ∙ sub_moved A i c.address c.there in
      let b = var_below (node k rs) (λ e. moved A e.0) c.address s in
      go b.top b.origin b.at_top
    where
      go : (top : List ℕ) (e : ℕ × ℕ) → sub (node k rs) top ≡ some (var e) → ⊥
      go [] e h = conflict (cc)
      go (x ∷ w) e h =
          let g : sub (moved A i) (x ∷ w) ≡ some (moved A e.0) = ap (λ t. sub t (x ∷ w)) (sym z) ∙ sub_bind (node k rs) (λ e. moved A e.0) (x ∷ w) h in
          let l = sub_smaller (moved A i) x w g in
          omega (arith, moved_size A i, moved_size A e.0)

-- what copy_of answers: no copy, if t is none for any child
module _ (A : Term (ℕ × ℕ)) where
  pub copy_none : (t : Term (ℕ × ℕ)) → ((i : ℕ) → t ≢ moved A i) → copy_of A t ≡ nothing
  unfolding copy_of copy_at when
  copy_none t f = go (first_child t)
    where
      look : (i : ℕ) (d : Dec (t ≡ moved A i)) → when d i ≡ nothing
      look i (yes e) = absurd (f i e)
      look i (no g) = refl

      go : (o : Option ℕ) → copy_at A t o ≡ nothing
      go nothing = refl
      go (some i) = look i (decide_term t (moved A i))

  -- the test fails for i, and the leftmost call of t, if it has one, is on child i
  pub copy_not : (t : Term (ℕ × ℕ)) (i : ℕ) → ((j : ℕ) → first_child t ≡ some j → j ≡ i) → t ≢ moved A i → copy_of A t ≡ nothing
  unfolding copy_of copy_at when
  copy_not t i f g = go (first_child t) refl
    where
      look : (j : ℕ) → j ≡ i → (d : Dec (t ≡ moved A j)) → when d j ≡ nothing
      look j z (yes e) = absurd (g (e ∙ ap (moved A) z))
      look j z (no n) = refl

      go : (o : Option ℕ) → first_child t ≡ o → copy_at A t o ≡ nothing
      go nothing e = refl
      go (some j) e = look j (f j e) (decide_term t (moved A j))

  -- t is A moved to child i, the one that its leftmost call is on
  pub copy_some : (t : Term (ℕ × ℕ)) (i : ℕ) → first_child t ≡ some i → t ≡ moved A i → copy_of A t ≡ some i
  unfolding copy_of copy_at when
  copy_some t i h e = rw h (look (decide_term t (moved A i)))
    where
      look : (d : Dec (t ≡ moved A i)) → when d i ≡ some i
      look (yes e) = refl
      look (no g) = absurd (g e)

  -- t is A moved to child i, and A has a call
  pub copy_here : (t : Term (ℕ × ℕ)) (i : ℕ) {q : ℕ} → Called A q → t ≡ moved A i → copy_of A t ≡ some i
  copy_here t i c e = copy_some t i (ap first_child e ∙ first_moved A i c) e

  -- what it finds is a copy
  pub copy_is : (t : Term (ℕ × ℕ)) {i : ℕ} → copy_of A t ≡ some i → (t ≡ moved A i) × (first_child t ≡ some i)
  unfolding copy_of copy_at when
  copy_is t {i} h = go (first_child t) refl h
    where
      look : (j : ℕ) → first_child t ≡ some j → (d : Dec (t ≡ moved A j)) → when d j ≡ some i → (t ≡ moved A i) × (first_child t ≡ some i)
      look j z (yes e) h = let y : j ≡ i = some-injective _ _ h in (e ∙ ap (moved A) y, z ∙ h)
      look j z (no g) h = conflict (cc)

      go : (o : Option ℕ) → first_child t ≡ o → copy_at A t o ≡ some i → (t ≡ moved A i) × (first_child t ≡ some i)
      go nothing z h = conflict (cc)
      go (some j) z h = look j z (decide_term t (moved A j)) h

  -- the walk at a copy
  pub factor_copy : (t : Term (ℕ × ℕ)) {i : ℕ} → copy_of A t ≡ some i → factor A t ≡ some (var (i, 0))
  unfolding factor call_or
  factor_copy (var e) h = rw h
  factor_copy (node k ts) h = rw h

  -- the walk at a symbol above
  pub factor_node : (k : ℕ) (ts : Terms (ℕ × ℕ)) → copy_of A (node k ts) ≡ nothing → factor A (node k ts) ≡ obind (factors A ts) (λ rs. some (node k rs))
  unfolding factor call_or
  factor_node k ts h = rw h

  -- the walk at a call elsewhere
  pub factor_stray : (e : ℕ × ℕ) → copy_of A (var e) ≡ nothing → factor A (var e) ≡ nothing
  unfolding factor call_or
  factor_stray e h = rw h

-- a call of r as the walk makes it: of state 0, on child i, where A moved to child i has a call
pub record CopyCall (A : Term (ℕ × ℕ)) (e : ℕ × ℕ) : Type 0 where
  pub state : e.1 ≡ 0
  pub called : CallOn (sub (moved A e.0)) e.0

module _ {A : Term (ℕ × ℕ)} {q : ℕ} (c : Called A q) where
  mutual
    unfolding copies bind factors obind

    -- The walk is complete: if t is made of copies of A under the symbols of r, the walk finds r.
    pub factor_complete : {r : Term (ℕ × ℕ)} → AllVars (λ e. e.1 ≡ 0) r → factor A (copies A r) ≡ some r
    factor_complete (one {a = e} z) = factor_copy A (moved A e.0) (copy_some A (moved A e.0) e.0 (first_moved A e.0 c) refl) ∙ ap (λ x. some (var (e.0, x))) (sym z)
    factor_complete (each {k = k} {ts = rs} ps) = factor_node A k (binds rs (λ e. moved A e.0)) (copy_none A _ (no_copy c k rs)) ∙ rw (factors_complete ps)

    factors_complete : {rs : Terms (ℕ × ℕ)} → EachVars (λ e. e.1 ≡ 0) rs → factors A (binds rs (λ e. moved A e.0)) ≡ some rs
    factors_complete done = refl
    factors_complete (both p ps) = rw (factor_complete p, factors_complete ps)

  -- so there is only one such r
  pub factor_unique : {t r r' : Term (ℕ × ℕ)} → Factor A t r → Factor A t r' → r ≡ r'
  factor_unique f f' = some-injective _ _ (sym (factor_complete f.state) ∙ (ap (factor A) (f.whole ∙ sym f'.whole) ∙ factor_complete f'.state))

module _ (A : Term (ℕ × ℕ)) where
  copy_sound : {t r : Term (ℕ × ℕ)} {i : ℕ} → copy_of A t ≡ some i → var (i, 0) ≡ r → (copies A r ≡ t) × AllVars (CopyCall A) r
  unfolding copies bind
  copy_sound {t} {r} {i} h z =
      let x = copy_is A t h in
      let b : CopyCall A (i, 0) = record { state = refl; called = subst (λ u. CallOn (sub u) i) x.0 (first_called t x.1) } in
      let y : AllVars (CopyCall A) (var (i, 0)) = one b in
      (ap (copies A) (sym z) ∙ sym x.0, rw z at y)

  mutual
    unfolding factor call_or copies bind

    -- The walk is sound: if it finds r, then t is made of copies of A under the symbols of r.
    pub factor_sound : (t : Term (ℕ × ℕ)) {r : Term (ℕ × ℕ)} → factor A t ≡ some r → (copies A r ≡ t) × AllVars (CopyCall A) r
    factor_sound (var e) {r} h = go (copy_of A (var e)) refl h
      where
        go : (o : Option ℕ) → copy_of A (var e) ≡ o → call_or o nothing ≡ some r → (copies A r ≡ var e) × AllVars (CopyCall A) r
        go nothing z h = conflict (cc)
        go (some i) z h = copy_sound z (some-injective _ _ h)
    factor_sound (node k ts) {r} h = go (copy_of A (node k ts)) refl h (λ rs g. factors_sound ts g)
      where
        go : (o : Option ℕ) → copy_of A (node k ts) ≡ o → call_or o (obind (factors A ts) (λ rs. some (node k rs))) ≡ some r → ((rs : Terms (ℕ × ℕ)) → factors A ts ≡ some rs → (binds rs (λ e. moved A e.0) ≡ ts) × EachVars (CopyCall A) rs) → (copies A r ≡ node k ts) × AllVars (CopyCall A) r
        go nothing z h f =
            let x = (bind-eq-some_iff (factors A ts) (λ rs. some (node k rs))).0 h in
            let y = f x.0 x.1 in
            let w : node k x.0 ≡ r = some-injective _ _ x.2 in
            (ap (copies A) (sym w) ∙ ap (node k) y.0, subst (AllVars (CopyCall A)) w (each y.1))
        go (some i) z h f = copy_sound z (some-injective _ _ h)

    factors_sound : (ts : Terms (ℕ × ℕ)) {rs : Terms (ℕ × ℕ)} → factors A ts ≡ some rs → (binds rs (λ e. moved A e.0) ≡ ts) × EachVars (CopyCall A) rs
    factors_sound none h = let w = some-injective _ _ h in (ap (λ rs. binds rs (λ e. moved A e.0)) (sym w), subst (EachVars (CopyCall A)) w done)
    factors_sound (more t ts) h =
        let x = (bind-eq-some_iff (factor A t) _).0 h in
        let y = (bind-eq-some_iff (factors A ts) _).0 x.2 in
        let w = some-injective _ _ y.2 in
        let a = factor_sound t x.1 in
        let b = factors_sound ts y.1 in
        (ap (λ rs. binds rs (λ e. moved A e.0)) (sym w) ∙ ap₂ more a.0 b.0, subst (EachVars (CopyCall A)) w (both a.1 b.1))

  -- so it finds a factor
  pub factor_found : (t : Term (ℕ × ℕ)) {r : Term (ℕ × ℕ)} → factor A t ≡ some r → Factor A t r
  factor_found t h = let x = factor_sound t h in record { state = all_map (λ e c. c.state) x.1; whole = x.0 }

-- The walk finds r exactly if t is made of copies of A, which has a call, under the symbols of r.
pub factor_exactly : {A t r : Term (ℕ × ℕ)} {q : ℕ} → Called A q → (factor A t ≡ some r) ↔ Factor A t r
factor_exactly {A} {t} c = (factor_found A t, λ f. ap (factor A) (sym f.whole) ∙ factor_complete c f.state)

mutual
  unfolding first_child or_else

  -- a term without calls has no leftmost one
  pub first_all : {t : Term (ℕ × ℕ)} → AllVars (λ e. ⊥) t → first_child t ≡ nothing
  first_all (one x) = absurd x
  first_all (each ps) = first_each ps

  first_each : {ts : Terms (ℕ × ℕ)} → EachVars (λ e. ⊥) ts → first_child_in ts ≡ nothing
  first_each done = refl
  first_each (both p ps) = rw (first_all p) (first_each ps)

module _ (A : Term (ℕ × ℕ)) where
  ground_copy : {t : Term (ℕ × ℕ)} → AllVars (λ e. ⊥) t → copy_of A t ≡ nothing
  unfolding copy_of copy_at
  ground_copy p = rw (first_all p)

  mutual
    unfolding factors obind

    -- the walk keeps all symbols of a term without calls
    pub factor_ground : {t : Term (ℕ × ℕ)} → AllVars (λ e. ⊥) t → factor A t ≡ some t
    factor_ground (one x) = absurd x
    factor_ground (each {k = k} {ts} ps) = factor_node A k ts (ground_copy (each ps)) ∙ rw (factors_ground ps)

    factors_ground : {ts : Terms (ℕ × ℕ)} → EachVars (λ e. ⊥) ts → factors A ts ≡ some ts
    factors_ground done = refl
    factors_ground (both p ps) = rw (factor_ground p, factors_ground ps)
